-- A packed graph has no fault.
use Rattle.std.specs.Prelude.{◌≡◌, ◌≢◌, ℕ, zero, suc, ◌+◌, ◌*◌, ◌-◌, ◌%◌, ◌<◌, ◌≤◌, ◌⊎◌, List, [], ◌∷◌, ◌++◌, map, length, ⊤, slice_index_or}
use Rattle.std.specs.List.{All, AllByRecursion, AllPairs, Contains, flat_map}
use Rattle.std.proofs.Common.{subst, ◌∙◌, arith, inl, inr, ⊎_elim, length-append}
use Rattle.std.proofs.lemmas.Bool.{cases_eq}
use Rattle.std.proofs.lemmas.List.{length-map}
use Rattle.std.proofs.lemmas.List.Elements.{All-from_recursion, All-append, All-weaker}
use Rattle.graph_core.specs.declared.literal.Lit.{Lit}
use Rattle.graph_core.specs.declared.gate.Gate.{Gate}
use Rattle.graph_core.specs.Graph.Literals.{variable_of}
use Rattle.graph_core.specs.Graph.{IsDefinedOnce, IsAcyclic, defined, read_literals}
use Rattle.graph_core.specs.Aiger.{Listing, graph_of, AreConsecutive, ArePackedGates, IsPacked, IsFaultless}

-- the numbers k, k + 1, ..
abbrev pub Counts : ℕ → List ℕ → Type 0
Counts k [] = ⊤
Counts k (x ∷ xs) = (x ≡ k) × Counts (suc k) xs

pub counts_append : (k : ℕ) (xs ys : List ℕ) → Counts k xs → Counts (k + length xs) ys → Counts k (xs ++ ys)
counts_append k [] ys a b = subst (λ n. Counts n ys) (omega arith) b
counts_append k (x ∷ xs) ys a b = (a.0, counts_append (suc k) xs ys a.1 (subst (λ n. Counts n ys) (omega arith) b))

pub counts_at : (k : ℕ) (xs : List ℕ) → Counts k xs → (i d : ℕ) → i < length xs → slice_index_or xs i d ≡ k + i
counts_at k [] c i d h = absurd (omega arith)
counts_at k (x ∷ xs) c zero d h = omega (arith, c.0)
counts_at k (x ∷ xs) c (suc i) d h = omega (arith, counts_at (suc k) xs c.1 i d (omega arith))

pub counts_apart : (k : ℕ) (xs : List ℕ) → Counts k xs → AllPairs ◌≢◌ xs
counts_apart k xs c i j d below within e =
    let a = counts_at k xs c i d (omega arith) in
    let b = counts_at k xs c j d within in
    omega arith

pub counts_contain : (k : ℕ) (xs : List ℕ) → Counts k xs → (v : ℕ) → k ≤ v → v < k + length xs → Contains xs v
counts_contain k xs c v low high =
    let at = counts_at k xs c (v - k) v (omega arith) in
    (v - k, omega arith, omega arith)

inputs_count : (k : ℕ) (ls : List Lit) → AreConsecutive (2 * k) ls → Counts k (map variable_of ls)
inputs_count k [] h = tt
inputs_count k (l ∷ ls) h = (omega (arith, h.0), inputs_count (suc k) ls (subst (λ n. AreConsecutive n ls) (omega arith) h.1))

inputs_even : (k : ℕ) (ls : List Lit) → 0 < k → AreConsecutive (2 * k) ls → AllByRecursion (λ l. (l.0 % 2 ≡ 0) × (0 < variable_of l)) ls
inputs_even k [] p h = tt
inputs_even k (l ∷ ls) p h = ((omega (arith, h.0), omega (arith, h.0)), inputs_even (suc k) ls (omega arith) (subst (λ n. AreConsecutive n ls) (omega arith) h.1))

inputs_low : (max k : ℕ) (ls : List Lit) → k + length ls ≤ max + 1 → AreConsecutive (2 * k) ls → AllByRecursion (λ l. l.0 ≤ 2 * max + 1) ls
inputs_low max k [] a h = tt
inputs_low max k (l ∷ ls) a h = (omega (arith, h.0), inputs_low max (suc k) ls (omega arith) (subst (λ n. AreConsecutive n ls) (omega arith) h.1))

-- the gate of a line
abbrev gate_of : (Lit × Lit × Lit) → Gate
gate_of t = record { v = variable_of t.0; left = t.1; right = t.2 }

gates_count : (k : ℕ) (ts : List (Lit × Lit × Lit)) → ArePackedGates (2 * k) ts → Counts k (map (λ x. x.v) (map gate_of ts))
gates_count k [] h = tt
gates_count k (t ∷ ts) h = (omega (arith, h.0), gates_count (suc k) ts (subst (λ n. ArePackedGates n ts) (omega arith) h.3))

gates_even : (k : ℕ) (ts : List (Lit × Lit × Lit)) → ArePackedGates (2 * k) ts → AllByRecursion (λ t. t.0.0 % 2 ≡ 0) ts
gates_even k [] h = tt
gates_even k (t ∷ ts) h = (omega (arith, h.0), gates_even (suc k) ts (subst (λ n. ArePackedGates n ts) (omega arith) h.3))

-- what is known of each gate of a packed list: its variable is from `low` on and below `high`, and its operands are below it
pub record IsPlaced (low high : ℕ) (x : Gate) : Type 0 where
  pub from : low ≤ x.v
  pub below : x.v < high
  pub left : variable_of x.left < x.v
  pub right : variable_of x.right < x.v
  pub left_lit : x.left.0 < 2 * x.v
  pub right_lit : x.right.0 < 2 * x.v

gates_placed : (low high k : ℕ) (ts : List (Lit × Lit × Lit)) → low ≤ k → k + length ts ≤ high → ArePackedGates (2 * k) ts → AllByRecursion (IsPlaced low high) (map gate_of ts)
gates_placed low high k [] a b h = tt
gates_placed low high k (t ∷ ts) a b h = (
  record { from = omega (arith, h.0); below = omega (arith, h.0); left = omega (arith, h.0, h.1); right = omega (arith, h.0, h.2); left_lit = omega (arith, h.0, h.1); right_lit = omega (arith, h.0, h.2) },
  gates_placed low high (suc k) ts (omega arith) (omega arith) (subst (λ n. ArePackedGates n ts) (omega arith) h.3),
)

pub all_flat_map : {X Y : Type 0} (P : Y → Type 0) (f : X → List Y) (xs : List X) → All (λ x. All P (f x)) xs → All P (flat_map f xs)
all_flat_map P f [] h = All-from_recursion P [] tt
all_flat_map P f (x ∷ xs) h = All-append P (f x) (flat_map f xs) (h 0 x (omega arith)) (all_flat_map P f xs (λ k d l. h (suc k) d (omega arith)))

module _ (g : Listing) (packed : IsPacked g) where
  pub placed : All (IsPlaced (length g.inputs + 1) (g.max + 1)) (graph_of g).gates
  placed =
      All-from_recursion (IsPlaced (length g.inputs + 1) (g.max + 1)) (graph_of g).gates
      (gates_placed (length g.inputs + 1) (g.max + 1) (length g.inputs + 1) g.gates (omega arith) (omega (arith, packed.max))
      (subst (λ n. ArePackedGates n g.gates) (omega arith) packed.gates))

  pub all_count : Counts 1 (defined (graph_of g))
  all_count =
      counts_append 1 (map variable_of g.inputs) (map (λ x. x.v) (graph_of g).gates) (inputs_count 1 g.inputs packed.inputs)
      (subst (λ n. Counts n (map (λ x. x.v) (graph_of g).gates)) (omega (arith, length-map g.inputs variable_of))
      (gates_count (length g.inputs + 1) g.gates (subst (λ n. ArePackedGates n g.gates) (omega arith) packed.gates)))

  length-defined : length (defined (graph_of g)) ≡ g.max
  length-defined =
      length-append (map variable_of g.inputs) (map (λ x. x.v) (graph_of g).gates) ∙
      omega (arith, length-map g.inputs variable_of, length-map (graph_of g).gates (λ x. x.v), length-map g.gates gate_of, packed.max)

  defined_once : IsDefinedOnce (graph_of g)
  defined_once = record {
    inputs = All-from_recursion (λ l. (l.0 % 2 ≡ 0) × (0 < variable_of l)) g.inputs (inputs_even 1 g.inputs (omega arith) packed.inputs);
    gates = λ k d h. omega (arith, (placed k d h).from);
    once = counts_apart 1 (defined (graph_of g)) all_count;
  }

  acyclic : IsAcyclic (graph_of g).gates
  acyclic = (
    (λ v. v - length g.inputs),
    record {
      left = λ k d h. omega (arith, (placed k d h).from, (placed k d h).left);
      right = λ k d h. omega (arith, (placed k d h).from, (placed k d h).right);
      few = λ k d h. omega (arith, (placed k d h).below, packed.max, length-map g.gates gate_of);
    },
  )

  -- at most twice the greatest variable and one
  abbrev IsLow : Lit → Type 0
  IsLow l = l.0 ≤ 2 * g.max + 1

  abbrev operands : Gate → List Lit
  operands x = x.left ∷ x.right ∷ []

  readers_low : All IsLow (read_literals (graph_of g))
  readers_low =
      All-append IsLow g.outputs (flat_map operands (graph_of g).gates) packed.outputs
      (all_flat_map IsLow operands (graph_of g).gates
      (λ k d h. let p = placed k d h in All-from_recursion IsLow (operands (slice_index_or (graph_of g).gates k d)) (omega (arith, p.below, p.left_lit), (omega (arith, p.below, p.right_lit), tt))))

  low_is_known : (l : Lit) → IsLow l → (variable_of l ≡ 0) ⊎ Contains (defined (graph_of g)) (variable_of l)
  low_is_known l low =
      ⊎_elim inl (λ ne. inr (counts_contain 1 (defined (graph_of g)) all_count (variable_of l) (omega arith) (omega (arith, length-defined)))) (cases_eq (variable_of l) 0)

  pub packed_faultless : IsFaultless g
  packed_faultless = record {
    left = All-from_recursion (λ t. t.0.0 % 2 ≡ 0) g.gates (gates_even (length g.inputs + 1) g.gates (subst (λ n. ArePackedGates n g.gates) (omega arith) packed.gates));
    graph = record {
      in_range = All-append IsLow g.inputs (read_literals (graph_of g)) (All-from_recursion IsLow g.inputs (inputs_low g.max 1 g.inputs (omega (arith, packed.max)) packed.inputs)) readers_low;
      gates_in_range = λ k d h. omega (arith, (placed k d h).below);
      defined_once = defined_once;
      known = All-weaker IsLow (λ l. (variable_of l ≡ 0) ⊎ Contains (defined (graph_of g)) (variable_of l)) low_is_known (read_literals (graph_of g)) readers_low;
      acyclic = acyclic;
    };
  }

pub packed_is_faultless : (g : Listing) → IsPacked g → IsFaultless g
packed_is_faultless g packed = packed_faultless g packed
