-- A graph of numbered gates has no fault. The literals of its inputs, cut in two.
use Rattle.std.specs.Prelude.{◌≡◌, ℕ, zero, suc, ◌+◌, ◌*◌, ◌-◌, ◌%◌, ◌<◌, ◌≤◌, ◌⊎◌, List, [], ◌∷◌, ◌++◌, map, length, take, drop, slice_index_or}
use Rattle.std.specs.List.{All, AllByRecursion, Contains, flat_map}
use Rattle.std.proofs.Common.{refl, sym, ap, ap₂, subst, ◌∙◌, arith, inl, inr, ⊎_elim, length-append, take-append-drop}
use Rattle.std.proofs.lemmas.Bool.{cases_eq}
use Rattle.std.proofs.lemmas.List.{length-map}
use Rattle.std.proofs.lemmas.List.Elements.{All-from_recursion, All-append, All-weaker}
use Rattle.graph_core.specs.declared.literal.Lit.{Lit}
use Rattle.graph_core.specs.declared.gate.Gate.{Gate}
use Rattle.graph_core.specs.Graph.Literals.{variable_of, plain}
use Rattle.graph_core.specs.Graph.{Aig, IsDefinedOnce, IsAcyclic, IsWellFormed, defined, read_literals}
use Rattle.graph_core.proofs.OfAiger.CallerLemmas.{ArePlaced, Counts, all_flat_map, counts_append, counts_apart, counts_contain, placed_count}
use Rattle.graph_maker.specs.Builder.{literals_from}
use Rattle.graph_maker.proofs.ArrayAdds.{length-literals_from}
use Rattle.graph_maker.proofs.Places.{AreUpTo, up-literals_from}

-- inputs from 1 on, gates after them, each above the variables that it reads, and outputs of these variables
pub record IsNumbered (n : ℕ) (g : Aig) : Type 0 where
  pub inputs : g.inputs ≡ literals_from 1 n
  pub gates : ArePlaced n g.gates
  pub max : g.max ≡ n + length g.gates
  pub outputs : AreUpTo g.max g.outputs

literals_count : (v n : ℕ) → Counts v (map variable_of (literals_from v n))
literals_count v zero = tt
literals_count v (suc n) = (omega arith, subst (λ w. Counts w (map variable_of (literals_from (v + 1) n))) (omega arith) (literals_count (v + 1) n))

literals_even : (v n : ℕ) → 0 < v → AllByRecursion (λ l. (l.0 % 2 ≡ 0) × (0 < variable_of l)) (literals_from v n)
literals_even v zero p = tt
literals_even v (suc n) p = ((omega arith, omega arith), literals_even (v + 1) n (omega arith))

-- a gate's variable is above `low` and at most `high`, and its operands are below it
record IsBetween (low high : ℕ) (x : Gate) : Type 0 where
  from : low < x.v
  upto : x.v ≤ high
  left : variable_of x.left < x.v
  right : variable_of x.right < x.v

gates_between : (low high v : ℕ) (gates : List Gate) → low ≤ v → v + length gates ≤ high → ArePlaced v gates → AllByRecursion (IsBetween low high) gates
gates_between low high v [] a b h = tt
gates_between low high v (x ∷ gates) a b h = (
  record { from = omega (arith, h.0); upto = omega (arith, h.0); left = omega (arith, h.0, h.1); right = omega (arith, h.0, h.2) },
  gates_between low high (suc v) gates (omega arith) (omega arith) h.3,
)

module _ (n : ℕ) (g : Aig) (numbered : IsNumbered n g) where
  between : All (IsBetween n g.max) g.gates
  between = All-from_recursion (IsBetween n g.max) g.gates (gates_between n g.max n g.gates (omega arith) (omega (arith, numbered.max)) numbered.gates)

  all_count : Counts 1 (defined g)
  all_count =
      counts_append 1 (map variable_of g.inputs) (map (λ x. x.v) g.gates)
      (subst (λ ls. Counts 1 (map variable_of ls)) (sym numbered.inputs) (literals_count 1 n))
      (subst (λ k. Counts k (map (λ x. x.v) g.gates)) (omega (arith, length-map g.inputs variable_of, ap length numbered.inputs, length-literals_from 1 n)) (placed_count n g.gates numbered.gates))

  length-defined : length (defined g) ≡ g.max
  length-defined =
      length-append (map variable_of g.inputs) (map (λ x. x.v) g.gates) ∙
      omega (arith, length-map g.inputs variable_of, length-map g.gates (λ x. x.v), ap length numbered.inputs, length-literals_from 1 n, numbered.max)

  defined_once : IsDefinedOnce g
  defined_once = record {
    inputs = subst (All (λ l. (l.0 % 2 ≡ 0) × (0 < variable_of l))) (sym numbered.inputs)
        (All-from_recursion (λ l. (l.0 % 2 ≡ 0) × (0 < variable_of l)) (literals_from 1 n) (literals_even 1 n (omega arith)));
    gates = λ k d h. omega (arith, (between k d h).from);
    once = counts_apart 1 (defined g) all_count;
  }

  acyclic : IsAcyclic g.gates
  acyclic = (
    (λ v. v - n),
    record {
      left = λ k d h. omega (arith, (between k d h).from, (between k d h).left);
      right = λ k d h. omega (arith, (between k d h).from, (between k d h).right);
      few = λ k d h. omega (arith, (between k d h).upto, numbered.max);
    },
  )

  abbrev IsIn : Lit → Type 0
  IsIn l = variable_of l ≤ g.max

  abbrev operands : Gate → List Lit
  operands x = x.left ∷ x.right ∷ []

  readers_in : All IsIn (read_literals g)
  readers_in =
      All-append IsIn g.outputs (flat_map operands g.gates) (All-from_recursion IsIn g.outputs numbered.outputs)
      (all_flat_map IsIn operands g.gates
      (λ k d h. let p = between k d h in All-from_recursion IsIn (operands (slice_index_or g.gates k d)) (omega (arith, p.upto, p.left), (omega (arith, p.upto, p.right), tt))))

  inputs_in : All IsIn g.inputs
  inputs_in = subst (All IsIn) (sym numbered.inputs) (All-from_recursion IsIn (literals_from 1 n) (up-literals_from 1 n g.max (omega (arith, numbered.max))))

  is_known : (l : Lit) → IsIn l → (variable_of l ≡ 0) ⊎ Contains (defined g) (variable_of l)
  is_known l low =
      ⊎_elim inl (λ ne. inr (counts_contain 1 (defined g) all_count (variable_of l) (omega arith) (omega (arith, length-defined)))) (cases_eq (variable_of l) 0)

  pub numbered_well_formed : IsWellFormed g
  numbered_well_formed = record {
    in_range = All-weaker IsIn (λ l. l.0 ≤ 2 * g.max + 1) (λ l h. omega arith) (g.inputs ++ read_literals g) (All-append IsIn g.inputs (read_literals g) inputs_in readers_in);
    gates_in_range = λ k d h. (between k d h).upto;
    defined_once = defined_once;
    known = All-weaker IsIn (λ l. (variable_of l ≡ 0) ⊎ Contains (defined g) (variable_of l)) is_known (read_literals g) readers_in;
    acyclic = acyclic;
  }

-- ---- the literals of inputs

pub take-literals : (v n m k : ℕ) → k ≡ n + m → take n (literals_from v k) ≡ literals_from v n
take-literals v zero m k e = refl
take-literals v (suc n) m zero e = absurd (omega arith)
take-literals v (suc n) m (suc k) e = ap (λ ls. plain v ∷ ls) (take-literals (v + 1) n m k (omega arith))

pub drop-literals : (v n m k : ℕ) → k ≡ n + m → drop n (literals_from v k) ≡ literals_from (v + n) m
drop-literals v zero m k e = ap₂ literals_from (omega arith) (omega arith)
drop-literals v (suc n) m zero e = absurd (omega arith)
drop-literals v (suc n) m (suc k) e = drop-literals (v + 1) n m k (omega arith) ∙ ap (λ w. literals_from w m) (omega arith)

pub join-literals : (v n m : ℕ) → literals_from v (n + m) ≡ literals_from v n ++ literals_from (v + n) m
join-literals v n m = sym (take-append-drop n (literals_from v (n + m))) ∙ ap₂ ◌++◌ (take-literals v n m (n + m) refl) (drop-literals v n m (n + m) refl)
