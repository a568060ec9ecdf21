-- An evaluation of merged gates is a pair of evaluations with equal inputs.
use Rattle.std.specs.Prelude.{◌≡◌, ◌≢◌, ℕ, zero, suc, ◌+◌, ◌*◌, ◌-◌, ◌%◌, ◌<◌, ◌≤◌, ◌⊎◌, Bool, true, false, not, ◌&&◌, cond, List, [], ◌∷◌, ◌++◌, map, length, ◌==◌, nat_le}
use Rattle.std.specs.List.{AllByRecursion, flat_map}
use Rattle.std.proofs.Common.{refl, sym, ap, ap₂, ◌∙◌, arith, inl, inr, ⊎_elim, eqb-true, eq-eqb, ne_eqb}
use Rattle.std.proofs.lemmas.Bool.{le-leb, lt-leb}
use Rattle.std.proofs.lemmas.List.Elements.{All-from_recursion, recursion_from_All}
use Rattle.graph_core.specs.declared.gate.Gate.{Gate}
use Rattle.graph_core.specs.declared.literal.Lit.{Lit}
use Rattle.graph_core.specs.Graph.Assignments.{Assignment, literal, variable}
use Rattle.graph_core.specs.Graph.Literals.{variable_of}
use Rattle.graph_core.specs.Graph.{Aig, IsEvaluation, IsWellFormed, defined, evaluated, read_literals}
use Rattle.graph_core.proofs.OfGraphs.CallerLemmas.{all_join, all_split, all_weaker, apart_from_pairs, inputs_have, lits_apart, literal-even, literal-input, literal-odd, literal_same, variable-pos, variable_same, Apart, DistinctLits, IsInput}
use Rattle.graph_core.proofs.OfGraphs.Multiplies.{evaluated_is}
use Rattle.miter_encoder.specs.ColumnGoals.{AgreeOnPairs}
use Rattle.miter_encoder.proofs.PairGoals.{columns_mean_pairs}
use Rattle.same_core.specs.Merged.{AreOfOneShape, HasParts, HaveSameInputs, MergedIsPair, MergedOutputsAgree, both, input_or, merged, moved, moved_gate, moved_literal, pairs_of, second_part}

-- ---- literals

even_or_odd : (n : ℕ) → (n % 2 ≡ 0) ⊎ (n % 2 ≡ 1)
even_or_odd n = search (arith, inl, inr)

module _ (g h : Aig) where
  -- but for the constant
  pub moved_some : (v : ℕ) → 0 < v → moved g h v ≡ input_or h.inputs g.inputs v (g.max + v)
  moved_some v some = ap (λ b. cond b 0 (input_or h.inputs g.inputs v (g.max + v))) (ne_eqb v 0 (λ e. omega (arith, e, some)))

  -- a moved literal has the value of its moved variable
  literal_moved : (ρ τ : Assignment) (l : Lit) → variable ρ (moved g h (variable_of l)) ≡ variable τ (variable_of l) → literal ρ (moved_literal g h l) ≡ literal τ l
  literal_moved ρ τ l same = ⊎_elim even odd (even_or_odd l.0)
    where
      even : l.0 % 2 ≡ 0 → literal ρ (moved_literal g h l) ≡ literal τ l
      even e =
          let there : (moved_literal g h l).0 ≡ 2 * moved g h (variable_of l) = omega (arith, e) in
          let here : l.0 ≡ 2 * variable_of l = omega (arith, e) in
          literal-even ρ (moved_literal g h l) (moved g h (variable_of l)) there ∙ same ∙ sym (literal-even τ l (variable_of l) here)

      odd : l.0 % 2 ≡ 1 → literal ρ (moved_literal g h l) ≡ literal τ l
      odd e =
          let there : (moved_literal g h l).0 ≡ 2 * moved g h (variable_of l) + 1 = omega (arith, e) in
          let here : l.0 ≡ 2 * variable_of l + 1 = omega (arith, e) in
          literal-odd ρ (moved_literal g h l) (moved g h (variable_of l)) there ∙ ap not same ∙ sym (literal-odd τ l (variable_of l) here)

abbrev operands : Gate → List Lit
operands x = x.left ∷ x.right ∷ []

-- what a gate has to have
abbrev Holds : Assignment → Gate → Type 0
Holds σ x = variable σ x.v ≡ (literal σ x.left && literal σ x.right)

-- ---- ranges

abbrev pub IsLow : ℕ → Lit → Type 0
IsLow max l = variable_of l ≤ max

abbrev pub IsGateLow : ℕ → Gate → Type 0
IsGateLow max x = (0 < x.v) × (x.v ≤ max) × IsLow max x.left × IsLow max x.right

module _ (g : Aig) (well : IsWellFormed g) where
  low_split : AllByRecursion (IsLow g.max) g.inputs × AllByRecursion (IsLow g.max) (read_literals g)
  low_split =
      all_split (IsLow g.max) g.inputs (read_literals g)
      (all_weaker (λ l. l.0 ≤ 2 * g.max + 1) (IsLow g.max) (g.inputs ++ read_literals g) (λ l h. omega arith) (recursion_from_All (λ l. l.0 ≤ 2 * g.max + 1) (g.inputs ++ read_literals g) well.in_range))

  pub inputs_low : AllByRecursion (IsLow g.max) g.inputs
  inputs_low = low_split.0

  pub outputs_low : AllByRecursion (IsLow g.max) g.outputs
  outputs_low = (all_split (IsLow g.max) g.outputs (flat_map operands g.gates) low_split.1).0

  are_low : (gates : List Gate) → AllByRecursion (λ x. 0 < x.v) gates → AllByRecursion (λ x. x.v ≤ g.max) gates → AllByRecursion (IsLow g.max) (flat_map operands gates) → AllByRecursion (IsGateLow g.max) gates
  are_low [] a b c = tt
  are_low (x ∷ gates) a b c = ((a.0, b.0, c.0, c.1.0), are_low gates a.1 b.1 c.1.1)

  pub gates_low : AllByRecursion (IsGateLow g.max) g.gates
  gates_low = are_low g.gates (recursion_from_All (λ x. 0 < x.v) g.gates well.defined_once.gates) (recursion_from_All (λ x. x.v ≤ g.max) g.gates well.gates_in_range)
      (all_split (IsLow g.max) g.outputs (flat_map operands g.gates) low_split.1).1

  pub inputs_are_inputs : AllByRecursion IsInput g.inputs
  inputs_are_inputs = recursion_from_All IsInput g.inputs well.defined_once.inputs

  pub inputs_apart : DistinctLits g.inputs
  inputs_apart = lits_apart g.inputs (map (λ x. x.v) g.gates) (apart_from_pairs (defined g) well.defined_once.once)

-- ---- a pair of evaluations is one of the merged gates

module _ (g h : Aig) (well : IsWellFormed g) (other : IsWellFormed h) (shape : AreOfOneShape g h) (σ τ : Assignment) where
  -- the values of the first one, and above them those of the second one
  abbrev joined : Assignment
  joined v = cond (nat_le v g.max) (σ v) (τ (v - g.max))

  joined_low : (v : ℕ) → v ≤ g.max → joined v ≡ σ v
  joined_low v low = ap (λ b. cond b (σ v) (τ (v - g.max))) (le-leb v g.max low)

  joined_high : (v : ℕ) → 0 < v → joined (g.max + v) ≡ τ v
  joined_high v some =
      ap (λ b. cond b (σ (g.max + v)) (τ (g.max + v - g.max))) (lt-leb (g.max + v) g.max (omega (arith, some))) ∙ ap τ (omega arith)

  first : (l : Lit) → variable_of l ≤ g.max → literal joined l ≡ literal σ l
  first l low = literal_same joined σ l (joined_low (variable_of l) low)

  module _ (same : HaveSameInputs g h σ τ) where
    -- an input of the second graph has the value of the first one's
    input_moved : (ls ks : List Lit) (v : ℕ) → 0 < v → length ks ≡ length ls → map (literal σ) ks ≡ map (literal τ) ls → AllByRecursion IsInput ls → AllByRecursion IsInput ks → AllByRecursion (IsLow g.max) ks →
        variable joined (input_or ls ks v (g.max + v)) ≡ τ v
    input_moved [] ks v some size values a b low = variable-pos joined (g.max + v) (omega (arith, some)) ∙ joined_high v some
    input_moved (l ∷ ls) [] v some size values a b low = absurd (omega (arith, size))
    input_moved (l ∷ ls) (k ∷ ks) v some size values a b low = go (input_moved ls ks v some (omega (arith, size)) rest a.1 b.1 low.1) (v == variable_of l) refl
      where
        here : literal σ k ≡ literal τ l
        here = cc

        rest : map (literal σ) ks ≡ map (literal τ) ls
        rest = cc

        go : variable joined (input_or ls ks v (g.max + v)) ≡ τ v → (c : Bool) → (v == variable_of l) ≡ c → variable joined (cond c (variable_of k) (input_or ls ks v (g.max + v))) ≡ τ v
        go behind true e =
            variable-pos joined (variable_of k) b.0.1 ∙ joined_low (variable_of k) low.0 ∙ sym (literal-input σ k b.0) ∙ here ∙ literal-input τ l a.0 ∙ ap τ (sym (eqb-true v (variable_of l) e))
        go behind false e = behind

    variable_moved : (v : ℕ) → variable joined (moved g h v) ≡ variable τ v
    variable_moved zero = refl
    variable_moved (suc v) = ap (variable joined) (moved_some g h (suc v) (omega arith)) ∙
        input_moved h.inputs g.inputs (suc v) (omega arith) shape.inputs same (inputs_are_inputs h other) (inputs_are_inputs g well) (inputs_low g well)

    second : (l : Lit) → literal joined (moved_literal g h l) ≡ literal τ l
    second l = literal_moved g h joined τ l (variable_moved (variable_of l))

    first_gates : (gates : List Gate) → AllByRecursion (IsGateLow g.max) gates → AllByRecursion (Holds σ) gates → AllByRecursion (Holds joined) gates
    first_gates [] low holds = tt
    first_gates (x ∷ gates) low holds = (
      variable_same joined σ x.v (joined_low x.v low.0.1) ∙ holds.0 ∙ ap₂ ◌&&◌ (sym (first x.left low.0.2)) (sym (first x.right low.0.3)),
      first_gates gates low.1 holds.1,
    )

    second_gates : (gates : List Gate) → AllByRecursion (IsGateLow h.max) gates → AllByRecursion (Holds τ) gates → AllByRecursion (Holds joined) (map (moved_gate g h) gates)
    second_gates [] low holds = tt
    second_gates (x ∷ gates) low holds = (
      own ∙ holds.0 ∙ ap₂ ◌&&◌ (sym (second x.left)) (sym (second x.right)),
      second_gates gates low.1 holds.1,
    )
      where
        own : variable joined (g.max + x.v) ≡ variable τ x.v
        own = let some = low.0.0 in variable-pos joined (g.max + x.v) (omega (arith, some)) ∙ joined_high x.v some ∙ sym (variable-pos τ x.v some)

    pub joined_evaluates : IsEvaluation g.gates σ → IsEvaluation h.gates τ → IsEvaluation (merged g h).gates joined
    joined_evaluates a b = All-from_recursion (Holds joined) (merged g h).gates
        (all_join (Holds joined) g.gates (map (moved_gate g h) h.gates) (first_gates g.gates (gates_low g well) (recursion_from_All (Holds σ) g.gates a))
        (second_gates h.gates (gates_low h other) (recursion_from_All (Holds τ) h.gates b)))

    pub joined_parts : HasParts g h joined σ τ
    joined_parts = record { first = first; second = second }

-- ---- an evaluation of the merged gates is a pair

-- after inputs of other variables the search goes on
passed : (ls ks : List Lit) (v other : ℕ) → AllByRecursion (λ l. variable_of l ≢ v) ls → input_or ls ks v other ≡ other
passed [] ks v other h = refl
passed (l ∷ ls) [] v other h = refl
passed (l ∷ ls) (k ∷ ks) v other h = ap (λ b. cond b (variable_of k) (input_or ls ks v other)) (ne_eqb v (variable_of l) (λ e. h.0 (sym e))) ∙ passed ls ks v other h.1

-- each input is found at its place
found : (ls ks : List Lit) (up : ℕ → ℕ) (f : ℕ → Bool) → length ks ≡ length ls → DistinctLits ls →
    map (λ l. f (input_or ls ks (variable_of l) (up (variable_of l)))) ls ≡ map (λ k. f (variable_of k)) ks
found [] [] up f size apart = refl
found [] (k ∷ ks) up f size apart = absurd (omega (arith, size))
found (l ∷ ls) [] up f size apart = absurd (omega (arith, size))
found (l ∷ ls) (k ∷ ks) up f size apart =
    ap₂ ◌∷◌ (ap (λ b. f (cond b (variable_of k) (input_or ls ks (variable_of l) (up (variable_of l))))) (eq-eqb (variable_of l) (variable_of l) refl))
    (others ls apart.0 ∙ found ls ks up f (omega (arith, size)) apart.1)
  where
    others : (ms : List Lit) → AllByRecursion (λ m. variable_of l ≢ variable_of m) ms →
        map (λ m. f (input_or (l ∷ ls) (k ∷ ks) (variable_of m) (up (variable_of m)))) ms ≡ map (λ m. f (input_or ls ks (variable_of m) (up (variable_of m)))) ms
    others [] h = refl
    others (m ∷ ms) h =
        ap₂ ◌∷◌ (ap (λ b. f (cond b (variable_of k) (input_or ls ks (variable_of m) (up (variable_of m))))) (ne_eqb (variable_of m) (variable_of l) (λ e. h.0 (sym e)))) (others ms h.1)

input_values : (σ : Assignment) (ls : List Lit) → AllByRecursion IsInput ls → map (literal σ) ls ≡ map (λ l. variable σ (variable_of l)) ls
input_values σ [] h = refl
input_values σ (l ∷ ls) h = ap₂ ◌∷◌ (literal-input σ l h.0 ∙ sym (variable-pos σ (variable_of l) h.0.1)) (input_values σ ls h.1)

-- a gate's variable is no input's
abbrev IsNone : List Lit → Gate → Type 0
IsNone ls x = AllByRecursion (λ l. variable_of l ≢ x.v) ls

no_inputs : (ls : List Lit) (gates : List Gate) → Apart (map variable_of ls ++ map (λ x. x.v) gates) → AllByRecursion (IsNone ls) gates
no_inputs [] gates h = every gates
  where
    every : (xs : List Gate) → AllByRecursion (IsNone []) xs
    every [] = tt
    every (x ∷ xs) = (tt, every xs)
no_inputs (l ∷ ls) gates h =
    join gates (all_split (λ y. variable_of l ≢ y) (map variable_of ls) (map (λ x. x.v) gates) h.0).1 (no_inputs ls gates h.1)
  where
    join : (xs : List Gate) → AllByRecursion (λ y. variable_of l ≢ y) (map (λ x. x.v) xs) → AllByRecursion (IsNone ls) xs → AllByRecursion (IsNone (l ∷ ls)) xs
    join [] a b = tt
    join (x ∷ xs) a b = ((a.0, b.0), join xs a.1 b.1)

module _ (g h : Aig) (well : IsWellFormed g) (other : IsWellFormed h) (shape : AreOfOneShape g h) (ρ : Assignment) where
  abbrev τ : Assignment
  τ = second_part g h ρ

  τ_is : (v : ℕ) → variable ρ (moved g h v) ≡ variable τ v
  τ_is zero = refl
  τ_is (suc v) = refl

  pub parts_inputs : HaveSameInputs g h ρ τ
  parts_inputs =
      input_values ρ g.inputs (inputs_are_inputs g well) ∙
      sym (input_values τ h.inputs (inputs_are_inputs h other) ∙ each h.inputs (inputs_are_inputs h other) ∙ found h.inputs g.inputs (λ v. g.max + v) (variable ρ) shape.inputs (inputs_apart h other))
    where
      each : (ls : List Lit) → AllByRecursion IsInput ls → map (λ l. variable τ (variable_of l)) ls ≡ map (λ l. variable ρ (input_or h.inputs g.inputs (variable_of l) (g.max + variable_of l))) ls
      each [] a = refl
      each (l ∷ ls) a = ap₂ ◌∷◌ (one (variable_of l) a.0.1) (each ls a.1)
        where
          one : (v : ℕ) → 0 < v → variable τ v ≡ variable ρ (input_or h.inputs g.inputs v (g.max + v))
          one zero some = absurd (omega (arith, some))
          one (suc v) some = ap (variable ρ) (moved_some g h (suc v) some)

  own_moved : (v : ℕ) → 0 < v → AllByRecursion (λ l. variable_of l ≢ v) h.inputs → variable τ v ≡ variable ρ (g.max + v)
  own_moved zero some none = absurd (omega (arith, some))
  own_moved (suc v) some none = ap (variable ρ) (moved_some g h (suc v) some ∙ passed h.inputs g.inputs (suc v) (g.max + suc v) none)

  second_parts : (gates : List Gate) → AllByRecursion (IsGateLow h.max) gates → AllByRecursion (IsNone h.inputs) gates → AllByRecursion (Holds ρ) (map (moved_gate g h) gates) → AllByRecursion (Holds τ) gates
  second_parts [] low none holds = tt
  second_parts (x ∷ gates) low none holds = (
    own_moved x.v low.0.0 none.0 ∙ holds.0 ∙ ap₂ ◌&&◌ (literal_moved g h ρ τ x.left (τ_is (variable_of x.left))) (literal_moved g h ρ τ x.right (τ_is (variable_of x.right))),
    second_parts gates low.1 none.1 holds.1,
  )

  pub parts_evaluate : IsEvaluation (merged g h).gates ρ → IsEvaluation g.gates ρ × IsEvaluation h.gates τ
  parts_evaluate evaluates =
      let split = all_split (Holds ρ) g.gates (map (moved_gate g h) h.gates) (recursion_from_All (Holds ρ) (merged g h).gates evaluates) in (
        All-from_recursion (Holds ρ) g.gates split.0,
        All-from_recursion (Holds τ) h.gates
            (second_parts h.gates (gates_low h other) (no_inputs h.inputs h.gates (apart_from_pairs (defined h) other.defined_once.once)) split.1),
      )

pub merged_is_pair : MergedIsPair
merged_is_pair = record {
  parts = λ g h well other shape ρ evaluates.
      let both_are = parts_evaluate g h well other shape ρ evaluates in
      (both_are.0, both_are.1, parts_inputs g h well other shape ρ);
  joined = λ g h well other shape σ τ a b same.
      (joined g h well other shape σ τ, joined_evaluates g h well other shape σ τ same a b, joined_parts g h well other shape σ τ same);
}

-- a literal of the second graph
pub second_literal : (g h : Aig) (ρ : Assignment) (l : Lit) → literal ρ (moved_literal g h l) ≡ literal (second_part g h ρ) l
second_literal g h ρ l = literal_moved g h ρ (second_part g h ρ) l (moved_is (variable_of l))
  where
    moved_is : (v : ℕ) → variable ρ (moved g h v) ≡ variable (second_part g h ρ) v
    moved_is zero = refl
    moved_is (suc v) = refl

-- ---- outputs

pairs_equal : (ρ σ τ : Assignment) (g h : Aig) → HasParts g h ρ σ τ → (ls ks : List Lit) → length ls ≡ length ks → AllByRecursion (IsLow g.max) ls →
    AllByRecursion (λ p. literal ρ p.0 ≡ literal ρ p.1) (pairs_of ls (map (moved_literal g h) ks)) → map (literal σ) ls ≡ map (literal τ) ks
pairs_equal ρ σ τ g h parts [] [] size low agree = refl
pairs_equal ρ σ τ g h parts [] (k ∷ ks) size low agree = absurd (omega (arith, size))
pairs_equal ρ σ τ g h parts (l ∷ ls) [] size low agree = absurd (omega (arith, size))
pairs_equal ρ σ τ g h parts (l ∷ ls) (k ∷ ks) size low agree =
    ap₂ ◌∷◌ (sym (parts.first l low.0) ∙ agree.0 ∙ parts.second k) (pairs_equal ρ σ τ g h parts ls ks (omega (arith, size)) low.1 agree.1)

pub merged_outputs_agree : MergedOutputsAgree
merged_outputs_agree g h well other shape agree bits size =
    let σ = evaluated g bits in
    let τ = evaluated h bits in
    let one = inputs_have g bits well.defined_once (sym size) in
    let two = inputs_have h bits other.defined_once (sym shape.inputs ∙ sym size) in
    let both_are = merged_is_pair.joined g h well other shape σ τ (evaluated_is g bits well.defined_once well.acyclic) (evaluated_is h bits other.defined_once other.acyclic) (one ∙ sym two) in
    let ρ = both_are.0 in
    let pairs = (both g h).pairs in
    let equal : AgreeOnPairs pairs ρ = (columns_mean_pairs pairs ρ).0 (agree ρ both_are.1) in
    pairs_equal ρ σ τ g h both_are.2 g.outputs h.outputs shape.outputs (outputs_low g well) (recursion_from_All (λ p. literal ρ p.0 ≡ literal ρ p.1) pairs equal)
