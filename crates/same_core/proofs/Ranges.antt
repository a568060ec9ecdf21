-- The variables of merged gates are in range, and there are few outputs.
use Rattle.std.specs.Prelude.{◌≡◌, ℕ, zero, suc, ◌+◌, ◌≤◌, Bool, true, false, cond, List, [], ◌∷◌, map, length, ◌==◌}
use Rattle.std.specs.List.{All, AllByRecursion}
use Rattle.std.proofs.Common.{sym, subst, arith}
use Rattle.std.proofs.lemmas.List.Elements.{All-from_recursion}
use Rattle.graph_core.specs.declared.gate.Gate.{Gate}
use Rattle.graph_core.specs.declared.literal.Lit.{Lit}
use Rattle.graph_core.specs.Graph.Literals.{variable_of}
use Rattle.graph_core.specs.Graph.{Aig, IsBuilt, IsWellFormed}
use Rattle.graph_core.proofs.OfGraphs.CallerLemmas.{IsInput, all_join}
use Rattle.clause_core.specs.GateClauses.{AreGatesWithin}
use Rattle.same_core.specs.Merged.{both, input_or, moved, moved_gate, moved_literal, pairs_of}
use Rattle.same_core.specs.Places.{IsMerged}
use Rattle.same_core.proofs.Merging.{IsGateLow, IsLow, gates_low, inputs_are_inputs, inputs_low, moved_some, outputs_low}

input_or_low : (ls ks : List Lit) (max v other most : ℕ) → AllByRecursion (IsLow max) ks → max ≤ most → other ≤ most → input_or ls ks v other ≤ most
input_or_low [] ks max v other most low up fits = fits
input_or_low (l ∷ ls) [] max v other most low up fits = fits
input_or_low (l ∷ ls) (k ∷ ks) max v other most low up fits = go (input_or_low ls ks max v other most low.1 up fits) (v == variable_of l)
  where
    go : input_or ls ks v other ≤ most → (c : Bool) → cond c (variable_of k) (input_or ls ks v other) ≤ most
    go behind true = let here = low.0 in omega (arith, here, up)
    go behind false = behind

module _ (g h : Aig) (well : IsWellFormed g) where
  pub moved_low : (v : ℕ) → v ≤ h.max → moved g h v ≤ g.max + h.max
  moved_low zero low = omega arith
  moved_low (suc v) low = subst (λ n. n ≤ g.max + h.max) (sym (moved_some g h (suc v) (omega arith))) (input_or_low h.inputs g.inputs g.max (suc v) (g.max + suc v) (g.max + h.max) (inputs_low g well) (omega arith) (omega (arith, low)))

  literal_low : (l : Lit) → variable_of l ≤ h.max → variable_of (moved_literal g h l) ≤ g.max + h.max
  literal_low l low = let m = moved_low (variable_of l) low in omega (arith, m)

  abbrev IsOwn : Gate → Type 0
  IsOwn x = (1 ≤ x.v) × (x.v ≤ g.max + h.max)

  abbrev AreOperands : Gate → Type 0
  AreOperands x = (variable_of x.left ≤ g.max + h.max) × (variable_of x.right ≤ g.max + h.max)

  own_first : (gates : List Gate) → AllByRecursion (IsGateLow g.max) gates → AllByRecursion IsOwn gates
  own_first [] low = tt
  own_first (x ∷ gates) low = let l = low.0 in ((omega (arith, l.0), omega (arith, l.1)), own_first gates low.1)

  operands_first : (gates : List Gate) → AllByRecursion (IsGateLow g.max) gates → AllByRecursion AreOperands gates
  operands_first [] low = tt
  operands_first (x ∷ gates) low = let l = low.0 in ((omega (arith, l.2), omega (arith, l.3)), operands_first gates low.1)

  own_second : (gates : List Gate) → AllByRecursion (IsGateLow h.max) gates → AllByRecursion IsOwn (map (moved_gate g h) gates)
  own_second [] low = tt
  own_second (x ∷ gates) low = let l = low.0 in ((omega (arith, l.0), omega (arith, l.1)), own_second gates low.1)

  operands_second : (gates : List Gate) → AllByRecursion (IsGateLow h.max) gates → AllByRecursion AreOperands (map (moved_gate g h) gates)
  operands_second [] low = tt
  operands_second (x ∷ gates) low = ((literal_low x.left low.0.2, literal_low x.right low.0.3), operands_second gates low.1)

  pub both_within : IsWellFormed h → AreGatesWithin (both g h).max (both g h).gates
  both_within other = record {
    own = All-from_recursion IsOwn (both g h).gates (all_join IsOwn g.gates (map (moved_gate g h) h.gates) (own_first g.gates (gates_low g well)) (own_second h.gates (gates_low h other)));
    operands = All-from_recursion AreOperands (both g h).gates
        (all_join AreOperands g.gates (map (moved_gate g h) h.gates) (operands_first g.gates (gates_low g well)) (operands_second h.gates (gates_low h other)));
  }

-- ---- the items of a graph, by their places

pub gates_are_low : (h : Aig) → IsBuilt h → (gates : List Gate) → gates ≡ h.gates → All (IsGateLow h.max) gates
gates_are_low h built gates is = subst (All (IsGateLow h.max)) (sym is) (All-from_recursion (IsGateLow h.max) h.gates (gates_low h built.well_formed))

pub inputs_are_low : (g : Aig) → IsBuilt g → (ls : List Lit) → ls ≡ g.inputs → All (λ l. IsInput l × IsLow g.max l) ls
inputs_are_low g built ls is =
    let well = built.well_formed in
    subst (All (λ l. IsInput l × IsLow g.max l)) (sym is)
    (All-from_recursion (λ l. IsInput l × IsLow g.max l) g.inputs (together g.inputs (inputs_are_inputs g well) (inputs_low g well)))
  where
    together : (ks : List Lit) → AllByRecursion IsInput ks → AllByRecursion (IsLow g.max) ks → AllByRecursion (λ l. IsInput l × IsLow g.max l) ks
    together [] a b = tt
    together (k ∷ ks) a b = ((a.0, b.0), together ks a.1 b.1)

pub outputs_are_low : (h : Aig) → IsBuilt h → (ls : List Lit) → ls ≡ h.outputs → All (IsLow h.max) ls
outputs_are_low h built ls is = subst (All (IsLow h.max)) (sym is) (All-from_recursion (IsLow h.max) h.outputs (outputs_low h built.well_formed))

pairs_low : (g h : Aig) → IsWellFormed g → (ls ks : List Lit) → AllByRecursion (IsLow g.max) ls → AllByRecursion (IsLow h.max) ks →
    AllByRecursion (λ p. (variable_of p.0 ≤ g.max + h.max) × (variable_of p.1 ≤ g.max + h.max)) (pairs_of ls (map (moved_literal g h) ks))
pairs_low g h well [] ks a b = tt
pairs_low g h well (l ∷ ls) [] a b = tt
pairs_low g h well (l ∷ ls) (k ∷ ks) a b = let low = a.0 in ((omega (arith, low), literal_low g h well k b.0), pairs_low g h well ls ks a.1 b.1)

pairs_few : (ls ks : List Lit) → length (pairs_of ls ks) ≤ length ls
pairs_few [] ks = omega arith
pairs_few (l ∷ ls) [] = omega arith
pairs_few (l ∷ ls) (k ∷ ks) = let fewer = pairs_few ls ks in omega (arith, fewer)

pub both_merged : (g h : Aig) → IsBuilt g → IsBuilt h → IsMerged (both g h)
both_merged g h one two = record {
  within = both_within g h one.well_formed two.well_formed;
  small = let a = one.small in let b = two.small in omega (arith, a, b);
  outputs = All-from_recursion (λ p. (variable_of p.0 ≤ g.max + h.max) × (variable_of p.1 ≤ g.max + h.max)) (both g h).pairs
      (pairs_low g h one.well_formed g.outputs h.outputs (outputs_low g one.well_formed) (outputs_low h two.well_formed));
  few = let a = one.few_outputs in let b = pairs_few g.outputs (map (moved_literal g h) h.outputs) in omega (arith, a, b);
}
