-- The values of a graph's inputs, one after the other.
use Rattle.std.specs.Prelude.{◌≡◌, ℕ, ◌+◌, ◌-◌, ◌<◌, ◌≤◌, Bool, false, List, [], ◌∷◌, ◌++◌, map, take, length, slice_index_or}
use Rattle.std.proofs.Common.{sym, ap, subst, ◌∙◌, arith}
use Rattle.std.proofs.lemmas.List.{get_or_read}
use Rattle.cdcl_solver.specs.Solving.{assignment_of}
use Rattle.graph_core.specs.declared.literal.Lit.{Lit}
use Rattle.graph_core.specs.Graph.Assignments.{literal}
use Rattle.graph_core.specs.Graph.Literals.{variable_of}
use Rattle.graph_core.specs.Graph.{Aig, IsBuilt}
use Rattle.graph_core.proofs.OfGraphs.CallerLemmas.{literal-input}
use Rattle.same_core.proofs.MergeSteps.{map_more}
use Rattle.same_core.proofs.Ranges.{inputs_are_low}

module _ (g : Aig) (built : IsBuilt g) (ls : List Lit) (is : ls ≡ g.inputs) (values : List Bool) (long : g.max ≤ length values) (n : ℕ) (below : n < length ls) where
  abbrev input : Lit
  input = slice_index_or ls n (record { 0 = 0 })

  value_is : (v : ℕ) → v ≡ variable_of input → (b : Bool) → b ≡ slice_index_or values (v - 1) b → b ≡ literal (assignment_of values) input
  value_is v same b read =
      let low = inputs_are_low g built ls is n (record { 0 = 0 }) below in
      let some = low.0.1 in
      let most = low.1 in
      get_or_read values (v - 1) b (omega (arith, same, some, most, long)) read false ∙ ap (λ (k : ℕ). slice_index_or values (k - 1) false) same ∙ sym (literal-input (assignment_of values) input low.0)

  pub input_pushed : (old new : List Bool) → old ≡ map (literal (assignment_of values)) (take n g.inputs) → (v : ℕ) → v ≡ variable_of input → (b : Bool) → b ≡ slice_index_or values (v - 1) b → new ≡ old ++ b ∷ [] →
      new ≡ map (literal (assignment_of values)) (take (n + 1) g.inputs)
  input_pushed old new known v same b read made =
      let σ = assignment_of values in
      let step : map (literal σ) (take (n + 1) ls) ≡ map (literal σ) (take n ls) ++ literal σ input ∷ [] = map_more (literal σ) [] ls n (record { 0 = 0 }) below in
      let before : old ≡ map (literal σ) (take n ls) = subst (λ (z : List Lit). old ≡ map (literal σ) (take n z)) (sym is) known in
      let after : map (literal σ) (take (n + 1) ls) ≡ map (literal σ) (take (n + 1) g.inputs) = ap (λ (z : List Lit). map (literal σ) (take (n + 1) z)) is in
      made ∙ ap (λ (z : List Bool). z ++ b ∷ []) before ∙ ap (λ (x : Bool). map (literal σ) (take n ls) ++ x ∷ []) (value_is v same b read) ∙ sym step ∙ after
