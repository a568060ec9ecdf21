-- Where some output differs on an evaluation of merged gates, it does so on the inputs that the evaluation has.
use Rattle.std.specs.Prelude.{◌≡◌, Bool, List, [], ◌∷◌, map}
use Rattle.std.specs.List.{AllByRecursion}
use Rattle.std.proofs.Common.{length, sym, ap, subst, ◌∙◌}
use Rattle.std.proofs.lemmas.List.{length-map}
use Rattle.std.proofs.lemmas.List.Elements.{All-from_recursion}
use Rattle.graph_core.proofs.OfGraphs.CallerLemmas.{outputs_are}
use Rattle.graph_core.specs.declared.literal.Lit.{Lit}
use Rattle.graph_core.specs.Graph.Extended.{AgreeOnColumns}
use Rattle.graph_core.specs.Graph.Assignments.{Assignment, literal}
use Rattle.graph_core.specs.Graph.{Aig, IsEvaluation, IsWellFormed, evaluated}
use Rattle.miter_encoder.specs.ColumnGoals.{AgreeOnPairs}
use Rattle.miter_encoder.proofs.PairGoals.{columns_mean_pairs}
use Rattle.same_core.specs.Deciding.{IsPairDifference}
use Rattle.same_core.specs.Merged.{AreOfOneShape, both, merged, moved_literal, pairs_of, second_part}
use Rattle.same_core.proofs.Merging.{merged_is_pair, second_literal}

module _ (g h : Aig) (well : IsWellFormed g) (other : IsWellFormed h) (shape : AreOfOneShape g h) (σ : Assignment) (evaluates : IsEvaluation (merged g h).gates σ) where
  abbrev τ : Assignment
  τ = second_part g h σ

  -- equal values of the outputs are equal literals in each column
  agreeing : (ls ks : List Lit) → map (literal σ) ls ≡ map (literal τ) ks → AllByRecursion (λ p. literal σ p.0 ≡ literal σ p.1) (pairs_of ls (map (moved_literal g h) ks))
  agreeing [] ks same = tt
  agreeing (l ∷ ls) [] same = tt
  agreeing (l ∷ ls) (k ∷ ks) same = (first ∙ sym (second_literal g h σ k), agreeing ls ks rest)
    where
      first : literal σ l ≡ literal τ k
      first = cc

      rest : map (literal σ) ls ≡ map (literal τ) ks
      rest = cc

  pub difference : (inputs : List Bool) → inputs ≡ map (literal σ) g.inputs → ¬ (AgreeOnColumns (merged g h) σ) → IsPairDifference g h inputs
  difference inputs is differ =
      let parts = merged_is_pair.parts g h well other shape σ evaluates in
      let one : map (literal (evaluated g inputs)) g.outputs ≡ map (literal σ) g.outputs =
      subst (λ (bits : List Bool). map (literal (evaluated g bits)) g.outputs ≡ map (literal σ) g.outputs) (sym is) (sym (outputs_are g well σ parts.0)) in
      let two : map (literal (evaluated h inputs)) h.outputs ≡ map (literal τ) h.outputs =
      subst (λ (bits : List Bool). map (literal (evaluated h bits)) h.outputs ≡ map (literal τ) h.outputs) (sym (is ∙ parts.2)) (sym (outputs_are h other τ parts.1)) in
      record {
        all = ap length is ∙ length-map g.inputs (literal σ);
        differ = λ same.
            let pairs = (both g h).pairs in
            let equal : AgreeOnPairs pairs σ = All-from_recursion (λ p. literal σ p.0 ≡ literal σ p.1) pairs (agreeing g.outputs h.outputs (sym one ∙ same ∙ two)) in
            differ ((columns_mean_pairs pairs σ).1 equal);
      }
