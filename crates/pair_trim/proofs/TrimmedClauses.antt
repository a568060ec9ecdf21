-- What is kept of clauses with tight chains is lawful, and each of them is used.
use Rattle.std.specs.Prelude.{◌≡◌, ℕ, List, [], map, slice_index, slice_index_or}
use Rattle.std.proofs.Common.{sym, ap, subst, ◌∙◌}
use Rattle.clause_core.specs.Clause.{Clause}
use Rattle.clause_core.specs.ClauseLines.{AreLawfulClauses, added}
use Rattle.clause_core.specs.KeptClauses.{AreUsed, HaveTightChains, added_lines, chosen, rank}
use Rattle.clause_core.proofs.CallerLemmas.{as_many, chosen_clauses_are_used, chosen_clauses_follow, kept_clauses_are_lawful}
use Rattle.pair_trim.specs.Marking.{IsShownIn, unmet}
use Rattle.pair_trim.specs.Trimmed.{KeptClausesAreTrimmed}
use Rattle.pair_trim.proofs.KeptClauses.{map_agree}
use Rattle.pair_trim.proofs.Renumbering.{added_are, ranked}

pub kept_clauses_are_trimmed : KeptClausesAreTrimmed
kept_clauses_are_trimmed given goals more clauses uses lines kept_uses ranks k h = record {
  marks = k.marks;
  long = k.long;
  some = are;
  only_added = only;
  chains = chains;
  lawful = subst (AreLawfulClauses given) (sym only) (kept_clauses_are_lawful given (added lines) kept_uses chains);
  used = subst (λ (ns : List ℕ). AreUsed (unmet goals) ns (added lines) kept_uses) (sym numbers)
      (subst (λ (cs : List Clause). AreUsed (unmet goals) (map (rank k.marks) more) cs kept_uses) (sym are)
      (subst (λ (us : List (List ℕ)). AreUsed (unmet goals) (map (rank k.marks) more) (chosen k.marks clauses) us) (sym k.uses_are)
      (chosen_clauses_are_used (unmet goals) clauses more uses k.marks k.long (as_many given [] clauses uses h) k.used)));
  shown = λ i d low s. subst (λ (cs : List Clause). IsShownIn cs (slice_index_or (unmet goals) i d)) (sym are) (k.shown i d low s);
}
  where
    are : added lines ≡ chosen k.marks clauses
    are = added_are goals more clauses uses lines kept_uses ranks k

    only : lines ≡ added_lines (added lines)
    only = k.lines_are ∙ ap added_lines (sym are)

    chains : HaveTightChains given [] (added lines) kept_uses
    chains = subst (λ (cs : List Clause). HaveTightChains given [] cs kept_uses) (sym are)
        (subst (HaveTightChains given [] (chosen k.marks clauses)) (sym k.uses_are) (chosen_clauses_follow given clauses uses k.marks k.long h k.closed))

    numbers : map (slice_index ranks) more ≡ map (rank k.marks) more
    numbers = map_agree (slice_index ranks) (rank k.marks) more (λ i d low. ranked goals more clauses uses lines kept_uses ranks k (slice_index_or more i d) (k.named i d low))
