use Rattle.std.proofs.Common.{◌+◌, ◌++◌, ◌∷◌, [], ℕ, List, sym, subst}
use Rattle.pair_trim.proofs.KeptClauses.{AreFirstRanks, ranks_set, ranks_unset}
use Rattle.pair_trim.proofs.chosen.ranks_of.Goals.{then-mark, else-mark}
use Rattle.pair_trim.proofs.chosen.ranks_of.Goals as goal

pub loop-mark-preserved : goal.loop-mark-preserved
loop-mark-preserved c =
    let marks = c.args.marks.now in
    let i = c.loop-mark.mark-index in
    let ranks = c.loop-mark.ranks.items in
    subst (λ (xs : List ℕ). AreFirstRanks marks (i + 1) xs c.if-mark.rank) (sym c.in_ok-push-2.ensures.items)
    (elim c.if-mark.branch [
      | then-mark w ↦ subst (λ (r : ℕ). AreFirstRanks marks (i + 1) (ranks ++ r ∷ []) r) (sym w.rank-is) (ranks_set marks i ranks c.loop-mark.rank c.loop-mark.invariant w.if-mark.true)
      | else-mark w ↦ subst (λ (r : ℕ). AreFirstRanks marks (i + 1) (ranks ++ r ∷ []) r) (sym w.rank-is) (ranks_unset marks i ranks c.loop-mark.rank c.loop-mark.invariant w.if-mark.false)
    ])
