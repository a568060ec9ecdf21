use Rattle.std.proofs.Common.{[], sym, subst, ◌∙◌, arith, below_more, true≢false}
use Rattle.std.proofs.lemmas.List.{get_or_default}
use Rattle.clause_core.specs.Clause.{IsSubset}
use Rattle.pair_trim.proofs.MarkedRoots.{none_found}
use Rattle.pair_trim.proofs.roots.first_showing.Goals as goal

pub loop-place-preserved : goal.loop-place-preserved
loop-place-preserved c =
    let clauses = c.args.clauses.now in
    let is = get_or_default clauses c.loop-place.place [] c.get.result.now (omega arith) ∙ sym c.get.ensures in
    below_more _ _ c.loop-place.invariant
    (λ s. true≢false (sym (c.is_subset.ensures.1 (subst (λ d. IsSubset d c.args.goal.now) is s)) ∙ c.if-is_subset.false))

pub returns-clause-none : goal.returns-clause-none
returns-clause-none c = λ e. none_found c.args.clauses.now c.args.goal.now c.loop-place.place c.loop-place.invariant (omega arith)
