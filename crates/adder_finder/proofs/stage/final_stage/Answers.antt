use Rattle.std.proofs.Common.{arith, refl, subst, true≢false}
use Rattle.std.specs.Option.{MatchOption}
use Rattle.adder_finder.specs.StageSearch.{IsLongestAt, NoneFitsAt}
use Rattle.adder_finder.proofs.Stages.{fit_low, none_more, stage_is}
use Rattle.adder_finder.proofs.stage.final_stage.Goals as goal

pub loop-lo-preserved : goal.loop-lo-preserved
loop-lo-preserved c =
    let g = c.args.graph.now in
    none_more g c.loop-lo.lo c.loop-lo.invariant (subst (λ o. MatchOption o (NoneFitsAt g c.loop-lo.lo) (IsLongestAt g c.loop-lo.lo)) c.in_default.is c.in_ok-cut.ensures)

pub returns-in-Some-clause-some : goal.returns-in-Some-clause-some
returns-in-Some-clause-some c = stage_is c.args.graph.now c.loop-lo.lo c.in-Some.cut c.loop-lo.invariant (subst (λ o. MatchOption o (NoneFitsAt c.args.graph.now c.loop-lo.lo) (IsLongestAt c.args.graph.now c.loop-lo.lo)) c.in-Some.is c.in_ok-cut.ensures)

pub returns-in-Some-clause-none : goal.returns-in-Some-clause-none
returns-in-Some-clause-none c = (λ e. absurd (true≢false e), λ none. absurd (none c.in-Some.cut (subst (λ o. MatchOption o (NoneFitsAt c.args.graph.now c.loop-lo.lo) (IsLongestAt c.args.graph.now c.loop-lo.lo)) c.in-Some.is c.in_ok-cut.ensures).1))

pub returns-clause-none : goal.returns-clause-none
returns-clause-none c = (λ _ cut f. let low = fit_low c.args.graph.now cut f in c.loop-lo.invariant cut (let size = c.outputs-lo-end.ensures.value in let all = c.loop-lo-test.false in omega arith) f, λ _. refl)
