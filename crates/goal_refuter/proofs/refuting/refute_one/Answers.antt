use Rattle.std.proofs.Common.{◌<◌, ◌-◌, ◌++◌, Bool, refl, subst, ◌∙◌, arith}
use Rattle.std.specs.List.{All}
use Rattle.std.proofs.lemmas.Result.{IfOk-weaker}
use Rattle.clause_core.specs.Clause.{IsClauseInRange}
use Rattle.cdcl_solver.specs.Logs.{Continues}
use Rattle.cdcl_solver.specs.declared.solved.Solved.{Solved}
use Rattle.goal_refuter.specs.Beginnings.{KeepsCount}
use Rattle.goal_refuter.specs.Refuting.{IsRefutation}
use Rattle.goal_refuter.proofs.AsMany.{alike_joins, alike_none, many_on, many_same, partly_forgot, partly_next, partly_start, refutation_on}
use Rattle.goal_refuter.proofs.refuting.refute_one.Goals as goal

pub loop-left-init : goal.loop-left-init
loop-left-init c = record {
  less = omega arith;
  max = refl;
  in_range = c.requires.log;
  alike = alike_none c.args.solver.now.live c.args.log.now;
  goes = λ given same many. partly_start c.args.solver.now.max given c.args.conflicts c.args.solver.now.live c.args.log.now same;
}

pub loop-left-preserved : goal.loop-left-preserved
loop-left-preserved c =
    let inv = c.loop-left.invariant in
    let room : 100 < c.loop-left.left = omega arith in
    record {
      less = let less = inv.less in omega arith;
      max = c.in_ok-solved.ensures.max ∙ inv.max;
      in_range = subst (λ m. All (IsClauseInRange m) c.refute.new.log.left) inv.max c.in_ok-solved.ensures.left;
      alike = alike_joins c.args.solver.now.live c.loop-left.solver.live c.refute.new.solver.live c.args.log.now c.loop-left.log c.refute.new.log inv.alike c.in_ok-solved.ensures.alike;
      goes = λ given same many. let p = inv.goes given same many in
          partly_next c.args.solver.now.max c.loop-left.solver.max given c.loop-left.solver.live c.refute.new.solver.live c.args.goal.now c.args.conflicts c.loop-left.left 100 c.args.log.now c.loop-left.log c.refute.new.log c.in_ok-solved.solved inv.max room inv.less p
          (c.in_ok-solved.ensures.answer given p.live_is) c.in-Spent.is (c.in_ok-solved.ensures.live given p.live_is);
    }

pub loop-left-preserved-in-Continue-branch-3 : goal.loop-left-preserved-in-Continue-branch-3
loop-left-preserved-in-Continue-branch-3 c =
    let inv = c.loop-left.invariant in
    let room : 100 < c.loop-left.left = omega arith in
    let live = c.args.solver.now.live in
    let old = c.args.log.now in
    let max = c.in_ok-solved.ensures.max ∙ inv.max in
    let first = alike_joins live c.loop-left.solver.live c.refute.new.solver.live old c.loop-left.log c.refute.new.log inv.alike c.in_ok-solved.ensures.alike in
    let alike = alike_joins live c.refute.new.solver.live c.forget.new.self.live old c.refute.new.log c.forget.new.log first c.forget.ensures.alike in
    record {
      less = let less = inv.less in omega arith;
      max = c.forget.ensures.max ∙ max;
      in_range = subst (λ m. All (IsClauseInRange m) c.forget.new.log.left) max c.forget.ensures.in_range;
      alike = alike;
      goes = λ given same many. let p = inv.goes given same many in
          let spent = partly_next c.args.solver.now.max c.loop-left.solver.max given c.loop-left.solver.live c.refute.new.solver.live c.args.goal.now c.args.conflicts c.loop-left.left 100 old c.loop-left.log c.refute.new.log c.in_ok-solved.solved inv.max room inv.less p
          (c.in_ok-solved.ensures.answer given p.live_is) c.in-Spent.is (c.in_ok-solved.ensures.live given p.live_is) in
          let before = subst (λ (b : Bool). KeepsCount b live old.left given) c.if-forgets.true many in
          let after = many_on live c.forget.new.self.live given old c.forget.new.log alike before in
          partly_forgot c.args.solver.now.max given c.refute.new.solver.live c.forget.new.self.live (c.args.conflicts - (c.loop-left.left - 100)) old c.refute.new.log c.forget.new.log spent
          (subst (λ m. Continues m given 0 c.refute.new.log c.forget.new.log) max (c.forget.ensures.log given)) (many_same c.forget.new.self.live (c.forget.new.log.left ++ given) after);
    }

pub returns-in_default : goal.returns-in_default
returns-in_default c =
    let inv = c.loop-left.invariant in
    let room : 100 < c.loop-left.left = omega arith in
    let less = inv.less in
    let solved = c.in_ok-solved.solved in
    record {
      max = c.in_ok-solved.ensures.max ∙ inv.max;
      left = subst (λ m. All (IsClauseInRange m) c.refute.new.log.left) inv.max c.in_ok-solved.ensures.left;
      answer = λ given same many. let p = inv.goes given same many in
          refutation_on c.args.solver.now.max given c.args.goal.now (c.args.conflicts - c.loop-left.left) 100 c.args.conflicts c.args.log.now c.loop-left.log c.refute.new.log solved p.continues p.count (omega arith) (λ e. absurd (c.in_default.not-Spent e))
          (subst (λ m. IsRefutation m given c.args.goal.now 100 c.loop-left.log c.refute.new.log solved) inv.max (c.in_ok-solved.ensures.answer given p.live_is));
      live = λ given same many. c.in_ok-solved.ensures.live given (inv.goes given same many).live_is;
      alike = alike_joins c.args.solver.now.live c.loop-left.solver.live c.refute.new.solver.live c.args.log.now c.loop-left.log c.refute.new.log inv.alike c.in_ok-solved.ensures.alike;
    }

pub returns-clause-answer : goal.returns-clause-answer
returns-clause-answer c = λ given same many.
    let inv = c.loop-left.invariant in
    let less = inv.less in
    let left = c.loop-left.left in
    let p = inv.goes given same many in
    IfOk-weaker c.refute-2.result (IsRefutation c.loop-left.solver.max given c.args.goal.now left c.loop-left.log c.refute-2.new.log) (IsRefutation c.args.solver.now.max given c.args.goal.now c.args.conflicts c.args.log.now c.refute-2.new.log)
    (λ (s : Solved) h. refutation_on c.args.solver.now.max given c.args.goal.now (c.args.conflicts - left) left c.args.conflicts c.args.log.now c.loop-left.log c.refute-2.new.log s p.continues p.count (omega arith) (λ e. omega arith)
    (subst (λ m. IsRefutation m given c.args.goal.now left c.loop-left.log c.refute-2.new.log s) inv.max h)) (c.refute-2.ensures.answer given p.live_is)
