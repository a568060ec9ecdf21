use Rattle.std.proofs.Common.{◌≡◌, ◌∙◌, [], ◌∷◌, ◌++◌, sym, subst}
use Rattle.clause_core.specs.Clause.{Clause, IsClauseInRange}
use Rattle.cdcl_solver.specs.Loading.{SameLive}
use Rattle.cdcl_solver.specs.Logs.{LogView, with_added}
use Rattle.cdcl_solver.specs.Solvers.{SolverView, with_clause}
use Rattle.cdcl_solver.specs.Solving.{IsAnswer}
use Rattle.cdcl_solver.specs.declared.solved.Solved.{Solved}
use Rattle.goal_refuter.specs.Refuting.{IsRefutation}
use Rattle.goal_refuter.proofs.Answering.{answered, negated_range, shown_next}
use Rattle.goal_refuter.proofs.Kept.{answer_kept, continues_kept, live_kept, live_pushed}
use Rattle.goal_refuter.proofs.refutation.refute.Goals.{in-Refuted+in_ok-add+in_ok-copy+in_ok-push, in_default}
use Rattle.goal_refuter.proofs.refutation.refute.Goals as goal

pub solve-requires-clause-assumptions : goal.solve-requires-clause-assumptions
solve-requires-clause-assumptions c =
    subst (IsClauseInRange c.args.solver.now.max) (sym (c.deref.ensures.value ∙ c.in_ok-negated.ensures)) (negated_range c.args.solver.now.max c.args.goal.now c.requires.goal)

pub returns-clause-answer : goal.returns-clause-answer
returns-clause-answer c = λ given same.
    let max = c.args.solver.now.max in
    let live = c.args.solver.now.live in
    let here = c.args.goal.now in
    let old = c.args.log.now in
    let mid = c.solve.new.log in
    let solved = c.in_ok-solved.solved in
    let limit = c.args.conflicts in
    let is = c.deref.ensures.value ∙ c.in_ok-negated.ensures in
    let adds = c.solve.ensures.adds in
    let continues = continues_kept max given live limit old mid same adds c.in_ok-solved.ensures.log in
    let answer = answer_kept max given live limit old mid same adds c.in_ok-solved.ensures.log c.deref.result.now solved c.in_ok-solved.ensures.answer in
    elim c.match-solved.branch [
      | in-Refuted+in_ok-add+in_ok-copy+in_ok-push w ↦
          subst (λ (s : Solved). IsRefutation max given here limit old c.match-solved.log s) (sym w.in-Refuted.is)
          (shown_next max given here limit old mid c.match-solved.log c.deref.result.now w.in_ok-copy.field-0 is w.in_ok-copy.ensures continues
          (subst (λ (s : Solved). IsAnswer max given c.deref.result.now limit old mid s) w.in-Refuted.is answer) (w.log-is ∙ w.in_ok-push.ensures.ok))
      | in_default w ↦
          subst (λ (log : LogView). IsRefutation max given here limit old log solved) (sym w.log-is)
          (answered max given here limit old mid c.deref.result.now solved is w.in_default.not-Refuted continues answer)
    ]

pub returns-clause-live : goal.returns-clause-live
returns-clause-live c = λ given same.
    let max = c.args.solver.now.max in
    let here = c.args.goal.now in
    let mid = c.solve.new.log in
    let after = c.solve.new.self in
    let kept = live_kept max given c.args.solver.now.live c.args.conflicts c.args.log.now mid same c.solve.ensures.adds c.in_ok-solved.ensures.log after.live c.in_ok-solved.ensures.live in
    elim c.match-solved.branch [
      | in-Refuted+in_ok-add+in_ok-copy+in_ok-push w ↦
          let copy : Clause = w.in_ok-copy.field-0 in
          let solver_is : c.match-solved.solver ≡ with_clause after here = w.solver-is ∙ w.in_ok-add.ensures.ok in
          let log_is : c.match-solved.log ≡ with_added mid copy = w.log-is ∙ w.in_ok-push.ensures.ok in
          subst (λ (s : SolverView). SameLive s.live (c.match-solved.log.left ++ given)) (sym solver_is)
          (subst (λ (log : LogView). SameLive (after.live ++ here ∷ []) (log.left ++ given)) (sym log_is)
          (subst (λ (x : Clause). SameLive (after.live ++ here ∷ []) ((x ∷ mid.left) ++ given)) (sym w.in_ok-copy.ensures) (live_pushed after.live mid.left given here kept)))
      | in_default w ↦
          subst (λ (s : SolverView). SameLive s.live (c.match-solved.log.left ++ given)) (sym w.solver-is)
          (subst (λ (log : LogView). SameLive after.live (log.left ++ given)) (sym w.log-is) kept)
    ]
