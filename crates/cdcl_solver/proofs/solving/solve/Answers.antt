use Rattle.std.proofs.Common.{sym, subst}
use Rattle.std.specs.List.{All}
use Rattle.std.proofs.lemmas.List.Elements.{Contains-append_left}
use Rattle.std.proofs.lemmas.Result.{IfOk-weaker}
use Rattle.clause_core.specs.Clause.{IsClauseInRange}
use Rattle.cdcl_solver.specs.Logs.{Continues}
use Rattle.cdcl_solver.specs.Solving.{IsAnswer}
use Rattle.cdcl_solver.specs.declared.solved.Solved.{Solved}
use Rattle.cdcl_solver.proofs.SolverLemmas.{continues_given, answer_given}
use Rattle.cdcl_solver.proofs.solving.solve.Goals as goal

pub solve-requires : goal.solve-requires
solve-requires c = record {
  known = λ d has. c.in_ok-solver.ensures.1.back d (Contains-append_left c.args.log.now.left c.args.clauses.now d has);
  log = subst (λ m. All (IsClauseInRange m) c.args.log.now.left) (sym c.in_ok-solver.ensures.0) c.requires.log;
  assumptions = subst (λ m. IsClauseInRange m c.args.assumptions.now) (sym c.in_ok-solver.ensures.0) c.requires.assumptions;
}

pub returns-clause-log : goal.returns-clause-log
returns-clause-log c =
    let goes = subst (λ m. Continues m c.in_ok-solver.solver.live c.args.conflicts c.args.log.now c.solve.new.log) c.in_ok-solver.ensures.0 c.solve.ensures.log in
    continues_given c.args.max c.in_ok-solver.solver.live c.args.clauses.now c.args.conflicts c.args.log.now c.solve.new.log c.in_ok-solver.ensures.1 c.solve.ensures.adds goes

pub returns-clause-in_range : goal.returns-clause-in_range
returns-clause-in_range c = subst (λ m. All (IsClauseInRange m) c.solve.new.log.left) c.in_ok-solver.ensures.0 c.solve.ensures.in_range

pub returns-clause-answer : goal.returns-clause-answer
returns-clause-answer c =
    let goes = subst (λ m. Continues m c.in_ok-solver.solver.live c.args.conflicts c.args.log.now c.solve.new.log) c.in_ok-solver.ensures.0 c.solve.ensures.log in
    IfOk-weaker c.solve.result (λ (s : Solved). IsAnswer c.in_ok-solver.solver.max c.in_ok-solver.solver.live c.args.assumptions.now c.args.conflicts c.args.log.now c.solve.new.log s)
    (λ (s : Solved). IsAnswer c.args.max c.args.clauses.now c.args.assumptions.now c.args.conflicts c.args.log.now c.solve.new.log s)
    (λ s a. answer_given c.args.max c.in_ok-solver.solver.live c.args.clauses.now c.args.conflicts c.args.log.now c.solve.new.log c.in_ok-solver.ensures.1 c.solve.ensures.adds goes c.args.assumptions.now c.args.conflicts s
    (subst (λ m. IsAnswer m c.in_ok-solver.solver.live c.args.assumptions.now c.args.conflicts c.args.log.now c.solve.new.log s) c.in_ok-solver.ensures.0 a))
    c.solve.ensures.answer
