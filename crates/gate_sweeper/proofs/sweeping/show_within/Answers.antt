use Rattle.std.proofs.Common.{◌≡◌, ℕ, List, sym, subst}
use Rattle.clause_core.specs.Clause.{Clause}
use Rattle.cdcl_solver.specs.Logs.{LogView}
use Rattle.cdcl_solver.specs.Solvers.{SolverView}
use Rattle.goal_refuter.specs.Beginnings.{IsBegunAlike}
use Rattle.goal_refuter.proofs.AsMany.{many_on}
use Rattle.gate_sweeper.proofs.sweeping.show_within.Goals as goal

-- what is preferred changes nothing
begun_still : (max : ℕ) (given : List Clause) (conflicts : ℕ) (solver new : SolverView) (log : LogView) → new ≡ solver → IsBegunAlike max given conflicts solver log → IsBegunAlike max given conflicts new log
begun_still max given conflicts solver new log is = subst (λ (s : SolverView). IsBegunAlike max given conflicts s log) (sym is)

pub show_equal-requires : goal.show_equal-requires
show_equal-requires c = (c.requires.0, c.requires.1, (begun_still c.requires.0 c.requires.1 c.args.conflicts c.args.solver.now c.prefer.new.self c.args.log.now c.prefer.ensures c.requires.2).0)

pub returns-then-shown : goal.returns-then-shown
returns-then-shown c max given begun =
    let h = begun_still max given c.args.conflicts c.args.solver.now c.prefer.new.self c.args.log.now c.prefer.ensures begun in
    (c.in_ok-shown.ensures.begun max given h.0, many_on c.prefer.new.self.live c.show_equal.new.solver.live given c.args.log.now c.show_equal.new.log c.in_ok-shown.ensures.alike h.1)

pub returns-else-shown : goal.returns-else-shown
returns-else-shown c max given begun =
    let h = begun_still max given c.args.conflicts c.args.solver.now c.prefer.new.self c.args.log.now c.prefer.ensures begun in
    (c.in_ok-shown.ensures.begun max given h.0, many_on c.prefer.new.self.live c.show_equal.new.solver.live given c.args.log.now c.show_equal.new.log c.in_ok-shown.ensures.alike h.1)
