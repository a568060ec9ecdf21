use Rattle.goal_refuter.specs.Beginnings.{StaysBegunAlike}
use Rattle.gate_sweeper.proofs.sweeping.sweep.Given as goal

abbrev pub invariant-loop-step : goal.invariant-loop-step
invariant-loop-step l = StaysBegunAlike l.conflicts l.initial.solver l.initial.log l.solver l.log
