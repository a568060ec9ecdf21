use Rattle.drup_checker.specs.Opposing.{OpposesFirst}
use Rattle.drup_checker.proofs.rup.oppose_all.Given as goal

abbrev pub invariant-loop-lit : goal.invariant-loop-lit
invariant-loop-lit l = OpposesFirst l.initial.propagator l.propagator l.clause l.lit-index
