use Rattle.std.proofs.Common.{take}
use Rattle.drup_checker.specs.Checking.{HoldsGates}
use Rattle.drup_checker.proofs.store.Store.new.Given as goal

abbrev pub invariant-loop-gate : goal.invariant-loop-gate
invariant-loop-gate l = HoldsGates l.max (take l.gate-index l.gates) l.store
