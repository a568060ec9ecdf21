use Rattle.std.proofs.Common.{◌≡◌, take}
use Rattle.drup_checker.specs.Checking.{held_more}
use Rattle.drup_checker.proofs.store.Store.append_all.Given as goal

abbrev pub invariant-loop-place : goal.invariant-loop-place
invariant-loop-place l = l.self ≡ held_more l.initial.self (take l.place l.clauses)
