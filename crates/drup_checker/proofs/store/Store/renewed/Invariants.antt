use Rattle.std.proofs.Common.{◌≡◌}
use Rattle.drup_checker.specs.PlaceNumbers.{numbers_of}
use Rattle.drup_checker.proofs.Stores.{held_first}
use Rattle.drup_checker.proofs.store.Store.renewed.Given as goal

abbrev pub invariant-loop-place : goal.invariant-loop-place
invariant-loop-place l = l.new ≡ held_first l.self-inside.propagator (numbers_of l.self-inside.numbers) l.self.max l.place
