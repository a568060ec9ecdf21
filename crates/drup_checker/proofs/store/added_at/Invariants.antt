use Rattle.std.proofs.Common.{◌≡◌, map, take, slice_index}
use Rattle.drup_checker.specs.Checking.{added_numbers}
use Rattle.drup_checker.specs.PlaceNumbers.{numbers_of}
use Rattle.drup_checker.proofs.store.added_at.Given as goal

abbrev pub invariant-loop-place : goal.invariant-loop-place
invariant-loop-place l = l.added.items ≡ added_numbers (map (λ r. slice_index (numbers_of l.numbers) r) (take l.place-index l.places))
