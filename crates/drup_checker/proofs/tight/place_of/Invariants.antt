use Rattle.std.proofs.Common.{◌≡◌, ◌<◌, ℕ}
use Rattle.unit_prop.specs.Standing.{at}
use Rattle.drup_checker.proofs.tight.place_of.Given as goal

abbrev pub invariant-loop-place : goal.invariant-loop-place
invariant-loop-place l = (j : ℕ) → j < l.place → at l.trail j ≡ l.lit → ⊥
