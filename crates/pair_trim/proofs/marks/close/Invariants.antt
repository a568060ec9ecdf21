use Rattle.std.proofs.Common.{◌≤◌, length}
use Rattle.pair_trim.specs.Marking.{IsClosedFrom}
use Rattle.pair_trim.proofs.marks.close.Given as goal

abbrev pub invariant-walk : goal.invariant-walk
invariant-walk l = record {
  within : l.place ≤ length l.uses;
  closed : IsClosedFrom l.place l.uses l.initial.marks l.marks;
}

abbrev pub decreases-walk : goal.decreases-walk
decreases-walk l = l.place
