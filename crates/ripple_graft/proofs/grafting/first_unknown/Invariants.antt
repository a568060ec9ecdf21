use Rattle.std.specs.List.{AllWithin}
use Rattle.ripple_graft.specs.Grafts.{IsKnownPair}
use Rattle.ripple_graft.proofs.grafting.first_unknown.Given as goal

abbrev pub invariant-loop-i : goal.invariant-loop-i
invariant-loop-i l = AllWithin (IsKnownPair l.extended) l.pairs 0 l.i
