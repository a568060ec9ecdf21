use Rattle.std.proofs.Common.{◌≡◌, ◌+◌, drop}
use Rattle.graph_maker.specs.Builder.{with_gates}
use Rattle.graph_maker.specs.Corrected.{masked_gates}
use Rattle.graph_maker.proofs.building.Building.mask.Given as goal

abbrev pub invariant-loop-y : goal.invariant-loop-y
invariant-loop-y l = record {
  gates : with_gates l.fn.self (masked_gates l.fn.self.last l.x l.ys) ≡ with_gates l.self (masked_gates l.self.last l.x (drop l.y-index l.ys));
  last : l.self.last ≡ l.fn.self.last + l.y-index;
}
