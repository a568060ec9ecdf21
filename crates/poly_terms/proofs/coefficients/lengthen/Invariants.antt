use Rattle.std.proofs.Common.{◌≡◌, ◌<◌, ◌^◌, ◌*◌, length}
use Rattle.poly_terms.specs.Blocks.{AreBlocks, joined}
use Rattle.poly_terms.specs.Indexed.{IsLonger}
use Rattle.poly_terms.proofs.coefficients.lengthen.Given as goal

abbrev pub invariant-loop : goal.invariant-loop
invariant-loop l = record {
  blocks : AreBlocks l.blocks.items;
  longer : IsLonger (joined l.initial.blocks.items) (joined l.blocks.items);
  counter : length l.blocks.items ≡ l.counter;
}
