-- Up to 64 bits a made graph with an addend is a packed one.
use Rattle.std.specs.Prelude.{◌+◌, ◌*◌}
use Rattle.std.proofs.Common.{arith}
use Rattle.graph_core.specs.Graph.Literals.{constant_false}
use Rattle.graph_maker.specs.Builder.{literals_from}
use Rattle.graph_maker.specs.Made.{product_behind}
use Rattle.graph_maker.specs.WithAddend.{SumsArePacked, made_sum}
use Rattle.graph_maker.proofs.AddWords.{words_few}
use Rattle.graph_maker.proofs.ArrayAdds.{length-literals_from}
use Rattle.graph_maker.proofs.MadePacked.{numbered_packed}
use Rattle.graph_maker.proofs.ProductOfWidths.{product_few}
use Rattle.graph_maker.proofs.SumsAdd.{full, numbered}

pub sums_are_packed : SumsArePacked
sums_are_packed kind n adder pos small =
    let inputs = length-literals_from 1 (4 * n) in
    let packed = numbered_packed (4 * n) (made_sum kind n adder) (numbered kind n adder pos) in
    let r = product_behind (4 * n) kind n n adder in
    let addend = words_few r.builder r.outputs (literals_from (2 * n + 1) (2 * n)) constant_false in
    record {
      counts = record {
        max = omega (arith, product_few (4 * n) kind n n adder pos pos small small, addend, length-literals_from (2 * n + 1) (2 * n));
        step = omega (arith, inputs);
        some = omega (arith, inputs);
        few = omega (arith, inputs);
        some_outputs = omega (arith, full kind n adder pos, pos);
        outputs = omega (arith, full kind n adder pos, inputs);
        room = omega (arith, packed.max);
      };
      packed = packed;
    }
