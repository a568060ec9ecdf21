-- Up to 64 bits a corrected graph is a packed one.
use Rattle.std.specs.Prelude.{◌+◌, ◌*◌, ◌≤◌, List, length, drop}
use Rattle.std.proofs.Common.{arith}
use Rattle.graph_core.specs.declared.literal.Lit.{Lit}
use Rattle.graph_core.specs.Graph.Literals.{plain, constant_true}
use Rattle.graph_maker.specs.declared.kind.Kind.TheVariants.{Array}
use Rattle.graph_maker.specs.Builder.{Builder, with_gates, literals_from}
use Rattle.graph_maker.specs.Made.{product_behind}
use Rattle.graph_maker.specs.Corrected.{CorrectedArePacked, inverted_from, made_corrected, masked_gates, take_away}
use Rattle.graph_maker.proofs.AddWords.{words_few}
use Rattle.graph_maker.proofs.ArrayAdds.{length-literals_from}
use Rattle.graph_maker.proofs.CorrectedMultiplies.{full, numbered, shape, width_is}
use Rattle.graph_maker.proofs.Inverted.{length-inverted_from, length-masked_gates}
use Rattle.graph_maker.proofs.MadePacked.{numbered_packed}
use Rattle.graph_maker.proofs.ProductOfWidths.{product_few}

take_away_few : (b : Builder) (xs : List Lit) (x : Lit) (ys : List Lit) → (take_away b xs x ys).builder.last ≤ b.last + 8 * length ys
take_away_few b xs x ys =
    let c = with_gates b (masked_gates b.last x ys) in
    omega (arith, length-masked_gates b.last x ys, words_few c xs (inverted_from (b.last + 1) (length ys)) constant_true, length-inverted_from (b.last + 1) (length ys))

pub corrected_are_packed : CorrectedArePacked
corrected_are_packed n adder pos small =
    let inputs = length-literals_from 1 (2 * n) in
    let packed = numbered_packed (2 * n) (made_corrected n adder) (numbered n adder pos) in
    let r = product_behind (2 * n) Array n n adder in
    let one = take_away r.builder (drop n r.outputs) (plain n) (literals_from (n + 1) n) in
    let lower = take_away_few r.builder (drop n r.outputs) (plain n) (literals_from (n + 1) n) in
    let upper = take_away_few one.builder one.outputs (plain (2 * n)) (literals_from 1 n) in
    record {
      counts = record {
        max = omega (arith, product_few (2 * n) Array n n adder pos pos small small, lower, upper, length-literals_from (n + 1) n, length-literals_from 1 n);
        step = omega (arith, inputs);
        some = omega (arith, inputs);
        few = omega (arith, inputs);
        some_outputs = omega (arith, full n adder pos, pos);
        outputs = omega (arith, full n adder pos, (shape n adder pos).inputs, width_is n adder pos);
        room = omega (arith, packed.max);
      };
      packed = packed;
    }
