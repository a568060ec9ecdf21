use Rattle.std.proofs.Common.{refl, subst}
use Rattle.graph_core.specs.Graph.Literals.{constant_false}
use Rattle.adder_finder.specs.XorShape.{IsXorOfPair}
use Rattle.adder_finder.proofs.Stages.{missing_first, output_is, output_low}
use Rattle.adder_finder.proofs.stage.cut_at.Goals as goal

pub xor_of-requires : goal.xor_of-requires
xor_of-requires c =
    let g = c.args.graph.now in
    let outs = c.output_literals-outputs in
    record { in_range = output_low g outs.ensures.built.well_formed c.args.lo c.var.result c.requires.in_range (output_is g outs.result.now c.args.lo c.var.result (record { 0 = 0 }) outs.ensures.value c.requires.in_range c.var.ensures) }

pub cut_from-requires : goal.cut_from-requires
cut_from-requires c =
    let g = c.args.graph.now in
    let outs = c.output_literals-outputs in
    let xor = c.in-Some.xor in
    record {
      keys = c.requires.keys;
      in_range = c.requires.in_range;
      first = λ o. subst (λ n. IsXorOfPair g n xor.pair) (output_is g outs.result.now c.args.lo c.var.result (record { 0 = 0 }) outs.ensures.value c.requires.in_range c.var.ensures o)
          (xor.generating, xor.other, xor.pair.0, xor.pair.1, c.in-Some.ensures.some);
    }

pub returns-in-None : goal.returns-in-None
returns-in-None c =
    let g = c.args.graph.now in
    let outs = c.output_literals-outputs in
    missing_first g c.args.lo c.var.result constant_false c.requires.in_range (output_is g outs.result.now c.args.lo c.var.result (record { 0 = 0 }) outs.ensures.value c.requires.in_range c.var.ensures constant_false) (c.in-None.ensures.none.0 refl)

pub returns-in-Some : goal.returns-in-Some
returns-in-Some c = c.cut_from.ensures
