use Rattle.std.proofs.Common.{All, length, get_or, arith, sym, ap, subst, ◌∙◌}
use Rattle.std.proofs.lemmas.List.{get_or_default, take_all}
use Rattle.std.proofs.lemmas.List.Elements.{All-more}
use Rattle.graph_core.specs.declared.numbers.Numbers.{Numbers}
use Rattle.graph_core.proofs.OfGraphs.CallerLemmas.{outputs_below}
use Rattle.operand_search.specs.Runs.{IsRightOn}
use Rattle.operand_search.proofs.Bits.{lane_value}
use Rattle.operand_search.proofs.Running.{computed_is, outputs_few}
use Rattle.operand_search.proofs.comparison.first_wrong.Goals as goal

abbrev no_numbers : Numbers
no_numbers = record { a = 0; b = 0; c = 0 }

pub loop-j-preserved : goal.loop-j-preserved
loop-j-preserved c lanes =
    let g = c.args.graph.now in
    let s = c.args.operands.now in
    let x = get_or c.args.numbers.now c.loop-j.j no_numbers in
    let test = c.loop-j-test.true in
    let most = c.requires.at_most in
    All-more (IsRightOn g s) c.args.numbers.now c.loop-j.j no_numbers c.loop-j-test.true (c.loop-j.invariant lanes)
    (sym (lane_value g s c.args.numbers.now c.args.inputs.now c.words_into.new.words c.words_into.ensures lanes c.loop-j.j no_numbers c.loop-j-test.true (omega arith)
    c.output_literals-outputs.result.now c.output_literals-outputs.ensures.value) ∙
    sym c.number_in.ensures ∙ c.if-number_in-claimed_value.false ∙
    computed_is g s c.requires.shape c.output_literals-outputs.ensures.built.well_formed.defined_once c.requires.operands x (lanes c.loop-j.j no_numbers c.loop-j-test.true).range
    c.outputs.result c.claimed_value.result c.outputs.ensures.value c.claimed_value.ensures)

pub returns-clause-none : goal.returns-clause-none
returns-clause-none c e lanes = subst (All (IsRightOn c.args.graph.now c.args.operands.now)) (take_all c.loop-j.j c.args.numbers.now (omega arith)) (c.loop-j.invariant lanes)

pub returns-then-number_in-claimed_value-clause-some : goal.returns-then-number_in-claimed_value-clause-some
returns-then-number_in-claimed_value-clause-some c lanes =
    let g = c.args.graph.now in
    let s = c.args.operands.now in
    let xs = c.args.numbers.now in
    let j = c.loop-j.j in
    let x = get_or xs j no_numbers in
    let test = c.loop-j-test.true in
    let most = c.requires.at_most in
    record {
      within = c.loop-j-test.true;
      wrong = λ d e.
          let right : IsRightOn g s x = subst (IsRightOn g s) (get_or_default xs j d no_numbers c.loop-j-test.true) e in
          c.if-number_in-claimed_value.true
          (c.number_in.ensures ∙
          lane_value g s c.args.numbers.now c.args.inputs.now c.words_into.new.words c.words_into.ensures lanes c.loop-j.j no_numbers c.loop-j-test.true (omega arith)
          c.output_literals-outputs.result.now c.output_literals-outputs.ensures.value ∙
          right ∙ sym (computed_is g s c.requires.shape c.output_literals-outputs.ensures.built.well_formed.defined_once c.requires.operands x (lanes j no_numbers c.loop-j-test.true).range
          c.outputs.result c.claimed_value.result c.outputs.ensures.value c.claimed_value.ensures));
      before = c.loop-j.invariant lanes;
    }

pub number_in-requires-clause-in_range : goal.number_in-requires-clause-in_range
number_in-requires-clause-in_range c k d h =
    let low = outputs_below c.args.graph.now c.output_literals-outputs.ensures.built c.output_literals-outputs.result.now c.output_literals-outputs.ensures.value k d h in
    let room = c.requires.room in
    let kept = c.words_into.auto.words in
    omega arith

pub number_in-requires-clause-narrow : goal.number_in-requires-clause-narrow
number_in-requires-clause-narrow c =
    let few = outputs_few c.args.graph.now c.args.operands.now c.requires.shape c.requires.operands c.a_width-a_width.ensures.sides in
    let same = ap length c.output_literals-outputs.ensures.value in
    omega arith

pub claimed_value-requires : goal.claimed_value-requires
claimed_value-requires c =
    let few = outputs_few c.args.graph.now c.args.operands.now c.requires.shape c.requires.operands c.a_width-a_width.ensures.sides in
    let same = c.outputs.ensures.value in
    omega arith
