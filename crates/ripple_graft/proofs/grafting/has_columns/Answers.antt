use Rattle.ripple_graft.proofs.CutTests.{ends_before, ends_last, few_pairs, no_columns}
use Rattle.ripple_graft.proofs.grafting.has_columns.Goals as goal

pub returns-then-pairs-eq0-clause-value : goal.returns-then-pairs-eq0-clause-value
returns-then-pairs-eq0-clause-value c =
    no_columns c.args.graph.now c.args.cut.now c.as_slice-pairs.result.now c.output_literals-outputs.result.now c.output_literals-outputs.ensures.value c.as_slice-pairs.ensures c.then-pairs-eq0.either

pub returns-then-pairs-eq0-clause-few : goal.returns-then-pairs-eq0-clause-few
returns-then-pairs-eq0-clause-few c = few_pairs c.args.graph.now c.args.cut.now c.output_literals-outputs.ensures.built

pub returns-then-end-outputs-clause-value : goal.returns-then-end-outputs-clause-value
returns-then-end-outputs-clause-value c =
    ends_last c.args.graph.now c.args.cut.now c.as_slice-pairs.result.now c.output_literals-outputs.result.now c.output_literals-outputs.ensures.value c.as_slice-pairs.ensures c.if-pairs-eq0.false c.if-end-outputs.true

pub returns-then-end-outputs-clause-few : goal.returns-then-end-outputs-clause-few
returns-then-end-outputs-clause-few c = few_pairs c.args.graph.now c.args.cut.now c.output_literals-outputs.ensures.built

pub returns-else-end-outputs-clause-value : goal.returns-else-end-outputs-clause-value
returns-else-end-outputs-clause-value c =
    ends_before c.args.graph.now c.args.cut.now c.as_slice-pairs.result.now c.output_literals-outputs.result.now c.output_literals-outputs.ensures.value c.as_slice-pairs.ensures c.if-pairs-eq0.false c.if-end-outputs.false

pub returns-else-end-outputs-clause-few : goal.returns-else-end-outputs-clause-few
returns-else-end-outputs-clause-few c = few_pairs c.args.graph.now c.args.cut.now c.output_literals-outputs.ensures.built
