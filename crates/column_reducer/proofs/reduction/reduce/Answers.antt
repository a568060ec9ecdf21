use Rattle.std.proofs.Common.{ap, sym, subst, ◌∙◌}
use Rattle.graph_core.specs.Graph.Extended.{modulus}
use Rattle.graph_core.specs.Graph.Operands.{ReadInputs}
use Rattle.column_reducer.specs.Gathering.{IsWalkOutcome}
use Rattle.column_reducer.proofs.Finish.{goes_after}
use Rattle.column_reducer.proofs.reduction.reduce.Goals as goal

pub grow-requires : goal.grow-requires
grow-requires c = record {
  inputs = subst (ReadInputs c.args.plan.now.extended.graph) (sym c.operands.ensures) c.requires.inputs;
  same_modulus = c.last-last.ensures.lawful.same_modulus ∙ ap modulus c.requires.same_graph;
}

pub write_outcome-requires-clause-outcome : goal.write_outcome-requires-clause-outcome
write_outcome-requires-clause-outcome c =
    let p = c.args.plan.now in
    let mid = c.grow.new.self in
    let grows = c.in_ok-outcome.ensures.grows in (
      p,
      c.args.budget,
      sym (grows.extended ∙ c.requires.same_graph),
      subst (λ s. IsWalkOutcome p s mid.table c.args.budget c.in_ok-outcome.outcome) (c.operands.ensures ∙ sym grows.sides) c.in_ok-outcome.ensures.did,
    )

pub returns-clause-goes_on : goal.returns-clause-goes_on
returns-clause-goes_on c = goes_after c.args.lines.now c.grow.new.self c.write_outcome.new.lines c.in_ok-outcome.ensures.grows c.write_outcome.ensures.goes_on
