use Rattle.std.proofs.Common.{◌≡◌, ◌+◌, ◌≤◌, ◌<◌, ◌^◌, length, arith, ap, subst, ◌∙◌}
use Rattle.graph_core.specs.declared.bounds.TheConstants.{MOST_OUTPUTS}
use Rattle.column_reducer.specs.Gathering.{IsEndedWalk, IsWalkOutcome}
use Rattle.column_reducer.proofs.Finish.{goes_itself, goes_on, last_axiom, many_gates}
use Rattle.column_reducer.proofs.reduction.write_outcome.Goals as goal

pub write_batches-requires-clause-room : goal.write_batches-requires-clause-room
write_batches-requires-clause-room c =
    let l = c.args.lines.now in
    let w = c.requires.outcome in
    let p = w.0 in
    let ended : IsEndedWalk p l.sides l.table w.1 c.in-Ended.ended = subst (IsWalkOutcome p l.sides l.table w.1) c.in-Ended.is w.3 in
    let few : length c.in-Ended.ended.gathered.batches.items ≤ length p.extended.gates + 1 = ended.total.few in
    let same : length p.extended.gates ≡ length l.extended.gates = ap (λ e. length e.gates) w.2 in
    let many : length l.extended.gates ≤ l.extended.max + 1 = many_gates l.extended c.requires.extension in
    let last : l.last ≡ l.extended.max + length l.extended.graph.outputs = last_axiom l c.last-last.ensures.lawful c.requires.new in
    let small : l.extended.max < 2 ^ 31 = subst (λ e. e.max < 2 ^ 31) c.extended.ensures c.max-max.ensures.small in
    let outputs : length l.extended.graph.outputs ≤ MOST_OUTPUTS = subst (λ g. length g.outputs ≤ MOST_OUTPUTS) (c.graph.ensures ∙ ap (λ e. e.graph) c.extended-2.ensures) c.outputs-outputs.ensures.built.few_outputs in
    omega arith

pub returns-in_err-id-in-Ended-clause-goes_on : goal.returns-in_err-id-in-Ended-clause-goes_on
returns-in_err-id-in-Ended-clause-goes_on c = goes_on c.args.lines.now c.write_batches.new.lines c.write_batches.ensures.graph

pub returns-in-Passed-clause-goes_on : goal.returns-in-Passed-clause-goes_on
returns-in-Passed-clause-goes_on c = goes_itself c.args.lines.now c.requires.unclosed

pub returns-in_ok-id-in-Ended-clause-goes_on : goal.returns-in_ok-id-in-Ended-clause-goes_on
returns-in_ok-id-in-Ended-clause-goes_on c = goes_on c.args.lines.now c.write_batches.new.lines c.write_batches.ensures.graph
