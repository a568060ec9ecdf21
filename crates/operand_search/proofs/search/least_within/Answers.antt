use Rattle.std.proofs.Common.{◌≤◌, arith, length, sym, ap, subst, ◌∙◌}
use Rattle.operand_search.specs.Enumeration.{ones}
use Rattle.operand_search.specs.Runs.{NoneBefore}
use Rattle.operand_search.proofs.Running.{start_clear, start_few}
use Rattle.operand_search.proofs.search.least_within.Goals as goal

pub least_from-requires-clause-once : goal.least_from-requires-clause-once
least_from-requires-clause-once c = c.max.ensures.built.well_formed.defined_once

pub least_from-requires-clause-size : goal.least_from-requires-clause-size
least_from-requires-clause-size c =
    let value = c.inputs-count.ensures.value in
    let len = c.in_ok-zeros.ensures.len in
    let same = ap length c.deref_mut.ensures.value in
    omega arith

pub least_from-requires-clause-few : goal.least_from-requires-clause-few
least_from-requires-clause-few c =
    subst (λ xs. ones xs ≤ c.args.most_ones) (sym (c.deref_mut.ensures.value ∙ c.in_ok-zeros.ensures.items_if_clones_equal (λ y h. h))) (start_few c.args.most_ones c.inputs-count.result)

pub least_from-requires-clause-clear : goal.least_from-requires-clause-clear
least_from-requires-clause-clear c =
    subst (NoneBefore c.args.graph.now c.args.operands.now) (sym (c.deref_mut.ensures.value ∙ c.in_ok-zeros.ensures.items_if_clones_equal (λ y h. h)))
    (start_clear c.args.graph.now c.args.operands.now c.requires.shape c.max.ensures.built.well_formed.defined_once c.requires.operands c.args.most_ones c.inputs-count.result c.inputs-count.ensures.value)

pub least_from-requires-clause-lanes : goal.least_from-requires-clause-lanes
least_from-requires-clause-lanes c =
    let value = c.inputs-count.ensures.value in
    let len = c.in_ok-lanes.ensures.len in
    let same = ap length c.deref_mut-2.ensures.value in
    omega arith
