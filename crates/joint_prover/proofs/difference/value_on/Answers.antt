use Rattle.std.proofs.Common.{◌≤◌, subst, sym}
use Rattle.graph_core.proofs.OfAiger.CallerLemmas.{shape_for}
use Rattle.joint_prover.proofs.Sizes.{few_outputs}
use Rattle.joint_prover.proofs.WrongNumbers.{valued_there}
use Rattle.joint_prover.proofs.difference.value_on.Goals as goal

pub value_at-requires-clause-shape : goal.value_at-requires-clause-shape
value_at-requires-clause-shape c = shape_for c.args.job.now.operands.now.claim.widths c.args.job.now.graph.now c.requires.job.sized

pub value_at-requires-clause-narrow : goal.value_at-requires-clause-narrow
value_at-requires-clause-narrow c = few_outputs c.args.job.now.operands.now.claim.widths c.args.job.now.graph.now c.requires.job.sized

pub claimed_value-claimed-requires : goal.claimed_value-claimed-requires
claimed_value-claimed-requires c =
    let job = c.args.job.now in
    subst (λ n. n ≤ 128) (sym c.outputs.ensures.value) (few_outputs job.operands.now.claim.widths job.graph.now c.requires.job.sized)

pub returns-clause-valued : goal.returns-clause-valued
returns-clause-valued c =
    valued_there c.args.job.now c.requires.job c.args.numbers c.outputs.result c.in_ok-value.value c.claimed_value-claimed.result c.has_addend-has_addend.result c.outputs.ensures.value
    c.in_ok-value.ensures c.claimed_value-claimed.ensures c.has_addend-has_addend.ensures
