use Rattle.std.proofs.Common.{subst}
use Rattle.std.specs.Prelude.{IfOk}
use Rattle.joint_prover.specs.Decisions.{IsDecision}
use Rattle.joint_prover.specs.Endings.{replacement_of_found}
use Rattle.joint_prover.proofs.proving.decide_rewritten.Goals as goal

pub decide_by_plans-requires-clause-alone : goal.decide_by_plans-requires-clause-alone
decide_by_plans-requires-clause-alone c = c.alone-alone.ensures.shown c.args.job.now.graph.now c.args.job.now.task c.without_cut-extended.ensures

pub decide_by_plans-requires-clause-used : goal.decide_by_plans-requires-clause-used
decide_by_plans-requires-clause-used c =
    let job = c.args.job.now in
    c.used-used.ensures.shown job.graph.now job.task c.requires.job.well_formed job.operands.now c.requires.rewriting c.requires.agrees
    (c.alone-alone.ensures.shown job.graph.now job.task c.without_cut-extended.ensures)

pub decide_by_plans-requires-clause-differing : goal.decide_by_plans-requires-clause-differing
decide_by_plans-requires-clause-differing c =
    let job = c.args.job.now in
    c.numbers_of.ensures job.graph.now job.operands.now job.task.conflicts c.requires.rewriting

pub returns-clause-decision : goal.returns-clause-decision
returns-clause-decision c =
    let job = c.args.job.now in
    subst (λ used. IfOk c.decide_by_plans.result (λ r. IsDecision job.graph.now job.task (replacement_of_found used r.1) r.0)) c.used-used.ensures.named c.decide_by_plans.ensures.decision
