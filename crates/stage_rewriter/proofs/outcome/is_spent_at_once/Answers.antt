use Rattle.std.proofs.Common.{◌<◌, length, arith}
use Rattle.goal_refuter.proofs.Outcomes.{seen_spent}
use Rattle.stage_rewriter.proofs.outcome.is_spent_at_once.Goals as goal

pub returns : goal.returns
returns c =
    let goals = c.in_ok-goals.goals in
    let some : 0 < length goals = omega (arith, c.len.ensures, c.if-len-eq0.false) in
    seen_spent c.args.extended.now goals c.get.result.now c.stays_open.result c.in_ok-goals.ensures some c.get.ensures c.stays_open.ensures
