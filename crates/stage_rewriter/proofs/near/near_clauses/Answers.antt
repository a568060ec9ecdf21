use Rattle.std.proofs.Common.{◌<◌, ◌≤◌, List, length, subst, arith}
use Rattle.std.proofs.lemmas.List.{take_all}
use Rattle.clause_core.specs.Clause.{Clause}
use Rattle.stage_rewriter.specs.NearClauses.{AreNearOf}
use Rattle.stage_rewriter.proofs.NearLogs.{near_more, near_none}
use Rattle.stage_rewriter.proofs.near.near_clauses.Goals as goal

pub loop-i-init : goal.loop-i-init
loop-i-init c = near_none c.args.marks.now c.args.clauses.now c.new-near.result c.new-near.ensures

pub loop-i-preserved : goal.loop-i-preserved
loop-i-preserved c =
    let below : c.loop-i.i < length c.args.clauses.now = omega arith in
    near_more c.args.marks.now c.args.clauses.now c.loop-i.i c.get.result.now c.loop-i.near c.push_near.new.near below c.get.ensures c.loop-i.invariant c.in_ok-push_near.ensures

pub returns : goal.returns
returns c =
    let end : length c.args.clauses.now ≤ c.loop-i.i = omega arith in
    subst (λ (z : List Clause). AreNearOf c.args.marks.now z c.loop-i.near) (take_all c.loop-i.i c.args.clauses.now end) c.loop-i.invariant
