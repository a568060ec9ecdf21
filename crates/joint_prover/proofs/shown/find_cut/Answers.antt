use Rattle.std.proofs.Common.{subst}
use Rattle.stage_rewriter.specs.Rewriting.{Agrees, IsRewritingAt}
use Rattle.joint_prover.proofs.Noting.{shown_by_more}
use Rattle.joint_prover.proofs.shown.find_cut.Goals as goal

pub returns-in-Used-clause-shown : goal.returns-in-Used-clause-shown
returns-in-Used-clause-shown c =
    let graph = c.args.graph.now in
    let u = c.in-Used in
    let left = c.loop-try.left in
    let rewriting = subst (IsRewritingAt graph c.args.operands.now left c.in-Some.cut) u.is c.in_ok-cut-2.ensures.rewriting in
    shown_by_more graph left c.args.conflicts u.cut u.extended u.log.lines c.loop-try.invariant rewriting.1

pub returns-in-Used-clause-agree : goal.returns-in-Used-clause-agree
returns-in-Used-clause-agree c = subst Agrees c.in-Used.is c.in_ok-cut-2.ensures.agrees
