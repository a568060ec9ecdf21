use Rattle.std.proofs.Common.{subst}
use Rattle.stage_rewriter.specs.Rewriting.{Agrees, IsRewriting}
use Rattle.joint_prover.proofs.Noting.{shown_of}
use Rattle.joint_prover.proofs.shown.Shown.used.Goals as goal

pub returns-in-Used-clause-shown : goal.returns-in-Used-clause-shown
returns-in-Used-clause-shown c = λ g task well operands rewriting agrees alone.
    let u = c.in-Used in
    c.with_adder.ensures.shown g task (shown_of g task.conflicts u.cut u.extended u.log.lines well (subst (IsRewriting g operands task.conflicts) u.is rewriting)) (subst Agrees u.is agrees)
