use Rattle.std.proofs.Common.{subst, sym}
use Rattle.std.specs.Prelude.{IfOk}
use Rattle.command_core.specs.Files.{files_of}
use Rattle.mv_text.specs.LineReading.{lengths_of}
use Rattle.joint_prover.specs.Decisions.{IsDecision}
use Rattle.joint_prover.specs.Endings.{IsTold}
use Rattle.joint_prover.specs.Notes.{replacement_of}
use Rattle.joint_prover.proofs.Choosing.{decision_writable}
use Rattle.joint_prover.proofs.Joining.{told_beside}
use Rattle.joint_prover.proofs.proving.tell.Goals as goal

pub tell_decision-verdict-requires : goal.tell_decision-verdict-requires
tell_decision-verdict-requires g c =
    let graph = c.requires.0 in
    let task = c.requires.1 in
    decision_writable graph task (replacement_of c.in-Ok.note) c.in-Ok.decision (subst (λ o. IfOk o (λ r. IsDecision graph task (replacement_of r.1) r.0)) c.in-Ok.is c.requires.2)

pub returns-in-Ok-clause-told : goal.returns-in-Ok-clause-told
returns-in-Ok-clause-told g c =
    let lengths = lengths_of c.args.limits.now in
    let files = files_of c.args.names.now in
    let a = g.D.Desk.seen c.args.desk.now in
    let b = g.D.Desk.seen c.tell_decision-verdict.new.desk in
    let v = c.tell_decision-verdict.result in
    subst (λ o. IfOk o (λ r. IsTold lengths files a b r.0 r.1 v c.note_beside-noted.result)) (sym c.in-Ok.is)
    (subst (λ k. IsTold lengths files a b c.in-Ok.decision c.in-Ok.note v k) (sym c.note_beside-noted.ensures)
    (told_beside lengths files a b c.in-Ok.decision c.in-Ok.note v c.tell_decision-verdict.ensures.told))
