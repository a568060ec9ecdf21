use Rattle.std.proofs.Common.{subst}
use Rattle.std.specs.Prelude.{IfSome, None}
use Rattle.aiger_reader.specs.Refusals.{SpellsWithin}
use Rattle.command_core.specs.Stopping.{IsGraphStop, IsStop}
use Rattle.graph_core.specs.Aiger.Sizes.{IsSizedAs}
use Rattle.command_core.specs.Files.{files_of}
use Rattle.mv_desk.specs.View.{bytes_under}
use Rattle.mv_text.specs.LineReading.{lengths_of}
use Rattle.mv_desk.specs.declared.slot.Slot.TheVariants as slot
use Rattle.joint_prover.specs.declared.verdict.Verdict.TheVariants.{Stopped}
use Rattle.joint_prover.proofs.Exactness.{enough_is_proved}
use Rattle.joint_prover.proofs.Joining.{graph_is_read, judged, reading_leaves, stopped}
use Rattle.joint_prover.proofs.proving.verify.Goals as goal

pub decide-requires-clause-sized : goal.decide-requires-clause-sized
decide-requires-clause-sized g c = subst (λ p. IsSizedAs p c.in-Ok.graph) c.profile-profile.ensures c.in-Ok.ensures.sized

pub tell-requires : goal.tell-requires
tell-requires g c = (c.in-Ok.graph, c.args.task.now, c.decide.ensures.decision)

pub returns-in-Ok-clause-verdict : goal.returns-in-Ok-clause-verdict
returns-in-Ok-clause-verdict g c =
    let a = g.D.Desk.seen c.args.desk.now in
    let r = g.D.Desk.seen c.read_graph.new.desk in
    let b = g.D.Desk.seen c.tell.new.desk in
    let files = files_of c.args.names.now in
    let opens = c.in-Ok.ensures.opens in
    judged c.args.limits.now c.args.task.now files a r (graph_is_read a r _ opens) b c.in-Ok.graph c.decide.result c.tell.result.0 c.tell.result.1
    (subst (λ p. IfSome (bytes_under a files.graph) (λ bytes. SpellsWithin p c.args.limits.now.graph bytes c.in-Ok.graph)) c.profile-profile.ensures c.in-Ok.ensures.spelled) opens.write_faults
    c.decide.ensures.decision c.decide.ensures.note c.tell.ensures.told c.tell.ensures.memory c.tell.ensures.untouched

pub returns-in-Ok-clause-enough : goal.returns-in-Ok-clause-enough
returns-in-Ok-clause-enough g c =
    enough_is_proved c.args.limits.now c.args.task.now (files_of c.args.names.now) (g.D.Desk.seen c.args.desk.now) (g.D.Desk.seen c.tell.new.desk)
    c.tell.result.0 c.tell.result.1 (returns-in-Ok-clause-verdict g c)

pub returns-in-Err-clause-verdict : goal.returns-in-Err-clause-verdict
returns-in-Err-clause-verdict g c =
    let a = g.D.Desk.seen c.args.desk.now in
    let r = g.D.Desk.seen c.read_graph.new.desk in
    let limit = c.args.limits.now.graph in
    let files = files_of c.args.names.now in
    let why = c.in-Err.why in
    stopped c.args.limits.now c.args.task.now files a r (graph_is_read a r _ c.in-Err.ensures.opens) why
    (subst (λ p. IsStop (IsGraphStop slot.Graph p limit (bytes_under a files.graph)) a r why) c.profile-profile.ensures c.in-Err.ensures.refused)

pub returns-in-Err-clause-enough : goal.returns-in-Err-clause-enough
returns-in-Err-clause-enough g c =
    enough_is_proved c.args.limits.now c.args.task.now (files_of c.args.names.now) (g.D.Desk.seen c.args.desk.now) (g.D.Desk.seen c.read_graph.new.desk)
    (Stopped c.in-Err.why) None (returns-in-Err-clause-verdict g c)

pub returns-in-Ok-clause-report : goal.returns-in-Ok-clause-report
returns-in-Ok-clause-report g c =
    let a = g.D.Desk.seen c.args.desk.now in
    let r = g.D.Desk.seen c.read_graph.new.desk in
    let b = g.D.Desk.seen c.tell.new.desk in
    reading_leaves (lengths_of c.args.limits.now) (files_of c.args.names.now) a r b c.decide.result c.tell.result.0 c.tell.result.1 (graph_is_read a r _ c.in-Ok.ensures.opens) c.tell.ensures.told c.tell.ensures.untouched
