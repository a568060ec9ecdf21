use Rattle.std.proofs.Common.{ap, subst}
use Rattle.command_core.specs.Files.{Files}
use Rattle.mv_desk.specs.HonestDesk.{view_of}
use Rattle.verdict_program.specs.Making.{IsMade}
use Rattle.verdict_program.proofs.TrialLemmas.{made_is_held, write_refused}
use Rattle.verdict_program.proofs.trial.test.Goals as goal

pub judge-requires-clause-held : goal.judge-requires-clause-held
judge-requires-clause-held c =
    made_is_held c.new-desk.result c.create_file.new.desk c.args.multiplier.sample c.args.graph.now c.names.result.graph.now
    (ap (λ (f : Files). f.graph) c.names.ensures) c.requires.made c.in-Written.ensures.outcome

pub refused-requires : goal.refused-requires
refused-requires c =
    write_refused _ _ (view_of c.new-desk.result) (view_of c.create_file.new.desk) c.in-Stopped.why
    (subst (IsMade _ _ (view_of c.new-desk.result) (view_of c.create_file.new.desk)) c.in-Stopped.is c.create_file.ensures.outcome)
