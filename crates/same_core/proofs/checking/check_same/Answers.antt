use Rattle.same_core.specs.Files.{compared_files_of}
use Rattle.same_core.specs.declared.checked.SameChecked.TheVariants as checked
use Rattle.same_core.proofs.DueRows.{outcomes_are_exact}
use Rattle.same_core.proofs.checking.check_same.Goals as goal

pub returns-in-Ok-clause-exact : goal.returns-in-Ok-clause-exact
returns-in-Ok-clause-exact g c =
    outcomes_are_exact c.args.limits.now (compared_files_of c.args.names.now) (g.D.Desk.seen c.args.desk.now) (g.D.Desk.seen c.check_files.new.desk) checked.Accepted c.in-Ok.ensures.accepted

pub returns-in-Err-clause-exact : goal.returns-in-Err-clause-exact
returns-in-Err-clause-exact g c =
    outcomes_are_exact c.args.limits.now (compared_files_of c.args.names.now) (g.D.Desk.seen c.args.desk.now) (g.D.Desk.seen c.check_files.new.desk) c.in-Err.answer c.in-Err.ensures.refused
