use Rattle.crate_tests.proofs.OneBit.{axiom_is_live}
use Rattle.crate_tests.proofs.lines.delete_axiom.Goals as goal

pub drop_line-requires-clause-live : goal.drop_line-requires-clause-live
drop_line-requires-clause-live c = axiom_is_live c.args.lines.now c.requires
