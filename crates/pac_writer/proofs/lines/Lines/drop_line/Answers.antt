use Rattle.std.proofs.Common.{ap, subst, sym}
use Rattle.algebra_core.specs.AlgebraLines.{Delete}
use Rattle.pac_writer.specs.Writing.{Made, AreLawfulSoFar}
use Rattle.pac_writer.specs.Kept.{CanFollowLines}
use Rattle.pac_writer.proofs.Combining.{deletion_is_kept, deletion_can_follow}
use Rattle.pac_writer.proofs.lines.Lines.drop_line.Goals as goal

pub put-requires-clause-kept : goal.put-requires-clause-kept
put-requires-clause-kept c = deletion_is_kept c.args.self.now c.args.id (subst AreLawfulSoFar c.self.view_is c.self.invariant.so_far) c.requires.live

pub put-requires-clause-lawful : goal.put-requires-clause-lawful
put-requires-clause-lawful c =
    subst (λ n. CanFollowLines c.args.self.now n (Delete c.args.id)) (sym (ap (λ (o : Made). o.last) c.self.view_is))
    (deletion_can_follow c.args.self.now c.args.id (subst AreLawfulSoFar c.self.view_is c.self.invariant.so_far) c.requires.live)
