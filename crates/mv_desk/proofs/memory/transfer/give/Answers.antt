use Rattle.std.proofs.Common.{arith, drop}
use Rattle.std.proofs.lemmas.Grind.{common_steps}
use Rattle.mv_desk.proofs.FilesLemmas.{given}
use Rattle.mv_desk.proofs.memory.transfer.give.Goals as goal

pub returns-clause-bytes : goal.returns-clause-bytes
returns-clause-bytes c = given c.args.bytes.now c.copy_from_slice.new.self (drop c.min-count.result c.args.into.now) c.args.start c.min-count.result
    (grind (arith, common_steps)) (grind (arith, common_steps))
