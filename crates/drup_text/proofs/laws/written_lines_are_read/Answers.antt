use Rattle.drup_text.proofs.WrittenAgain.{written_lines_are_read}
use Rattle.drup_text.proofs.laws.written_lines_are_read.Goals as goal

pub returns : goal.returns
returns c = written_lines_are_read
