use Rattle.drup_text.proofs.SameHeaders.{written_same_is_read as law}
use Rattle.drup_text.proofs.laws.written_same_is_read.Goals as goal

pub returns : goal.returns
returns c = law
