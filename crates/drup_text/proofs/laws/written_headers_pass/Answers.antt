use Rattle.drup_text.proofs.HeaderExact.{written_headers_pass as law}
use Rattle.drup_text.proofs.laws.written_headers_pass.Goals as goal

pub returns : goal.returns
returns c = law
