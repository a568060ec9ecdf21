use Rattle.drup_text.proofs.HeaderExact.{passing_headers_are_not_refused as law}
use Rattle.drup_text.proofs.laws.passing_headers_are_not_refused.Goals as goal

pub returns : goal.returns
returns c = law
