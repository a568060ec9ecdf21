use Rattle.pair_trim.proofs.TrimmedClauses.{kept_clauses_are_trimmed as law}
use Rattle.pair_trim.proofs.laws.kept_clauses_are_trimmed.Goals as goal

pub returns : goal.returns
returns c = law
