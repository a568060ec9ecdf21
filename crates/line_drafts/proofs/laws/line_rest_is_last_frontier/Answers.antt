use Rattle.line_drafts.proofs.LineRests.{line_rest_is_last_frontier as law}
use Rattle.line_drafts.proofs.laws.line_rest_is_last_frontier.Goals as goal

pub returns : goal.returns
returns c = law
