use Rattle.same_core.proofs.DueRows.{one_answer_is_due as law}
use Rattle.same_core.proofs.laws.one_answer_is_due.Goals as goal

pub returns : goal.returns
returns c = law
