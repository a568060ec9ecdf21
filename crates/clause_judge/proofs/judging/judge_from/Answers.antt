use Rattle.clause_judge.proofs.ClauseTurns.{none_judged}
use Rattle.clause_judge.proofs.judging.judge_from.Goals as goal

pub judge_lines-requires-clause-begins : goal.judge_lines-requires-clause-begins
judge_lines-requires-clause-begins g c = none_judged _ _ c.requires.small c.requires.greatest c.requires.begins
