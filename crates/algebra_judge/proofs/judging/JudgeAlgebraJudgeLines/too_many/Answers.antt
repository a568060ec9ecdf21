use Rattle.algebra_judge.proofs.AlgebraTurns as turns
use Rattle.algebra_judge.proofs.judging.JudgeAlgebraJudgeLines.too_many.Goals as goal

pub returns : goal.returns
returns g c start first h = turns.too_many h.0
