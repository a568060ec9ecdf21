use Rattle.std.proofs.Common.{arith}
use Rattle.clause_judge.proofs.ClauseTurns as turns
use Rattle.clause_judge.proofs.judging.JudgeClausesJudgeLines.too_many.Goals as goal

pub returns : goal.returns
returns g c start first h = turns.have_failed h.same (turns.too_many h (omega arith) (g.D.Desk.seen c.args._desk.now))
