use Rattle.std.proofs.Common.{take}
use Rattle.std.specs.List.{All}
use Rattle.clause_core.specs.Clause.{IsClause}
use Rattle.clause_core.specs.ClauseLines.{clause_in}
use Rattle.same_core.proofs.certificate.have_literals_once.Given as goal

abbrev pub invariant-loop-line : goal.invariant-loop-line
invariant-loop-line l = All (λ line. IsClause (clause_in line)) (take l.line-index l.lines)
