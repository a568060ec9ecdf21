use Rattle.std.proofs.Common.{◌≡◌, take}
use Rattle.std.specs.List.{All}
use Rattle.clause_core.specs.Clause.{IsClause}
use Rattle.clause_core.specs.ClauseLines.{clause_in}
use Rattle.joint_prover.proofs.conclusion.copied.Given as goal

abbrev pub invariant-loop-line : goal.invariant-loop-line
invariant-loop-line l = record {
  lines : l.lines.items ≡ take l.line-index l.log;
  once : All (λ line. IsClause (clause_in line)) (take l.line-index l.log);
}
