use Rattle.std.proofs.Common.{take}
use Rattle.stage_rewriter.specs.NearClauses.{AreNearOf}
use Rattle.stage_rewriter.proofs.near.near_clauses.Given as goal

abbrev pub invariant-loop-i : goal.invariant-loop-i
invariant-loop-i l = AreNearOf l.marks (take l.i l.clauses) l.near
