use Rattle.std.proofs.Common.{subst}
use Rattle.std.specs.List.{All}
use Rattle.std.proofs.lemmas.List.{take_all}
use Rattle.std.proofs.lemmas.List.Elements.{All-more}
use Rattle.clause_core.specs.Clause.{IsClause}
use Rattle.clause_core.specs.ClauseLines.{clause_in}
use Rattle.same_core.proofs.certificate.have_literals_once.Goals as goal

pub loop-line-preserved : goal.loop-line-preserved
loop-line-preserved c =
    All-more (λ line. IsClause (clause_in line)) c.args.lines.now c.loop-line.line-index _ c.loop-line-test.true c.loop-line.invariant (subst (λ line. IsClause (clause_in line)) c.line-item.is c.has_literals_once.ensures)

pub returns : goal.returns
returns c = subst (All (λ line. IsClause (clause_in line))) (take_all c.loop-line.line-index c.args.lines.now c.loop-line-test.false) c.loop-line.invariant
