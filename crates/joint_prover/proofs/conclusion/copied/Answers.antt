use Rattle.std.proofs.Common.{◌++◌, ◌∷◌, [], take, ap, subst, sym, ◌∙◌}
use Rattle.std.specs.List.{All}
use Rattle.std.proofs.lemmas.List.{take_all, take_more}
use Rattle.std.proofs.lemmas.List.Elements.{All-more}
use Rattle.clause_core.specs.Clause.{IsClause}
use Rattle.clause_core.specs.ClauseLines.{ClauseLine, clause_in}
use Rattle.joint_prover.proofs.conclusion.copied.Goals as goal

pub loop-line-preserved : goal.loop-line-preserved
loop-line-preserved c =
    let log = c.args.log.now in
    let i = c.loop-line.line-index in
    record {
      lines = c.in_ok-push.ensures.items ∙ ap (λ ls. ls ++ c.in_ok-copy.copy ∷ []) c.loop-line.invariant.lines ∙
          ap (λ (x : ClauseLine). take i log ++ x ∷ []) (c.in_ok-copy.ensures.line ∙ c.line-item.is) ∙ sym (take_more log i _ c.loop-line-test.true);
      once = All-more (λ line. IsClause (clause_in line)) log i _ c.loop-line-test.true c.loop-line.invariant.once (subst (λ line. IsClause (clause_in line)) c.line-item.is c.in_ok-copy.ensures.once);
    }

pub returns-clause-once : goal.returns-clause-once
returns-clause-once c = subst (All (λ line. IsClause (clause_in line))) (take_all c.loop-line.line-index c.args.log.now c.loop-line-test.false) c.loop-line.invariant.once
