use Rattle.std.proofs.Common.{sym, subst, ◌∙◌}
use Rattle.std.specs.Prelude.{IfSome}
use Rattle.frontier_core.specs.Plan.{IsPlan}
use Rattle.line_drafts.specs.LineRests.{IsLineRest}
use Rattle.pac_writer.specs.Writing.{written_ledger}
use Rattle.joint_prover.proofs.DraftRemainders.{draft_remainder}
use Rattle.joint_prover.proofs.drafted.decide_by_lines.Goals as goal

pub end_plan-requires-clause-left : goal.end_plan-requires-clause-left
end_plan-requires-clause-left c =
    let l = c.in_ok-lines.lines in
    let after = c.write_drafts.new.lines in
    let p = c.args.plan.now in
    let same = c.requires.shown.extended ∙ sym c.in_ok-lines.ensures.extended in (
      l,
      c.in_ok-lines.ensures.start,
      c.in_ok-lines.ensures.sides,
      c.in_ok-lines.ensures.extended,
      draft_remainder l after c.in_ok-lines.ensures.start c.write_drafts.ensures.goes_on c.last-last.ensures.lawful p.steps (subst (λ x. IsPlan x p.steps) same c.requires.plan) c.in-Some.poly c.in-Some.id
          (subst (λ r. IfSome r (λ x. IsLineRest after.extended after.sides after.table (written_ledger after).live x.0 x.1)) c.in-Some.is c.in_ok-poly.ensures.rest) c.write_drafts.ensures.few,
    )
