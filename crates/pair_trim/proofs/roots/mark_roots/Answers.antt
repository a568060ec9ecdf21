use Rattle.std.proofs.Common.{◌≡◌, ◌+◌, ◌++◌, ◌∷◌, [], Bool, List, take, sym, ap, subst, ◌∙◌, arith}
use Rattle.std.proofs.lemmas.List.{take_more}
use Rattle.clause_core.specs.Clause.{Clause}
use Rattle.miter_encoder.specs.declared.goal.Goal.{Goal}
use Rattle.pair_trim.specs.Marking.{MarksRoots, unmet}
use Rattle.pair_trim.proofs.MarkedRoots.{roots_more, unmet_met, unmet_more}
use Rattle.pair_trim.proofs.roots.mark_roots.Goals.{then-not-goal, else-not-goal}
use Rattle.pair_trim.proofs.roots.mark_roots.Goals as goal

pub loop-goal-preserved : goal.loop-goal-preserved
loop-goal-preserved c =
    let goals = c.args.goals.now in
    let i = c.loop-goal.goal-index in
    let g = c.goal-item.result in
    let more : take (i + 1) goals ≡ take i goals ++ g ∷ [] = take_more goals i g (omega arith) ∙ ap (λ (x : Goal). take i goals ++ x ∷ []) (sym c.goal-item.is) in
    elim c.if-not-goal.branch [
      | then-not-goal w ↦
          subst (λ (gs : List Clause). MarksRoots gs c.args.clauses.now c.args.marks.now c.if-not-goal.marks) (sym (ap unmet more ∙ unmet_more (take i goals) g w.if-not-goal.true))
          (subst (λ (ms : List Bool). MarksRoots (unmet (take i goals) ++ g.clause ∷ []) c.args.clauses.now c.args.marks.now ms) (sym w.marks-is)
          (roots_more (unmet (take i goals)) c.args.clauses.now g.clause c.args.marks.now c.loop-goal.marks w.mark_first.new.marks c.loop-goal.invariant w.mark_first.ensures))
      | else-not-goal w ↦
          subst (λ (gs : List Clause). MarksRoots gs c.args.clauses.now c.args.marks.now c.if-not-goal.marks) (sym (ap unmet more ∙ unmet_met (take i goals) g w.if-not-goal.false))
          (subst (λ (ms : List Bool). MarksRoots (unmet (take i goals)) c.args.clauses.now c.args.marks.now ms) (sym w.marks-is) c.loop-goal.invariant)
    ]
