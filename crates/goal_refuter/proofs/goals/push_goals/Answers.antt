use Rattle.std.proofs.Common.{[], ◌∷◌, subst, sym}
use Rattle.std.specs.List.{cons_option}
use Rattle.graph_core.specs.declared.literal.Lit.{Lit}
use Rattle.graph_core.specs.Graph.Literals.{negation_of}
use Rattle.clause_core.specs.GateClauses.{clause_of}
use Rattle.miter_encoder.specs.Encoding.{Appends}
use Rattle.miter_encoder.proofs.Appending.{appends_two}
use Rattle.goal_refuter.proofs.GoalClauses.{two_goals}
use Rattle.goal_refuter.proofs.goals.push_goals.Goals as goal

pub returns : goal.returns
returns c =
    let a = clause_of (negation_of c.args.old ∷ c.args.new ∷ []) in
    let b = clause_of (c.args.old ∷ negation_of c.args.new ∷ []) in
    let first = subst (λ (l : Lit). Appends c.args.goals.now c.push_goal.new.goals (cons_option (clause_of (l ∷ c.args.new ∷ [])) [])) c.not.ensures c.in_ok-push_goal.ensures in
    let second = subst (λ (l : Lit). Appends c.push_goal.new.goals c.push_goal-2.new.goals (cons_option (clause_of (c.args.old ∷ l ∷ [])) [])) c.not-2.ensures c.in_ok-push_goal-2.ensures in
    subst (Appends c.args.goals.now c.push_goal-2.new.goals) (sym (two_goals a b))
    (appends_two c.args.goals.now c.push_goal.new.goals c.push_goal-2.new.goals (cons_option a []) (cons_option b []) first second)
