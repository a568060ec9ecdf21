use Rattle.std.proofs.Common.{[], ◌∷◌, subst}
use Rattle.std.specs.Prelude.{IfOk, IsTrue}
use Rattle.std.proofs.lemmas.Result.{on_ok_weaker}
use Rattle.graph_core.specs.declared.literal.Lit.{Lit}
use Rattle.graph_core.specs.Graph.Literals.{negation_of}
use Rattle.clause_core.specs.GateClauses.{signed_of}
use Rattle.clause_core.specs.UnitPropagation.{IsRup}
use Rattle.goal_refuter.specs.Beginnings.{StaysBegun}
use Rattle.goal_refuter.proofs.Beginning.{both_shown}
use Rattle.goal_refuter.proofs.showing.show_equal.Goals as goal

pub show-requires-2 : goal.show-requires-2
show-requires-2 c = (c.requires.0, c.requires.1, c.in_ok-show.ensures.begun c.requires.0 c.requires.1 c.requires.2)

pub returns-clause-begun : goal.returns-clause-begun
returns-clause-begun c =
    let stays = StaysBegun c.args.conflicts c.args.solver.now c.args.log.now c.show-2.new.solver c.show-2.new.log in
    on_ok_weaker {Q = stays} c.show-2.result (λ more max given begun. more max given (c.in_ok-show.ensures.begun max given begun)) c.show-2.ensures.begun

pub returns-clause-shown : goal.returns-clause-shown
returns-clause-shown c =
    let one = c.args.one in
    let other = c.args.other in
    let mid = c.show.new.solver.live in
    let new = c.show-2.new.solver.live in
    both_shown mid new (signed_of (negation_of one) ∷ signed_of other ∷ []) (signed_of one ∷ signed_of (negation_of other) ∷ []) c.show-2.result
    (subst (λ (l : Lit). IsRup mid (signed_of l ∷ signed_of other ∷ [])) c.not.ensures (c.in_ok-show.ensures.shown c.if-not-branch.false))
    c.show-2.ensures.live
    (subst (λ (l : Lit). IfOk c.show-2.result (λ s. IsTrue s → IsRup new (signed_of one ∷ signed_of l ∷ []))) c.not-2.ensures c.show-2.ensures.shown)
