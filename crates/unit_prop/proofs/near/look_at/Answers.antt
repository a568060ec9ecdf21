use Rattle.std.proofs.Common.{◌≡◌, ◌⊎◌, List, SFits, ℤ, neg_ℤ, pos, rules, subst, w32}
use Rattle.std.proofs.lemmas.Int.{to_z-of_z}
use Rattle.std.specs.List.{All, Contains}
use Rattle.clause_core.specs.UnitPropagation.{IsRefuted}
use Rattle.unit_prop.specs.Standing.{live_of}
use Rattle.unit_prop.proofs.Findings.{live_has}
use Rattle.unit_prop.proofs.NearSteps.{false_here, one_left}
use Rattle.unit_prop.proofs.near.look_at.Goals as goal

pub returns-in_default-other_open : goal.returns-in_default-other_open
returns-in_default-other_open c =
    let own = c.in-Some.ensures in
    let all = subst (λ (xs : List ℤ). All (λ l. (l ≡ pos 0) ⊎ Contains xs (neg_ℤ l)) c.in-Some.own.now) c.deref.ensures.value c.in_default-other_open.ensures in
    false_here (live_of c.args.clauses.now) c.args.lits.now.items c.in-Some.own.now (live_has c.args.clauses.now c.args.reference c.in-Some.own.now own.value) own.clause.literals
    all

pub returns-in_ok-push : goal.returns-in_ok-push
returns-in_ok-push c h =
    let own = c.in-Some.ensures in
    let first = c.in-Some-other_open.first in
    let small : SFits w32 first = search rules in
    let fits = to_z-of_z w32 first small in
    let all = subst (λ (xs : List ℤ). All (λ k. (k ≡ first) ⊎ Contains xs (neg_ℤ k)) c.in-Some.own.now) c.deref-2.ensures.value (rw fits at c.in-None.ensures) in
    one_left (live_of c.args.clauses.now) c.args.lits.now.items c.in-Some.own.now first (live_has c.args.clauses.now c.args.reference c.in-Some.own.now own.value)
    c.in-Some-other_open.ensures
    all
    (subst (IsRefuted (live_of c.args.clauses.now)) (rw fits at c.in_ok-push.ensures.items) h)
