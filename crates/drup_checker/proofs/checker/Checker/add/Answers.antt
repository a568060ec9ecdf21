use Rattle.std.proofs.Common.{◌≡◌, ◌++◌, ◌∷◌, [], ℕ, suc, Bool, List, take, drop, length, ap, refl, sym, subst, ◌∙◌, arith}
use Rattle.std.proofs.lemmas.List.{length_push}
use Rattle.std.proofs.lemmas.Result.{err_from_is_err_and}
use Rattle.clause_core.specs.Clause.{Clause}
use Rattle.clause_core.specs.GateClauses.{gate_clauses}
use Rattle.clause_core.specs.UnitPropagation.{IsRup}
use Rattle.clause_core.proofs.CallerLemmas.{as_many}
use Rattle.drup_checker.specs.Checking.{AddsRup, Checking, Held, KeepsClauses, ShowsBy, checking, held_with, kept, kept_uses}
use Rattle.drup_checker.specs.declared.keeps.Keeps.{Keeps}
use Rattle.drup_checker.specs.declared.keeps.Keeps.TheVariants as keep
use Rattle.drup_checker.proofs.LiveClauses.{written}
use Rattle.drup_checker.proofs.Kept.{is_added, kept_added}
use Rattle.drup_checker.proofs.checker.Checker.add.Goals as goal

pub returns-in_err-found-clause-not_implied : goal.returns-in_err-found-clause-not_implied
returns-in_err-found-clause-not_implied c =
    let rup = subst (λ (k : Checking). IsRup k.live c.args.clause.now) c.self.view_is c.in_err-found.ensures.err in
    let p = err_from_is_err_and c.from_residual.result c.from_residual.ensures.1 in
    (λ h r. let e = p.1 in let f = p.2 in absurd (cc), λ n. absurd (n rup))

pub returns-in_default-clause-not_implied : goal.returns-in_default-clause-not_implied
returns-in_default-clause-not_implied c =
    let told = rw c.in_default.is at c.in_ok-found.ensures.follows in
    (λ h r. let f = told.1 (subst (λ (k : Checking). IsRup k.live c.args.clause.now) (sym c.self.view_is) r) in absurd (cc), λ n. refl)

pub returns-in_err-keep-clause-not_implied : goal.returns-in_err-keep-clause-not_implied
returns-in_err-keep-clause-not_implied c =
    let told = rw c.in-Some.is at c.in_ok-found.ensures.follows in
    let rup = subst (λ (k : Checking). IsRup k.live c.args.clause.now) c.self.view_is (told.0 refl) in
    let p = err_from_is_err_and c.from_residual-in_err-keep.result c.from_residual-in_err-keep.ensures.1 in
    (λ h r. let e = p.1 in let f = p.2 in absurd (cc), λ n. absurd (n rup))

pub returns-in-Err-clause-not_implied : goal.returns-in-Err-clause-not_implied
returns-in-Err-clause-not_implied c =
    let told = rw c.in-Some.is at c.in_ok-found.ensures.follows in
    let rup = subst (λ (k : Checking). IsRup k.live c.args.clause.now) c.self.view_is (told.0 refl) in
    (λ h r. absurd (cc), λ n. absurd (n rup))

pub invariant_of-self-2 : goal.invariant_of-self-2
invariant_of-self-2 c =
    let i = c.self.inside in
    let clause = c.args.clause.now in
    let named = c.in-Some.uses.items in
    let number = c.saturating_add-number.result in
    let told = rw c.in-Some.is at c.in_ok-found.ensures.follows in
    let tight = rw c.in-Some.is at c.in_ok-found.ensures.some in
    let adds = c.in-Ok.ensures.ok ∙ ap (λ (h : Held). held_with h clause number) c.uses_of.ensures.kept in
    let many = written i.shown.len c.show.new.shown i.shown.items (omega (arith)) (omega (arith, c.show.ensures.places)) in
    let next : i.keeps ≡ keep.Chains → number ≡ suc i.count = λ is.
    let chained = c.self.invariant.chained is in
    let same = as_many (gate_clauses i.gates.now) [] i.recorded.added i.recorded.uses.items chained.chains in
    let more : c.keep.new.recorded.uses.items ≡ i.recorded.uses.items ++ named ∷ [] = c.in_ok-keep.ensures.uses ∙ ap (λ (k : Keeps). i.recorded.uses.items ++ kept_uses k (named ∷ [])) is in
    let grown = ap length more ∙ length_push i.recorded.uses.items named in
    omega (arith, grown, same, chained.counted, c.keep.new.recorded.uses.ok, c.saturating_add-number.ensures) in
    let whole = kept_added i.gates.now i.store c.put.new.self i.goals.now i.shown.items i.keeps i.recorded.added i.recorded.uses.items i.count clause c.self.invariant
    c.show.new.shown named number adds (told.0 refl) c.args.self.now.max c.requires.in_range (omega (arith, c.show.ensures.places)) tight next in
    subst (λ (now : List Bool). KeepsClauses i.gates.now c.put.new.self i.goals.now now i.keeps c.keep.new.recorded.added c.keep.new.recorded.uses.items number) (sym many)
    (subst (λ (cs : List Clause). KeepsClauses i.gates.now c.put.new.self i.goals.now c.show.new.shown i.keeps cs c.keep.new.recorded.uses.items number) (sym c.in_ok-keep.ensures.added)
    (subst (λ (us : List (List ℕ)). KeepsClauses i.gates.now c.put.new.self i.goals.now c.show.new.shown i.keeps (i.recorded.added ++ kept i.keeps (clause ∷ [])) us number) (sym c.in_ok-keep.ensures.uses) whole))

pub returns-clause-ok : goal.returns-clause-ok
returns-clause-ok c =
    let i = c.self.inside in
    let clause = c.args.clause.now in
    let named = c.in-Some.uses.items in
    let number = c.saturating_add-number.result in
    let told = rw c.in-Some.is at c.in_ok-found.ensures.follows in
    let adds = c.in-Ok.ensures.ok ∙ ap (λ (h : Held). held_with h clause number) c.uses_of.ensures.kept in
    let many = written i.shown.len c.show.new.shown i.shown.items (omega (arith)) (omega (arith, c.show.ensures.places)) in
    let shows = subst (λ (old : List Bool). ShowsBy clause i.goals.now old c.show.new.shown) c.deref_mut.ensures.value c.show.ensures.shown in
    let before = checking i.gates.now i.store i.goals.now i.shown.items i.keeps i.recorded.added i.recorded.uses.items i.count in
    let one = is_added i.gates.now i.store c.put.new.self i.goals.now i.shown.items i.keeps i.recorded.added i.recorded.uses.items i.count clause c.self.invariant
    c.show.new.shown named number adds (told.0 refl) c.saturating_add-number.ensures shows in
    subst (λ (k : Checking). AddsRup clause k (checking i.gates.now c.put.new.self i.goals.now (take i.shown.len (c.show.new.shown ++ drop (length c.show.new.shown) i.shown.items)) i.keeps c.keep.new.recorded.added c.keep.new.recorded.uses.items number)) c.self.view_is
    (subst (λ (now : List Bool). AddsRup clause before (checking i.gates.now c.put.new.self i.goals.now now i.keeps c.keep.new.recorded.added c.keep.new.recorded.uses.items number)) (sym many)
    (subst (λ (cs : List Clause). AddsRup clause before (checking i.gates.now c.put.new.self i.goals.now c.show.new.shown i.keeps cs c.keep.new.recorded.uses.items number)) (sym c.in_ok-keep.ensures.added)
    (subst (λ (us : List (List ℕ)). AddsRup clause before (checking i.gates.now c.put.new.self i.goals.now c.show.new.shown i.keeps (i.recorded.added ++ kept i.keeps (clause ∷ [])) us number)) (sym c.in_ok-keep.ensures.uses) one)))

pub returns-clause-not_implied : goal.returns-clause-not_implied
returns-clause-not_implied c =
    let told = rw c.in-Some.is at c.in_ok-found.ensures.follows in
    let rup = subst (λ (k : Checking). IsRup k.live c.args.clause.now) c.self.view_is (told.0 refl) in
    (λ h r. absurd (cc), λ n. absurd (n rup))
