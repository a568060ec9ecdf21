use Rattle.std.specs.Prelude.{◌↔◌, IsNone}
use Rattle.std.specs.declared.option.Option.{Option}
use Rattle.std.proofs.Common.{ℕ, List, None, map, slice_index, ap, refl, subst, ◌∙◌}
use Rattle.clause_core.specs.UnitPropagation.{IsRup}
use Rattle.unit_prop.specs.Standing.{live_of}
use Rattle.drup_checker.specs.Checking.{Held, IsTightChainOf, added_numbers}
use Rattle.drup_checker.specs.Tightness.{AreTightAt}
use Rattle.drup_checker.specs.PlaceNumbers.{numbers_of}
use Rattle.drup_checker.proofs.Stores.{chain_of_places}
use Rattle.drup_checker.proofs.Tightening.{decided_follows}
use Rattle.std.proofs.lemmas.Result.{err_from_is_err_and}
use Rattle.drup_checker.proofs.store.Store.chain.Goals as goal

pub returns-in_default-clause-none : goal.returns-in_default-clause-none
returns-in_default-clause-none c =
    let told : IsNone (let o : Option (List ℕ) = None in o) ↔ ¬ (IsRup (live_of c.self.inside.propagator.clauses) c.args.clause.now) = rw c.in_default.is at c.in_ok-places.ensures.none in
    let no = subst (λ (h : Held). ¬ (IsRup h.live c.args.clause.now)) c.self.view_is (told.0 refl) in
    (λ e. no, λ n. refl)

pub returns-clause-some : goal.returns-clause-some
returns-clause-some c =
    let i = c.self.inside in
    let tight : AreTightAt i.propagator.clauses c.args.clause.now c.in-Some.places.items = rw c.in-Some.is at c.in_ok-places.ensures.some in
    let out = c.in_ok-added.ensures ∙ ap (λ (ps : List ℕ). added_numbers (map (λ r. slice_index (numbers_of i.numbers) r) ps)) c.deref.ensures.value in
    subst (λ (h : Held). IsTightChainOf h.numbered c.args.clause.now c.in_ok-added.added.items) c.self.view_is
    (chain_of_places i.propagator.clauses (numbers_of i.numbers) (c.self.invariant.counted ∙ c.self.invariant.store.indexed.places) c.args.clause.now c.in-Some.places.items c.in_ok-added.added.items tight out)

pub returns-clause-none : goal.returns-clause-none
returns-clause-none c =
    let told = rw c.in-Some.is at c.in_ok-places.ensures.none in
    (λ e. absurd (cc), λ n. absurd (let f = told.1 (λ r. n (subst (λ (h : Held). IsRup h.live c.args.clause.now) c.self.view_is r)) in cc))

pub returns-in_err-places-clause-err : goal.returns-in_err-places-clause-err
returns-in_err-places-clause-err c =
    let p = err_from_is_err_and c.from_residual.result c.from_residual.ensures.1 in
    rw p.1 (subst (λ (h : Held). IsRup h.live c.args.clause.now) c.self.view_is c.in_err-places.ensures.err)

pub returns-in_err-added-clause-err : goal.returns-in_err-added-clause-err
returns-in_err-added-clause-err c =
    let told = rw c.in-Some.is at c.in_ok-places.ensures.none in
    let rup = decided_follows (live_of c.self.inside.propagator.clauses) c.args.clause.now (λ n. let f = told.1 n in absurd (cc)) in
    let p = err_from_is_err_and c.from_residual-in_err-added.result c.from_residual-in_err-added.ensures.1 in
    rw p.1 (subst (λ (h : Held). IsRup h.live c.args.clause.now) c.self.view_is rup)
