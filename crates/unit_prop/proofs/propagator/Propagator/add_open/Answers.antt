use Rattle.std.proofs.Common.{◌≡◌, ◌++◌, ◌∷◌, [], ℤ, length, ap, sym, subst, ◌∙◌, arith, w32, neg_ℤ, to_z, of_z, Option, Some}
use Rattle.std.specs.List.{Contains}
use Rattle.std.proofs.lemmas.Int.{to_z-of_z}
use Rattle.clause_core.specs.Clause.{Clause}
use Rattle.clause_core.proofs.CallerLemmas.{distinct}
use Rattle.unit_prop.specs.Trail.{IsLiteralUpTo}
use Rattle.unit_prop.specs.Watches.{Hung}
use Rattle.unit_prop.specs.Standing.{Standing, standing_more}
use Rattle.unit_prop.proofs.Codes.{literal_fits, code-variable}
use Rattle.unit_prop.proofs.Lists.{if_true}
use Rattle.unit_prop.proofs.Adding.{adds_open, hung_twice, two_literals}
use Rattle.unit_prop.proofs.propagator.Propagator.add_open.Goals as goal

pub hang-requires-clause-chain : goal.hang-requires-clause-chain
hang-requires-clause-chain c =
    let i = c.self.inside in
    let within = subst (λ (s : Standing). (l : ℤ) → Contains c.args.clause.now l → IsLiteralUpTo s.trail.greatest l) (sym c.self.view_is) c.requires.within c.args.first c.requires.two.0 in
    let x : to_z w32 (of_z w32 c.args.first) ≡ c.args.first = to_z-of_z w32 c.args.first (literal_fits c.args.first within.0) in
    rw x (omega (arith, (code-variable c.args.first).1, within.1, ap (λ (k : Hung). k.chains) c.in_ok-make_room.ensures.watches, c.self.invariant.propagating.chains))

pub hang-requires-2-clause-chain : goal.hang-requires-2-clause-chain
hang-requires-2-clause-chain c =
    let i = c.self.inside in
    let within = subst (λ (s : Standing). (l : ℤ) → Contains c.args.clause.now l → IsLiteralUpTo s.trail.greatest l) (sym c.self.view_is) c.requires.within c.args.second c.requires.two.1 in
    let y : to_z w32 (of_z w32 c.args.second) ≡ c.args.second = to_z-of_z w32 c.args.second (literal_fits c.args.second within.0) in
    rw y (omega (arith, (code-variable c.args.second).1, within.1, ap (λ (k : Hung). k.chains) c.hang.ensures, ap (λ (k : Hung). k.chains) c.in_ok-make_room.ensures.watches, c.self.invariant.propagating.chains))

pub invariant_of-self-2 : goal.invariant_of-self-2
invariant_of-self-2 c =
    let i = c.self.inside in let is = c.self.invariant in
    let room = c.in_ok-make_room.ensures in
    let place : c.len-place.result ≡ length i.clauses.items = omega (arith, c.len-place.ensures, c.make_room.new.clauses.ok, ap length room.clauses) in
    let added = if_true _ _ _ _ (c.push.ensures.succeeds room.room.0) c.push.ensures.items in
    let pushed : c.push.new.self.items ≡ i.clauses.items ++ Some c.args.clause.now ∷ [] = added ∙ (ap (λ xs. xs ++ c.in_ok-own.own ∷ []) room.clauses ∙ ap (λ (d : Option Clause). i.clauses.items ++ d ∷ []) c.in_ok-own.ensures) in
    let within : (l : ℤ) → Contains c.args.clause.now l → IsLiteralUpTo i.trail.max l = subst (λ (s : Standing). (l : ℤ) → Contains c.args.clause.now l → IsLiteralUpTo s.trail.greatest l) (sym c.self.view_is) c.requires.within in
    let x : to_z w32 (of_z w32 c.args.first) ≡ c.args.first = to_z-of_z w32 c.args.first (literal_fits c.args.first (within c.args.first c.requires.two.0).0) in
    let y : to_z w32 (of_z w32 c.args.second) ≡ c.args.second = to_z-of_z w32 c.args.second (literal_fits c.args.second (within c.args.second c.requires.two.1).0) in
    let free_a : Contains i.trail.lits (neg_ℤ c.args.first) → ⊥ = subst (λ (s : Standing). Contains s.trail.literals (neg_ℤ c.args.first) → ⊥) (sym c.self.view_is) c.requires.open.0 in
    let free_b : Contains i.trail.lits (neg_ℤ c.args.second) → ⊥ = subst (λ (s : Standing). Contains s.trail.literals (neg_ℤ c.args.second) → ⊥) (sym c.self.view_is) c.requires.open.1 in
    let hung = hung_twice i.watches c.make_room.new.watches c.hang.new.self c.hang-2.new.self c.len-place.result (length i.clauses.items) _ _ c.args.first c.args.second place x y room.watches c.hang.ensures c.hang-2.ensures in
    let sound = adds_open i.clauses.items i.shorts.items i.watches i.trail i.head i.units i.refuted is c.args.clause.now (distinct c.args.clause.now c.lits-distinct.ensures.clause.rising) within room.few
    (two_literals c.args.clause.now c.args.first c.args.second c.requires.two.0 c.requires.two.1 c.requires.two.2) c.args.first c.args.second c.requires.two.2 c.requires.two.0 c.requires.two.1 free_a free_b c.hang-2.new.self hung in
    rw (pushed, room.shorts) sound

pub returns-clause-ok : goal.returns-clause-ok
returns-clause-ok c =
    let i = c.self.inside in
    let room = c.in_ok-make_room.ensures in
    let place : c.len-place.result ≡ length i.clauses.items = omega (arith, c.len-place.ensures, c.make_room.new.clauses.ok, ap length room.clauses) in
    let added = if_true _ _ _ _ (c.push.ensures.succeeds room.room.0) c.push.ensures.items in
    let pushed : c.push.new.self.items ≡ i.clauses.items ++ Some c.args.clause.now ∷ [] = added ∙ (ap (λ xs. xs ++ c.in_ok-own.own ∷ []) room.clauses ∙ ap (λ (d : Option Clause). i.clauses.items ++ d ∷ []) c.in_ok-own.ensures) in
    (place ∙ ap (λ (s : Standing). length s.clauses) c.self.view_is, rw pushed (ap (λ (s : Standing). standing_more s c.args.clause.now) c.self.view_is))
