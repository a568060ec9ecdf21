use Rattle.std.proofs.Common.{◌≡◌, ◌<◌, ℕ, length, ap, sym, subst, ◌∙◌, arith}
use Rattle.clause_core.specs.Clause.{IsClauseInRange}
use Rattle.drup_checker.specs.Checking.{Held}
use Rattle.drup_checker.specs.PlaceNumbers.{numbers_of}
use Rattle.drup_checker.proofs.Stores.{renew_none, renew_some}
use Rattle.drup_checker.proofs.store.Store.renewed.Goals.{in-Some+in_ok-append_lits-in-Some, in-None}
use Rattle.drup_checker.proofs.store.Store.renewed.Goals as goal

pub append_lits-requires-clause-range : goal.append_lits-requires-clause-range
append_lits-requires-clause-range c =
    subst (λ (m : ℕ). IsClauseInRange m c.in-Some.lits.now) (sym (ap (λ (h : Held). h.max) c.loop-place.invariant ∙ (sym (ap (λ (h : Held). h.max) c.self.view_is) ∙ c.self.invariant.store.greatest)))
    (c.self.invariant.store.kept c.loop-place.place c.in-Some.lits.now c.in-Some.ensures.value).1

pub loop-place-preserved : goal.loop-place-preserved
loop-place-preserved c =
    let below : c.loop-place.place < length c.self.inside.propagator.clauses = omega (arith, c.self.invariant.store.indexed.places, c.len-place-end.ensures, c.self.inside.next.ok) in
    let even : length (numbers_of c.self.inside.numbers) ≡ length c.self.inside.propagator.clauses = c.self.invariant.counted ∙ c.self.invariant.store.indexed.places in
    elim c.match-get.branch [
      | in-Some+in_ok-append_lits-in-Some w ↦ rw w.new-is (renew_some c.self.inside.propagator (numbers_of c.self.inside.numbers) c.args.self.now c.loop-place.new w.append_lits.new.self c.loop-place.place _ w.in-Some.lits.now even below w.in-Some.ensures.value
          (sym w.get-in-Some.ensures) c.loop-place.invariant w.in_ok-append_lits-in-Some.ensures)
      | in-None w ↦ rw w.new-is (renew_none c.self.inside.propagator (numbers_of c.self.inside.numbers) c.args.self.now c.loop-place.new c.loop-place.place even below w.in-None.ensures.value c.loop-place.invariant)
    ]
