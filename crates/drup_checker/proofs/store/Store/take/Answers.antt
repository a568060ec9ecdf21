use Rattle.std.proofs.Common.{◌≡◌, ◌≢◌, ◌<◌, ◌≤◌, ◌%◌, ◌++◌, ℕ, List, take, drop, length, ap, refl, sym, subst, ◌∙◌, arith, slice_index}
use Rattle.std.specs.List.{Any}
use Rattle.std.proofs.lemmas.List.{get_or_default}
use Rattle.clause_core.specs.Clause.{SameSet}
use Rattle.unit_prop.specs.Standing.{HasSetAt}
use Rattle.drup_checker.specs.Chains.{IsStore, Leads, clause_hash}
use Rattle.drup_checker.specs.Checking.{Held}
use Rattle.drup_checker.specs.PlaceNumbers.{numbers_of}
use Rattle.drup_checker.proofs.LiveClauses.{written}
use Rattle.drup_checker.proofs.Stores.{held_fewer, nowhere, store_fewer}
use Rattle.drup_checker.proofs.store.Store.take.Goals as goal

pub invariant_of-self : goal.invariant_of-self
invariant_of-self c =
    let i = c.self.inside in
    let r = c.in-Some.reference in
    let has = c.in-Some.ensures.some.1 in
    let hs = c.deref_mut.ensures.value in
    let ns = c.deref_mut-in-Some.ensures.value in
    let heads_len : length c.unlink.new.heads ≡ length i.heads.items = c.unlink.ensures.heads ∙ ap length hs in
    let next_len : length c.unlink.new.next ≡ length i.next.items = c.unlink.ensures.places ∙ ap length ns in
    let store = store_fewer i.max i.propagator c.remove.new.self i.heads.items i.next.items c.self.invariant.store r has.0 has.1 c.remove.ensures c.unlink.new.heads c.unlink.new.next heads_len next_len
    (subst (λ (xs : List ℕ). (k : ℕ) → slice_index xs k ≤ length i.next.items → slice_index c.unlink.new.heads k ≤ length c.unlink.new.next) hs
    (subst (λ (ys : List ℕ). (k : ℕ) → slice_index c.deref_mut.result.now k ≤ length ys → slice_index c.unlink.new.heads k ≤ length c.unlink.new.next) ns c.unlink.ensures.first))
    c.unlink.ensures.falls
    (subst (λ (p : ℕ). (k q : ℕ) → q ≢ p → Leads i.next.items (slice_index i.heads.items k) q → Leads c.unlink.new.next (slice_index c.unlink.new.heads k) q) c.place.ensures
    (subst (λ (xs : List ℕ). (k q : ℕ) → q ≢ c.place.result → Leads i.next.items (slice_index xs k) q → Leads c.unlink.new.next (slice_index c.unlink.new.heads k) q) hs
    (subst (λ (ys : List ℕ). (k q : ℕ) → q ≢ c.place.result → Leads ys (slice_index c.deref_mut.result.now k) q → Leads c.unlink.new.next (slice_index c.unlink.new.heads k) q) ns c.unlink.ensures.others))) in
    record {
      counted = c.self.invariant.counted ∙ sym (ap length (written i.next.len c.unlink.new.next i.next.items (omega (arith, i.next.ok)) next_len) ∙ next_len);
      store = subst (λ (xs : List ℕ). IsStore i.max c.remove.new.self xs (take i.next.len (c.unlink.new.next ++ drop (length c.unlink.new.next) i.next.items))) (sym (written i.heads.len c.unlink.new.heads i.heads.items (omega (arith, i.heads.ok)) heads_len))
          (subst (λ (ys : List ℕ). IsStore i.max c.remove.new.self c.unlink.new.heads ys) (sym (written i.next.len c.unlink.new.next i.next.items (omega (arith, i.next.ok)) next_len)) store);
    }

pub returns-in-None-clause-none : goal.returns-in-None-clause-none
returns-in-None-clause-none c e =
    let i = c.self.inside in
    let chain = c.chain_of-chain.result in
    let many : c.len.result ≡ length i.heads.items = omega (arith, c.len.ensures, i.heads.ok) in
    let there : c.chain_of-chain.result < length i.heads.items = omega (arith, many, c.chain_of-chain.ensures.bound) in
    let its : c.chain_of-chain.result ≡ clause_hash c.args.clause.now % length i.heads.items = c.chain_of-chain.ensures.value ∙ ap (λ (n : ℕ). clause_hash c.args.clause.now % n) many in
    let begins : c.index.result.now ≡ slice_index i.heads.items chain = c.index.ensures ∙ sym (get_or_default i.heads.items chain 0 c.index.result.now there) in
    let none = subst (λ (xs : List ℕ). (r : ℕ) → HasSetAt i.propagator.clauses c.args.clause.now r → Leads xs c.index.result.now r → ⊥) c.deref.ensures.value (c.in-None.ensures.none refl) in (
      refl,
      subst (λ (h : Held). Any (λ d. SameSet d c.args.clause.now) h.live → ⊥) c.self.view_is
          (nowhere i.max i.propagator i.heads.items i.next.items c.self.invariant.store c.args.clause.now c.lits-lits.ensures.clause chain c.index.result.now its begins none),
    )

pub returns-in-Some-clause-some : goal.returns-in-Some-clause-some
returns-in-Some-clause-some c t =
    held_fewer c.self.inside.propagator c.remove.new.self (numbers_of c.self.inside.numbers) c.args.self.now c.self.view_is (c.self.invariant.counted ∙ c.self.invariant.store.indexed.places) c.args.clause.now c.in-Some.reference c.in-Some.ensures.some.1 c.remove.ensures
