use Rattle.std.proofs.Common.{◌≡◌, ◌<◌, ◌+◌, ◌%◌, ◌++◌, ◌∷◌, [], ℕ, List, length, ap, set, sym, subst, ◌∙◌, arith, slice_index}
use Rattle.std.proofs.lemmas.List.{get_or_default, length_push}
use Rattle.clause_core.specs.Clause.{IsClauseInRange}
use Rattle.drup_checker.specs.Chains.{IsStore, clause_hash}
use Rattle.drup_checker.specs.Checking.{Held, held, held_with}
use Rattle.drup_checker.specs.PlaceNumbers.{numbers_of}
use Rattle.drup_checker.proofs.Stores.{held_more, store_more}
use Rattle.drup_checker.proofs.store.Store.append.Goals as goal

pub invariant_of-self-2 : goal.invariant_of-self-2
invariant_of-self-2 c =
    let i = c.self.inside in
    let chain = c.chain_of-chain.result in
    let many : c.len.result ≡ length i.heads.items = omega (arith, c.len.ensures, i.heads.ok) in
    let there : c.chain_of-chain.result < length i.heads.items = omega (arith, many, c.chain_of-chain.ensures.bound) in
    let its : c.chain_of-chain.result ≡ clause_hash c.args.clause.now % length i.heads.items = c.chain_of-chain.ensures.value ∙ ap (λ (n : ℕ). clause_hash c.args.clause.now % n) many in
    let range = subst (λ (m : ℕ). IsClauseInRange m c.args.clause.now) (sym (ap (λ (h : Held). h.max) c.self.view_is) ∙ c.self.invariant.store.greatest) c.requires in
    let begins : c.index.result.now ≡ slice_index i.heads.items chain = c.index.ensures ∙ sym (get_or_default i.heads.items chain 0 c.index.result.now there) in
    let pushed : c.push.new.items.items ≡ i.next.items ++ slice_index i.heads.items chain ∷ [] =
    c.push.ensures ∙ (ap (λ (xs : List ℕ). xs ++ c.index.result.now ∷ []) c.in_ok-reserve.ensures.items ∙ ap (λ (x : ℕ). i.next.items ++ x ∷ []) begins) in
    let store = store_more i.max i.propagator c.add.new.self i.heads.items i.next.items c.self.invariant.store c.args.clause.now c.lits-lits.ensures.clause range
    c.in_ok-reference.reference c.in_ok-reference.ensures.ok c.in_ok-reference.ensures.few chain its there in
    let numbers : numbers_of c.push-2.new.self ≡ numbers_of i.numbers ++ c.args.number ∷ [] = c.push-2.ensures ∙ ap (λ (xs : List ℕ). xs ++ c.args.number ∷ []) c.in_ok-reserve-2.ensures.numbers in
    record {
      store = subst (λ (p : ℕ). IsStore i.max c.add.new.self (set i.heads.items chain (p + 1)) c.push.new.items.items) (sym c.place.ensures)
          (subst (λ (ns : List ℕ). IsStore i.max c.add.new.self (set i.heads.items chain (c.in_ok-reference.reference + 1)) ns) (sym pushed) store);
      counted = ap length numbers ∙ (length_push (numbers_of i.numbers) c.args.number ∙ (ap (λ (n : ℕ). n + 1) c.self.invariant.counted ∙ (sym (length_push i.next.items (slice_index i.heads.items chain)) ∙ ap length (sym pushed))));
    }

pub returns-clause-ok : goal.returns-clause-ok
returns-clause-ok c =
    let numbers : numbers_of c.push-2.new.self ≡ numbers_of c.self.inside.numbers ++ c.args.number ∷ [] = c.push-2.ensures ∙ ap (λ (xs : List ℕ). xs ++ c.args.number ∷ []) c.in_ok-reserve-2.ensures.numbers in
    subst (λ (ns : List ℕ). held c.add.new.self ns ≡ held_with c.args.self.now c.args.clause.now c.args.number) (sym numbers)
    (held_more c.self.inside.propagator c.add.new.self (numbers_of c.self.inside.numbers) c.args.self.now c.self.view_is (c.self.invariant.counted ∙ c.self.invariant.store.indexed.places) c.args.clause.now c.args.number c.in_ok-reference.reference c.in_ok-reference.ensures.ok)
