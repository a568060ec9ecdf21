-- What stands, and what is refuted by it.
use Rattle.std.specs.Prelude.{◌≡◌, ℕ, zero, suc, ◌+◌, ◌<◌, ◌≤◌, List, [], ◌∷◌, ◌++◌, length, take, ℤ, pos, neg_ℤ, slice_index_or}
use Rattle.std.specs.declared.option.Option.{Option}
use Rattle.std.specs.declared.option.Option.TheVariants.{None, Some}
use Rattle.std.specs.List.{All, Contains}
use Rattle.std.proofs.Common.{refl, sym, ap, subst, ◌∙◌, arith, inl, inr, ⊎_elim, length-append}
use Rattle.std.proofs.lemmas.List.{take-append-le, get_or-take, length-take-le}
use Rattle.std.proofs.lemmas.List.Elements.{All-nil, All-cons}
use Rattle.clause_core.specs.Clause.{Clause, IsSubset}
use Rattle.clause_core.specs.UnitPropagation.{IsUnit, IsFalsified, IsRefuted, IsChain}
use Rattle.clause_core.proofs.Places.{below_suc, same_at}
use Rattle.clause_core.proofs.Decided.{contains_here, contains_there}
use Rattle.clause_core.proofs.Propagation.{fixpoint_leaves_no_chain}
use Rattle.unit_prop.specs.Standing.{Standing, clause_at, live_of, IsReason, IsSound, IsConflict, IsPropagated, standing_with, at, reason_at}
use Rattle.unit_prop.specs.Trail.{IsLiteralUpTo, IsOpen}
use Rattle.unit_prop.proofs.Findings as findings
use Rattle.unit_prop.proofs.TrailSteps.{apart_push, at_push}

-- an element after others
pub front : {X : Type 0} (xs ys : List X) (i : ℕ) (d : X) → i < length xs → slice_index_or (xs ++ ys) i d ≡ slice_index_or xs i d
front [] ys i d h = absurd (omega arith)
front (x ∷ xs) ys zero d h = refl
front (x ∷ xs) ys (suc i) d h = front xs ys i d (omega arith)

pub behind : {X : Type 0} (xs : List X) (y : X) (d : X) (i : ℕ) → i ≡ length xs → slice_index_or (xs ++ y ∷ []) i d ≡ y
behind [] y d i e = rw e refl
behind (x ∷ xs) y d zero e = absurd (omega arith)
behind (x ∷ xs) y d (suc i) e = behind xs y d i (omega arith)

-- ---- the live clauses
pub live_has : (clauses : List (Option Clause)) (r : ℕ) (c : Clause) → clause_at clauses r ≡ Some c → Contains (live_of clauses) c
live_has = findings.live_has

pub wider : (a b : List ℤ) (c : Clause) (l : ℤ) → IsSubset a b → IsUnit a c l → IsUnit b c l
wider a b c l sub u = (u.0, λ k has. ⊎_elim inl (λ n. inr (sub (neg_ℤ k) n)) (u.1 k has))

-- an open literal is assumed
pub sound_with : (s : Standing) (l : ℤ) → IsSound s → IsLiteralUpTo s.trail.greatest l → IsOpen s.trail.literals l → IsSound (standing_with s l None)
sound_with s l h within free = record {
  paired = length-append s.trail.reasons (None ∷ []) ∙ ap (λ n. n + 1) h.paired ∙ sym (length-append s.trail.literals (l ∷ []));
  within = λ i b. ⊎_elim (λ p. subst (IsLiteralUpTo s.trail.greatest) (sym p.1) (h.within i p.0)) (λ p. subst (IsLiteralUpTo s.trail.greatest) (sym p.1) within) (at_push s.trail.literals l i b);
  apart = apart_push s.trail.literals l h.apart free;
  forced = λ i r b e. ⊎_elim (old i r e) (λ same. absurd (let f : None ≡ Some r = sym (behind s.trail.reasons None None i (same ∙ sym h.paired)) ∙ e in cc)) (below_suc i (length lits) (omega (arith, length-append lits (l ∷ []))));
}
  where
    lits : List ℤ
    lits = s.trail.literals

    old : (i r : ℕ) → reason_at (s.trail.reasons ++ None ∷ []) i ≡ Some r → i < length lits → IsReason s.clauses (take i (lits ++ l ∷ [])) (at (lits ++ l ∷ []) i) r
    old i r e b =
        let f = h.forced i r b (sym (front s.trail.reasons (None ∷ []) i None (omega (arith, h.paired))) ∙ e) in
        subst (λ (xs : List ℤ). IsReason s.clauses xs (at (lits ++ l ∷ []) i) r) (sym (take-append-le i lits (l ∷ []) (omega arith)))
        (subst (λ k. IsReason s.clauses (take i lits) k r) (sym (front lits (l ∷ []) i (pos 0) b)) f)

-- ---- what is refuted
-- one more clause before a chain
pub refuted_before : (live : List Clause) (assumed : List ℤ) (c : Clause) (l : ℤ) → Contains live c → IsUnit assumed c l → IsRefuted live (l ∷ assumed) → IsRefuted live assumed
refuted_before live assumed c l has unit r = go r.0 r.1 r.2
  where
    go : (chain : List Clause) → All (Contains live) chain → IsChain (l ∷ assumed) chain → IsRefuted live assumed
    go [] all chain = absurd chain
    go (d ∷ ds) all chain = (c ∷ d ∷ ds, All-cons (Contains live) c (d ∷ ds) has all, (l, unit, chain))

pub refuted_now : (live : List Clause) (assumed : List ℤ) (c : Clause) → Contains live c → IsFalsified assumed c → IsRefuted live assumed
refuted_now live assumed c has f = (c ∷ [], All-cons (Contains live) c [] has (All-nil (Contains live)), f)

-- what stands among the first n literals, and what was assumed
pub record Covers (s : Standing) (assumed : List ℤ) (n : ℕ) (standing : List ℤ) : Type 0 where
  pub first : (j : ℕ) → j < n → Contains standing (at s.trail.literals j)
  pub rest : IsSubset assumed standing

prefix_covered : (lits standing : List ℤ) (n : ℕ) → n ≤ length lits → ((j : ℕ) → j < n → Contains standing (at lits j)) → IsSubset (take n lits) standing
prefix_covered lits standing n b h l has =
    let low : has.0 < n = omega (arith, has.1, length-take-le n lits b) in
    subst (Contains standing) (same_at lits has.0 (pos 0) l (omega arith) ∙ sym (get_or-take n lits has.0 l low) ∙ has.2) (h has.0 low)

pub covered : (lits standing : List ℤ) → ((j : ℕ) → j < length lits → Contains standing (at lits j)) → IsSubset lits standing
covered lits standing h l has = subst (Contains standing) (same_at lits has.0 (pos 0) l has.1 ∙ has.2) (h has.0 has.1)

-- Where the first m literals and what was assumed refute the clauses, so does what was assumed alone.
module _ (s : Standing) (h : IsSound s) (assumed : List ℤ) (m : ℕ) (b : m ≤ length s.trail.literals) (free : (i : ℕ) → i < m → reason_at s.trail.reasons i ≡ None → Contains assumed (at s.trail.literals i))
    (end : (standing : List ℤ) → Covers s assumed m standing → IsRefuted (live_of s.clauses) standing) where
  by_reason : (n : ℕ) → n < m → (standing : List ℤ) → Covers s assumed n standing → ((st : List ℤ) → Covers s assumed (n + 1) st → IsRefuted (live_of s.clauses) st) → (o : Option ℕ) → reason_at s.trail.reasons n ≡ o → IsRefuted (live_of s.clauses) standing
  by_reason n low standing cover more None f =
      more standing
      (record { first = λ j k. ⊎_elim (cover.first j) (λ same. subst (λ i. Contains standing (at s.trail.literals i)) (sym same) (cover.rest (at s.trail.literals n) (free n low f))) (below_suc j n k); rest = cover.rest })
  by_reason n low standing cover more (Some r) f =
      let why = h.forced n r (omega arith) f in
      let sub = prefix_covered s.trail.literals standing n (omega arith) cover.first in
      refuted_before (live_of s.clauses) standing why.0 (at s.trail.literals n) (live_has s.clauses r why.0 why.1) (wider (take n s.trail.literals) standing why.0 (at s.trail.literals n) sub why.2)
      (more (at s.trail.literals n ∷ standing)
      (record {
        first = λ j k. ⊎_elim (λ low. contains_there (at s.trail.literals n) standing (at s.trail.literals j) (cover.first j low)) (λ same. subst (λ i. Contains (at s.trail.literals n ∷ standing) (at s.trail.literals i)) (sym same) (contains_here (at s.trail.literals n) standing)) (below_suc j n k);
        rest = λ l in'. contains_there (at s.trail.literals n) standing l (cover.rest l in');
      }))

  along : (k n : ℕ) → n + k ≡ m → (standing : List ℤ) → Covers s assumed n standing → IsRefuted (live_of s.clauses) standing
  along zero n e standing cover = end standing (record { first = λ j low. cover.first j (omega arith); rest = cover.rest })
  along (suc k) n e standing cover = by_reason n (omega arith) standing cover (along k (n + 1) (omega arith)) (reason_at s.trail.reasons n) refl

  pub refuted_along : IsRefuted (live_of s.clauses) assumed
  refuted_along = along m 0 (omega arith) assumed (record { first = λ j low. absurd (omega arith); rest = λ l in'. in' })

-- a conflict refutes what was assumed
pub refuted_by : (s : Standing) (q : ℕ) (assumed : List ℤ) → IsSound s → IsConflict s q → ((i : ℕ) → i < length s.trail.literals → reason_at s.trail.reasons i ≡ None → Contains assumed (at s.trail.literals i)) → IsRefuted (live_of s.clauses) assumed
refuted_by s q assumed h conflict free =
    refuted_along s h assumed (length s.trail.literals) (omega arith) free
    (λ standing cover. refuted_now (live_of s.clauses) standing conflict.0 (live_has s.clauses q conflict.0 conflict.1)
    (λ k has. covered s.trail.literals standing cover.first (neg_ℤ k) (conflict.2 k has)))

-- a fixpoint leaves no chain
pub not_refuted : (s : Standing) (assumed : List ℤ) → IsPropagated s → IsSubset assumed s.trail.literals → IsRefuted (live_of s.clauses) assumed → ⊥
not_refuted s assumed h sub r = fixpoint_leaves_no_chain (live_of s.clauses) s.trail.literals assumed r.0 h sub r.1 r.2
