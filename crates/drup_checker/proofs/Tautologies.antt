-- Pairs of opposite literals, from both ends of rising ones.
use Rattle.std.specs.Prelude.{◌≡◌, ℕ, true, false, ◌+◌, ◌<◌, ◌≤◌, ◌<ℤ◌, List, length, ℤ, pos, neg_ℤ}
use Rattle.std.proofs.Common.{sym, ap, ◌∙◌, arith, ⊎_elim}
use Rattle.std.proofs.lemmas.Bool.{cases_eq, cases_lt}
use lib.Signed.{lt_z}
use Rattle.std.proofs.lemmas.Int.{by_lt_z, ints}
use Rattle.clause_core.specs.Clause.{Clause, IsClause, IsRising}
use Rattle.clause_core.specs.UnitPropagation.{IsTautology}
use Rattle.clause_core.proofs.CallerLemmas.{at, at_contained}

-- ---- tests

pub less_true : (a b : ℤ) → lt_z a b ≡ true → a <ℤ b
less_true a b e = grind (arith, ints)

pub less_false : (a b : ℤ) → lt_z a b ≡ false → (a ≡ b → ⊥) → b <ℤ a
less_false a b e apart = by_lt_z b a (λ h. h) (λ h. absurd (apart (grind (arith, ints))))

-- ---- pairs

-- each pair of opposite literals is between these places
abbrev pub ArePairsBetween : List ℤ → ℕ → ℕ → Type 0
ArePairsBetween lits front back = (i j : ℕ) → i < j → j < length lits → at lits i ≡ neg_ℤ (at lits j) → (front ≤ i) × (j < back)

module _ (lits : List ℤ) (rising : IsRising lits) (front last : ℕ) (order : front ≤ last) (within : last < length lits) (h : ArePairsBetween lits front (last + 1)) where
  -- the first is too low for the last
  pub pairs_behind : at lits front <ℤ neg_ℤ (at lits last) → ArePairsBetween lits (front + 1) (last + 1)
  pairs_behind low i j before inside opposite = ⊎_elim (λ e. absurd (first e)) (λ n. let b = h i j before inside opposite in (omega arith, b.1)) (cases_eq i front)
    where
      first : i ≡ front → ⊥
      first e =
          let b = h i j before inside opposite in
          let is : at lits front ≡ neg_ℤ (at lits j) = ap (at lits) (sym e) ∙ opposite in
          ⊎_elim (λ same. let last_is : at lits j ≡ at lits last = ap (at lits) same in omega (arith, ints)) (λ n. let up = rising j last (omega arith) within in omega (arith, ints)) (cases_eq j last)

  -- the last is too high for the first
  pub pairs_before : neg_ℤ (at lits last) <ℤ at lits front → ArePairsBetween lits front last
  pairs_before high i j before inside opposite = ⊎_elim (λ e. absurd (end e)) (λ n. let b = h i j before inside opposite in (b.0, omega arith)) (cases_eq j last)
    where
      end : j ≡ last → ⊥
      end e =
          let b = h i j before inside opposite in
          let is : at lits i ≡ neg_ℤ (at lits last) = opposite ∙ ap (λ (q : ℕ). neg_ℤ (at lits q)) e in
          ⊎_elim (λ same. let first_is : at lits i ≡ at lits front = ap (at lits) same in omega (arith, ints)) (λ n. let up = rising front i (omega arith) (omega arith) in omega (arith, ints)) (cases_eq i front)

-- where no pair is left the clause is no tautology
pub no_pair : (c : Clause) (front back : ℕ) → IsClause c → back ≤ front → ArePairsBetween c front back → IsTautology c → ⊥
no_pair c front back is over h t =
    let p = at_contained c (pos t.0) t.2 in
    let q = at_contained c (neg_ℤ (pos t.0)) t.3 in
    let opposite : at c q.0 ≡ neg_ℤ (at c p.0) = q.2 ∙ ap neg_ℤ (sym p.2) in
    ⊎_elim (λ low. let b = h q.0 p.0 low p.1 opposite in omega arith)
    (λ high. ⊎_elim (λ same. let e : at c q.0 ≡ at c p.0 = ap (at c) same in let f = p.2 in let g = q.2 in let positive = t.1 in omega (arith, ints))
    (λ other. let up = is.rising p.0 q.0 (omega arith) q.1 in let f = p.2 in let g = q.2 in let positive = t.1 in omega (arith, ints)) (cases_eq q.0 p.0))
    (cases_lt q.0 p.0)
