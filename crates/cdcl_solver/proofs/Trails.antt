-- Trails: literals and their variables, none of them twice.
use Rattle.std.specs.Prelude.{◌≡◌, ◌≢◌, ℕ, zero, suc, ◌+◌, ◌<◌, ◌≤◌, Bool, true, false, List, length, ℤ, pos, negsuc, neg_ℤ, nat_abs}
use Rattle.std.specs.declared.option.Option.{Option}
use Rattle.std.specs.declared.option.Option.TheVariants.{None, Some}
use Rattle.std.specs.Option.{unwrap_or}
use Rattle.std.specs.List.{Contains}
use Rattle.std.proofs.Common.{refl, sym, ap, subst, ◌∙◌, arith, ⊎_elim}
use Rattle.std.proofs.lemmas.Bool.{cases_lt}
use Rattle.std.proofs.lemmas.List.Elements.{All-contains}
use Rattle.clause_core.specs.Clause.{Clause, IsClauseInRange}
use Rattle.clause_core.proofs.Places.{at_contained}
use Rattle.unit_prop.specs.Literals.{IsLiteral}
use Rattle.unit_prop.specs.Trail.{signed_variable, IsOpen, IsLiteralUpTo, HasValue}
use Rattle.unit_prop.specs.Standing.{Standing, TrailView, IsSound, at}
use Rattle.unit_prop.proofs.TrailSteps as steps

pub neg-neg : (l : ℤ) → neg_ℤ (neg_ℤ l) ≡ l
neg-neg = steps.neg-neg

pub variable-neg : (l : ℤ) → signed_variable (neg_ℤ l) ≡ signed_variable l
variable-neg = steps.variable-neg

pub neg_differs : (l : ℤ) → 0 < signed_variable l → l ≢ neg_ℤ l
neg_differs (pos zero) h e = omega arith
neg_differs (pos (suc v)) h e = cc
neg_differs (negsuc v) h e = cc

pub positive : (l : ℤ) → l ≢ pos 0 → 0 < signed_variable l
positive (pos zero) h = absurd (h refl)
positive (pos (suc v)) h = omega arith
positive (negsuc v) h = omega arith

pub signed_literal : (l : ℤ) → 0 < signed_variable l → l ≢ pos 0
signed_literal l h e = let f : 0 < signed_variable (pos 0) = subst (λ k. 0 < signed_variable k) e h in omega arith

pub variable-abs : (l : ℤ) → nat_abs l ≡ signed_variable l
variable-abs (pos v) = refl
variable-abs (negsuc v) = refl

pub literal_positive : (l : ℤ) → IsLiteral l → 0 < signed_variable l
literal_positive (pos v) h = h.0
literal_positive (negsuc v) h = omega arith

pub is_within : (max : ℕ) (l : ℤ) → max < 2147483648 → 0 < signed_variable l → signed_variable l ≤ max → IsLiteralUpTo max l
is_within max (pos v) m s b = ((s, omega arith), b)
is_within max (negsuc v) m s b = (omega arith, b)

-- the literals of a clause in range
pub clause_within : (max : ℕ) (c : Clause) → max < 2147483648 → IsClauseInRange max c → (l : ℤ) → Contains c l → IsLiteralUpTo max l
clause_within max c m h l has =
    let p = All-contains (λ k. (k ≢ pos 0) × (nat_abs k ≤ max)) c l h has in
    is_within max l m (positive l p.0) (omega (arith, p.1, variable-abs l))

-- Each literal has a variable of its own, from 1 to the greatest one.
pub record IsTrail (t : TrailView) : Type 0 where
  pub paired : length t.reasons ≡ length t.literals
  pub in_range : (i : ℕ) → i < length t.literals → (0 < signed_variable (at t.literals i)) × (signed_variable (at t.literals i) ≤ t.greatest)
  pub apart : (i j : ℕ) → i < j → j < length t.literals → signed_variable (at t.literals i) ≢ signed_variable (at t.literals j)

pub trail_of : (s : Standing) → IsSound s → IsTrail s.trail
trail_of s h = record {
  paired = h.paired;
  in_range = λ i b. let w = h.within i b in (literal_positive (at s.trail.literals i) w.0, w.1);
  apart = h.apart;
}

-- what a literal's value says: it is open, it stands, or its negation does
abbrev pub IsValue : List ℤ → ℤ → Option Bool → Type 0
IsValue lits l None = IsOpen lits l
IsValue lits l (Some true) = Contains lits l × (Contains lits (neg_ℤ l) → ⊥)
IsValue lits l (Some false) = Contains lits (neg_ℤ l) × (Contains lits l → ⊥)

-- a variable stands at one place
pub one_place : (t : TrailView) → IsTrail t → (i j : ℕ) → i < length t.literals → j < length t.literals → signed_variable (at t.literals i) ≡ signed_variable (at t.literals j) → i ≡ j
one_place t h i j in_i in_j e =
    ⊎_elim (λ b. absurd (h.apart i j b in_j e)) (λ n. ⊎_elim (λ b. absurd (h.apart j i b in_i (sym e))) (λ m. omega arith) (cases_lt j i)) (cases_lt i j)

-- no literal stands beside its negation
pub consistent : (t : TrailView) → IsTrail t → (l : ℤ) → Contains t.literals l → Contains t.literals (neg_ℤ l) → ⊥
consistent t h l has hasn =
    let p = at_contained t.literals l has in
    let q = at_contained t.literals (neg_ℤ l) hasn in
    let same = one_place t h p.0 q.0 p.1 q.1 (ap signed_variable p.2 ∙ sym (variable-neg l) ∙ sym (ap signed_variable q.2)) in
    let range = h.in_range p.0 p.1 in
    neg_differs l (subst (λ x. 0 < signed_variable x) p.2 range.0) (sym p.2 ∙ ap (at t.literals) same ∙ q.2)

pub value_told : (s : Standing) (l : ℤ) (o : Option Bool) → IsSound s → HasValue s.trail.literals l o → IsValue s.trail.literals l o
value_told s l None h v = v
value_told s l (Some true) h v = (v, λ n. consistent s.trail (trail_of s h) l v n)
value_told s l (Some false) h v = (v, λ n. consistent s.trail (trail_of s h) l n v)

-- whether a literal is known to stand
pub told_true : (lits : List ℤ) (l : ℤ) (o : Option Bool) → HasValue lits l o → unwrap_or o false ≡ true → Contains lits l
told_true lits l None v e = absurd (cc)
told_true lits l (Some true) v e = v
told_true lits l (Some false) v e = absurd (cc)

pub told_false : (s : Standing) (l : ℤ) (o : Option Bool) → IsSound s → HasValue s.trail.literals l o → unwrap_or o false ≡ false → Contains s.trail.literals l → ⊥
told_false s l None h v e has = v.0 has
told_false s l (Some true) h v e has = absurd (cc)
told_false s l (Some false) h v e has = consistent s.trail (trail_of s h) l has v

-- there are no more literals than variables
pub trail_fits : (t : TrailView) → IsTrail t → length t.literals ≤ t.greatest + 1
trail_fits t h = steps.few (t.greatest + 1) t.literals (λ i b. let r = (h.in_range i b).1 in omega arith) h.apart

-- a literal that stands is within the variables
pub stands_within : (s : Standing) (l : ℤ) → IsSound s → Contains s.trail.literals l → IsLiteralUpTo s.trail.greatest l
stands_within s l h has = let p = at_contained s.trail.literals l has in subst (IsLiteralUpTo s.trail.greatest) p.2 (h.within p.0 p.1)

pub false_range : (s : Standing) (l : ℤ) → IsSound s → Contains s.trail.literals (neg_ℤ l) → (0 < signed_variable l) × (signed_variable l ≤ s.trail.greatest)
false_range s l h has =
    let w = stands_within s (neg_ℤ l) h has in
    (omega (arith, literal_positive (neg_ℤ l) w.0, variable-neg l), omega (arith, w.1, variable-neg l))
