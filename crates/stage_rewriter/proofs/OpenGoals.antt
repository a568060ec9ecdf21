-- Goals that propagation leaves open don't follow.
use Rattle.std.specs.Prelude.{◌≡◌, ◌≢◌, ℕ, zero, suc, ◌+◌, ◌*◌, ◌-◌, ◌%◌, ◌<◌, ◌⊎◌, Bool, true, false, cond, List, [], ◌∷◌, length, map, ℤ, pos, neg_ℤ, slice_index_or, ◌==◌}
use Rattle.std.specs.declared.option.Option.{Option}
use Rattle.std.specs.declared.option.Option.TheVariants.{None, Some}
use Rattle.std.specs.Option.{option_map}
use Rattle.std.specs.List.{All, Contains, cons_option, filter_map, flat_map}
use Rattle.std.proofs.Common.{refl, sym, ap, subst, ◌∙◌, arith, inl, inr, ⊎_elim, true≢false, eqb-true}
use Rattle.std.proofs.lemmas.Bool.{cases_eq, eqb-false}
use Rattle.std.proofs.lemmas.List.{get_or_default}
use Rattle.std.proofs.lemmas.List.Elements.{All-contains}
use Rattle.graph_core.specs.declared.literal.Lit.{Lit}
use Rattle.graph_core.specs.declared.gate.Gate.{Gate}
use Rattle.graph_core.specs.Graph.Literals.{negation_of, variable_of}
use Rattle.clause_core.specs.Clause.{Clause}
use Rattle.clause_core.specs.GateClauses.{clause_of, gate_clauses, gate_literals, signed_of}
use Rattle.clause_core.specs.UnitPropagation.{IsChain, IsRup, IsTautology}
use Rattle.clause_core.proofs.RupSoundness.{contains_cases}
use Rattle.miter_encoder.proofs.Collecting.{clause_of-one, clause_of-other, clause_of-zero}
use Rattle.stage_rewriter.specs.Resting.{IsAtRest, IsGateAtRest, IsOpposed, IsPossible, literal_number, mark_at}

-- ---- numbers

number_minus : (v : ℕ) → 0 < v → literal_number (neg_ℤ (pos v)) ≡ 2 * v + 1
number_minus zero h = absurd (omega arith)
number_minus (suc v) h = omega arith

number_back : (v : ℕ) → 0 < v → literal_number (neg_ℤ (neg_ℤ (pos v))) ≡ 2 * v
number_back zero h = absurd (omega arith)
number_back (suc v) h = refl

-- a literal's number, by its signed variable
signed_number : (l : Lit) → 0 < variable_of l → literal_number (signed_of l) ≡ l.0
signed_number l h = go (l.0 % 2 == 0) refl
  where
    go : (b : Bool) → (l.0 % 2 == 0) ≡ b → literal_number (cond b (pos (variable_of l)) (neg_ℤ (pos (variable_of l)))) ≡ l.0
    go true e = let even = eqb-true (l.0 % 2) 0 e in omega arith
    go false e = let odd = eqb-false (l.0 % 2) 0 e in number_minus (variable_of l) h ∙ omega (arith, odd)

-- and that of its negation
negated_number : (l : Lit) → 0 < variable_of l → literal_number (neg_ℤ (signed_of l)) ≡ (negation_of l).0
negated_number l h = go (l.0 % 2 == 0) refl
  where
    go : (b : Bool) → (l.0 % 2 == 0) ≡ b →
        literal_number (neg_ℤ (cond b (pos (variable_of l)) (neg_ℤ (pos (variable_of l))))) ≡ (cond {A = Lit} b (record { 0 = l.0 + 1 }) (record { 0 = l.0 - 1 })).0
    go true e = let even = eqb-true (l.0 % 2) 0 e in number_minus (variable_of l) h ∙ omega arith
    go false e = let odd = eqb-false (l.0 % 2) 0 e in number_back (variable_of l) h ∙ omega (arith, odd)

same_number : (l m : Lit) → l.0 ≡ m.0 → l ≡ m
same_number l m e = ap {B = Lit} (λ n. record { 0 = n }) e

-- ---- clauses of literals

-- the literals of a clause but the constant false are in it, and none is the constant true
module _ (l : Lit) where
  abbrev IsMember : Clause → Type 0
  IsMember c = (l.0 ≢ 1) × (0 < variable_of l) × Contains c (signed_of l)

  none_some : (c : Clause) → None ≡ Some c → ⊥
  none_some c e = cc

  one_more : (x : Lit) (xs : List Lit) (c : Clause) (o : Option Clause) → ((d : Clause) → o ≡ Some d → Contains xs l → IsMember d) → Contains (x ∷ xs) l → l.0 ≢ 0 →
      option_map (λ d. signed_of x ∷ d) o ≡ Some c → x.0 ≢ 1 → x.0 ≢ 0 → IsMember c
  one_more x xs c None again h some e n m = absurd (none_some c e)
  one_more x xs c (Some d) again h some e n m =
      let whole : signed_of x ∷ d ≡ c = cc in
      ⊎_elim (λ same. subst IsMember whole (subst (λ (z : Lit). z.0 ≢ 1) same n, let z = ap (λ (y : Lit). y.0) same in omega (arith, n, m), (0, omega arith, ap signed_of same)))
      (λ r. let t = again d refl r in subst IsMember whole (t.0, t.1, (suc t.2.0, omega (arith, t.2.1), t.2.2)))
      (contains_cases x xs l h)

  member : (lits : List Lit) (c : Clause) → clause_of lits ≡ Some c → Contains lits l → l.0 ≢ 0 → IsMember c
  member [] c is h some = absurd (omega (arith, h.1))
  member (x ∷ xs) c is h some =
      let again : (d : Clause) → clause_of xs ≡ Some d → Contains xs l → IsMember d = λ d e r. member xs d e r some in
      ⊎_elim (λ one. absurd (none_some c (sym (clause_of-one x xs one) ∙ is)))
      (λ n. ⊎_elim
      (λ none. ⊎_elim (λ same. absurd (some (subst (λ (z : Lit). z.0 ≡ 0) same none))) (λ r. again c (sym (clause_of-zero x xs none) ∙ is) r) (contains_cases x xs l h))
      (λ m. one_more x xs c (clause_of xs) again h some (sym (clause_of-other x xs n m) ∙ is) n m) (cases_eq x.0 0)) (cases_eq x.0 1)

-- each clause of a list comes from some literals
abbrev IsFrom : List (List Lit) → Clause → Type 0
IsFrom lists c = (lits : List Lit) × Contains lists lits × (clause_of lits ≡ Some c)

one_list_more : (ls : List Lit) (lists : List (List Lit)) (c : Clause) → IsFrom lists c → IsFrom (ls ∷ lists) c
one_list_more ls lists c t = (t.0, (suc t.1.0, omega (arith, t.1.1), t.1.2), t.2)

from_first : (ls : List Lit) (lists : List (List Lit)) (c : Clause) (o : Option Clause) → clause_of ls ≡ o → (Contains (filter_map clause_of lists) c → IsFrom lists c) →
    Contains (cons_option o (filter_map clause_of lists)) c → IsFrom (ls ∷ lists) c
from_first ls lists c None e again r = one_list_more ls lists c (again r)
from_first ls lists c (Some d) e again r =
    ⊎_elim (λ same. (ls, (0, omega arith, refl), e ∙ ap Some same)) (λ s. one_list_more ls lists c (again s)) (contains_cases d (filter_map clause_of lists) c r)

from_literals : (lists : List (List Lit)) (c : Clause) → Contains (filter_map clause_of lists) c → IsFrom lists c
from_literals [] c h = absurd (omega (arith, h.1))
from_literals (ls ∷ lists) c h = from_first ls lists c (clause_of ls) refl (from_literals lists c) h

image : (xs : List ℤ) (k : ℤ) → Contains (map neg_ℤ xs) k → (x : ℤ) × Contains xs x × (neg_ℤ x ≡ k)
image [] k h = absurd (omega (arith, h.1))
image (x ∷ xs) k h = ⊎_elim (λ same. (x, (0, omega arith, refl), same)) (λ r. let t = image xs k r in (t.0, (suc t.1.0, omega (arith, t.1.1), t.1.2), t.2)) (contains_cases (neg_ℤ x) (map neg_ℤ xs) k h)

module _ (marks : List Bool) (truth : mark_at marks 1 ≡ true) where
  -- the literals of the gates' clauses are at rest
  literals_rest : (gates : List Gate) → All (IsGateAtRest marks) gates → (lits : List Lit) → Contains (flat_map gate_literals gates) lits → IsAtRest marks lits
  literals_rest [] all lits h = absurd (omega (arith, h.1))
  literals_rest (g ∷ gs) all lits h =
      let here : IsGateAtRest marks g = all 0 g (omega arith) in
      let rest = flat_map gate_literals gs in
      ⊎_elim (λ a. subst (IsAtRest marks) a here.left)
      (λ r. ⊎_elim (λ b. subst (IsAtRest marks) b here.right)
      (λ s. ⊎_elim (λ d. subst (IsAtRest marks) d here.both)
      (λ t. literals_rest gs (λ k d low. all (suc k) d (omega arith)) lits t)
      (contains_cases _ rest lits s)) (contains_cases _ (_ ∷ rest) lits r)) (contains_cases _ (_ ∷ _ ∷ rest) lits h)

  -- a possible literal is a member, and its signed variable isn't false
  possible : (lits : List Lit) (c : Clause) (l : Lit) → clause_of lits ≡ Some c → Contains lits l → IsPossible marks l →
      (0 < variable_of l) × Contains c (signed_of l) × (mark_at marks (literal_number (neg_ℤ (signed_of l))) ≡ false)
  possible lits c l is inside may =
      let some : l.0 ≢ 0 = λ z. true≢false (sym truth ∙ ap (λ (m : Lit). mark_at marks (negation_of m).0) (sym (same_number l (record { 0 = 0 }) z)) ∙ may) in
      let m = member l lits c is inside some in
      (m.1, m.2, ap (mark_at marks) (negated_number l m.1) ∙ may)

  module _ (gates : List Gate) (all : All (IsGateAtRest marks) gates) where
    abbrev Marked : ℤ → Type 0
    Marked k = mark_at marks (literal_number k) ≡ true

    no_conflict : (c : Clause) → Contains (gate_clauses gates) c → ((k : ℤ) → Contains c k → Marked (neg_ℤ k)) → ⊥
    no_conflict c h falsified =
        let f = from_literals (flat_map gate_literals gates) c h in
        let r : IsAtRest marks f.0 = literals_rest gates all f.0 f.1 in
        let p = possible f.0 c r.1 f.2 (r.0, r.2, r.3) r.4.0 in
        true≢false (sym (falsified (signed_of r.1) p.1) ∙ p.2)

    closed : (c : Clause) (k : ℤ) → Contains (gate_clauses gates) c → ((j : ℤ) → Contains c j → (j ≡ k) ⊎ Marked (neg_ℤ j)) → Marked k
    closed c k h unit =
        let f = from_literals (flat_map gate_literals gates) c h in
        let r : IsAtRest marks f.0 = literals_rest gates all f.0 f.1 in
        let p = possible f.0 c r.1 f.2 (r.0, r.2, r.3) r.4.0 in
        let only : signed_of r.1 ≡ k = ⊎_elim (λ e. e) (λ n. absurd (true≢false (sym n ∙ p.2))) (unit (signed_of r.1) p.1) in
        ⊎_elim (λ there. subst Marked only (ap (mark_at marks) (signed_number r.1 p.0) ∙ there))
        (λ o.
        let q = possible f.0 c o.1 f.2 (o.0, o.2, o.3) o.4.1 in
        let too : signed_of o.1 ≡ k = ⊎_elim (λ e. e) (λ n. absurd (true≢false (sym n ∙ q.2))) (unit (signed_of o.1) q.1) in
        absurd (o.4.0 (same_number o.1 r.1 (sym (signed_number o.1 q.0) ∙ ap literal_number (too ∙ sym only) ∙ signed_number r.1 p.0)))) r.4.1

    no_refutation : (assumed : List ℤ) (chain : List Clause) → ((k : ℤ) → Contains assumed k → Marked k) → ((c : Clause) → Contains chain c → Contains (gate_clauses gates) c) → IsChain assumed chain → ⊥
    no_refutation assumed [] marked inside h = h
    no_refutation assumed (c ∷ []) marked inside h = no_conflict c (inside c (0, omega arith, refl)) (λ k e. marked (neg_ℤ k) (h k e))
    no_refutation assumed (c ∷ d ∷ ds) marked inside h =
        let here = closed c h.0 (inside c (0, omega arith, refl)) (λ j e. ⊎_elim inl (λ n. inr (marked (neg_ℤ j) n)) (h.1.1 j e)) in
        no_refutation (h.0 ∷ assumed) (d ∷ ds) (λ k e. ⊎_elim (λ same. subst Marked same here) (marked k) (contains_cases h.0 assumed k e))
        (λ x e. inside x (suc e.0, omega (arith, e.1), e.2)) h.2

    -- a goal each of whose literals is opposed doesn't follow
    pub stays_open : (goal : Clause) → All (IsOpposed marks) goal → IsRup (gate_clauses gates) goal → ⊥
    stays_open goal opposed rup =
        ⊎_elim (λ r. no_refutation (map neg_ℤ goal) r.0 negated (λ c e. All-contains (Contains (gate_clauses gates)) r.0 c r.1 e) r.2) taut rup
      where
        negated : (k : ℤ) → Contains (map neg_ℤ goal) k → Marked k
        negated k h = let f = image goal k h in subst Marked f.2 (All-contains (IsOpposed marks) goal f.0 opposed f.1).0

        taut : IsTautology goal → ⊥
        taut t =
            let here = All-contains (IsOpposed marks) goal (pos t.0) opposed t.2 in
            let there = All-contains (IsOpposed marks) goal (neg_ℤ (pos t.0)) opposed t.3 in
            true≢false (sym there.0 ∙ ap (mark_at marks) (number_back t.0 t.1) ∙ here.1)

-- one gate more rests
pub one_gate_more : (marks : List Bool) (gates : List Gate) (i : ℕ) (e : Gate) → i < length gates → ((k : ℕ) (d : Gate) → k < i → IsGateAtRest marks (slice_index_or gates k d)) → IsGateAtRest marks (slice_index_or gates i e) →
    (k : ℕ) (d : Gate) → k < i + 1 → IsGateAtRest marks (slice_index_or gates k d)
one_gate_more marks gates i e low before here k d below =
    ⊎_elim (λ same. subst (IsGateAtRest marks) (sym (ap (λ j. slice_index_or gates j d) same ∙ get_or_default gates i d e low)) here) (λ ne. before k d (omega (arith, ne))) (cases_eq k i)
