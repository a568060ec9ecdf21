-- How often a variable is read tells whether another gate reads it, or an output has it.
use Rattle.std.specs.Prelude.{◌≡◌, ◌≢◌, ℕ, zero, suc, ◌+◌, ◌<◌, ◌≤◌, ◌⊎◌, cond, List, [], ◌∷◌, ◌++◌, map, length, slice_index_or, ◌==◌}
use Rattle.std.specs.List.{AllByRecursion, Any, Contains, count_by, flat_map}
use Rattle.std.proofs.Common.{refl, sym, ap, ap₂, subst, ◌∙◌, arith, inl, inr, ⊎_elim, eqb-true, eq-eqb, ne_eqb}
use Rattle.std.proofs.lemmas.Bool.{eqb-false}
use Rattle.std.proofs.lemmas.List.Sums.{sum_by-cons}
use Rattle.graph_core.specs.declared.gate.Gate.{Gate}
use Rattle.graph_core.specs.declared.literal.Lit.{Lit}
use Rattle.graph_core.specs.Graph.Literals.{variable_of, inverted}
use Rattle.graph_core.specs.Graph.{Aig, IsWellFormed, read_literals, reader_count}
use Rattle.graph_core.proofs.OfGraphs.CallerLemmas.{Distinct, any_cases, any_here, any_nil, any_there, distinct_gates, by_cases}
use Rattle.adder_finder.specs.XorShape.{IsUsedBesides, IsGenerating}
use Rattle.adder_finder.specs.XorFound.{HasOperands}
use Rattle.adder_finder.proofs.Words.{IsReadMore}

-- of how many of a gate's operands it is the variable
abbrev of_gate : Gate → ℕ → ℕ
of_gate x u = cond (variable_of x.left == u) 1 0 + cond (variable_of x.right == u) 1 0

abbrev of_gates : List Gate → ℕ → ℕ
of_gates [] u = 0
of_gates (x ∷ gates) u = of_gate x u + of_gates gates u

-- of how many operands of gates but those of one variable
abbrev besides : List Gate → ℕ → ℕ → ℕ
besides [] v u = 0
besides (x ∷ gates) v u = cond (x.v == v) 0 (of_gate x u) + besides gates v u

-- of how many literals
abbrev of_lits : List Lit → ℕ → ℕ
of_lits [] u = 0
of_lits (l ∷ ls) u = cond (variable_of l == u) 1 0 + of_lits ls u

lits_count : (ls : List Lit) (u : ℕ) → count_by (λ l. variable_of l == u) ls ≡ of_lits ls u
lits_count [] u = refl
lits_count (l ∷ ls) u = sum_by-cons (λ (k : Lit). cond (variable_of k == u) 1 0) l ls ∙ ap (λ n. cond (variable_of l == u) 1 0 + n) (lits_count ls u)

lits_joined : (ls ks : List Lit) (u : ℕ) → of_lits (ls ++ ks) u ≡ of_lits ls u + of_lits ks u
lits_joined [] ks u = omega arith
lits_joined (l ∷ ls) ks u = let rest = lits_joined ls ks u in omega arith

gates_count : (gates : List Gate) (u : ℕ) → of_lits (flat_map (λ x. x.left ∷ x.right ∷ []) gates) u ≡ of_gates gates u
gates_count [] u = refl
gates_count (x ∷ gates) u = let rest = gates_count gates u in omega arith

is_one : (a b : ℕ) → a ≡ b → cond {A = ℕ} (a == b) 1 0 ≡ 1
is_one a b e = ap (λ t. cond {A = ℕ} t 1 0) (eq-eqb a b e)

all_others : (gates : List Gate) (v u : ℕ) → AllByRecursion (λ y. v ≢ y.v) gates → besides gates v u ≡ of_gates gates u
all_others [] v u h = refl
all_others (x ∷ gates) v u h = ap₂ (λ b n. cond b 0 (of_gate x u) + n) (ne_eqb x.v v (λ e. h.0 (sym e))) (all_others gates v u h.1)

-- one gate's operands, and those of the others
one_and_others : (gates : List Gate) (top : Gate) (u k : ℕ) → Distinct gates → k < length gates → slice_index_or gates k top ≡ top → of_gates gates u ≡ of_gate top u + besides gates top.v u
one_and_others [] top u k d low is = absurd (omega arith)
one_and_others (x ∷ gates) top u zero d low is =
    let own : of_gate x u ≡ of_gate top u = ap (λ z. of_gate z u) is in
    let none : cond (x.v == top.v) 0 (of_gate x u) ≡ 0 = ap (λ b. cond b 0 (of_gate x u)) (eq-eqb x.v top.v (ap (λ z. z.v) is)) in
    let others = all_others gates top.v u (subst (λ (z : Gate). AllByRecursion (λ y. z.v ≢ y.v) gates) is d.0) in
    omega arith
one_and_others (x ∷ gates) top u (suc k) d low is =
    let rest = one_and_others gates top u k d.1 (omega arith) is in
    let other : x.v ≢ top.v = later gates k d.0 (omega arith) is in
    let own : cond (x.v == top.v) 0 (of_gate x u) ≡ of_gate x u = ap (λ b. cond b 0 (of_gate x u)) (ne_eqb x.v top.v other) in
    omega arith
  where
    later : (gs : List Gate) (j : ℕ) → AllByRecursion (λ y. x.v ≢ y.v) gs → j < length gs → slice_index_or gs j top ≡ top → x.v ≢ top.v
    later [] j h l e = absurd (omega arith)
    later (z ∷ gs) zero h l e = subst (λ g. x.v ≢ g.v) e h.0
    later (z ∷ gs) (suc j) h l e = later gs j h.1 (omega arith) e

abbrev IsOther : ℕ → ℕ → Gate → Type 0
IsOther v u x = (x.v ≢ v) × ((variable_of x.left ≡ u) ⊎ (variable_of x.right ≡ u))

reads_some : (x : Gate) (u : ℕ) → 0 < of_gate x u → (variable_of x.left ≡ u) ⊎ (variable_of x.right ≡ u)
reads_some x u h = by_cases (λ b. 0 < cond b 1 0 + cond (variable_of x.right == u) 1 0 → (variable_of x.left ≡ u) ⊎ (variable_of x.right ≡ u)) (variable_of x.left == u)
    (λ e k. inl (eqb-true (variable_of x.left) u e))
    (λ e k. by_cases (λ b. 0 < 0 + cond b 1 0 → (variable_of x.left ≡ u) ⊎ (variable_of x.right ≡ u)) (variable_of x.right == u) (λ f j. inr (eqb-true (variable_of x.right) u f)) (λ f j. absurd (omega arith)) k) h

some_reads : (x : Gate) (u : ℕ) → (variable_of x.left ≡ u) ⊎ (variable_of x.right ≡ u) → 0 < of_gate x u
some_reads x u h =
    ⊎_elim (λ e. let one = is_one (variable_of x.left) u e in omega arith)
    (λ e. let one = is_one (variable_of x.right) u e in omega arith) h

other_from : (gates : List Gate) (v u : ℕ) → 0 < besides gates v u → Any (IsOther v u) gates
other_from [] v u h = absurd (omega arith)
other_from (x ∷ gates) v u h =
    by_cases (λ b. 0 < cond b 0 (of_gate x u) + besides gates v u → Any (IsOther v u) (x ∷ gates)) (x.v == v)
    (λ e k. any_there (IsOther v u) x gates (other_from gates v u (omega arith)))
    (λ e k. ⊎_elim (λ some. any_here (IsOther v u) x gates (eqb-false x.v v e, reads_some x u some)) (λ rest. any_there (IsOther v u) x gates (other_from gates v u rest)) (either (of_gate x u) (besides gates v u) k)) h
  where
    either : (a b : ℕ) → 0 < a + b → (0 < a) ⊎ (0 < b)
    either zero b k = inr (omega arith)
    either (suc a) b k = inl (omega arith)

from_other : (gates : List Gate) (v u : ℕ) → Any (IsOther v u) gates → 0 < besides gates v u
from_other [] v u h = absurd (any_nil (IsOther v u) h)
from_other (x ∷ gates) v u h =
    ⊎_elim (λ o. let own : cond (x.v == v) 0 (of_gate x u) ≡ of_gate x u = ap (λ b. cond b 0 (of_gate x u)) (ne_eqb x.v v o.0) in let some = some_reads x u o.1 in omega arith)
    (λ r. let rest = from_other gates v u r in omega arith) (any_cases (IsOther v u) x gates h)

-- ---- outputs

output_from : (ls : List Lit) (u : ℕ) → 0 < of_lits ls u → Contains (map variable_of ls) u
output_from [] u h = absurd (omega arith)
output_from (l ∷ ls) u h =
    by_cases (λ b. 0 < cond b 1 0 + of_lits ls u → Contains (map variable_of (l ∷ ls)) u) (variable_of l == u) (λ e k. (0, omega arith, eqb-true (variable_of l) u e))
    (λ e k. let r = output_from ls u (omega arith) in let low : r.0 < length (map variable_of ls) = r.1 in (suc r.0, omega arith, r.2)) h

from_output : (ls : List Lit) (u : ℕ) → Contains (map variable_of ls) u → 0 < of_lits ls u
from_output ls u h = go ls h.0 h.1 h.2
  where
    go : (ks : List Lit) (i : ℕ) → i < length (map variable_of ks) → slice_index_or (map variable_of ks) i u ≡ u → 0 < of_lits ks u
    go [] i low e = absurd (omega arith)
    go (l ∷ ks) zero low e = let one = is_one (variable_of l) u e in omega arith
    go (l ∷ ks) (suc i) low e = let rest = go ks i (omega arith) e in omega arith

-- ---- a variable that a gate reads once

-- a gate over the negations of two different variables reads each of them once
reads_once : (x : Gate) (u w : ℕ) → HasOperands x (inverted u) (inverted w) → u ≢ w → (of_gate x u ≡ 1) × (of_gate x w ≡ 1)
reads_once x u w h ne =
    let u_is : variable_of (inverted u) ≡ u = omega arith in
    let w_is : variable_of (inverted w) ≡ w = omega arith in
    let uu = eq-eqb (variable_of (inverted u)) u u_is in
    let uw = ne_eqb (variable_of (inverted u)) w (λ e. ne (sym u_is ∙ e)) in
    let wu = ne_eqb (variable_of (inverted w)) u (λ e. ne (sym e ∙ w_is)) in
    let ww = eq-eqb (variable_of (inverted w)) w w_is in
    ⊎_elim
    (λ s. (
      ap₂ (λ p q. cond (variable_of p == u) 1 0 + cond (variable_of q == u) 1 0) s.0 s.1 ∙ ap₂ (λ a b. cond a 1 0 + cond b 1 0) uu wu,
      ap₂ (λ p q. cond (variable_of p == w) 1 0 + cond (variable_of q == w) 1 0) s.0 s.1 ∙ ap₂ (λ a b. cond a 1 0 + cond b 1 0) uw ww,
    ))
    (λ s. (
      ap₂ (λ p q. cond (variable_of p == u) 1 0 + cond (variable_of q == u) 1 0) s.0 s.1 ∙ ap₂ (λ a b. cond a 1 0 + cond b 1 0) wu uu,
      ap₂ (λ p q. cond (variable_of p == w) 1 0 + cond (variable_of q == w) 1 0) s.0 s.1 ∙ ap₂ (λ a b. cond a 1 0 + cond b 1 0) ww uw,
    )) h

module _ (g : Aig) (well : IsWellFormed g) (top : Gate) (has : Contains g.gates top) where
  readers_are : (u : ℕ) → of_gate top u ≡ 1 → reader_count g u ≡ of_lits g.outputs u + (1 + besides g.gates top.v u)
  readers_are u one =
      let all = lits_count (read_literals g) u in
      let joined = lits_joined g.outputs (flat_map (λ x. x.left ∷ x.right ∷ []) g.gates) u in
      let gates = gates_count g.gates u in
      let split = one_and_others g.gates top u has.0 (distinct_gates g well) has.1 has.2 in
      omega arith

  used_from : (u : ℕ) → of_gate top u ≡ 1 → 1 < reader_count g u → IsUsedBesides g top.v u
  used_from u one h =
      let count = readers_are u one in
      ⊎_elim (λ o. inr (output_from g.outputs u o)) (λ o. inl (other_from g.gates top.v u o)) (either (of_lits g.outputs u) (besides g.gates top.v u) (omega arith))
    where
      either : (a b : ℕ) → 0 < a + b → (0 < a) ⊎ (0 < b)
      either zero b k = inr (omega arith)
      either (suc a) b k = inl (omega arith)

  from_used : (u : ℕ) → of_gate top u ≡ 1 → IsUsedBesides g top.v u → 1 < reader_count g u
  from_used u one h =
      let count = readers_are u one in
      ⊎_elim (λ o. let some = from_other g.gates top.v u o in omega arith) (λ o. let some = from_output g.outputs u o in omega arith) h

  unused : (u : ℕ) → of_gate top u ≡ 1 → reader_count g u ≤ 1 → IsUsedBesides g top.v u → ⊥
  unused u one low h = let more = from_used u one h in absurd (omega arith)

  -- of two variables that the gate reads, the one that is read more is the generating gate's
  pub generates_from : (u w : ℕ) → HasOperands top (inverted u) (inverted w) → u ≢ w → IsReadMore g u w → IsGenerating g top.v u w
  generates_from u w reads ne h =
      let once = reads_once top u w reads ne in
      ⊎_elim (λ a. inl (used_from u once.0 a.0, unused w once.1 a.1))
      (λ a. inr (⊎_elim (λ b. inl (used_from u once.0 b.0, used_from w once.1 b.1)) (λ b. inr (unused u once.0 b.0, unused w once.1 b.1)) a.0, a.1)) h
