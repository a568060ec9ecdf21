-- Parts that are gathered, and what their combination states.
use Rattle.std.specs.Prelude.{◌≡◌, ◌≢◌, ℕ, ◌+◌, ◌*◌, ◌%◌, ◌^◌, ◌≤◌, Bool, true, false, ◌||◌, ◌==◌, List, [], ◌∷◌, ◌++◌, map, slice_index_or}
use Rattle.std.proofs.Common.{refl, sym, ap, ap₂, subst, ◌∙◌, arith, inl, inr, ⊎_elim, eq-eqb}
use Rattle.std.proofs.Math.Nat.{mod-mod, mod-add-mod}
use Rattle.std.proofs.lemmas.List.Elements.{All-from_recursion, recursion_from_All, All-push}
use Rattle.std.proofs.lemmas.List.Quantifiers.{all_pairs_push}
use Rattle.graph_core.specs.Graph.Assignments.{Assignment, literal, bit}
use Rattle.graph_core.specs.Graph.Operands.{Sides}
use Rattle.algebra_core.specs.Polynomials.{difference, value}
use Rattle.graph_core.specs.Graph.Extended.{Extended, modulus}
use Rattle.algebra_core.specs.AlgebraLines.{LiveLine, Part, IsLive, value_of, combined, gate_axiom}
use Rattle.algebra_core.proofs.CallerLemmas.{modulus_pos}
use Rattle.graph_core.proofs.OfGraphs.CallerLemmas.{sum_same, product_same}
use Rattle.frontier_core.specs.declared.step.Step.TheVariants.{Add, Eliminate}
use Rattle.frontier_core.specs.Sets.{has}
use Rattle.frontier_core.specs.Substitution.{quotient}
use Rattle.frontier_core.specs.Plan.{Taken, step}
use Rattle.frontier_core.specs.RestLine.{partial_specification}
use Rattle.frontier_core.proofs.Everywhere.{all_from_map}
use Rattle.frontier_core.proofs.RestLines.{difference_small, adding_keeps_rest_line, eliminating_keeps_rest_line}
use Rattle.frontier_core.specs.Pending.{gap, IsNotZero, IsTaken, IsPending, PendingStarts, PendingAddsColumn, PendingEliminates, SpareIsLawful}

pub gap_small : (e : Extended) (s : Sides) (added : List ℕ) (rest : Assignment → ℕ) (σ : Assignment) → gap e s added rest σ % modulus e ≡ gap e s added rest σ
gap_small e s added rest σ = difference_small (modulus e) (partial_specification e s added σ) (rest σ) (modulus_pos e)

pub pending_starts : PendingStarts
pending_starts e s live f rest = record {
  sum = λ σ. ap (λ z. z % modulus e) (omega arith) ∙ gap_small e s f.added rest σ;
  spare = record { live = λ k d low. absurd (omega arith); once = λ i j d lt within. absurd (omega arith); nonzero = λ k d low. absurd (omega arith) };
  taken = λ k d low. absurd (omega arith);
}

pub combined_push : (m : ℕ) (live : List LiveLine) (parts : List Part) (p : Part) (σ : Assignment) →
    combined m live (parts ++ p ∷ []) σ ≡ combined m live parts σ + value_of live p.id σ * value m p.factor σ
combined_push m live [] p σ = omega arith
combined_push m live (q ∷ ps) p σ = omega (arith, combined_push m live ps p σ)

-- ---- ids

or_true : (b c : Bool) → c ≡ true → (b || c) ≡ true
or_true true c h = refl
or_true false c h = h

pub has_more : (k j : ℕ) (xs : List ℕ) → has xs j ≡ true → has (k ∷ xs) j ≡ true
has_more k j xs h = or_true (k == j) (has xs j) h

pub has_first : (k : ℕ) (xs : List ℕ) → has (k ∷ xs) k ≡ true
has_first k xs = ap (λ b. b || has xs k) (eq-eqb k k refl)

pub taken_adding : (e : Extended) (f : Taken) (k id : ℕ) → IsTaken e f id → IsTaken e (step f (Add k)) id
taken_adding e f k id h = ⊎_elim (λ a. inl a) (λ b. inr (b.0, has_more k b.0 f.added b.1, b.2)) h

taken_eliminating : (e : Extended) (f : Taken) (v id : ℕ) → IsTaken e f id → IsTaken e (step f (Eliminate v)) id
taken_eliminating e f v id h = ⊎_elim (λ a. inl (has_more v id f.eliminated a.0, a.1)) (λ b. inr b) h

true_not_false : (b : Bool) → b ≡ true → b ≡ false → ⊥
true_not_false b h k = absurd (cc)

apart_gate : (e : Extended) (f : Taken) (v id : ℕ) → v ≤ e.max → has f.eliminated v ≡ false → IsTaken e f id → id ≢ v
apart_gate e f v id low new h same =
    ⊎_elim (λ a. true_not_false (has f.eliminated v) (subst (λ i. has f.eliminated i ≡ true) same a.0) new) (λ b. let at = b.2 in absurd (omega arith)) h

apart_column : (e : Extended) (f : Taken) (k id : ℕ) → has f.added k ≡ false → IsTaken e f id → id ≢ e.max + 1 + k
apart_column e f k id new h same =
    ⊎_elim (λ a. let low = a.1 in absurd (omega arith))
    (λ b. let at = b.2 in let one : b.0 ≡ k = omega arith in true_not_false (has f.added k) (subst (λ j. has f.added j ≡ true) one b.1) new) h

-- ---- a step

pending_same : (e : Extended) (s : Sides) (live : List LiveLine) (start rest next : Assignment → ℕ) (f g : Taken) (parts : List Part) → IsPending e s live start f rest parts →
    ((id : ℕ) → IsTaken e f id → IsTaken e g id) → ((σ : Assignment) → gap e s f.added rest σ ≡ gap e s g.added next σ) → IsPending e s live start g next parts
pending_same e s live start rest next f g parts h more is = record {
  sum = λ σ. h.sum σ ∙ is σ;
  spare = h.spare;
  taken = λ k d low. more (slice_index_or parts k d).id (h.taken k d low);
}

pending_more : (e : Extended) (s : Sides) (live : List LiveLine) (start rest next : Assignment → ℕ) (f g : Taken) (parts : List Part) (p : Part) → IsPending e s live start f rest parts →
    ((id : ℕ) → IsTaken e f id → IsTaken e g id) → IsTaken e g p.id → ((id : ℕ) → IsTaken e f id → id ≢ p.id) → IsLive live p.id → IsNotZero (modulus e) p.factor →
    ((σ : Assignment) → (gap e s f.added rest σ + value_of live p.id σ * value (modulus e) p.factor σ) % modulus e ≡ gap e s g.added next σ) →
    IsPending e s live start g next (parts ++ p ∷ [])
pending_more e s live start rest next f g parts p h more here apart there some is = record {
  sum = λ σ.
      let m = modulus e in
      let c = combined m live parts σ in
      let v = value_of live p.id σ * value m p.factor σ in
      let pushed = combined_push m live parts p σ in
      let split : (start σ + combined m live (parts ++ p ∷ []) σ) ≡ (start σ + c) + v = omega arith in
      ap (λ z. z % m) split ∙ sym (mod-add-mod (start σ + c) m v) ∙ ap (λ z. (z + v) % m) (h.sum σ) ∙ is σ;
  spare = record {
    live = All-push (λ q. IsLive live q.id) parts p h.spare.live there;
    once = all_pairs_push (λ q r. q.id ≢ r.id) parts p h.spare.once (λ k d low. apart (slice_index_or parts k d).id (h.taken k d low));
    nonzero = All-push (λ q. IsNotZero (modulus e) q.factor) parts p h.spare.nonzero some;
  };
  taken = All-push (λ q. IsTaken e g q.id) parts p (λ k d low. more (slice_index_or parts k d).id (h.taken k d low)) here;
}

column_times : (m w d v f g : ℕ) → v ≡ d → f ≡ w % m → (g + v * f) % m ≡ (g + w * d) % m
column_times m w d v f g is_v is_f =
    ap₂ (λ a b. (g + a * b) % m) is_v is_f ∙
    sum_same m g g (d * (w % m)) (w * d) refl
    (product_same m d d (w % m) w refl (mod-mod w m) ∙ ap (λ z. z % m) (omega arith))

pub pending_adds_column : PendingAddsColumn
pending_adds_column e s live start rest next f parts k o r h is_old is_new new sum =
    let m = modulus e in
    let law = adding_keeps_rest_line e s f.added k o r (gap e s f.added rest) rest next (λ σ. refl) is_old is_new new sum in (
      (λ same. pending_same e s live start rest next f (step f (Add k)) parts h (taken_adding e f k) (λ σ. law.1 same σ)),
      (λ p is_id there is_value is_factor some.
          pending_more e s live start rest next f (step f (Add k)) parts p h (taken_adding e f k) (inr (k, has_first k f.added, is_id))
          (λ id t same. apart_column e f k id new t (same ∙ is_id)) there some
          (λ σ.
          column_times m (2 ^ k) (difference m (bit (literal σ o)) (bit (literal σ r))) (value_of live p.id σ) (value m p.factor σ) (gap e s f.added rest σ) (is_value σ) (is_factor σ) ∙
          law.0 (λ τ. (gap e s f.added rest τ + 2 ^ k * difference m (bit (literal τ o)) (bit (literal τ r))) % m) (λ τ. refl) σ)),
    )

pub pending_eliminates : PendingEliminates
pending_eliminates e s live start rest next f parts x h above low new replaced =
    let m = modulus e in
    let v = x.v in
    let law = eliminating_keeps_rest_line e s f.added x (gap e s f.added rest) rest next (λ σ. refl) above replaced in (
      (λ none. pending_same e s live start rest next f (step f (Eliminate v)) parts h (taken_eliminating e f v) (λ σ. law.1 none σ)),
      (λ p is_id there is_value is_factor some.
          pending_more e s live start rest next f (step f (Eliminate v)) parts p h (taken_eliminating e f v)
          (inl (subst (λ i. has (v ∷ f.eliminated) i ≡ true) (sym is_id) (has_first v f.eliminated), subst (λ i. i ≤ e.max) (sym is_id) low))
          (λ id t same. apart_gate e f v id low new t (same ∙ is_id)) there some
          (λ σ.
          ap₂ (λ a b. (gap e s f.added rest σ + a * b) % m) (is_value σ) (is_factor σ) ∙
          law.0 (λ τ. (gap e s f.added rest τ + (gate_axiom m x).value τ * difference m 0 (quotient m v rest τ)) % m) (λ τ. refl) σ)),
    )

-- ---- the combination

pub spare_is_lawful : SpareIsLawful
spare_is_lawful m l parts new p spare above equal = record {
  new_id = above;
  live_operands = All-from_recursion (IsLive l.live) (map (λ part. part.id) parts)
      (all_from_map (IsLive l.live) (λ part. part.id) parts (recursion_from_All (λ part. IsLive l.live part.id) parts spare.live));
  there = tt;
  equal = equal;
}

-- ---- what a group states
