-- Binary gates: what is read is one, and one is read.
use Rattle.std.specs.Prelude.{◌≡◌, ℕ, zero, suc, ◌+◌, ◌*◌, ◌-◌, ◌<◌, ◌≤◌, ◌⊎◌, Bool, true, false, cond, ◌&&◌, List, [], ◌∷◌, ◌++◌, length, nat_le, nat_lt, Result, Ok, Err}
use Rattle.std.proofs.Common.{refl, sym, ap, ap₂, subst, ◌∙◌, arith, append_assoc, inl, inr, ⊎_elim, ltb-true, leb-true, lt-ltb, le-leb}
use Rattle.std.proofs.lemmas.Bool.{and_parts, ltb-false, leb-false}
use Rattle.graph_core.specs.declared.literal.Lit.{Lit}
use Rattle.graph_core.specs.Aiger.{IsGroups, AreBinaryGates}
use Rattle.graph_core.specs.Aiger.Refusal.{HasWrongGate}
use Rattle.graph_core.specs.Aiger.Reading.{Stop, Wrong, ◌>>=◌, Next, Go, Done, No, Bad, advance, scan, from_start, Groups, group_goes, group_step, groups_at, in_range, difference_at, lit, gates_at}
use Rattle.graph_core.proofs.OfTexts.Steady.{bind_ok, bind_err, same_Ok, started_ok, started_wrong}
use Rattle.graph_core.proofs.OfTexts.Numerals.{not_below}

-- where no state finds a byte too large, no number is out of range
pub never_wrong : {S A : Type 0} (step : S → ℕ → Next S A) → ((s : S) (b : ℕ) → step s b ≡ Bad → ⊥) → (bytes : List ℕ) (s : S) (here : List ℕ) → scan step s bytes ≡ Err (Wrong here) → ⊥
never_wrong step never [] s here h = cc
never_wrong {S} {A} step never (b ∷ bytes) s here h = go (step s b) refl h (λ t. never_wrong step never bytes t here)
  where
    go : (n : Next S A) → step s b ≡ n → advance (λ t. scan step t bytes) b bytes n ≡ Err (Wrong here) → ((t : S) → scan step t bytes ≡ Err (Wrong here) → ⊥) → ⊥
    go (Go t) e f more = more t f
    go (Done x) e f more = cc
    go No e f more = cc
    go Bad e f more = never s b e

-- ---- groups of seven bits

abbrev at_group : ℕ → ℕ → ℕ → Groups
at_group k w v = record { left = k; weight = w; value = v }

abbrev TakesGroups : ℕ → ℕ → ℕ → List ℕ → ℕ → List ℕ → Type 0
TakesGroups k w v bytes n rest = (front : List ℕ) × (m : ℕ) × (length front ≤ suc k) × IsGroups front m × (n ≡ v + w * m) × (bytes ≡ front ++ rest)

group_longer : (k w v b : ℕ) (bytes : List ℕ) (n : ℕ) (rest : List ℕ) → 128 ≤ b → b < 256 → TakesGroups k (128 * w) (v + w * (b - 128)) bytes n rest → TakesGroups (suc k) w v (b ∷ bytes) n rest
group_longer k w v b bytes n rest low high t = go t.0 t.2 t.3 t.5
  where
    go : (front : List ℕ) → length front ≤ suc k → IsGroups front t.1 → bytes ≡ front ++ rest → TakesGroups (suc k) w v (b ∷ bytes) n rest
    go [] few g is = absurd g
    go (c ∷ cs) few g is = (b ∷ c ∷ cs, (b - 128) + 128 * t.1, omega arith, (low, high, t.1, omega arith, g), t.4 ∙ regroup v w (b - 128) t.1, ap (λ ys. b ∷ ys) is)
      where
        regroup : (a x d m : ℕ) → a + x * d + 128 * x * m ≡ a + x * (d + 128 * m)
        regroup a x d m = omega arith

groups_take : (bytes : List ℕ) (k w v n : ℕ) (rest : List ℕ) → scan group_step (at_group k w v) bytes ≡ Ok (n, rest) → TakesGroups k w v bytes n rest
groups_take [] k w v n rest h = absurd (cc)
groups_take (b ∷ bytes) k w v n rest h = go (nat_lt b 128) refl k h (λ j. groups_take bytes j (128 * w) (v + w * (b - 128)) n rest)
  where
    deeper : (j : ℕ) (d : Bool) → nat_lt b 128 ≡ false → nat_lt b 256 ≡ d →
        advance (λ t. scan group_step t bytes) b bytes (cond d (Go (at_group j (128 * w) (v + w * (b - 128)))) No) ≡ Ok (n, rest) →
        (scan group_step (at_group j (128 * w) (v + w * (b - 128))) bytes ≡ Ok (n, rest) → TakesGroups j (128 * w) (v + w * (b - 128)) bytes n rest) → TakesGroups (suc j) w v (b ∷ bytes) n rest
    deeper j true p q f more = group_longer j w v b bytes n rest (ltb-false b 128 p) (ltb-true b 256 q) (more f)
    deeper j false p q f more = absurd (cc)

    go : (c : Bool) → nat_lt b 128 ≡ c → (j : ℕ) → advance (λ t. scan group_step t bytes) b bytes (cond c (Done (v + w * b)) (group_goes j w v b)) ≡ Ok (n, rest) →
        ((i : ℕ) → scan group_step (at_group i (128 * w) (v + w * (b - 128))) bytes ≡ Ok (n, rest) → TakesGroups i (128 * w) (v + w * (b - 128)) bytes n rest) → TakesGroups j w v (b ∷ bytes) n rest
    go true e j f more =
        let same = same_Ok (v + w * b, bytes) (n, rest) f in
        (b ∷ [], b, omega arith, (ltb-true b 128 e, refl), sym (ap (λ p. p.0) same), ap (λ p. b ∷ p.1) same)
    go false e zero f more = absurd (cc)
    go false e (suc j) f more = deeper j (nat_lt b 256) e refl f (more j)

groups_again : (front : List ℕ) (k w v m : ℕ) (rest : List ℕ) → IsGroups front m → length front ≤ suc k → scan group_step (at_group k w v) (front ++ rest) ≡ Ok (v + w * m, rest)
groups_again [] k w v m rest g few = absurd g
groups_again (b ∷ []) k w v m rest g few =
    ap (λ c. advance (λ t. scan group_step t rest) b rest (cond c (Done (v + w * b)) (group_goes k w v b))) (lt-ltb b 128 g.0) ∙ ap (λ x. Ok (v + w * x, rest)) (sym g.1)
groups_again (b ∷ c ∷ front) zero w v m rest g few = absurd (omega arith)
groups_again (b ∷ c ∷ front) (suc k) w v m rest g few =
    ap (λ d. advance (λ t. scan group_step t (c ∷ front ++ rest)) b (c ∷ front ++ rest) (cond d (Done (v + w * b)) (group_goes (suc k) w v b))) (not_below b 128 g.0) ∙
    ap (λ d. advance (λ t. scan group_step t (c ∷ front ++ rest)) b (c ∷ front ++ rest) (cond d (Go (at_group k (128 * w) (v + w * (b - 128)))) No)) (lt-ltb b 256 g.1) ∙
    groups_again (c ∷ front) k (128 * w) (v + w * (b - 128)) g.2 rest g.4 (omega arith) ∙
    ap (λ x. Ok (x, rest)) (regroup v w (b - 128) g.2 ∙ ap (λ x. v + w * x) (value b m g.2 g.0 g.3))
  where
    regroup : (a x d h : ℕ) → a + x * d + 128 * x * h ≡ a + x * (d + 128 * h)
    regroup a x d h = omega arith

    value : (b m h : ℕ) → 128 ≤ b → m + 128 ≡ b + 128 * h → (b - 128) + 128 * h ≡ m
    value b m h low e = omega arith

groups_not_wrong : (bytes here : List ℕ) → groups_at bytes ≡ Err (Wrong here) → ⊥
groups_not_wrong bytes here h = never_wrong group_step (λ s b e. not_bad s.left s.weight s.value b (nat_lt b 128) e) bytes (at_group 4 1 0) here h
  where
    goes_not : (d : Bool) (s : Groups) → cond {A = Next Groups ℕ} d (Go s) No ≡ Bad → ⊥
    goes_not true s e = cc
    goes_not false s e = cc

    not_bad : (k w v b : ℕ) (c : Bool) → cond c (Done (v + w * b)) (group_goes k w v b) ≡ Bad → ⊥
    not_bad k w v b true e = cc
    not_bad zero w v b false e = cc
    not_bad (suc k) w v b false e = goes_not (nat_lt b 256) (at_group k (128 * w) (v + w * (b - 128))) e

-- a number of one to five bytes at the front
abbrev pub TakesNumber : List ℕ → ℕ → List ℕ → Type 0
TakesNumber bytes n rest = (front : List ℕ) × (length front ≤ 5) × IsGroups front n × (bytes ≡ front ++ rest)

number_takes : (bytes : List ℕ) (n : ℕ) (rest : List ℕ) → groups_at bytes ≡ Ok (n, rest) → TakesNumber bytes n rest
number_takes bytes n rest h =
    let t = groups_take bytes 4 1 0 n rest h in
    (t.0, t.2, subst (IsGroups t.0) (omega (arith, t.4)) t.3, t.5)

number_again : (bytes : List ℕ) (n : ℕ) (rest : List ℕ) → TakesNumber bytes n rest → groups_at bytes ≡ Ok (n, rest)
number_again bytes n rest t = ap groups_at t.3 ∙ groups_again t.0 4 1 0 n rest t.2 t.1 ∙ ap (λ x. Ok (x, rest)) (omega arith)

-- ---- one number of a gate

abbrev IsIn : ℕ → ℕ → ℕ → Bool
IsIn least most n = nat_le least n && nat_le n most

in_range_ok : (least most n : ℕ) (bytes : List ℕ) (m : ℕ) (rest : List ℕ) → in_range least most n bytes ≡ Ok (m, rest) → (n ≡ m) × (bytes ≡ rest) × (least ≤ n) × (n ≤ most)
in_range_ok least most n bytes m rest h = go (IsIn least most n) refl h
  where
    go : (c : Bool) → IsIn least most n ≡ c → cond {A = Result (ℕ × List ℕ) Stop} c (Ok (n, bytes)) (Err (Wrong bytes)) ≡ Ok (m, rest) → (n ≡ m) × (bytes ≡ rest) × (least ≤ n) × (n ≤ most)
    go true e f =
        let same = same_Ok (n, bytes) (m, rest) f in
        let parts = and_parts (nat_le least n) (nat_le n most) e in
        (ap (λ p. p.0) same, ap (λ p. p.1) same, leb-true least n parts.0, leb-true n most parts.1)
    go false e f = absurd (cc)

out_of_range : (least most n : ℕ) → IsIn least most n ≡ false → (n < least) ⊎ (most < n)
out_of_range least most n h = go (nat_le least n) refl (nat_le n most) refl
  where
    go : (c : Bool) → nat_le least n ≡ c → (d : Bool) → nat_le n most ≡ d → (n < least) ⊎ (most < n)
    go false e d f = inl (leb-false least n e)
    go true e false f = inr (leb-false n most f)
    go true e true f = let t : IsIn least most n ≡ true = ap₂ ◌&&◌ e f in let u = sym t ∙ h in absurd (cc)

in_range_again : (least most n : ℕ) (rest : List ℕ) → least ≤ n → n ≤ most → in_range least most n rest ≡ Ok (n, rest)
in_range_again least most n rest low high = ap (λ c. cond {A = Result (ℕ × List ℕ) Stop} c (Ok (n, rest)) (Err (Wrong rest))) (ap₂ ◌&&◌ (le-leb least n low) (le-leb n most high))

in_range_wrong : (least most n : ℕ) (rest : List ℕ) → (n < least) ⊎ (most < n) → in_range least most n rest ≡ Err (Wrong rest)
in_range_wrong least most n rest out = go (nat_le least n) refl (nat_le n most) refl out
  where
    go : (c : Bool) → nat_le least n ≡ c → (d : Bool) → nat_le n most ≡ d → (n < least) ⊎ (most < n) → cond {A = Result (ℕ × List ℕ) Stop} (c && d) (Ok (n, rest)) (Err (Wrong rest)) ≡ Err (Wrong rest)
    go false e d f o = refl
    go true e false f o = refl
    go true e true f (inl l) = let a = leb-true least n e in absurd (omega arith)
    go true e true f (inr l) = let a = leb-true n most f in absurd (omega arith)

pub difference_takes : (least most : ℕ) (bytes : List ℕ) (n : ℕ) (rest : List ℕ) → difference_at least most bytes ≡ Ok (n, rest) → TakesNumber bytes n rest × (least ≤ n) × (n ≤ most)
difference_takes least most bytes n rest h =
    let o = bind_ok (groups_at bytes) (λ x. in_range least most x.0 x.1) (n, rest) (started_ok bytes (groups_at bytes >>= λ x. in_range least most x.0 x.1) (n, rest) h) in
    let r = in_range_ok least most o.0.0 o.0.1 n rest o.2 in
    (number_takes bytes n rest (o.1 ∙ ap₂ (λ x ys. Ok (x, ys)) r.0 r.1), subst (λ x. least ≤ x) r.0 r.2, subst (λ x. x ≤ most) r.0 r.3)

pub difference_again : (least most : ℕ) (bytes : List ℕ) (n : ℕ) (rest : List ℕ) → TakesNumber bytes n rest → least ≤ n → n ≤ most → difference_at least most bytes ≡ Ok (n, rest)
difference_again least most bytes n rest t low high =
    ap (λ o. from_start bytes (o >>= λ x. in_range least most x.0 x.1)) (number_again bytes n rest t) ∙ ap (from_start bytes) (in_range_again least most n rest low high)

pub difference_wrong : (least most : ℕ) (bytes here : List ℕ) → difference_at least most bytes ≡ Err (Wrong here) → (bytes ≡ here) × ((n : ℕ) × (rest : List ℕ) × TakesNumber bytes n rest × ((n < least) ⊎ (most < n)))
difference_wrong least most bytes here h =
    let w = started_wrong bytes (groups_at bytes >>= λ x. in_range least most x.0 x.1) here h in
    (w.0, ⊎_elim (λ e. absurd (groups_not_wrong bytes w.1.0 e)) (λ o. late o.0 o.1 w.1.0 o.2) (bind_err (groups_at bytes) (λ x. in_range least most x.0 x.1) (Wrong w.1.0) w.1.1))
  where
    late : (x : ℕ × List ℕ) → groups_at bytes ≡ Ok x → (r : List ℕ) → in_range least most x.0 x.1 ≡ Err (Wrong r) → (n : ℕ) × (rest : List ℕ) × TakesNumber bytes n rest × ((n < least) ⊎ (most < n))
    late x e r f = go (IsIn least most x.0) refl f
      where
        go : (c : Bool) → IsIn least most x.0 ≡ c → cond {A = Result (ℕ × List ℕ) Stop} c (Ok (x.0, x.1)) (Err (Wrong x.1)) ≡ Err (Wrong r) → (n : ℕ) × (rest : List ℕ) × TakesNumber bytes n rest × ((n < least) ⊎ (most < n))
        go true p q = absurd (cc)
        go false p q = (x.0, x.1, number_takes bytes x.0 x.1 e, out_of_range least most x.0 p)

pub difference_wrong_again : (least most : ℕ) (bytes : List ℕ) (n : ℕ) (rest : List ℕ) → TakesNumber bytes n rest → (n < least) ⊎ (most < n) → difference_at least most bytes ≡ Err (Wrong bytes)
difference_wrong_again least most bytes n rest t out =
    ap (λ o. from_start bytes (o >>= λ x. in_range least most x.0 x.1)) (number_again bytes n rest t) ∙ ap (from_start bytes) (in_range_wrong least most n rest out)

-- ---- gates

lit_is : (l : Lit) (n : ℕ) → l.0 ≡ n → l ≡ lit n
lit_is l n e = ap lit e

abbrev gate_from : ℕ → ℕ → ℕ → Lit × Lit × Lit
gate_from left x y = (lit left, lit (left - x), lit (left - x - y))

pub gates_take : (k left : ℕ) (bytes : List ℕ) (ts : List (Lit × Lit × Lit)) (rest : List ℕ) → gates_at left k bytes ≡ Ok (ts, rest) → AreBinaryGates left bytes ts rest × (length ts ≡ k)
gates_take zero left bytes ts rest h =
    let same = same_Ok ([], bytes) (ts, rest) h in
    let P : (List (Lit × Lit × Lit) × List ℕ) → Type 0 = λ p. AreBinaryGates left bytes p.0 p.1 × (length p.0 ≡ 0) in
    subst P same (refl, refl)
gates_take (suc k) left bytes ts rest h =
    let a = bind_ok (difference_at 1 left bytes) (λ x. difference_at 0 (left - x.0) x.1 >>= λ y. (gates_at (left + 2) k y.1 >>= λ us. Ok (gate_from left x.0 y.0 ∷ us.0, us.1))) (ts, rest) h in
    let b = bind_ok (difference_at 0 (left - a.0.0) a.0.1) (λ y. gates_at (left + 2) k y.1 >>= λ us. Ok (gate_from left a.0.0 y.0 ∷ us.0, us.1)) (ts, rest) a.2 in
    let d = bind_ok (gates_at (left + 2) k b.0.1) (λ us. Ok (gate_from left a.0.0 b.0.0 ∷ us.0, us.1)) (ts, rest) b.2 in
    let x = difference_takes 1 left bytes a.0.0 a.0.1 a.1 in
    let y = difference_takes 0 (left - a.0.0) a.0.1 b.0.0 b.0.1 b.1 in
    let more = gates_take k (left + 2) b.0.1 d.0.0 d.0.1 d.1 in
    let P : (List (Lit × Lit × Lit) × List ℕ) → Type 0 = λ p. AreBinaryGates left bytes p.0 p.1 × (length p.0 ≡ suc k) in
    let low : 1 ≤ a.0.0 = x.1 in
    let high : a.0.0 ≤ left = x.2 in
    let rest_high : b.0.0 ≤ left - a.0.0 = y.2 in
    subst P (same_Ok (gate_from left a.0.0 b.0.0 ∷ d.0.0, d.0.1) (ts, rest) d.2) (
      (
        x.0.0,
        y.0.0,
        b.0.1,
        a.0.0,
        b.0.0,
        x.0.1,
        y.0.1,
        x.0.2,
        y.0.2,
        refl,
        omega arith,
        omega arith,
        omega arith,
        more.0,
        x.0.3 ∙ ap (λ ys. x.0.0 ++ ys) y.0.3 ∙ sym (append_assoc x.0.0 y.0.0 b.0.1),
      ),
      ap suc more.1,
    )

pub gates_again : (ts : List (Lit × Lit × Lit)) (left : ℕ) (bytes rest : List ℕ) → AreBinaryGates left bytes ts rest → gates_at left (length ts) bytes ≡ Ok (ts, rest)
gates_again [] left bytes rest h = ap (λ ys. Ok ([], ys)) h
gates_again (t ∷ ts) left bytes rest h =
    one t ts left bytes rest h.0 h.1 h.2 h.3 h.4 (h.0, h.5, h.7, h.14 ∙ append_assoc h.0 h.1 h.2) (h.1, h.6, h.8, refl) h.9 h.10 h.11 h.12 (gates_again ts (left + 2) h.2 rest h.13)
  where
    one : (t : Lit × Lit × Lit) (ts : List (Lit × Lit × Lit)) (left : ℕ) (bytes rest first second behind : List ℕ) (x y : ℕ) → TakesNumber bytes x (second ++ behind) → TakesNumber (second ++ behind) y behind →
        t.0.0 ≡ left → 0 < x → left ≡ t.1.0 + x → t.1.0 ≡ t.2.0 + y → gates_at (left + 2) (length ts) behind ≡ Ok (ts, rest) → gates_at left (suc (length ts)) bytes ≡ Ok (t ∷ ts, rest)
    one t ts left bytes rest first second behind x y a b at some one_less two_less more =
        ap (λ o. o >>= λ x. (difference_at 0 (left - x.0) x.1 >>= λ y. (gates_at (left + 2) (length ts) y.1 >>= λ us. Ok (gate_from left x.0 y.0 ∷ us.0, us.1)))) (difference_again 1 left bytes x (second ++ behind) a (omega arith) (omega arith)) ∙
        ap (λ o. o >>= λ y. (gates_at (left + 2) (length ts) y.1 >>= λ us. Ok (gate_from left x y.0 ∷ us.0, us.1))) (difference_again 0 (left - x) (second ++ behind) y behind b (omega arith) (omega arith)) ∙
        ap (λ o. o >>= λ us. Ok (gate_from left x y ∷ us.0, us.1)) more ∙
        ap (λ g. Ok (g ∷ ts, rest)) (same t left x y at (omega arith) (omega arith))
      where
        same : (t : Lit × Lit × Lit) (left x y : ℕ) → t.0.0 ≡ left → t.1.0 ≡ left - x → t.2.0 ≡ left - x - y → gate_from left x y ≡ t
        same t left x y e f g = ap₂ (λ p q. (p, lit (left - x), q)) (sym (lit_is t.0 left e)) (sym (lit_is t.2 (left - x - y) g)) ∙ ap (λ p. (t.0, p, t.2)) (sym (lit_is t.1 (left - x) f))

-- gates up to one with a number out of range
abbrev pub HasWrong : ℕ → ℕ → List ℕ → List ℕ → Type 0
HasWrong left k bytes here = (gates : List (Lit × Lit × Lit)) × (after : List ℕ) × (length gates < k) × AreBinaryGates left bytes gates after × HasWrongGate (left + 2 * length gates) after here

wrong_later : (left k : ℕ) (bytes here : List ℕ) (t : Lit × Lit × Lit) (first second rest : List ℕ) (x y : ℕ) → length first ≤ 5 → length second ≤ 5 → IsGroups first x → IsGroups second y →
    t.0.0 ≡ left → 0 < x → left ≡ t.1.0 + x → t.1.0 ≡ t.2.0 + y → bytes ≡ first ++ second ++ rest → HasWrong (left + 2) k rest here → HasWrong left (suc k) bytes here
wrong_later left k bytes here t first second rest x y a b c d e f g h i w =
    let few = w.2 in
    (t ∷ w.0, w.1, omega arith, (first, second, rest, x, y, a, b, c, d, e, f, g, h, w.3, i), subst (λ n. HasWrongGate n w.1 here) (omega arith) w.4)

pub gates_wrong : (k left : ℕ) (bytes here : List ℕ) → gates_at left k bytes ≡ Err (Wrong here) → HasWrong left k bytes here
gates_wrong zero left bytes here h = absurd (cc)
gates_wrong (suc k) left bytes here h =
    ⊎_elim first (λ o. ⊎_elim (second o.0.0 o.0.1 o.1) (λ p. ⊎_elim (λ e. third o.0.0 o.0.1 o.1 p.0.0 p.0.1 p.1 (gates_wrong k (left + 2) p.0.1 here e)) (λ q. let f = q.2 in absurd (cc))
    (bind_err (gates_at (left + 2) k p.0.1) (λ us. Ok (gate_from left o.0.0 p.0.0 ∷ us.0, us.1)) (Wrong here) p.2))
    (bind_err (difference_at 0 (left - o.0.0) o.0.1) (λ y. gates_at (left + 2) k y.1 >>= λ us. Ok (gate_from left o.0.0 y.0 ∷ us.0, us.1)) (Wrong here) o.2))
    (bind_err (difference_at 1 left bytes) (λ x. difference_at 0 (left - x.0) x.1 >>= λ y. (gates_at (left + 2) k y.1 >>= λ us. Ok (gate_from left x.0 y.0 ∷ us.0, us.1))) (Wrong here) h)
  where
    none_yet : HasWrongGate left bytes here → HasWrong left (suc k) bytes here
    none_yet w = ([], bytes, omega arith, refl, subst (λ n. HasWrongGate n bytes here) (omega arith) w)

    first : difference_at 1 left bytes ≡ Err (Wrong here) → HasWrong left (suc k) bytes here
    first e =
        let w = difference_wrong 1 left bytes here e in
        none_yet (w.1.2.0, w.1.1, w.1.0, w.1.2.1, w.1.2.2, w.1.2.3, inl (⊎_elim (λ l. inl (omega arith)) inr w.1.3, sym w.0))

    second : (x : ℕ) (rest : List ℕ) → difference_at 1 left bytes ≡ Ok (x, rest) → difference_at 0 (left - x) rest ≡ Err (Wrong here) → HasWrong left (suc k) bytes here
    second x rest e f =
        let a = difference_takes 1 left bytes x rest e in
        let w = difference_wrong 0 (left - x) rest here f in
        let low : 1 ≤ x = a.1 in
        let high : x ≤ left = a.2 in
        let over : left < x + w.1.0 = ⊎_elim (λ l. absurd (omega arith)) (λ l. omega arith) w.1.3 in
        none_yet (a.0.0, rest, x, a.0.1, a.0.2, a.0.3, inr (omega arith, high, (w.1.2.0, w.1.1, w.1.0, w.1.2.1, w.1.2.2, over, w.1.2.3, sym w.0)))

    third : (x : ℕ) (rest : List ℕ) → difference_at 1 left bytes ≡ Ok (x, rest) → (y : ℕ) (after : List ℕ) → difference_at 0 (left - x) rest ≡ Ok (y, after) → HasWrong (left + 2) k after here → HasWrong left (suc k) bytes here
    third x rest e y after f w =
        let a = difference_takes 1 left bytes x rest e in
        let b = difference_takes 0 (left - x) rest y after f in
        let low : 1 ≤ x = a.1 in
        let high : x ≤ left = a.2 in
        let rest_high : y ≤ left - x = b.2 in
        wrong_later left k bytes here (gate_from left x y) a.0.0 b.0.0 after x y a.0.1 b.0.1 a.0.2 b.0.2 refl (omega arith) (omega arith) (omega arith)
        (a.0.3 ∙ ap (λ ys. a.0.0 ++ ys) b.0.3 ∙ sym (append_assoc a.0.0 b.0.0 after)) w

wrong_gate_again : (k left : ℕ) (bytes here : List ℕ) → HasWrongGate left bytes here → gates_at left (suc k) bytes ≡ Err (Wrong here)
wrong_gate_again k left bytes here w = go w.6
  where
    first : TakesNumber bytes w.2 w.1
    first = (w.0, w.3, w.4, w.5)

    go : ((((w.2 ≡ 0) ⊎ (left < w.2)) × (here ≡ bytes)) ⊎ ((0 < w.2) × (w.2 ≤ left) × ((second more : List ℕ) × (y : ℕ) × (length second ≤ 5) × IsGroups second y × (left < w.2 + y) × (w.1 ≡ second ++ more) × (here ≡ w.1)))) →
        gates_at left (suc k) bytes ≡ Err (Wrong here)
    go (inl a) =
        ap (λ o. o >>= λ x. (difference_at 0 (left - x.0) x.1 >>= λ y. (gates_at (left + 2) k y.1 >>= λ us. Ok (gate_from left x.0 y.0 ∷ us.0, us.1))))
        (difference_wrong_again 1 left bytes w.2 w.1 first (⊎_elim (λ e. inl (omega arith)) inr a.0)) ∙ ap (λ ys. Err (Wrong ys)) (sym a.1)
    go (inr a) =
        let over = a.2.5 in
        ap (λ o. o >>= λ x. (difference_at 0 (left - x.0) x.1 >>= λ y. (gates_at (left + 2) k y.1 >>= λ us. Ok (gate_from left x.0 y.0 ∷ us.0, us.1))))
        (difference_again 1 left bytes w.2 w.1 first (omega (arith, a.0)) a.1) ∙
        ap (λ o. o >>= λ y. (gates_at (left + 2) k y.1 >>= λ us. Ok (gate_from left w.2 y.0 ∷ us.0, us.1)))
        (difference_wrong_again 0 (left - w.2) w.1 a.2.2 a.2.1 (a.2.0, a.2.3, a.2.4, a.2.6) (inr (omega arith))) ∙ ap (λ ys. Err (Wrong ys)) (sym a.2.7)

pub gates_wrong_again : (gates : List (Lit × Lit × Lit)) (k left : ℕ) (bytes after here : List ℕ) → length gates < k → AreBinaryGates left bytes gates after → HasWrongGate (left + 2 * length gates) after here → gates_at left k bytes ≡ Err (Wrong here)
gates_wrong_again gates zero left bytes after here few h w = absurd (omega arith)
gates_wrong_again [] (suc k) left bytes after here few h w =
    ap (gates_at left (suc k)) h ∙ wrong_gate_again k left after here (subst (λ n. HasWrongGate n after here) (omega arith) w)
gates_wrong_again (t ∷ ts) (suc k) left bytes after here few h w =
    let more = gates_wrong_again ts k (left + 2) h.2 after here (omega arith) h.13 (subst (λ n. HasWrongGate n after here) (omega arith) w) in
    one t left bytes h.1 h.2 h.3 h.4 (h.0, h.5, h.7, h.14 ∙ append_assoc h.0 h.1 h.2) (h.1, h.6, h.8, refl) h.10 h.11 h.12 more
  where
    one : (t : Lit × Lit × Lit) (left : ℕ) (bytes second behind : List ℕ) (x y : ℕ) → TakesNumber bytes x (second ++ behind) → TakesNumber (second ++ behind) y behind →
        0 < x → left ≡ t.1.0 + x → t.1.0 ≡ t.2.0 + y → gates_at (left + 2) k behind ≡ Err (Wrong here) → gates_at left (suc k) bytes ≡ Err (Wrong here)
    one t left bytes second behind x y a b some one_less two_less more =
        ap (λ o. o >>= λ x. (difference_at 0 (left - x.0) x.1 >>= λ y. (gates_at (left + 2) k y.1 >>= λ us. Ok (gate_from left x.0 y.0 ∷ us.0, us.1)))) (difference_again 1 left bytes x (second ++ behind) a (omega arith) (omega arith)) ∙
        ap (λ o. o >>= λ y. (gates_at (left + 2) k y.1 >>= λ us. Ok (gate_from left x y.0 ∷ us.0, us.1))) (difference_again 0 (left - x) (second ++ behind) y behind b (omega arith) (omega arith)) ∙
        ap (λ o. o >>= λ us. Ok (gate_from left x y ∷ us.0, us.1)) more
