-- A gate of XOR shape is found by the gates below it.
use Rattle.std.specs.Prelude.{◌≡◌, ◌≢◌, ◌↔◌, ℕ, ◌+◌, ◌*◌, ◌-◌, ◌%◌, ◌<◌, ◌≤◌, ◌⊎◌, Bool, false, cond, ◌==◌, nat_le, IfSome, IsNone, IsTrue}
use Rattle.std.specs.declared.option.Option.{Option}
use Rattle.std.specs.declared.option.Option.TheVariants.{None, Some}
use Rattle.std.specs.List.{Contains}
use Rattle.std.proofs.Common.{refl, sym, ap, subst, ◌∙◌, arith, inl, inr, ⊎_elim, eqb-true, true≢false}
use Rattle.std.proofs.lemmas.Bool.{cases_lt, eqb-false}
use Rattle.graph_core.specs.declared.literal.Lit.{Lit}
use Rattle.graph_core.specs.declared.gate.Gate.{Gate}
use Rattle.graph_core.specs.Graph.Literals.{variable_of, negation_of, inverted, IsNegated}
use Rattle.graph_core.specs.Graph.{Aig, IsGateOf, IsWellFormed, reader_count}
use Rattle.graph_core.proofs.OfGraphs.CallerLemmas.{gate_in_range, one_gate, variable_of-negated, by_cases}
use Rattle.adder_finder.specs.declared.xor.Xor.{Xor}
use Rattle.adder_finder.specs.XorShape.{Computes, HasXorShape, IsXor, IsXorGate, IsXorOf, IsXorOfPair, ordered_operands}
use Rattle.adder_finder.specs.XorFound.{AreTwo, HasOperands, IsBelow, IsMoreRead, IsShapeOver, shape_of}
use Rattle.adder_finder.proofs.Words.{IsReadMore}
use Rattle.adder_finder.proofs.ReadBesides.{generates_from}

-- ---- literals

pub same_lit : (l k : Lit) → l.0 ≡ k.0 → l ≡ k
same_lit l k e = let lit : ℕ → Lit = λ n. record { 0 = n } in ap lit e

pub negated_is : (l : Lit) (v : ℕ) → IsNegated l → v ≡ variable_of l → l ≡ inverted v
negated_is l v odd e = same_lit l (inverted v) (omega arith)

pub inverted_variable : (l : Lit) (v : ℕ) → l ≡ inverted v → v ≡ variable_of l
inverted_variable l v e = let n : l.0 ≡ 2 * v + 1 = ap (λ k. k.0) e in omega arith

pub inverted_odd : (l : Lit) (v : ℕ) → l ≡ inverted v → IsNegated l
inverted_odd l v e = let n : l.0 ≡ 2 * v + 1 = ap (λ k. k.0) e in omega arith

pub number_of-negation : (l : Lit) → (((l.0 % 2 ≡ 0) × ((negation_of l).0 ≡ l.0 + 1)) ⊎ ((l.0 % 2 ≢ 0) × ((negation_of l).0 ≡ l.0 - 1)))
number_of-negation l = by_cases (λ b. (l.0 % 2 == 0) ≡ b → (((l.0 % 2 ≡ 0) × ((cond {A = Lit} b (record { 0 = l.0 + 1 }) (record { 0 = l.0 - 1 })).0 ≡ l.0 + 1)) ⊎ ((l.0 % 2 ≢ 0) × ((cond {A = Lit} b (record { 0 = l.0 + 1 }) (record { 0 = l.0 - 1 })).0 ≡ l.0 - 1)))) (l.0 % 2 == 0)
    (λ _ e. inl (eqb-true (l.0 % 2) 0 e, refl)) (λ _ e. inr (eqb-false (l.0 % 2) 0 e, refl)) refl

pub negation_twice : (l : Lit) → negation_of (negation_of l) ≡ l
negation_twice l =
    same_lit (negation_of (negation_of l)) l
    (⊎_elim (λ a. let even = a.0 in let up = a.1 in ⊎_elim (λ b. let again = b.0 in omega arith) (λ b. let odd = b.0 in let down = b.1 in omega arith) (number_of-negation (negation_of l)))
    (λ a. let odd = a.0 in let down = a.1 in ⊎_elim (λ b. let even = b.0 in let up = b.1 in omega arith) (λ b. let again = b.0 in omega arith) (number_of-negation (negation_of l))) (number_of-negation l))

-- ---- operands in either order

flip : (g : Gate) (x y : Lit) → HasOperands g x y → HasOperands g y x
flip g x y h = ⊎_elim inr inl h

reads_as : (g : Gate) (x y p q : Lit) → x ≡ p → y ≡ q → HasOperands g x y → HasOperands g p q
reads_as g x y p q e f h = subst (λ z. HasOperands g z q) e (subst (λ z. HasOperands g x z) f h)

-- the two gates are over the same two variables, so either may come first
pub two_flip : (u w : Gate) → AreTwo u w → AreTwo w u
two_flip u w h = ⊎_elim straight crossed h.reads
  where
    left_is : variable_of (negation_of u.left) ≡ variable_of u.left
    left_is = variable_of-negated u.left

    right_is : variable_of (negation_of u.right) ≡ variable_of u.right
    right_is = variable_of-negated u.right

    straight : (w.left ≡ negation_of u.left) × (w.right ≡ negation_of u.right) → AreTwo w u
    straight s =
        let l : variable_of w.left ≡ variable_of u.left = ap variable_of s.0 ∙ left_is in
        let r : variable_of w.right ≡ variable_of u.right = ap variable_of s.1 ∙ right_is in
        let p = h.x_variable in
        let q = h.y_variable in
        record {
          different = λ e. h.different (sym e);
          x_variable = omega arith;
          y_variable = omega arith;
          two_variables = λ e. h.two_variables (sym l ∙ e ∙ r);
          reads = inl (sym (ap negation_of s.0 ∙ negation_twice u.left), sym (ap negation_of s.1 ∙ negation_twice u.right));
        }

    crossed : (w.left ≡ negation_of u.right) × (w.right ≡ negation_of u.left) → AreTwo w u
    crossed s =
        let l : variable_of w.left ≡ variable_of u.right = ap variable_of s.0 ∙ right_is in
        let r : variable_of w.right ≡ variable_of u.left = ap variable_of s.1 ∙ left_is in
        let p = h.x_variable in
        let q = h.y_variable in
        record {
          different = λ e. h.different (sym e);
          x_variable = omega arith;
          y_variable = omega arith;
          two_variables = λ e. h.two_variables (sym r ∙ sym e ∙ l);
          reads = inr (sym (ap negation_of s.1 ∙ negation_twice u.left), sym (ap negation_of s.0 ∙ negation_twice u.right));
        }

-- two gates over x and y and over their negations
two_of : (u w : Gate) (x y : Lit) → u.v ≢ w.v → 0 < variable_of x → 0 < variable_of y → variable_of x ≢ variable_of y → HasOperands u x y → HasOperands w (negation_of x) (negation_of y) → AreTwo u w
two_of u w x y ne p q apart h k =
    ⊎_elim
    (λ s. record {
      different = ne;
      x_variable = subst (λ z. 0 < variable_of z) (sym s.0) p;
      y_variable = subst (λ z. 0 < variable_of z) (sym s.1) q;
      two_variables = λ e. apart (sym (ap variable_of s.0) ∙ e ∙ ap variable_of s.1);
      reads = reads_as w (negation_of x) (negation_of y) (negation_of u.left) (negation_of u.right) (ap negation_of (sym s.0)) (ap negation_of (sym s.1)) k;
    })
    (λ s. record {
      different = ne;
      x_variable = subst (λ z. 0 < variable_of z) (sym s.0) q;
      y_variable = subst (λ z. 0 < variable_of z) (sym s.1) p;
      two_variables = λ e. apart (sym (ap variable_of s.1) ∙ sym e ∙ ap variable_of s.0);
      reads = reads_as w (negation_of y) (negation_of x) (negation_of u.left) (negation_of u.right) (ap negation_of (sym s.0)) (ap negation_of (sym s.1)) (flip w (negation_of x) (negation_of y) k);
    }) h

module _ (g : Aig) (well : IsWellFormed g) where
  -- ---- what is found has the shape

  computes : (x : Gate) (a b : Lit) → Contains g.gates x → HasOperands x a b → Computes g.gates x.v a b
  computes x a b has h = (has.0, x, has.1, has.2, (refl, h))

  pub below_reads : (top u w : Gate) → IsBelow g.gates top.left u → IsBelow g.gates top.right w → HasOperands top (inverted u.v) (inverted w.v)
  below_reads top u w h k = inl (negated_is top.left u.v h.0 h.1.1, negated_is top.right w.v k.0 k.1.1)

  pair_over : (x : Gate) → (((ordered_operands x).0 ≡ x.left) × ((ordered_operands x).1 ≡ x.right)) ⊎ (((ordered_operands x).0 ≡ x.right) × ((ordered_operands x).1 ≡ x.left))
  pair_over x = by_cases (λ b. (((cond {A = Lit × Lit} b (x.left, x.right) (x.right, x.left)).0 ≡ x.left) × ((cond {A = Lit × Lit} b (x.left, x.right) (x.right, x.left)).1 ≡ x.right)) ⊎
      (((cond {A = Lit × Lit} b (x.left, x.right) (x.right, x.left)).0 ≡ x.right) × ((cond {A = Lit × Lit} b (x.left, x.right) (x.right, x.left)).1 ≡ x.left)))
      (nat_le x.left.0 x.right.0) (λ e. inl (refl, refl)) (λ e. inr (refl, refl))

  -- the gate over two others, of which the first generates
  pub is_found : (top u w : Gate) → Contains g.gates top → Contains g.gates u → Contains g.gates w → HasOperands top (inverted u.v) (inverted w.v) → AreTwo u w → IsReadMore g u.v w.v →
      (xor : Xor) → xor ≡ shape_of u w → IsXorOf g top.v xor
  is_found top u w has_top has_u has_w reads two more xor is =
      subst (IsXorOf g top.v) (sym is)
      (⊎_elim
      (λ s. make (ordered_operands u).0 (ordered_operands u).1 (inl (sym s.0, sym s.1)) (reads_as w (negation_of u.left) (negation_of u.right) (negation_of (ordered_operands u).0) (negation_of (ordered_operands u).1) (ap negation_of (sym s.0)) (ap negation_of (sym s.1)) two.reads)
      (subst (λ z. 0 < variable_of z) (sym s.0) two.x_variable) (subst (λ z. 0 < variable_of z) (sym s.1) two.y_variable) (λ e. two.two_variables (sym (ap variable_of s.0) ∙ e ∙ ap variable_of s.1)))
      (λ s. make (ordered_operands u).0 (ordered_operands u).1 (inr (sym s.1, sym s.0)) (reads_as w (negation_of u.right) (negation_of u.left) (negation_of (ordered_operands u).0) (negation_of (ordered_operands u).1) (ap negation_of (sym s.0)) (ap negation_of (sym s.1)) (flip w (negation_of u.left) (negation_of u.right) two.reads))
      (subst (λ z. 0 < variable_of z) (sym s.0) two.y_variable) (subst (λ z. 0 < variable_of z) (sym s.1) two.x_variable) (λ e. two.two_variables (sym (ap variable_of s.1) ∙ sym e ∙ ap variable_of s.0)))
      (pair_over u))
    where
      make : (x y : Lit) → HasOperands u x y → HasOperands w (negation_of x) (negation_of y) → 0 < variable_of x → 0 < variable_of y → variable_of x ≢ variable_of y → IsXor g top.v u.v w.v x y (ordered_operands u)
      make x y p q a b ne = record {
        shape = record {
          top = computes top (inverted u.v) (inverted w.v) has_top reads;
          different = two.different;
          both = computes u x y has_u p;
          neither = computes w (negation_of x) (negation_of y) has_w q;
          x_variable = a;
          y_variable = b;
          two_variables = ne;
        };
        generates = generates_from g well top has_top u.v w.v reads two.different more;
        operands = (has_u.0, u, has_u.1, has_u.2, (refl, refl));
      }

  -- ---- what has the shape is found

  -- the gates below a gate of XOR shape
  pub shape_has : (v : ℕ) (top : Gate) → IsGateOf g.gates v top → IsXorGate g v → (u w : Gate) × IsBelow g.gates top.left u × IsBelow g.gates top.right w × AreTwo u w
  shape_has v top at s =
      let h = s.4 in
      let a = s.0 in
      let b = s.1 in
      let x = s.2 in
      let y = s.3 in
      let t : Gate = h.top.1 in
      let u : Gate = h.both.1 in
      let w : Gate = h.neither.1 in
      let same : top ≡ t = one_gate g v t top well ((h.top.0, h.top.2, h.top.3), h.top.4.0) at in
      let u_at : IsGateOf g.gates a u = ((h.both.0, h.both.2, h.both.3), h.both.4.0) in
      let w_at : IsGateOf g.gates b w = ((h.neither.0, h.neither.2, h.neither.3), h.neither.4.0) in
      let ne : u.v ≢ w.v = λ e. h.different (sym u_at.1 ∙ e ∙ w_at.1) in
      let two : AreTwo u w = two_of u w x y ne h.x_variable h.y_variable h.two_variables h.both.4.1 h.neither.4.1 in
      let reads : HasOperands top (inverted a) (inverted b) = subst (λ z. HasOperands z (inverted a) (inverted b)) (sym same) h.top.4.1 in
      ⊎_elim (λ r. (u, w, below top.left a u r.0 u_at, below top.right b w r.1 w_at, two)) (λ r. (w, u, below top.left b w r.0 w_at, below top.right a u r.1 u_at, two_flip u w two)) reads
    where
      below : (l : Lit) (a : ℕ) (x : Gate) → l ≡ inverted a → IsGateOf g.gates a x → IsBelow g.gates l x
      below l a x e at = (inverted_odd l a e, (at.0, at.1 ∙ inverted_variable l a e))

  pub same_below : (l : Lit) (x y : Gate) → IsBelow g.gates l x → IsBelow g.gates l y → y ≡ x
  same_below l x y h k = one_gate g (variable_of l) x y well h.1 k.1

  -- the operands of a gate are in range
  pub operands_low : (v : ℕ) (x : Gate) → IsGateOf g.gates v x → (variable_of x.left ≤ g.max) × (variable_of x.right ≤ g.max)
  operands_low v x at = let low = gate_in_range g well x at.0 in let left = low.left in let right = low.right in (omega arith, omega arith)

  pub own_low : (l : Lit) (x : Gate) → IsBelow g.gates l x → x.v ≤ g.max
  own_low l x h = (gate_in_range g well x h.1.0).own

  -- a gate below isn't there
  pub none_below_left : (v : ℕ) (top : Gate) → IsGateOf g.gates v top → ((x : Gate) → ¬ (IsBelow g.gates top.left x)) → IsXorGate g v → ⊥
  none_below_left v top at none s = let h = shape_has v top at s in none h.0 h.2

  pub none_below_right : (v : ℕ) (top : Gate) → IsGateOf g.gates v top → ((x : Gate) → ¬ (IsBelow g.gates top.right x)) → IsXorGate g v → ⊥
  none_below_right v top at none s = let h = shape_has v top at s in none h.1 h.3

  pub not_two : (v : ℕ) (top u w : Gate) → IsGateOf g.gates v top → IsBelow g.gates top.left u → IsBelow g.gates top.right w → ¬ (AreTwo u w) → IsXorGate g v → ⊥
  not_two v top u w at p q not s =
      let h = shape_has v top at s in
      let a = same_below top.left u h.0 p h.2 in
      let b = same_below top.right w h.1 q h.3 in
      not (subst (λ z. AreTwo z w) a (subst (λ z. AreTwo h.0 z) b h.4))

  -- the two gates below, the first of which generates
  found_left : (v : ℕ) (top u w : Gate) → IsGateOf g.gates v top → IsBelow g.gates top.left u → IsBelow g.gates top.right w → AreTwo u w → IsReadMore g u.v w.v →
      (xor : Xor) → xor ≡ shape_of u w → IsXorOf g v xor
  found_left v top u w at p q two more xor is = subst (λ n. IsXorOf g n xor) at.1 (is_found top u w at.0 p.1.0 q.1.0 (below_reads top u w p q) two more xor is)

  -- or the second
  found_right : (v : ℕ) (top u w : Gate) → IsGateOf g.gates v top → IsBelow g.gates top.left u → IsBelow g.gates top.right w → AreTwo u w → IsReadMore g w.v u.v →
      (xor : Xor) → xor ≡ shape_of w u → IsXorOf g v xor
  found_right v top u w at p q two more xor is =
      subst (λ n. IsXorOf g n xor) at.1 (is_found top w u at.0 q.1.0 p.1.0 (flip top (inverted u.v) (inverted w.v) (below_reads top u w p q)) (two_flip u w two) more xor is)

  -- what is told of their readers is so
  told_more : (u w : ℕ) (first second : Bool) → (IsTrue first ↔ 1 < reader_count g u) → (IsTrue second ↔ 1 < reader_count g w) → IsMoreRead u first w second → IsReadMore g u w
  told_more u w first second a b =
      ⊎_elim (λ s. inl (a.0 s.0, few w second b s.1))
      (λ s. inr (
        by_cases (λ c. first ≡ c → ((1 < reader_count g u) × (1 < reader_count g w)) ⊎ ((reader_count g u ≤ 1) × (reader_count g w ≤ 1))) first
            (λ _ e. inl (a.0 e, b.0 (sym s.0 ∙ e))) (λ _ e. inr (few u first a e, few w second b (sym s.0 ∙ e))) refl,
        s.1,
      ))
    where
      few : (v : ℕ) (shared : Bool) → (IsTrue shared ↔ 1 < reader_count g v) → shared ≡ false → reader_count g v ≤ 1
      few v shared told one = ⊎_elim (λ more. absurd (true≢false (sym (told.1 more) ∙ one))) (λ low. low) (cases_lt 1 (reader_count g v))

  -- the shape over the two gates below
  found : (v : ℕ) (top u w : Gate) (first second : Bool) → IsGateOf g.gates v top → IsBelow g.gates top.left u → IsBelow g.gates top.right w →
      (IsTrue first ↔ 1 < reader_count g u.v) → (IsTrue second ↔ 1 < reader_count g w.v) → (xor : Xor) → IsShapeOver u first w second xor → IsXorOf g v xor
  found v top u w first second at p q a b xor is =
      ⊎_elim (λ s. found_left v top u w at p q is.two (told_more u.v w.v first second a b s.0) xor s.1)
      (λ s. found_right v top u w at p q is.two (told_more w.v u.v second first b a s.0) xor s.1) is.over

  pub has_shape : (v : ℕ) (xor : Xor) → IsXorOf g v xor → IsXorGate g v
  has_shape v xor h = (xor.generating, xor.other, xor.pair.0, xor.pair.1, h.shape)

  -- and none exactly where the gate has no such shape
  pub found_exactly : (v : ℕ) (top u w : Gate) (first second : Bool) → IsGateOf g.gates v top → IsBelow g.gates top.left u → IsBelow g.gates top.right w →
      (IsTrue first ↔ 1 < reader_count g u.v) → (IsTrue second ↔ 1 < reader_count g w.v) → (r : Option Xor) → IfSome r (IsShapeOver u first w second) → (IsNone r → ¬ (AreTwo u w)) →
      IfSome r (IsXorOf g v) × (IsNone r ↔ ¬ (IsXorGate g v))
  found_exactly v top u w first second at p q a b None some none = (some, (λ e. not_two v top u w at p q (none e), λ _. refl))
  found_exactly v top u w first second at p q a b (Some xor) some none =
      let is = found v top u w first second at p q a b xor some in
      (is, (λ e. absurd (true≢false e), λ not. absurd (not (has_shape v xor is))))

  pub pair_low : (v : ℕ) (p : Lit × Lit) → IsXorOfPair g v p → (variable_of p.0 ≤ g.max) × (variable_of p.1 ≤ g.max)
  pair_low v p h =
      let at = h.4.operands in
      let u : Gate = at.1 in
      let low : (variable_of u.left ≤ g.max) × (variable_of u.right ≤ g.max) = operands_low u.v u ((at.0, at.2, at.3), refl) in
      let own : (variable_of (ordered_operands u).0 ≤ g.max) × (variable_of (ordered_operands u).1 ≤ g.max) = ⊎_elim
      (λ s. (subst (λ z. variable_of z ≤ g.max) (sym s.0) low.0, subst (λ z. variable_of z ≤ g.max) (sym s.1) low.1))
      (λ s. (subst (λ z. variable_of z ≤ g.max) (sym s.0) low.1, subst (λ z. variable_of z ≤ g.max) (sym s.1) low.0)) (pair_over u) in
      subst (λ (z : Lit × Lit). (variable_of z.0 ≤ g.max) × (variable_of z.1 ≤ g.max)) (sym at.4.1) own

  -- the sides of a gate of XOR shape are in range
  pub sides_low : (v u w : ℕ) (x y : Lit) → HasXorShape g.gates v u w x y → (variable_of x ≤ g.max) × (variable_of y ≤ g.max)
  sides_low v u w x y h =
      let k : Gate = h.both.1 in
      let low : (variable_of k.left ≤ g.max) × (variable_of k.right ≤ g.max) = operands_low k.v k ((h.both.0, h.both.2, h.both.3), refl) in
      ⊎_elim (λ s. (subst (λ z. variable_of z ≤ g.max) s.0 low.0, subst (λ z. variable_of z ≤ g.max) s.1 low.1)) (λ s. (subst (λ z. variable_of z ≤ g.max) s.1 low.1, subst (λ z. variable_of z ≤ g.max) s.0 low.0)) h.both.4.1
