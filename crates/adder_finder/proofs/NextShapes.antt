-- What an output of XOR shape says of its column.
use Rattle.std.specs.Prelude.{◌≡◌, ℕ, ◌≤◌, ◌⊎◌, List}
use Rattle.std.proofs.Common.{sym, subst, ◌∙◌, inl, inr, ⊎_elim}
use Rattle.graph_core.specs.declared.gate.Gate.{Gate}
use Rattle.graph_core.specs.declared.literal.Lit.{Lit}
use Rattle.graph_core.specs.Graph.Literals.{variable_of, negation_of}
use Rattle.graph_core.specs.Graph.{Aig, IsWellFormed}
use Rattle.adder_finder.specs.declared.stage.Next.{Next}
use Rattle.adder_finder.specs.declared.xor.Xor.{Xor}
use Rattle.adder_finder.specs.XorShape.{Computes, HasXorShape, IsXorOfPair, IsXorGate, IsXorOf}
use Rattle.adder_finder.specs.StageSearch.{IsNextShape}
use Rattle.adder_finder.proofs.XorSearch.{sides_low}
use Rattle.adder_finder.proofs.XorShapes.{pair_has_shape, same_sides}

flip_computes : (gates : List Gate) (v : ℕ) (x y : Lit) → Computes gates v x y → Computes gates v y x
flip_computes gates v x y h = (h.0, h.1, h.2, h.3, (h.4.0, ⊎_elim inr inl h.4.1))

flip_shape : (gates : List Gate) (v u w : ℕ) (x y : Lit) → HasXorShape gates v u w x y → HasXorShape gates v u w y x
flip_shape gates v u w x y h = record {
  top = h.top;
  different = h.different;
  both = flip_computes gates u x y h.both;
  neither = flip_computes gates w (negation_of x) (negation_of y) h.neither;
  x_variable = h.y_variable;
  y_variable = h.x_variable;
  two_variables = λ e. h.two_variables (sym e);
}

module _ (g : Aig) (well : IsWellFormed g) (o : Lit) (v : ℕ) (top : Xor) (is : v ≡ variable_of o) (h : IsXorOf g v top) (x y : ℕ) (x_is : x ≡ variable_of top.pair.0) (y_is : y ≡ variable_of top.pair.1) where
  shape : HasXorShape g.gates (variable_of o) top.generating top.other top.pair.0 top.pair.1
  shape = subst (λ n. HasXorShape g.gates n top.generating top.other top.pair.0 top.pair.1) is h.shape

  pub x_low : x ≤ g.max
  x_low = subst (λ n. n ≤ g.max) (sym x_is) (sides_low g well v top.generating top.other top.pair.0 top.pair.1 h.shape).0

  pub y_low : y ≤ g.max
  y_low = subst (λ n. n ≤ g.max) (sym y_is) (sides_low g well v top.generating top.other top.pair.0 top.pair.1 h.shape).1

  pair_of : (n : ℕ) (xor : Xor) → IsXorOf g n xor → IsXorOfPair g n xor.pair
  pair_of n xor k = (xor.generating, xor.other, xor.pair.0, xor.pair.1, k)

  pub next_x : (xor : Xor) → IsXorOf g x xor → ¬ (IsXorGate g y) → IsNextShape g o (record { pair = xor.pair; side = y })
  next_x xor k not = (top.generating, top.other, top.pair.0, top.pair.1, shape, subst (λ n. IsXorOfPair g n xor.pair) x_is (pair_of x xor k), λ s. not (subst (IsXorGate g) (sym y_is) s), y_is)

  pub next_y : (xor : Xor) → IsXorOf g y xor → ¬ (IsXorGate g x) → IsNextShape g o (record { pair = xor.pair; side = x })
  next_y xor k not = (
    top.generating,
    top.other,
    top.pair.1,
    top.pair.0,
    flip_shape g.gates (variable_of o) top.generating top.other top.pair.0 top.pair.1 shape,
    subst (λ n. IsXorOfPair g n xor.pair) y_is (pair_of y xor k),
    λ s. not (subst (IsXorGate g) (sym x_is) s),
    x_is,
  )

  sides : (n : Next) (s : IsNextShape g o n) → ((x ≡ variable_of s.2) × (y ≡ variable_of s.3)) ⊎ ((x ≡ variable_of s.3) × (y ≡ variable_of s.2))
  sides n s =
      ⊎_elim (λ e. inl (x_is ∙ e.0, y_is ∙ e.1)) (λ e. inr (x_is ∙ e.0, y_is ∙ e.1))
      (same_sides g well.defined_once (variable_of o) top.generating top.other s.0 s.1 top.pair.0 top.pair.1 s.2 s.3 shape s.4)

  pub none_both : IsXorGate g x → IsXorGate g y → (n : Next) → IsNextShape g o n → ⊥
  none_both p q n s = ⊎_elim (λ e. s.6 (subst (IsXorGate g) e.1 q)) (λ e. s.6 (subst (IsXorGate g) e.0 p)) (sides n s)

  pub none_neither : ¬ (IsXorGate g x) → ¬ (IsXorGate g y) → (n : Next) → IsNextShape g o n → ⊥
  none_neither p q n s = let has = pair_has_shape g (variable_of s.2) n.pair s.5 in ⊎_elim (λ e. p (subst (IsXorGate g) (sym e.0) has)) (λ e. q (subst (IsXorGate g) (sym e.1) has)) (sides n s)

-- the other side is in range
pub side_low : (g : Aig) → IsWellFormed g → (o : Lit) (n : Next) → IsNextShape g o n → n.side ≤ g.max
side_low g well o n s = subst (λ k. k ≤ g.max) (sym s.7) (sides_low g well (variable_of o) s.0 s.1 s.2 s.3 s.4).1
