-- Which literal stands at a position of the inputs.
use Rattle.std.specs.Prelude.{◌≡◌, ◌≢◌, ℕ, zero, suc, ◌+◌, ◌-◌, ◌*◌, ◌/◌, ◌%◌, ◌≤◌, Some, List, [], ◌∷◌, ◌++◌, length, slice_get}
use Rattle.std.proofs.Common.{ap, subst, ◌∙◌, arith, length-append}
use Rattle.std.proofs.lemmas.Option.{none-some}
use Rattle.graph_core.specs.declared.literal.Lit.{Lit}
use Rattle.graph_core.specs.declared.order.Order.{Order}
use Rattle.graph_core.specs.declared.order.Order.TheVariants.{Separate, Interleaved}
use Rattle.graph_core.specs.Graph.Operands.{Sides, alternate, in_order, inputs_in, order_of}
use Rattle.graph_core.proofs.OfGraphs.OperandLiterals.{length-in_order}

pub length-inputs_in : (s : Sides) → length (inputs_in s) ≡ (length s.a + length s.b) + length s.c
length-inputs_in s = omega (arith, length-append (in_order (order_of s.claim) s.a s.b) s.c, length-in_order (order_of s.claim) s.a s.b)

at_front : (xs ys : List Lit) (i : ℕ) (l : Lit) → slice_get xs i ≡ Some l → slice_get (xs ++ ys) i ≡ Some l
at_front [] ys i l e = absurd (none-some l e)
at_front (x ∷ xs) ys zero l e = e
at_front (x ∷ xs) ys (suc i) l e = at_front xs ys i l e

at_back : (xs ys : List Lit) (i j : ℕ) (l : Lit) → i ≡ length xs + j → slice_get ys j ≡ Some l → slice_get (xs ++ ys) i ≡ Some l
at_back [] ys i j l e h = subst (λ k. slice_get ys k ≡ Some l) (omega arith) h
at_back (x ∷ xs) ys zero j l e h = absurd (omega arith)
at_back (x ∷ xs) ys (suc i) j l e h = at_back xs ys i j l (omega arith) h

at_even : (xs ys : List Lit) (i k : ℕ) (l : Lit) → length xs ≡ length ys → i ≡ 2 * k → slice_get xs k ≡ Some l → slice_get (alternate xs ys) i ≡ Some l
at_even [] ys i k l same e h = absurd (none-some l h)
at_even (x ∷ xs) [] i k l same e h = absurd (omega arith)
at_even (x ∷ xs) (y ∷ ys) zero zero l same e h = h
at_even (x ∷ xs) (y ∷ ys) zero (suc k) l same e h = absurd (omega arith)
at_even (x ∷ xs) (y ∷ ys) (suc zero) k l same e h = absurd (omega arith)
at_even (x ∷ xs) (y ∷ ys) (suc (suc i)) zero l same e h = absurd (omega arith)
at_even (x ∷ xs) (y ∷ ys) (suc (suc i)) (suc k) l same e h = at_even xs ys i k l (omega arith) (omega arith) h

at_odd : (xs ys : List Lit) (i k : ℕ) (l : Lit) → length xs ≡ length ys → i ≡ 2 * k + 1 → slice_get ys k ≡ Some l → slice_get (alternate xs ys) i ≡ Some l
at_odd xs [] i k l same e h = absurd (none-some l h)
at_odd [] (y ∷ ys) i k l same e h = absurd (omega arith)
at_odd (x ∷ xs) (y ∷ ys) zero k l same e h = absurd (omega arith)
at_odd (x ∷ xs) (y ∷ ys) (suc zero) zero l same e h = h
at_odd (x ∷ xs) (y ∷ ys) (suc zero) (suc k) l same e h = absurd (omega arith)
at_odd (x ∷ xs) (y ∷ ys) (suc (suc i)) zero l same e h = absurd (omega arith)
at_odd (x ∷ xs) (y ∷ ys) (suc (suc i)) (suc k) l same e h = at_odd xs ys i k l (omega arith) (omega arith) h

module _ (s : Sides) (i : ℕ) (l : Lit) where
  ordered : (order : Order) → order_of s.claim ≡ order → slice_get (in_order order s.a s.b) i ≡ Some l → slice_get (inputs_in s) i ≡ Some l
  ordered order e h = at_front (in_order (order_of s.claim) s.a s.b) s.c i l (ap (λ o. slice_get (in_order o s.a s.b) i) e ∙ h)

  pub separate_a : order_of s.claim ≡ Separate → slice_get s.a i ≡ Some l → slice_get (inputs_in s) i ≡ Some l
  separate_a e h = ordered Separate e (at_front s.a s.b i l h)

  pub separate_b : order_of s.claim ≡ Separate → length s.a ≤ i → slice_get s.b (i - length s.a) ≡ Some l → slice_get (inputs_in s) i ≡ Some l
  separate_b e low h = ordered Separate e (at_back s.a s.b i (i - length s.a) l (omega arith) h)

  pub interleaved_a : order_of s.claim ≡ Interleaved → length s.a ≡ length s.b → i % 2 ≡ 0 → slice_get s.a (i / 2) ≡ Some l → slice_get (inputs_in s) i ≡ Some l
  interleaved_a e same even h = ordered Interleaved e (at_even s.a s.b i (i / 2) l same (omega arith) h)

  pub interleaved_b : order_of s.claim ≡ Interleaved → length s.a ≡ length s.b → i % 2 ≢ 0 → slice_get s.b (i / 2) ≡ Some l → slice_get (inputs_in s) i ≡ Some l
  interleaved_b e same odd h = ordered Interleaved e (at_odd s.a s.b i (i / 2) l same (omega arith) h)

  -- a literal of the addend
  pub addend_at : (k : ℕ) → i ≡ (length s.a + length s.b) + k → slice_get s.c k ≡ Some l → slice_get (inputs_in s) i ≡ Some l
  addend_at k place h = at_back (in_order (order_of s.claim) s.a s.b) s.c i k l (omega (arith, length-in_order (order_of s.claim) s.a s.b)) h
