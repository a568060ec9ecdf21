-- The lines of a header of version 2, as they are read.
use Rattle.std.specs.Prelude.{◌≡◌, ◌==◌, ℕ, Bool, true, false, cond, List, [], ◌∷◌, codes}
use Rattle.std.specs.declared.option.Option.TheVariants.{None, Some}
use Rattle.std.proofs.Common.{refl, sym, ap, subst, arith, length}
use Rattle.graph_core.specs.Graph.Extended.{Extended}
use Rattle.graph_core.specs.Text.Numerals.{◌>>=◌, front_at}
use Rattle.graph_core.specs.Text.Readers.{text_at, then_at}
use Rattle.mv_text.specs.Steps.{Takes, begins}
use Rattle.ripple_graft.proofs.GraftedGraphs.{reach_is}
use Rattle.drup_text.specs.ClauseReading.{block_line_at, carry_at, head_from, two_at}
use Rattle.drup_text.specs.LineTexts.{IsHeadOf}
use Rattle.drup_text.specs.Steps.{AreBothUpTo}

abbrev IsSame : {A : Type 0} → A → A → Type 0
IsSame x y = x ≡ y

-- ---- the word carry

pub no_carry : (bytes : List ℕ) → begins (λ b. b == 32) bytes ≡ false → carry_at bytes ≡ Some (false, bytes)
no_carry [] h = refl
no_carry (b ∷ bytes) h = ap (λ t. cond t (text_at (codes " carry") true (b ∷ bytes)) (Some (false, b ∷ bytes))) h

carry_there : (bytes : List ℕ) → begins (λ b. b == 32) bytes ≡ true → carry_at bytes ≡ text_at (codes " carry") true bytes
carry_there [] h = absurd (cc)
carry_there (b ∷ bytes) h = ap (λ t. cond t (text_at (codes " carry") true (b ∷ bytes)) (Some (false, b ∷ bytes))) h

-- ---- a block

pub head_front_fails : (bytes : List ℕ) → front_at (codes "replace ") bytes ≡ None → block_line_at bytes ≡ None
unfolding block_line_at
head_front_fails bytes e = ap (λ o. o >>= then_at two_at carry_at >>= λ y. Some (head_from y.0, y.1)) e

pub head_size_fails : (bytes mid : List ℕ) → front_at (codes "replace ") bytes ≡ Some mid → two_at mid ≡ None → block_line_at bytes ≡ None
unfolding block_line_at
head_size_fails bytes mid e h = rw (e, h) refl

pub head_carry_fails : (bytes mid rest : List ℕ) (n : ℕ × ℕ) → front_at (codes "replace ") bytes ≡ Some mid → two_at mid ≡ Some (n, rest) → carry_at rest ≡ None → block_line_at bytes ≡ None
unfolding block_line_at
head_carry_fails bytes mid rest n e h k = rw (e, h, k) refl

head_read : (bytes mid rest new : List ℕ) (n : ℕ × ℕ) (c : Bool) → front_at (codes "replace ") bytes ≡ Some mid → two_at mid ≡ Some (n, rest) → carry_at rest ≡ Some (c, new) → block_line_at bytes ≡ Some ((n.0, n.1, c), new)
unfolding block_line_at
head_read bytes mid rest new n c e h k = rw (e, h, k) refl

pub head_some : (x : Extended) (outputs : ℕ) (old mid rest new : List ℕ) (n : ℕ × ℕ) (c : Bool) → front_at (codes "replace ") old ≡ Some mid → Takes two_at (AreBothUpTo outputs) IsSame mid rest (Some n) → carry_at rest ≡ Some (c, new) →
    IsHeadOf x (n.0, n.1, c) → Takes block_line_at (IsHeadOf x) IsSame old new (Some (n.0, n.1, c))
head_some x outputs old mid rest new n c e h k is = record {
  read = (h.read.0, h.read.1, c);
  taken = head_read old mid rest new h.read c e h.taken k;
  gives = (subst (λ (m : ℕ × ℕ). IsHeadOf x (m.0, m.1, c)) (sym h.gives.1) is, ap (λ (m : ℕ × ℕ). (m.0, m.1, c)) h.gives.1);
}

pub head_other : (x : Extended) (outputs : ℕ) (old mid rest new : List ℕ) (n : ℕ × ℕ) (c : Bool) → front_at (codes "replace ") old ≡ Some mid → Takes two_at (AreBothUpTo outputs) IsSame mid rest (Some n) → carry_at rest ≡ Some (c, new) →
    ¬ (IsHeadOf x (n.0, n.1, c)) → Takes block_line_at (IsHeadOf x) IsSame old new None
head_other x outputs old mid rest new n c e h k other = record {
  read = (h.read.0, h.read.1, c);
  taken = head_read old mid rest new h.read c e h.taken k;
  gives = λ is. other (subst (λ (m : ℕ × ℕ). IsHeadOf x (m.0, m.1, c)) h.gives.1 is);
}

-- numbers above that of the outputs
pub head_none : (x : Extended) (outputs : ℕ) (old mid rest new : List ℕ) (c : Bool) → outputs ≡ length x.graph.outputs → front_at (codes "replace ") old ≡ Some mid → Takes two_at (AreBothUpTo outputs) IsSame mid rest None → carry_at rest ≡ Some (c, new) →
    Takes block_line_at (IsHeadOf x) IsSame old new None
head_none x outputs old mid rest new c all e h k = record {
  read = (h.read.0, h.read.1, c);
  taken = head_read old mid rest new h.read c e h.taken k;
  gives = λ is. let within = is.within in let wide = (reach_is h.read.1 c).0 in h.gives (omega arith, omega arith);
}
