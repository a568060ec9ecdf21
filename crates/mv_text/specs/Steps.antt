-- What the steps of reading a line take.
use Rattle.std.specs.Prelude.{◌≡◌, ◌<◌, ◌≤◌, ℕ, Bool, false, List, [], ◌∷◌, ◌++◌, length}
use Rattle.std.specs.declared.option.Option.{Option}
use Rattle.std.specs.declared.option.Option.TheVariants.{None, Some}
use Rattle.std.specs.Global.{Global}
use Rattle.std.specs.declared.vec.Vec.{Vec}
use Rattle.graph_core.specs.Text.Numerals.{digits_of, behind_digits}
use Rattle.graph_core.specs.Text.Readers.{Reader}
use Rattle.mv_text.specs.declared.line_fail.LineFail.{LineFail}
use Rattle.mv_text.specs.declared.line_fail.LineFail.TheVariants as fail

-- the first byte, if there is one
abbrev pub first_byte : List ℕ → Option ℕ
first_byte [] = None
first_byte (b ∷ bytes) = Some b

-- whether the first byte is there and passes a test
abbrev pub begins : (ℕ → Bool) → List ℕ → Bool
begins test [] = false
begins test (b ∷ bytes) = test b

-- The text fails, or memory; nothing else does here.
abbrev pub IsMisfit : Type 0 → LineFail → Type 0
IsMisfit misfit fail.Text = misfit
IsMisfit misfit fail.Range = ⊥
IsMisfit misfit fail.Fault = ⊥
IsMisfit misfit fail.TooLong = ⊥
IsMisfit misfit fail.Memory = Unit {0}

-- The digits at the front, at least one and at most so many, were taken.
pub record IsDigitsOf (most : ℕ) (old digits new : List ℕ) : Type 0 where
  pub digits_are : digits ≡ digits_of old
  pub some : 0 < length digits
  pub few : length digits ≤ most
  pub left : new ≡ behind_digits old

-- What code has of a value that was read: nothing where the value is out of range.
abbrev pub Gives : {A T : Type 0} → (A → Type 0) → (A → T → Type 0) → A → Option T → Type 0
Gives InRange Is x None = ¬ (InRange x)
Gives InRange Is x (Some y) = InRange x × Is x y

-- A reader gave a value and left these bytes, and code has this of the value.
pub record Takes {A T : Type 0} (item : Reader A) (InRange : A → Type 0) (Is : A → T → Type 0) (old new : List ℕ) (given : Option T) : Type 0 where
  pub read : A
  pub taken : item old ≡ Some (read, new)
  pub gives : Gives InRange Is read given

-- A list with one more item, where both are there.
abbrev pub Pushes : {T : Type 0} → Option (Vec T Global) → Option T → Option (Vec T Global) → Type 0
Pushes (Some list) (Some x) (Some longer) = longer.items ≡ list.items ++ x ∷ []
Pushes (Some list) (Some x) None = ⊥
Pushes (Some list) None longer = longer ≡ None
Pushes None x longer = longer ≡ None

-- a number of the text that code has as it is, where it is in range
abbrev pub TakesNumber : Reader ℕ → (ℕ → Type 0) → List ℕ → List ℕ → Option ℕ → Type 0
TakesNumber item InRange = Takes item InRange (λ n k. n ≡ k)

-- a variable from 1 to the greatest one
abbrev pub IsVariable : ℕ → ℕ → Type 0
IsVariable max v = (0 < v) × (v ≤ max)
