-- Why a text is refused, by what is left of it, and by its cause.
use Rattle.std.proofs.Common.{◌≡◌, ℕ, ◌≤◌, List, Option, IfSome, refl}
use Rattle.std.specs.Io.KnownBytes.{Keeps}
use Rattle.algebra_core.specs.Refusal as cause
use Rattle.algebra_core.specs.Refusal.{AlgebraCause}
use Rattle.command_core.specs.Stopping.{IsLong}
use Rattle.command_core.proofs.CallerLemmas.{IsLong-weaker, IsStop-weaker}
use Rattle.mv_desk.specs.View.{View}
use Rattle.mv_desk.specs.declared.slot.Slot.TheVariants as slot
use Rattle.mv_desk.proofs.CallerLemmas.{IfSome-Keeps}
use Rattle.algebra_judge.specs.Fails.{IsFailOf, cause_of}
use Rattle.algebra_judge.specs.Faults.{fail_of}
use Rattle.algebra_judge.specs.declared.fail.AlgebraFail.{AlgebraFail}
use Rattle.algebra_judge.specs.declared.fail.AlgebraFail.TheVariants.{Line, Stopped}
use Rattle.algebra_judge.specs.declared.fail.AlgebraWhy.{AlgebraWhy}
use Rattle.algebra_judge.specs.declared.fail.AlgebraWhy.TheVariants as why

-- where each refusal of what is left is one of the text, which was told earlier
pub fails_before : (text left : Option (List ℕ)) (R S : List ℕ → ℕ × AlgebraCause → Type 0) → ((n : ℕ) (c : AlgebraCause) → IfSome left (λ rest. R rest (n, c)) → IfSome text (λ bytes. S bytes (n, c))) →
    (IfSome left (λ rest. (n : ℕ) × R rest (n, cause.TooLong)) → IfSome text (λ bytes. (n : ℕ) × S bytes (n, cause.TooLong))) →
    (first before now : View) → first.read_faults ≤ before.read_faults → (answer : AlgebraFail) → IsFailOf left R before now answer → IsFailOf text S first now answer
fails_before text left R S refused long first before now later (Line line why) h = refused line (cause_of why) h
fails_before text left R S refused long first before now later (Stopped why) h =
    let P : Type 0 = IfSome left (λ rest. (n : ℕ) × R rest (n, cause.TooLong)) in
    let Q : Type 0 = IfSome text (λ bytes. (n : ℕ) × S bytes (n, cause.TooLong)) in
    IsStop-weaker (IsLong slot.Algebra P) before now (IsLong slot.Algebra Q) first (IsLong-weaker slot.Algebra P Q long) later why h

-- by what is left in the slot once the file was opened
pub fails_of_left : (text left : Option (List ℕ)) → Keeps text left → (R : List ℕ → ℕ × AlgebraCause → Type 0) → (first before now : View) → first.read_faults ≤ before.read_faults →
    (answer : AlgebraFail) → IsFailOf left R before now answer → IsFailOf text R first now answer
fails_of_left text left kept R first before now later answer =
    fails_before text left R R (λ n c. IfSome-Keeps text left (λ bytes. R bytes (n, c)) kept) (IfSome-Keeps text left (λ bytes. (n : ℕ) × R bytes (n, cause.TooLong)) kept) first before now later answer

-- the answer for a line and its cause
pub line_is : (line : ℕ) (given : AlgebraWhy) → Line line given ≡ fail_of (line, cause_of given)
line_is line why.Text = refl
line_is line why.Range = refl
line_is line why.Id = refl
line_is line (why.NoSuchLine id) = refl
line_is line (why.NoSuchClause number) = refl
line_is line why.NotEqual = refl
line_is line why.NotSpec = refl
