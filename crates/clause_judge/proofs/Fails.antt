-- Why a text is refused, by what is left of it, and by its cause.
use Rattle.std.proofs.Common.{◌≡◌, ℕ, ◌≤◌, List, Option, IfSome, refl}
use Rattle.std.specs.Io.KnownBytes.{Keeps}
use Rattle.command_core.specs.Stopping.{IsLong}
use Rattle.command_core.proofs.CallerLemmas.{IsLong-weaker, IsStop-weaker}
use Rattle.drup_text.specs.HeaderRefusal.{LineCause, TooLong}
use Rattle.mv_desk.specs.View.{View}
use Rattle.mv_desk.specs.declared.slot.Slot.TheVariants as slot
use Rattle.mv_desk.proofs.CallerLemmas.{IfSome-Keeps}
use Rattle.clause_judge.specs.Fails.{IsFailOf}
use Rattle.clause_judge.specs.Faults as fault
use Rattle.clause_judge.specs.Faults.{fail_of}
use Rattle.clause_judge.specs.LineRefusals.{line_cause}
use Rattle.clause_judge.specs.declared.fail.ClauseFail.{ClauseFail}
use Rattle.clause_judge.specs.declared.fail.ClauseFail.TheVariants.{Goals, Line, Stopped}
use Rattle.clause_judge.specs.declared.fail.ClauseWhy.{ClauseWhy}
use Rattle.clause_judge.specs.declared.fail.ClauseWhy.TheVariants as why

-- where each refusal of what is left is one of the text, which was told earlier
pub fails_before : (text left : Option (List ℕ)) (R S : List ℕ → ℕ × LineCause → Type 0) (G H : List ℕ → ℕ → Type 0) → ((p : ℕ × LineCause) → IfSome left (λ rest. R rest p) → IfSome text (λ bytes. S bytes p)) →
    (IfSome left (λ rest. (n : ℕ) × R rest (n, TooLong)) → IfSome text (λ bytes. (n : ℕ) × S bytes (n, TooLong))) → ((column : ℕ) → IfSome left (λ rest. G rest column) → IfSome text (λ bytes. H bytes column)) →
    (first before now : View) → first.read_faults ≤ before.read_faults → (answer : ClauseFail) → IsFailOf left R G before now answer → IsFailOf text S H first now answer
fails_before text left R S G H refused long unshown first before now later (Line line why) h = refused (line, line_cause why) h
fails_before text left R S G H refused long unshown first before now later (Goals column) h = unshown column h
fails_before text left R S G H refused long unshown first before now later (Stopped why) h =
    let P : Type 0 = IfSome left (λ rest. (n : ℕ) × R rest (n, TooLong)) in
    let Q : Type 0 = IfSome text (λ bytes. (n : ℕ) × S bytes (n, TooLong)) in
    IsStop-weaker (IsLong slot.Clauses P) before now (IsLong slot.Clauses Q) first (IsLong-weaker slot.Clauses P Q long) later why h

-- by what is left in the slot once the file was opened
pub fails_of_left : (text left : Option (List ℕ)) → Keeps text left → (R : List ℕ → ℕ × LineCause → Type 0) (G : List ℕ → ℕ → Type 0) → (first before now : View) → first.read_faults ≤ before.read_faults →
    (answer : ClauseFail) → IsFailOf left R G before now answer → IsFailOf text R G first now answer
fails_of_left text left kept R G first before now later answer =
    fails_before text left R R G G (λ p. IfSome-Keeps text left (λ bytes. R bytes p) kept) (IfSome-Keeps text left (λ bytes. (n : ℕ) × R bytes (n, TooLong)) kept)
    (λ column. IfSome-Keeps text left (λ bytes. G bytes column) kept) first before now later answer

-- the answer for a line and its cause
pub line_is : (line : ℕ) (given : ClauseWhy) → Line line given ≡ fail_of (fault.Line (line, line_cause given))
line_is line why.Text = refl
line_is line why.Range = refl
line_is line why.NotImplied = refl
line_is line why.NoSuchClause = refl
