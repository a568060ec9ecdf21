-- What a caller that judges a file line by line may cite: the next line in the words of the definitions of refusals, and that it may be written again.
pub use Rattle.mv_text.proofs.CallerLemmas.{long_of, short_of}
pub use Rattle.poly_text.proofs.ReadAgain.{close_read_again, outputs_fit, read_again, width_fits}
use Rattle.std.specs.Prelude.{◌≡◌, ℕ, List}
use Rattle.std.specs.declared.option.Option.TheVariants.{Some}
use Rattle.std.proofs.Common.{refl, inl, inr}
use Rattle.graph_core.specs.Graph.Operands.{Sides}
use Rattle.algebra_core.specs.AlgebraLines.{Line, Ledger}
use Rattle.algebra_core.specs.Text.{IsLineText, IsCloseText, IsLineInRange, IsId}
use Rattle.algebra_core.specs.Refusal.{IsRefusedNext, IsRefusedText}
use Rattle.algebra_core.specs.Refusal as cause
use Rattle.graph_core.specs.Graph.Extended.{Extended}
use Rattle.graph_core.specs.Text.JudgedLines.{BeginsWith}
use Rattle.poly_terms.specs.Tables.{Table}
use Rattle.mv_text.specs.CertificateFiles.{BeginsOutOfRange, BeginsWithNone}
use Rattle.poly_text.specs.LineTexts.{AnyLine, Closing, IsAnyInRange, IsAnyText, IsLineOf, IsTextOf, Stated}
use Rattle.poly_text.specs.Lines.{line_in}
use Rattle.poly_text.specs.declared.line.PacLine.{PacLine}
use Rattle.poly_text.specs.declared.line.PacLine.TheVariants as line

-- ---- refusals of the next line, over any ledger

pub no_line_is_refused : (version : ℕ) (e : Extended) (s : Sides) (IsLong : List ℕ → Type 0) (l : Ledger) (left : List ℕ) → ¬ (IsLong left) → BeginsWithNone (IsAnyText version) left → IsRefusedNext version e s IsLong l left (0, cause.Text)
no_line_is_refused version e s IsLong l left short none = inr (short, inl (λ x rest b. none (Stated x) rest b, λ id rest b. none (Closing id) rest b, refl))

pub out_of_range_is_refused : (version : ℕ) (e : Extended) (s : Sides) (IsLong : List ℕ → Type 0) (l : Ledger) (left : List ℕ) → ¬ (IsLong left) → BeginsOutOfRange (IsAnyText version) (IsAnyInRange e.max) left →
    IsRefusedNext version e s IsLong l left (0, cause.Range)
out_of_range_is_refused version e s IsLong l left short out = inr (short, go out.0 out.1 out.2 out.3)
  where
    go : (x : AnyLine) (rest : List ℕ) → BeginsWith (IsAnyText version) left x rest → ¬ (IsAnyInRange e.max x) → IsRefusedText version e s IsLong l left (0, cause.Range)
    go (Stated x) rest b other = inr (inl (x, rest, b, (cause.Range, inl (other, refl), refl)))
    go (Closing id) rest b other = inr (inr (id, rest, b, inl (cause.Range, inl (other, refl), refl)))

pub long_is_refused : (version : ℕ) (e : Extended) (s : Sides) (IsLong : List ℕ → Type 0) (l : Ledger) (left : List ℕ) → IsLong left → IsRefusedNext version e s IsLong l left (0, cause.TooLong)
long_is_refused version e s IsLong l left long = inl (long, refl)

-- ---- the next line

-- a line that is no closing line
pub line_there : (t : Table) (version max : ℕ) (left rest : List ℕ) (given : PacLine) (y : Line) → line_in t given ≡ Some y → BeginsWith (IsTextOf t version max) left given rest →
    (x : Line) × BeginsWith (IsLineText version) left x rest × IsLineInRange max x × IsLineOf t x given
line_there t version max left rest (line.Close id) y e b = absurd (cc)
line_there t version max left rest given y e b = (b.1.0, (b.0, b.1.1, b.2), b.1.2, b.1.3)

pub close_there : (t : Table) (version max : ℕ) (left rest : List ℕ) (id : ℕ) → BeginsWith (IsTextOf t version max) left (line.Close id) rest → BeginsWith IsCloseText left id rest × IsId id
close_there t version max left rest id b = ((b.0, b.1.0, b.2), b.1.1)
