-- What is written for lines is read as these lines, one after the other.
use Rattle.std.specs.Prelude.{◌<◌, ◌^◌, ℕ, List, [], ◌∷◌, ◌++◌, IsSome, IsSomeAnd}
use Rattle.std.specs.declared.option.Option.{Option}
use Rattle.std.specs.declared.option.Option.TheVariants.{None, Some}
use Rattle.std.specs.List.{AllByRecursion, cons_option}
use Rattle.std.proofs.Common.{refl, ◌∙◌, append_assoc}
use Rattle.graph_core.specs.Text.{newline}
use Rattle.algebra_core.specs.AlgebraLines.{Line}
use Rattle.algebra_core.specs.Likeness.{AreAlike}
use Rattle.algebra_core.specs.Text.{AreLineTexts, IsCloseText, IsId, IsLineInRange, IsLineText}
use Rattle.mv_nums.specs.Residue.{IsWidth}
use Rattle.poly_terms.specs.Tables.{Table, modulus_in}
use Rattle.poly_text.specs.declared.line.PacLine.{PacLine}
use Rattle.poly_text.specs.declared.line.PacLine.TheVariants as line
use Rattle.poly_text.specs.LineTexts.{IsTextOf}
use Rattle.poly_text.specs.Lines.{line_in}
use Rattle.poly_text.specs.WrittenLines.{closing_text, line_text, text_in, written_lines}
use Rattle.poly_text.proofs.WrittenAgain.{written_lines_are_read}
use Rattle.poly_text.specs.Recorded.{AreAllAlike, lines_in}
use Rattle.pac_writer.proofs.Readable.{IsTold}

-- A line that the text written for one says, alike to it.
pub record SaysLine (version max m : ℕ) (y : Line) : Type 0 where
  pub line : Line
  pub text_is : IsLineText version (line_text m y) line
  pub in_range : IsLineInRange max line
  pub alike : AreAlike m line y

says_line : (t : Table) (version max : ℕ) (x : PacLine) → IsSome (line_in t x) → IsTextOf t version max (text_in t x) x → IsSomeAnd (line_in t x) (SaysLine version max (modulus_in t))
says_line t version max (line.Close id) h s = absurd (cc h)
says_line t version max x h s = record { line = s.0; text_is = s.1; in_range = s.2; alike = s.3.alike }

-- what is written for a line that is told says this line
told_says : (t : Table) (version max : ℕ) (x : PacLine) → IsWidth t.exponent → max < 2 ^ 32 → IsTold version max t x → IsSomeAnd (line_in t x) (SaysLine version max (modulus_in t))
told_says t version max x width small h = says_line t version max x h.goes_on (written_lines_are_read t version max x width small h.«of» h.writable h.up_to h.of_version)

-- Lines that the text written for some and then these bytes says, alike to them.
pub record SaysLines (version max m : ℕ) (after : List ℕ) (ys : List Line) : Type 0 where
  pub lines : List Line
  pub texts : AreLineTexts version (written_lines m ys ++ after) lines after
  pub in_range : AllByRecursion (IsLineInRange max) lines
  pub alike : AreAllAlike m lines ys

more_says : (version max m : ℕ) (after : List ℕ) (y : Option Line) (ys : List Line) → IsSomeAnd y (SaysLine version max m) → SaysLines version max m after ys →
    SaysLines version max m after (cons_option y ys)
more_says version max m after None ys one more = absurd one
more_says version max m after (Some y) ys one more =
    let text = line_text m y in
    let rest = written_lines m ys in
    record {
      lines = one.line ∷ more.lines;
      texts = (text, rest ++ after, one.text_is, more.texts, append_assoc (text ++ newline ∷ []) rest after ∙ append_assoc text (newline ∷ []) (rest ++ after));
      in_range = (one.in_range, more.in_range);
      alike = (one.alike, more.alike);
    }

pub told_say : (t : Table) (version max : ℕ) (xs : List PacLine) (after : List ℕ) → IsWidth t.exponent → max < 2 ^ 32 → AllByRecursion (IsTold version max t) xs →
    SaysLines version max (modulus_in t) after (lines_in t xs)
told_say t version max [] after width small h = record { lines = []; texts = refl; in_range = tt; alike = refl }
told_say t version max (x ∷ xs) after width small h =
    more_says version max (modulus_in t) after (line_in t x) (lines_in t xs) (told_says t version max x width small h.0) (told_say t version max xs after width small h.1)

pub closing_says : (t : Table) (version max id : ℕ) → IsWidth t.exponent → max < 2 ^ 32 → IsId id → IsCloseText (closing_text id) id
closing_says t version max id width small is = (written_lines_are_read t version max (line.Close id) width small tt is tt tt).0
