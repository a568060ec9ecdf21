-- What the reader of a clause file answers of the next line.
use Rattle.std.specs.Prelude.{◌≡◌, ◌+◌, ℕ, List, IfSome, Ok}
use Rattle.std.specs.declared.option.Option.{Option}
use Rattle.std.specs.declared.option.Option.TheVariants.{None, Some}
use Rattle.clause_core.specs.ClauseLines.{ClauseLine}
use Rattle.mv_text.specs.CertificateFiles.{FileState, GoesOn, KeepsFile, ReadsLine, TakesText, left_of_file}
use Rattle.drup_text.specs.ClauseTexts.{IsClauseLine}
use Rattle.drup_text.specs.LineTexts.{IsClauseLineInRange, IsClauseTextOf}
use Rattle.mv_desk.specs.View.{View}
use Rattle.mv_desk.specs.declared.slot.Slot.TheVariants as slot
use Rattle.clause_judge.specs.ClauseLines.{NextLine, ReadsNext}

module _ (max : ℕ) (old new : FileState) where
  line_read : (left behind : Option (List ℕ)) (line : ClauseLine) → (text : List ℕ) × IsClauseTextOf max text line → IfSome left (λ bytes. TakesText (IsClauseTextOf max) old.lines new.lines bytes behind line) →
      new.number ≡ old.number + 1 → GoesOn new → NextLine max old new left behind line
  line_read None behind line t takes number going = record { text = t.1.0; in_range = t.1.2; same = t.1.3; takes = tt; number = number; going = going }
  line_read (Some bytes) behind line t takes number going =
      let b = takes.begins in
      record {
        text = b.1.0;
        in_range = b.1.2;
        same = b.1.3;
        takes = record { rest = takes.rest; begins = (b.0, b.1.1, b.2); short = takes.short; left_is = takes.left_is; taken = takes.taken };
        number = number;
        going = going;
      }

  pub next_read : (before now : View) (next : Option ClauseLine) → ReadsLine IsClauseLine (IsClauseLineInRange max) (IsClauseTextOf max) slot.Clauses old new before now (Ok next) → KeepsFile {X = Option ClauseLine} old new (Ok next) →
      ReadsNext max old new (left_of_file slot.Clauses old before) (left_of_file slot.Clauses new now) next
  next_read before now None h keeps = h.end
  next_read before now (Some x) h keeps = line_read (left_of_file slot.Clauses old before) (left_of_file slot.Clauses new now) x h.text h.line h.number (record { ended = h.ended; failed = keeps.failed })
