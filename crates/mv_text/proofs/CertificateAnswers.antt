-- What a certificate answers of its next line in a grammar, from the line that stands there.
use Rattle.std.specs.Prelude.{◌≡◌, ◌≢◌, ℕ, List, [], IfSome}
use Rattle.std.specs.Global.{Global}
use Rattle.std.specs.declared.option.Option.{Option}
use Rattle.std.specs.declared.option.Option.TheVariants.{None, Some}
use Rattle.std.specs.declared.result.Result.{Result}
use Rattle.std.specs.declared.result.Result.TheVariants.{Ok, Err}
use Rattle.std.specs.declared.vec.Vec.{Vec}
use Rattle.mv_desk.specs.Calls.{Reads}
use Rattle.mv_desk.specs.View.{View}
use Rattle.mv_desk.specs.declared.slot.Slot.{Slot}
use Rattle.mv_text.specs.declared.line_fail.LineFail.{LineFail}
use Rattle.mv_text.specs.declared.line_fail.LineFail.TheVariants as fail
use Rattle.graph_core.proofs.OfTexts.CallerLemmas.{HasNoNewline}
use Rattle.mv_text.specs.LineReading.{EndsIn}
use Rattle.mv_text.specs.CertificateFiles.{AnswersAgain, FileState, GivesEnd, GivesLine, GivesNeeded, IsAtEnd, ReadsLine, ReadsNeeded, SaysNothing, left_of_file, settled}
use Rattle.mv_text.proofs.LineLengths.{end_is_short}
use Rattle.mv_text.proofs.CertificateSteps.{fault_is_no_end, line_is_no_end, needed_refused, next_fault, next_refused_text, refused_text, text_is_taken, told_from}

-- ---- a line that needn't be there

module _ {X Y : Type 0} (IsText : List ℕ → X → Type 0) (InRange : X → Type 0) (IsSaid : List ℕ → Y → Type 0) (none : (line : List ℕ) (x : X) → IsText line x → HasNoNewline line)
    {slot : Slot} {old new : FileState} {before now : View} where
  pub line_read : (v : Vec ℕ Global) (y : Y) → GivesLine slot old new before now (Ok (Some v)) → IsSaid v.items y → ReadsLine IsText InRange IsSaid slot old (settled new None) before now (Ok (Some y))
  line_read v y h is = record {
    text = (v.items, is);
    line = text_is_taken IsSaid old.lines new.lines (left_of_file slot old before) (left_of_file slot new now) v.items y h.line is;
    end = tt;
    refused = tt;
    number = h.number;
    ended = h.ended;
  }

  pub line_not_read : (v : Vec ℕ Global) (f : LineFail) → GivesLine slot old new before now (Ok (Some v)) → SaysNothing IsText InRange v.items f → ReadsLine IsText InRange IsSaid slot old (settled new (Some f)) before now (Err f)
  line_not_read v f h refused = record {
    text = tt;
    line = tt;
    end = tt;
    refused = next_refused_text IsText InRange none old.lines new.lines (left_of_file slot old before) (left_of_file slot new now) v.items before.read_faults now.read_faults f h.line refused;
    number = h.number;
    ended = h.ended;
  }

  pub end_read : GivesLine slot old new before now (Ok None) → ReadsLine IsText InRange IsSaid slot old new before now (Ok None)
  end_read h = record {
    text = tt;
    line = tt;
    end = told_from (left_of_file slot old before) (λ bytes. (bytes ≡ []) × EndsIn old.lines bytes) (IsAtEnd old.lines) (λ bytes e ends. record { none = ends.0; short = end_is_short old.lines bytes ends.1 }) h.end;
    refused = tt;
    number = h.number;
    ended = h.ended;
  }

  pub fault_read : (f : LineFail) → GivesLine slot old new before now (Err f) → ReadsLine IsText InRange IsSaid slot old new before now (Err f)
  fault_read f h = record { text = tt; line = tt; end = tt; refused = next_fault IsText InRange none old.lines (left_of_file slot old before) before.read_faults now.read_faults f h.fault; number = h.number; ended = h.ended }

  -- ---- a line that has to be there

  pub needed_read : (v : Vec ℕ Global) (y : Y) → GivesNeeded slot old new before now (Ok v) → IsSaid v.items y → ReadsNeeded IsText InRange IsSaid slot old (settled new None) before now (Ok y)
  needed_read v y h is =
      record { text = (v.items, is); line = text_is_taken IsSaid old.lines new.lines (left_of_file slot old before) (left_of_file slot new now) v.items y h.line is; refused = tt; number = h.number; ended = h.ended }

  pub needed_not_read : (v : Vec ℕ Global) (f : LineFail) → GivesNeeded slot old new before now (Ok v) → SaysNothing IsText InRange v.items f → ReadsNeeded IsText InRange IsSaid slot old (settled new (Some f)) before now (Err f)
  needed_not_read v f h refused =
      record { text = tt; line = tt; refused = refused_text IsText InRange none old.lines new.lines (left_of_file slot old before) (left_of_file slot new now) v.items before.read_faults now.read_faults f h.line refused; number = h.number; ended = tt }

  pub needed_fault_read : (f : LineFail) → GivesNeeded slot old new before now (Err f) → ReadsNeeded IsText InRange IsSaid slot old new before now (Err f)
  needed_fault_read f h = record { text = tt; line = tt; refused = needed_refused IsText InRange none old.lines (left_of_file slot old before) before.read_faults now.read_faults f h.fault; number = h.number; ended = tt }

-- ---- the end

module _ {slot : Slot} {old new : FileState} {before now : View} where
  pub line_no_end : (v : Vec ℕ Global) → GivesLine slot old new before now (Ok (Some v)) → GivesEnd slot old (settled new (Some fail.Text)) before now (Err fail.Text)
  line_no_end v h = record { number = h.number; end = tt; refused = line_is_no_end old.lines new.lines (left_of_file slot old before) (left_of_file slot new now) v.items h.line }

  pub fault_no_end : (f : LineFail) → GivesLine slot old new before now (Err f) → GivesEnd slot old new before now (Err f)
  fault_no_end f h = record { number = h.number; end = tt; refused = fault_is_no_end old.lines (left_of_file slot old before) before.read_faults now.read_faults f h.fault }

-- ---- what stays

-- a file that gave another answer than its end went on
pub goes_on_again : {X Y : Type 0} {end : Result X LineFail} {last : Result Y LineFail} {old mid new : FileState} (x : X) (r : Result Y LineFail) → Ok x ≢ end → AnswersAgain end old mid (Ok x) → AnswersAgain last old new r
goes_on_again {X = X} {end = end} {old = old} {mid = mid} {new = new} x r other h = record { failed = none old.failed h.failed; ended = λ failed ended. absurd (other (h.ended failed ended).0) }
  where
    none : (o : Option LineFail) → IfSome o (λ f. (Ok x ≡ Err f) × (mid ≡ old)) → IfSome o (λ f. (r ≡ Err f) × (new ≡ old))
    none None k = tt
    none (Some f) k = let e : Ok x ≡ Err f = k.0 in absurd (cc)

-- what follows an answer reads no more
pub reads_on : {T U E : Type 0} (slot : Slot) (old new : View) (x : T) (r : Result U E) → Reads {T = T} {E = E} slot old new (Ok x) → Reads slot old new r
reads_on slot old new x (Ok y) h = record { only = h.only; stands = h.stands; tells = h.tells }
reads_on slot old new x (Err f) h = record { only = h.only; stands = tt; tells = h.tells }

-- a failure is passed on
pub reads_in_vain : {T U E : Type 0} (slot : Slot) (old new : View) (f : E) → Reads {T = T} {E = E} slot old new (Err f) →
    Reads {T = U} {E = E} slot old new (Err f)
reads_in_vain slot old new f h = record { only = h.only; stands = tt; tells = h.tells }
