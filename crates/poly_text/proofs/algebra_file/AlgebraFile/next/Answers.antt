use Rattle.std.proofs.Common.{◌∙◌, ℕ, subst, sym}
use Rattle.std.specs.Global.{Global}
use Rattle.std.specs.Result.{IfErr, IfOk, result_err}
use Rattle.std.specs.declared.result.Result.{Result}
use Rattle.std.specs.declared.result.Result.TheVariants.{Err, Ok}
use Rattle.std.specs.declared.vec.Vec.{Vec}
use Rattle.mv_desk.specs.View.{View}
use Rattle.mv_text.specs.declared.line_fail.LineFail.{LineFail}
use Rattle.mv_desk.specs.declared.slot.Slot.TheVariants.{Algebra}
use Rattle.mv_text.specs.CertificateFiles.{FileState, GivesNeeded, ReadsNeeded, SaysNothing, settled}
use Rattle.mv_text.proofs.CallerLemmas.{needed_fault_read, needed_not_read, needed_read}
use Rattle.poly_terms.specs.Tables.{Table}
use Rattle.poly_text.specs.LineTexts.{IsAnyInRange, IsAnyText, IsTextOf}
use Rattle.poly_text.specs.declared.line.PacLine.{PacLine}
use Rattle.poly_text.proofs.WholeLines.{none_any}
use Rattle.poly_text.proofs.algebra_file.AlgebraFile.next.Goals as goal

-- the answer of a line that stands there
line_answered : (t : Table) (version max : ℕ) (old new : FileState) (before now : View) (v : Vec ℕ Global) (r : Result PacLine LineFail) → GivesNeeded Algebra old new before now (Ok v) → IfOk r (IsTextOf t version max v.items) →
    IfErr r (SaysNothing (IsAnyText version) (IsAnyInRange max) v.items) → ReadsNeeded (IsAnyText version) (IsAnyInRange max) (IsTextOf t version max) Algebra old (settled new (result_err r)) before now r
line_answered t version max old new before now v (Ok line) gives is refused = needed_read (IsAnyText version) (IsAnyInRange max) (IsTextOf t version max) (none_any version) v line gives is
line_answered t version max old new before now v (Err f) gives is refused = needed_not_read (IsAnyText version) (IsAnyInRange max) (IsTextOf t version max) (none_any version) v f gives refused

pub returns-in-Ok-clause-next : goal.returns-in-Ok-clause-next
returns-in-Ok-clause-next g c =
    let t = c.read_line.new.terms in
    let old = c.self.inside.file in
    let mid = c.needed_line.new.self in
    let before = g.D.Desk.seen c.args.desk.now in
    let now = g.D.Desk.seen c.needed_line.new.desk in
    let v = c.in-Ok.line in
    let r = c.read_line.result in
    let max = c.args.max in
    let version = c.version-version.ensures ∙ c.in-Ok.ensures.keeps.version in
    let is = subst (λ (n : ℕ). IfOk r (IsTextOf t n max v.items)) version (subst (λ z. IfOk r (IsTextOf t c.version-version.result max z)) c.deref.ensures.value c.read_line.ensures.ok) in
    let refused = subst (λ (n : ℕ). IfErr r (SaysNothing (IsAnyText n) (IsAnyInRange max) v.items)) version (subst (λ z. IfErr r (SaysNothing (IsAnyText c.version-version.result) (IsAnyInRange max) z)) c.deref.ensures.value c.read_line.ensures.err) in
    rw (← c.self.view_is, c.settle.ensures.read)
    (λ going. subst (λ (f : FileState). ReadsNeeded (IsAnyText old.version) (IsAnyInRange max) (IsTextOf t old.version max) Algebra old f before now r) (sym c.settle.ensures.settled)
    (line_answered t old.version max old mid before now v r (c.in-Ok.ensures.next going) is refused))

pub returns-in-Err-clause-next : goal.returns-in-Err-clause-next
returns-in-Err-clause-next g c =
    let version = c.self.inside.file.version in
    rw (← c.self.view_is)
    (λ going. needed_fault_read (IsAnyText version) (IsAnyInRange c.args.max) (IsTextOf c.args.terms.now version c.args.max) (none_any version) c.in-Err.fail (c.in-Err.ensures.next going))
