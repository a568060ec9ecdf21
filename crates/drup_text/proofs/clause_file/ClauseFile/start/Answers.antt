use Rattle.std.proofs.Common.{◌++◌, ◌≢◌, ◌∷◌, ◌∙◌, [], ap, refl, subst, sym}
use Rattle.std.specs.List.{AllByRecursion}
use Rattle.std.specs.Prelude.{codes}
use Rattle.graph_core.specs.Text.{newline}
use Rattle.graph_core.proofs.OfTexts.CallerLemmas.{none_in}
use Rattle.mv_desk.proofs.CallerLemmas.{KeepsTelling-trans, ReadsOnly-trans}
use Rattle.mv_desk.specs.declared.slot.Slot.TheVariants.{Clauses}
use Rattle.mv_text.specs.CertificateFiles.{IsAnyRefusal}
use Rattle.mv_text.specs.LineReading.{lengths_of}
use Rattle.drup_text.specs.HeaderRefusal.{IsClauseHeaderRefusal}
use Rattle.drup_text.specs.Headers.{second_line, third_line}
use Rattle.drup_text.specs.PassingHeaders.{IsCause}
use Rattle.drup_text.proofs.VersionSteps.{header_counted, header_refused, header_there, told_first, version_refused}
use Rattle.drup_text.proofs.clause_file.ClauseFile.start.Goals as goal

pub start_any-requires-clause-plain : goal.start_any-requires-clause-plain
start_any-requires-clause-plain g c = (
  subst (AllByRecursion (λ b. b ≢ newline)) (sym c.as_slice-one.ensures) (none_in (codes "joined 1") refl),
  subst (AllByRecursion (λ b. b ≢ newline)) (sym c.as_slice-two.ensures) (none_in (codes "joined 2") refl),
  subst (AllByRecursion (λ b. b ≢ newline)) (sym c.as_slice-three.ensures) (none_in (codes "joined 3") refl),
)

pub returns-in-Ok-any_header-clause-header : goal.returns-in-Ok-any_header-clause-header
returns-in-Ok-any_header-clause-header g c =
    let before = (g.D.Desk.seen c.args.desk.now).left Clauses in
    let mid = g.D.Desk.seen c.start_any.new.desk in
    header_there c.args.graph.now (lengths_of c.args.limits.now) before c.in-Ok.ensures.file.lengths
    (told_first before c.in-Ok.file mid c.as_slice-one.result.now c.as_slice-two.result.now c.as_slice-three.result.now c.as_slice-one.ensures c.as_slice-two.ensures c.as_slice-three.ensures c.in-Ok.ensures.first)
    c.in-Ok-any_header.header c.in-Ok-any_header.ensures.version c.in-Ok-any_header.ensures.keeps.lengths c.in-Ok-any_header.ensures.header

pub returns-in-Ok-any_header-clause-file : goal.returns-in-Ok-any_header-clause-file
returns-in-Ok-any_header-clause-file g c =
    let keeps = c.in-Ok-any_header.ensures.keeps in
    let read = c.in-Ok-any_header.ensures.header in
    let version = c.in-Ok-any_header.ensures.version in
    record {
      version_is = keeps.version ∙ sym version;
      number_is = header_counted c.in-Ok.file.number c.any_header.new.file.number c.in-Ok.file.version c.in-Ok-any_header.header c.in-Ok.ensures.file.number_is read.number version;
      lengths = keeps.lengths ∙ c.in-Ok.ensures.file.lengths;
      piece = keeps.piece;
      goes_on = record { ended = read.ended; failed = keeps.failed };
    }

pub returns-in-Ok-any_header-clause-reads : goal.returns-in-Ok-any_header-clause-reads
returns-in-Ok-any_header-clause-reads g c =
    let first = g.D.Desk.seen c.args.desk.now in
    let mid = g.D.Desk.seen c.start_any.new.desk in
    let last = g.D.Desk.seen c.any_header.new.desk in
    let one = c.in-Ok.ensures.reads in
    let two = c.in-Ok-any_header.ensures.reads in
    record { only = ReadsOnly-trans Clauses first mid last one.only two.only; stands = two.stands ∙ one.stands; tells = KeepsTelling-trans first mid last one.tells two.tells }

pub returns-in-Err-any_header-clause-refused : goal.returns-in-Err-any_header-clause-refused
returns-in-Err-any_header-clause-refused g c =
    let before = (g.D.Desk.seen c.args.desk.now).left Clauses in
    let lengths = lengths_of c.args.limits.now in
    let mid = g.D.Desk.seen c.start_any.new.desk in
    let last = (g.D.Desk.seen c.any_header.new.desk).read_faults in
    let first = (g.D.Desk.seen c.args.desk.now).read_faults in
    subst (λ n. IsCause (IsClauseHeaderRefusal c.args.graph.now lengths) before first last n c.in-Err-any_header.why) (sym c.line_no.ensures)
    (header_refused c.args.graph.now lengths before c.in-Ok.ensures.file.lengths
    (told_first before c.in-Ok.file mid c.as_slice-one.result.now c.as_slice-two.result.now c.as_slice-three.result.now c.as_slice-one.ensures c.as_slice-two.ensures c.as_slice-three.ensures c.in-Ok.ensures.first)
    c.in-Err-any_header.why first c.in-Ok.ensures.reads.stands c.in-Err-any_header.ensures.header)

pub returns-in-Err-clause-refused : goal.returns-in-Err-clause-refused
returns-in-Err-clause-refused g c =
    let before = (g.D.Desk.seen c.args.desk.now).left Clauses in
    let lengths = lengths_of c.args.limits.now in
    let first = (g.D.Desk.seen c.args.desk.now).read_faults in
    let last = (g.D.Desk.seen c.start_any.new.desk).read_faults in
    let one = c.as_slice-one.result.now ++ newline ∷ [] in
    let two = c.as_slice-two.result.now ++ newline ∷ [] in
    version_refused c.args.graph.now lengths before first last c.in-Err.why
    (subst (λ z. IsAnyRefusal z second_line third_line lengths before first last c.in-Err.why) (ap (λ z. z ++ newline ∷ []) c.as_slice-one.ensures)
    (subst (λ z. IsAnyRefusal one z third_line lengths before first last c.in-Err.why) (ap (λ z. z ++ newline ∷ []) c.as_slice-two.ensures)
    (subst (λ z. IsAnyRefusal one two z lengths before first last c.in-Err.why) (ap (λ z. z ++ newline ∷ []) c.as_slice-three.ensures) c.in-Err.ensures.refused)))
