use Rattle.std.proofs.Common.{◌++◌, ◌∷◌, ◌∙◌, [], ap, subst, sym}
use Rattle.std.proofs.KnownBytes.{prepend_known-nil}
use Rattle.std.specs.Cmp.Lexicographic.{other_text, same_text}
use Rattle.std.specs.Option.{IfSome}
use Rattle.graph_core.specs.Text.{newline}
use Rattle.mv_text.specs.CertificateFiles.{HasFirstLine, IsNeededFault}
use Rattle.mv_text.specs.LineReading.{Lines, TakesLine, known_from, lengths_of}
use Rattle.mv_text.proofs.CertificateSteps.{IsNew, first_fault, first_there, other_first}
use Rattle.mv_text.proofs.certificate_file.CertificateFile.start.Goals as goal

pub returns-then-eq-clause-first : goal.returns-then-eq-clause-first
returns-then-eq-clause-first g c =
    let lines = c.new-lines.result in
    let left = (g.D.Desk.seen c.args.desk.now).left c.args.slot in
    let behind = (g.D.Desk.seen c.needed_line.new.desk).left c.args.slot in
    let after = known_from c.needed_line.new.self.ahead behind in
    let new : IsNew (lengths_of c.args.limits.now) lines = record { taken = c.new-lines.ensures.taken; lengths_are = c.new-lines.ensures.lengths } in
    let told = ap (λ z. known_from z left) c.new-lines.ensures.ahead ∙ prepend_known-nil left in
    let takes = subst (λ z. TakesLine lines c.needed_line.new.self z after c.in-Ok.line.items) told c.in-Ok.ensures.line in
    let is = sym c.as_slice.ensures.value ∙ same_text c.as_slice.result.now c.args.first.now (sym c.if-eq.true ∙ c.eq.ensures) in
    subst (λ (l : Lines). IfSome left (λ bytes. HasFirstLine (c.args.first.now ++ newline ∷ []) l bytes (known_from l.ahead behind))) (sym c.behind.ensures.lines)
    (first_there (lengths_of c.args.limits.now) lines new c.args.first.now c.needed_line.new.self left after c.in-Ok.line.items takes is)

pub returns-else-eq-clause-refused : goal.returns-else-eq-clause-refused
returns-else-eq-clause-refused g c =
    let lines = c.new-lines.result in
    let left = (g.D.Desk.seen c.args.desk.now).left c.args.slot in
    let after = known_from c.needed_line.new.self.ahead ((g.D.Desk.seen c.needed_line.new.desk).left c.args.slot) in
    let new : IsNew (lengths_of c.args.limits.now) lines = record { taken = c.new-lines.ensures.taken; lengths_are = c.new-lines.ensures.lengths } in
    let told = ap (λ z. known_from z left) c.new-lines.ensures.ahead ∙ prepend_known-nil left in
    let takes = subst (λ z. TakesLine lines c.needed_line.new.self z after c.in-Ok.line.items) told c.in-Ok.ensures.line in
    other_first (lengths_of c.args.limits.now) lines new c.args.first.now c.needed_line.new.self left after c.in-Ok.line.items c.requires.plain takes
    (λ e. other_text c.as_slice.result.now c.args.first.now (sym c.if-eq.false ∙ c.eq.ensures) (c.as_slice.ensures.value ∙ e))

pub returns-in-Err-clause-refused : goal.returns-in-Err-clause-refused
returns-in-Err-clause-refused g c =
    let lines = c.new-lines.result in
    let left = (g.D.Desk.seen c.args.desk.now).left c.args.slot in
    let first = (g.D.Desk.seen c.args.desk.now).read_faults in
    let then = (g.D.Desk.seen c.needed_line.new.desk).read_faults in
    let new : IsNew (lengths_of c.args.limits.now) lines = record { taken = c.new-lines.ensures.taken; lengths_are = c.new-lines.ensures.lengths } in
    let told = ap (λ z. known_from z left) c.new-lines.ensures.ahead ∙ prepend_known-nil left in
    first_fault (lengths_of c.args.limits.now) lines new c.args.first.now left first then c.in-Err.fail
    (subst (λ z. IsNeededFault lines z first then c.in-Err.fail) told c.in-Err.ensures.fault)
