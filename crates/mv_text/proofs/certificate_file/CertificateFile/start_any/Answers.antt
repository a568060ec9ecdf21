use Rattle.std.proofs.Common.{◌++◌, ◌∷◌, ◌∙◌, [], ap, inl, inr, subst, sym}
use Rattle.std.proofs.KnownBytes.{prepend_known-nil}
use Rattle.std.specs.Cmp.Lexicographic.{other_text, same_text}
use Rattle.std.specs.Option.{IfSome}
use Rattle.graph_core.specs.Text.{newline}
use Rattle.mv_text.specs.CertificateFiles.{HasAnyFirst, HasFirstLine, IsNeededFault}
use Rattle.mv_text.specs.LineReading.{Lines, TakesLine, known_from, lengths_of}
use Rattle.mv_text.proofs.CertificateSteps.{IsNew, first_fault, first_there, other_first, told_from}
use Rattle.mv_text.proofs.certificate_file.CertificateFile.start_any.Goals as goal

pub returns-then-eq-clause-first : goal.returns-then-eq-clause-first
returns-then-eq-clause-first g c =
    let lines = c.new-lines.result in
    let left = (g.D.Desk.seen c.args.desk.now).left c.args.slot in
    let behind = (g.D.Desk.seen c.needed_line.new.desk).left c.args.slot in
    let after = known_from c.needed_line.new.self.ahead behind in
    let one = c.args.one.now ++ newline ∷ [] in
    let new : IsNew (lengths_of c.args.limits.now) lines = record { taken = c.new-lines.ensures.taken; lengths_are = c.new-lines.ensures.lengths } in
    let told = ap (λ z. known_from z left) c.new-lines.ensures.ahead ∙ prepend_known-nil left in
    let takes = subst (λ z. TakesLine lines c.needed_line.new.self z after c.in-Ok.line.items) told c.in-Ok.ensures.line in
    let is = sym c.as_slice.ensures.value ∙ same_text c.as_slice.result.now c.args.one.now (sym c.if-eq.true ∙ c.eq.ensures) in
    told_from left (λ bytes. HasFirstLine one c.behind.result.lines bytes (known_from c.behind.result.lines.ahead behind))
    (λ bytes. HasAnyFirst one (c.args.two.now ++ newline ∷ []) (c.args.three.now ++ newline ∷ []) c.behind.result bytes (known_from c.behind.result.lines.ahead behind)) (λ bytes e h. inl (c.behind.ensures.version, h))
    (subst (λ (l : Lines). IfSome left (λ bytes. HasFirstLine one l bytes (known_from l.ahead behind))) (sym c.behind.ensures.lines)
    (first_there (lengths_of c.args.limits.now) lines new c.args.one.now c.needed_line.new.self left after c.in-Ok.line.items takes is))

pub returns-then-eq-2-clause-first : goal.returns-then-eq-2-clause-first
returns-then-eq-2-clause-first g c =
    let lines = c.new-lines.result in
    let left = (g.D.Desk.seen c.args.desk.now).left c.args.slot in
    let behind = (g.D.Desk.seen c.needed_line.new.desk).left c.args.slot in
    let after = known_from c.needed_line.new.self.ahead behind in
    let two = c.args.two.now ++ newline ∷ [] in
    let new : IsNew (lengths_of c.args.limits.now) lines = record { taken = c.new-lines.ensures.taken; lengths_are = c.new-lines.ensures.lengths } in
    let told = ap (λ z. known_from z left) c.new-lines.ensures.ahead ∙ prepend_known-nil left in
    let takes = subst (λ z. TakesLine lines c.needed_line.new.self z after c.in-Ok.line.items) told c.in-Ok.ensures.line in
    let is = sym c.as_slice-in-Ok.ensures.value ∙ same_text c.as_slice-in-Ok.result.now c.args.two.now (sym c.if-eq-2.true ∙ c.eq-in-Ok.ensures) in
    told_from left (λ bytes. HasFirstLine two c.behind-then-eq-2.result.lines bytes (known_from c.behind-then-eq-2.result.lines.ahead behind))
    (λ bytes. HasAnyFirst (c.args.one.now ++ newline ∷ []) two (c.args.three.now ++ newline ∷ []) c.behind-then-eq-2.result bytes (known_from c.behind-then-eq-2.result.lines.ahead behind)) (λ bytes e h. inr (inl (c.behind-then-eq-2.ensures.version, h)))
    (subst (λ (l : Lines). IfSome left (λ bytes. HasFirstLine two l bytes (known_from l.ahead behind))) (sym c.behind-then-eq-2.ensures.lines)
    (first_there (lengths_of c.args.limits.now) lines new c.args.two.now c.needed_line.new.self left after c.in-Ok.line.items takes is))

pub returns-then-eq-3-clause-first : goal.returns-then-eq-3-clause-first
returns-then-eq-3-clause-first g c =
    let lines = c.new-lines.result in
    let left = (g.D.Desk.seen c.args.desk.now).left c.args.slot in
    let behind = (g.D.Desk.seen c.needed_line.new.desk).left c.args.slot in
    let after = known_from c.needed_line.new.self.ahead behind in
    let three = c.args.three.now ++ newline ∷ [] in
    let new : IsNew (lengths_of c.args.limits.now) lines = record { taken = c.new-lines.ensures.taken; lengths_are = c.new-lines.ensures.lengths } in
    let told = ap (λ z. known_from z left) c.new-lines.ensures.ahead ∙ prepend_known-nil left in
    let takes = subst (λ z. TakesLine lines c.needed_line.new.self z after c.in-Ok.line.items) told c.in-Ok.ensures.line in
    let is = sym c.as_slice-in-Ok-2.ensures.value ∙ same_text c.as_slice-in-Ok-2.result.now c.args.three.now (sym c.if-eq-3.true ∙ c.eq-in-Ok-2.ensures) in
    told_from left (λ bytes. HasFirstLine three c.behind-then-eq-3.result.lines bytes (known_from c.behind-then-eq-3.result.lines.ahead behind))
    (λ bytes. HasAnyFirst (c.args.one.now ++ newline ∷ []) (c.args.two.now ++ newline ∷ []) three c.behind-then-eq-3.result bytes (known_from c.behind-then-eq-3.result.lines.ahead behind)) (λ bytes e h. inr (inr (c.behind-then-eq-3.ensures.version, h)))
    (subst (λ (l : Lines). IfSome left (λ bytes. HasFirstLine three l bytes (known_from l.ahead behind))) (sym c.behind-then-eq-3.ensures.lines)
    (first_there (lengths_of c.args.limits.now) lines new c.args.three.now c.needed_line.new.self left after c.in-Ok.line.items takes is))

pub returns-else-eq-3-clause-refused : goal.returns-else-eq-3-clause-refused
returns-else-eq-3-clause-refused g c =
    let lines = c.new-lines.result in
    let left = (g.D.Desk.seen c.args.desk.now).left c.args.slot in
    let after = known_from c.needed_line.new.self.ahead ((g.D.Desk.seen c.needed_line.new.desk).left c.args.slot) in
    let new : IsNew (lengths_of c.args.limits.now) lines = record { taken = c.new-lines.ensures.taken; lengths_are = c.new-lines.ensures.lengths } in
    let told = ap (λ z. known_from z left) c.new-lines.ensures.ahead ∙ prepend_known-nil left in
    let takes = subst (λ z. TakesLine lines c.needed_line.new.self z after c.in-Ok.line.items) told c.in-Ok.ensures.line in (
      other_first (lengths_of c.args.limits.now) lines new c.args.one.now c.needed_line.new.self left after c.in-Ok.line.items c.requires.plain.0 takes
          (λ e. other_text c.as_slice.result.now c.args.one.now (sym c.if-eq.false ∙ c.eq.ensures) (c.as_slice.ensures.value ∙ e)),
      other_first (lengths_of c.args.limits.now) lines new c.args.two.now c.needed_line.new.self left after c.in-Ok.line.items c.requires.plain.1 takes
          (λ e. other_text c.as_slice-in-Ok.result.now c.args.two.now (sym c.if-eq-2.false ∙ c.eq-in-Ok.ensures) (c.as_slice-in-Ok.ensures.value ∙ e)),
      other_first (lengths_of c.args.limits.now) lines new c.args.three.now c.needed_line.new.self left after c.in-Ok.line.items c.requires.plain.2 takes
          (λ e. other_text c.as_slice-in-Ok-2.result.now c.args.three.now (sym c.if-eq-3.false ∙ c.eq-in-Ok-2.ensures) (c.as_slice-in-Ok-2.ensures.value ∙ e)),
    )

pub returns-in-Err-clause-refused : goal.returns-in-Err-clause-refused
returns-in-Err-clause-refused g c =
    let lines = c.new-lines.result in
    let left = (g.D.Desk.seen c.args.desk.now).left c.args.slot in
    let first = (g.D.Desk.seen c.args.desk.now).read_faults in
    let then = (g.D.Desk.seen c.needed_line.new.desk).read_faults in
    let new : IsNew (lengths_of c.args.limits.now) lines = record { taken = c.new-lines.ensures.taken; lengths_are = c.new-lines.ensures.lengths } in
    let told = ap (λ z. known_from z left) c.new-lines.ensures.ahead ∙ prepend_known-nil left in
    let fault = subst (λ z. IsNeededFault lines z first then c.in-Err.fail) told c.in-Err.ensures.fault in (
      first_fault (lengths_of c.args.limits.now) lines new c.args.one.now left first then c.in-Err.fail fault,
      first_fault (lengths_of c.args.limits.now) lines new c.args.two.now left first then c.in-Err.fail fault,
      first_fault (lengths_of c.args.limits.now) lines new c.args.three.now left first then c.in-Err.fail fault,
    )
