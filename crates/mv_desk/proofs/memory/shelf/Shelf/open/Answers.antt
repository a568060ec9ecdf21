use Rattle.std.proofs.Common.{◌≡◌, Some, None, is_some, ap, sym, ◌∙◌}
use Rattle.std.specs.List.{position}
use Rattle.mv_desk.specs.Files.{is_named}
use Rattle.mv_desk.proofs.FilesLemmas.{first_found, held_found, held_missing}
use Rattle.mv_desk.proofs.PlacesLemmas.{fit_put}
use Rattle.mv_desk.proofs.ViewLemmas.{opens}
use Rattle.mv_desk.proofs.memory.shelf.Shelf.open.Goals as goal

pub returns-in_default-clause-held : goal.returns-in_default-clause-held
returns-in_default-clause-held c =
    let none : position (is_named c.args.name.now) c.self.inside.files ≡ None = sym c.position_of.ensures ∙ c.in_default.is in
    rw (← c.self.view_is) (sym (ap is_some (held_missing c.self.inside.files c.args.name.now none)))

pub invariant_of-self : goal.invariant_of-self
invariant_of-self c =
    let found : position (is_named c.args.name.now) c.self.inside.files ≡ Some c.in-Some.file = sym c.position_of.ensures ∙ c.in-Some.is in
    rw c.put.ensures (fit_put c.self.inside.files c.self.inside.places c.args.slot _ c.self.invariant
    (first_found c.self.inside.files c.args.name.now c.in-Some.file found).0)

pub returns-clause-held : goal.returns-clause-held
returns-clause-held c =
    let found : position (is_named c.args.name.now) c.self.inside.files ≡ Some c.in-Some.file = sym c.position_of.ensures ∙ c.in-Some.is in
    rw (← c.self.view_is) (sym (ap is_some (held_found c.self.inside.files c.args.name.now c.in-Some.file found)))

pub returns-clause-opens : goal.returns-clause-opens
returns-clause-opens c =
    let found : position (is_named c.args.name.now) c.self.inside.files ≡ Some c.in-Some.file = sym c.position_of.ensures ∙ c.in-Some.is in
    λ _ counts counts'. rw (← c.self.view_is, c.put.ensures)
    (opens c.self.inside.files c.self.inside.places c.args.slot c.args.name.now c.in-Some.file counts counts' found)
