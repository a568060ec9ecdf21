use Rattle.std.proofs.Common.{◌≡◌, Some, None, [], refl, sym, ◌∙◌}
use Rattle.std.specs.List.{position}
use Rattle.mv_desk.specs.Files.{is_named}
use Rattle.mv_desk.proofs.FilesLemmas.{first_found}
use Rattle.mv_desk.proofs.PlacesLemmas.{all_fit_set, all_fit_push}
use Rattle.mv_desk.proofs.ViewLemmas.{creates_push, creates_set}
use Rattle.mv_desk.proofs.memory.shelf.Shelf.create.Goals as goal

pub invariant_of-self : goal.invariant_of-self
invariant_of-self c =
    let found : position (is_named c.args.name.now) c.self.inside.files ≡ Some c.in-Some.file = sym c.position_of.ensures ∙ c.in-Some.is in
    let one = first_found c.self.inside.files c.args.name.now c.in-Some.file found in
    rw (c.put.ensures, c.clear.ensures) (all_fit_set c.self.inside.files c.self.inside.places c.args.slot _ c.in-Some.file _
    c.self.invariant one.0 one.0.within refl)

pub returns-in-Some-clause-creates : goal.returns-in-Some-clause-creates
returns-in-Some-clause-creates c =
    let found : position (is_named c.args.name.now) c.self.inside.files ≡ Some c.in-Some.file = sym c.position_of.ensures ∙ c.in-Some.is in
    λ counts. rw (← c.self.view_is, c.put.ensures, c.clear.ensures)
    (creates_set c.self.inside.files c.self.inside.places c.args.slot c.args.name.now c.new-written.result c.in-Some.file _ counts found refl
    refl c.new-written.ensures)

pub invariant_of-self-2 : goal.invariant_of-self-2
invariant_of-self-2 c =
    let none : position (is_named c.args.name.now) c.self.inside.files ≡ None = sym c.position_of.ensures ∙ c.in_default.is in
    rw (c.in_ok-file.ensures.ok, c.put-2.ensures, c.in_ok-file.ensures.at)
    (all_fit_push c.self.inside.files c.self.inside.places c.args.slot c.new-written.result (c.args.name.now, []) c.self.invariant none)

pub returns-clause-creates : goal.returns-clause-creates
returns-clause-creates c =
    let none : position (is_named c.args.name.now) c.self.inside.files ≡ None = sym c.position_of.ensures ∙ c.in_default.is in
    λ counts. rw (← c.self.view_is, c.in_ok-file.ensures.ok, c.put-2.ensures, c.in_ok-file.ensures.at)
    (creates_push c.self.inside.files c.self.inside.places c.args.slot c.args.name.now c.new-written.result (
      c.args.name.now,
      [],
    ) counts c.self.invariant none refl refl c.new-written.ensures)
