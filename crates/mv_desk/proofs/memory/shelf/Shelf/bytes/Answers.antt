use Rattle.std.proofs.Common.{◌≡◌, Some, None, sym, ◌∙◌}
use Rattle.std.specs.List.{position}
use Rattle.mv_desk.specs.Files.{is_named}
use Rattle.mv_desk.proofs.FilesLemmas.{held_found, held_missing}
use Rattle.mv_desk.proofs.memory.shelf.Shelf.bytes.Goals as goal

pub returns-in_err-file : goal.returns-in_err-file
returns-in_err-file c =
    let none : position (is_named c.args.name.now) c.self.inside.files ≡ None = sym c.position_of.ensures ∙ c.in_err-file.was in
    rw (← c.self.view_is, c.from_residual.ensures) (sym (held_missing c.self.inside.files c.args.name.now none))

pub returns : goal.returns
returns c =
    let found : position (is_named c.args.name.now) c.self.inside.files ≡ Some c.in_ok-file.file = sym c.position_of.ensures ∙ c.in_ok-file.was in
    rw (← c.self.view_is, c.bytes.ensures) (sym (held_found c.self.inside.files c.args.name.now c.in_ok-file.file found))
