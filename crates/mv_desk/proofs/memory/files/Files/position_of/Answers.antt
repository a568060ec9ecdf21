use Rattle.std.proofs.Common.{◌≡◌, sym, ◌∙◌}
use Rattle.std.specs.List.{position}
use Rattle.mv_desk.proofs.FilesLemmas.{position-map}
use Rattle.mv_desk.specs.Files.{file_of, is_named}
use Rattle.mv_desk.proofs.memory.files.Files.position_of.Goals as goal

pub returns : goal.returns
returns c =
    let found : c.first_named.result ≡ position (λ pair. is_named c.args.name.now (file_of pair)) c.self.inside.items.items =
    rw (← c.deref.ensures.value) c.first_named.ensures in
    rw (← c.self.view_is) (found ∙ sym (position-map (is_named c.args.name.now) file_of c.self.inside.items.items))
