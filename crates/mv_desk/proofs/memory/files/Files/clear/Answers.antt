use Rattle.std.proofs.Common.{refl}
use Rattle.mv_desk.proofs.FilesLemmas.{file_at-files_of, files_of-set}
use Rattle.mv_desk.proofs.memory.files.Files.clear.Goals as goal

pub returns : goal.returns
returns c =
    let old = file_at-files_of c.self.inside.items.items c.args.at c.index_mut.result.now (rw (← c.self.view_is) at c.requires) c.index_mut.ensures.value in
    rw (← c.self.view_is) (files_of-set c.self.inside.items.items c.args.at _ _ (rw (c.clear.ensures.items, old) refl))
