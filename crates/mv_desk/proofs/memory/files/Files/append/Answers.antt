use Rattle.std.proofs.Common.{refl}
use Rattle.mv_desk.proofs.FilesLemmas.{file_at-files_of, files_of-set, files_of-set_same, on_err}
use Rattle.mv_desk.proofs.memory.files.Files.append.Goals as goal

pub returns-clause-ok : goal.returns-clause-ok
returns-clause-ok c =
    let old = file_at-files_of c.self.inside.items.items c.args.at c.index_mut.result.now (rw (← c.self.view_is) at c.requires) c.index_mut.ensures.value in
    rw (← c.self.view_is) (files_of-set c.self.inside.items.items c.args.at _ _ (rw (c.in_ok-extend_from_slice.ensures.items, old) refl))

pub returns-in_err-extend_from_slice-clause-err : goal.returns-in_err-extend_from_slice-clause-err
returns-in_err-extend_from_slice-clause-err c =
    rw (← c.self.view_is) (on_err _ _ (files_of-set_same c.self.inside.items.items c.args.at c.index_mut.result.now (
      c.index_mut.result.now.0,
      c.extend_from_slice.new.self,
    ) c.index_mut.ensures.value (rw c.in_err-extend_from_slice.ensures.items refl)))
