use Rattle.std.proofs.Common.{◌≡◌, true, sym, ap, ◌∙◌}
use Rattle.mv_desk.specs.Memory.{is_written}
use Rattle.mv_desk.proofs.PlacesLemmas.{put_twice}
use Rattle.mv_desk.proofs.ViewLemmas.{appended}
use Rattle.mv_desk.proofs.memory.shelf.Shelf.write.Goals as goal

pub invariant_of-self : goal.invariant_of-self
invariant_of-self c =
    let writes : is_written c.take-place.result ≡ true = ap is_written c.take-place.ensures.taken ∙ rw (← c.self.view_is) at c.requires in
    let did = appended c.append-done.result c.self.inside.files c.self.inside.places c.args.slot c.args.piece.now c.take-place.result c.append-done.new.files
    c.append-done.new.place c.self.invariant (sym c.take-place.ensures.taken) writes c.append-done.ensures.ok c.append-done.ensures.err_files
    c.append-done.ensures.err_place in
    rw (c.put.ensures, c.take-place.ensures.closed, put_twice) did.0

pub returns-clause-writes : goal.returns-clause-writes
returns-clause-writes c =
    let writes : is_written c.take-place.result ≡ true = ap is_written c.take-place.ensures.taken ∙ rw (← c.self.view_is) at c.requires in
    let did = appended c.append-done.result c.self.inside.files c.self.inside.places c.args.slot c.args.piece.now c.take-place.result c.append-done.new.files
    c.append-done.new.place c.self.invariant (sym c.take-place.ensures.taken) writes c.append-done.ensures.ok c.append-done.ensures.err_files
    c.append-done.ensures.err_place in
    rw (← c.self.view_is, c.put.ensures, c.take-place.ensures.closed, put_twice) did.1

pub returns-clause-err : goal.returns-clause-err
returns-clause-err c =
    let writes : is_written c.take-place.result ≡ true = ap is_written c.take-place.ensures.taken ∙ rw (← c.self.view_is) at c.requires in
    let did = appended c.append-done.result c.self.inside.files c.self.inside.places c.args.slot c.args.piece.now c.take-place.result c.append-done.new.files
    c.append-done.new.place c.self.invariant (sym c.take-place.ensures.taken) writes c.append-done.ensures.ok c.append-done.ensures.err_files
    c.append-done.ensures.err_place in
    rw (← c.self.view_is, c.put.ensures, c.take-place.ensures.closed, put_twice) did.2
