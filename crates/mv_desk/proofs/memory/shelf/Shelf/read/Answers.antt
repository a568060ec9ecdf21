use Rattle.std.proofs.Common.{sym, ◌∙◌}
use Rattle.mv_desk.proofs.PlacesLemmas.{fit_at, fit_put, put_twice}
use Rattle.mv_desk.proofs.memory.shelf.Shelf.read.Goals as goal

pub invariant_of-self : goal.invariant_of-self
invariant_of-self c =
    rw (c.put.ensures, c.take.ensures.closed, put_twice) (fit_put c.self.inside.files c.self.inside.places c.args.slot _ c.self.invariant tt)

pub invariant_of-self-2 : goal.invariant_of-self-2
invariant_of-self-2 c =
    let was = sym c.take.ensures.taken ∙ c.in-Reading.is in
    rw (c.put-2.ensures, c.take.ensures.closed, put_twice)
    (fit_put c.self.inside.files c.self.inside.places c.args.slot _ c.self.invariant
    (fit_at c.self.inside.files c.self.inside.places c.args.slot _ c.self.invariant was))
