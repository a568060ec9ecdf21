use Rattle.std.proofs.Common.{refl, sym, ◌∙◌}
use Rattle.mv_desk.proofs.PlacesLemmas.{fit_put}
use Rattle.mv_desk.proofs.ViewLemmas.{opens_empty}
use Rattle.mv_desk.proofs.memory.shelf.Shelf.open_or_empty.Goals as goal

pub invariant_of-self : goal.invariant_of-self
invariant_of-self c = rw c.put.ensures (fit_put c.self.inside.files c.self.inside.places c.args.slot _ c.self.invariant tt)

pub returns-then-not-open : goal.returns-then-not-open
returns-then-not-open c =
    let kept = c.self.view_is ∙ c.if-not-open.ensures.none refl in
    λ counts counts'. rw (← kept, c.put.ensures) (opens_empty c.self.inside.files c.self.inside.places c.args.slot c.args.name.now counts counts'
    (rw (← kept) at (sym c.if-not-open.ensures.held)))

pub returns-else-not-open : goal.returns-else-not-open
returns-else-not-open c = c.if-not-open.ensures.opens refl
