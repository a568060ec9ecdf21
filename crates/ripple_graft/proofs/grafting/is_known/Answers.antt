use Rattle.ripple_graft.proofs.grafting.is_known.Goals as goal

pub returns : goal.returns
returns c = rw c.without_cut.ensures at c.is_known-2.ensures
