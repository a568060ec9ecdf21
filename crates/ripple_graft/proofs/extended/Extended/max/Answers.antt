use Rattle.ripple_graft.proofs.GraftedGraphs.{grafted_extends, grafted_small}
use Rattle.ripple_graft.proofs.extended.Extended.max.Goals as goal

pub returns-in-None-clause-extension : goal.returns-in-None-clause-extension
returns-in-None-clause-extension c = rw (← c.self.view_is) (grafted_extends _ _ c.max-own.ensures.built c.self.invariant)

pub returns-in-Some-clause-small : goal.returns-in-Some-clause-small
returns-in-Some-clause-small c = rw (← c.self.view_is) (grafted_small _ _ c.max-own.ensures.built c.self.invariant)

pub returns-in-Some-clause-extension : goal.returns-in-Some-clause-extension
returns-in-Some-clause-extension c = rw (← c.self.view_is) (grafted_extends _ _ c.max-own.ensures.built c.self.invariant)
