use Rattle.std.proofs.Common.{◌∙◌}
use Rattle.poly_terms.specs.Laws.{modulus_stays}
use Rattle.gate_axioms.proofs.CallerLemmas.{keeps_lines}
use Rattle.pac_checker.proofs.Lawful.{grows, sound_grown}
use Rattle.pac_checker.proofs.judge.Judge.axiom_poly.Goals as goal

pub invariant_of-self : goal.invariant_of-self
invariant_of-self c =
    sound_grown c.self.inside.added.now c.self.inside.left c.self.inside.operands.now c.self.inside.live c.grow.new.self c.self.inside.last (keeps_lines c.self.inside.live c.grow.new.self c.grow.ensures.grows c.grow.ensures.kept) c.self.invariant

pub returns-clause-grows : goal.returns-clause-grows
returns-clause-grows c =
    rw (← c.self.view_is)
    (grows c.self.inside.added.now c.self.inside.left c.self.inside.operands.now c.self.inside.live c.grow.new.self c.self.inside.last (keeps_lines c.self.inside.live c.grow.new.self c.grow.ensures.grows c.grow.ensures.kept))

pub returns-clause-modulus : goal.returns-clause-modulus
returns-clause-modulus c = rw (← c.self.view_is) (modulus_stays c.self.inside.live.table c.grow.new.self.table c.grow.ensures.grows.table ∙ c.self.invariant.same_modulus)

pub returns-clause-columns : goal.returns-clause-columns
returns-clause-columns c = rw (← c.self.view_is) c.self.invariant.columns
