use Rattle.gate_axioms.proofs.CallerLemmas.{keeps_lines}
use Rattle.pac_checker.proofs.Lawful.{grows, sound_grown}
use Rattle.pac_checker.proofs.judge.Judge.specification.Goals as goal

pub invariant_of-self : goal.invariant_of-self
invariant_of-self c =
    sound_grown c.self.inside.added.now c.self.inside.left c.self.inside.operands.now c.self.inside.live c.grow.new.self c.self.inside.last (keeps_lines c.self.inside.live c.grow.new.self c.grow.ensures.grows c.grow.ensures.kept) c.self.invariant

pub returns-clause-grows : goal.returns-clause-grows
returns-clause-grows c =
    rw (← c.self.view_is)
    (grows c.self.inside.added.now c.self.inside.left c.self.inside.operands.now c.self.inside.live c.grow.new.self c.self.inside.last (keeps_lines c.self.inside.live c.grow.new.self c.grow.ensures.grows c.grow.ensures.kept))
