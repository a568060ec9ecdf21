use Rattle.std.proofs.Common.{refl}
use Rattle.gate_axioms.proofs.AxiomLines.{gate_is_axiom, no_gate_no_axiom}
use Rattle.gate_axioms.proofs.left_axioms.gate_axiom_of.Goals as goal

pub returns-in-None : goal.returns-in-None
returns-in-None c = no_gate_no_axiom c.args.extended.now c.args.v c.requires.in_range (c.in-None.ensures.none.0 refl)

pub returns-in-Some : goal.returns-in-Some
returns-in-Some c = gate_is_axiom c.args.extended.now c.args.v c.in-Some.gate c.gates-gates.ensures.extension c.requires.in_range c.in-Some.ensures.some
