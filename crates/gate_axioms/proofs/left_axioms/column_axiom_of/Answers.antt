use Rattle.std.specs.declared.option.Option.TheVariants.{None, Some}
use Rattle.gate_axioms.proofs.AxiomLines.{column_is_axiom}
use Rattle.gate_axioms.proofs.left_axioms.column_axiom_of.Goals as goal

pub returns-in-None : goal.returns-in-None
returns-in-None c = column_is_axiom c.args.extended.now c.args.k None c.gates-gates.ensures.extension c.in-None.ensures

pub returns-in-Some : goal.returns-in-Some
returns-in-Some c = column_is_axiom c.args.extended.now c.args.k (Some (c.in-Some.old, c.in-Some.new)) c.gates-gates.ensures.extension c.in-Some.ensures
