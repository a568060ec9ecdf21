use Rattle.std.proofs.Common.{sym, ◌∙◌}
use Rattle.graph_core.specs.Graph.Extended as graphs
use Rattle.gate_axioms.specs.LeftAxioms.{axiom_line}
use Rattle.gate_axioms.proofs.AxiomLines.{left_unless, not_left}
use Rattle.gate_axioms.proofs.left_axioms.LeftAxioms.get.Goals as goal

pub returns-then-contains : goal.returns-then-contains
returns-then-contains c = rw (← c.self.view_is) (not_left c.self.inside.extended.now c.self.inside.deleted.keys c.args.id (sym c.contains.ensures ∙ c.if-contains.true))

pub returns : goal.returns
returns c =
    let e = c.self.inside.extended.now in
    rw (← c.self.view_is)
    (left_unless e c.self.inside.deleted.keys c.args.id (axiom_line (graphs.modulus e) c.args.id c.axiom_of.result) (sym c.contains.ensures ∙ c.if-contains.false) c.axiom_of.ensures)
