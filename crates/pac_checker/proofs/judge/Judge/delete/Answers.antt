use Rattle.pac_checker.proofs.Entries.{is_some_same, same_none}
use Rattle.gate_axioms.specs.LeftAxioms.{axiom_value, left_lines}
use Rattle.algebra_core.specs.AlgebraLines.{line_of}
use Rattle.graph_core.specs.Graph.Extended as graphs
use Rattle.pac_checker.proofs.judge.Judge.delete.Goals as goal

pub delete_axiom-requires : goal.delete_axiom-requires
delete_axiom-requires c =
    record {
      is_left = rw (← c.self.view_is)
          (is_some_same (line_of (left_lines c.self.inside.left) c.args.id) (record { id = c.args.id; value = axiom_value (graphs.modulus c.self.inside.left.extended) c.in-Some.field-0 }) c.in-Some.ensures);
    }

pub delete_line-requires : goal.delete_line-requires
delete_line-requires c = record { no_axiom = rw (← c.self.view_is) (same_none (line_of (left_lines c.self.inside.left) c.args.id) c.in-None.ensures) }
