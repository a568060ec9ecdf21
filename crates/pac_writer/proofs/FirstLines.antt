-- The ids of axioms.
use Rattle.std.specs.Prelude.{◌+◌, ◌<◌, ◌≤◌, length, map, slice_index_or}
use Rattle.std.specs.List.{All}
use Rattle.std.proofs.Common.{arith}
use Rattle.std.proofs.lemmas.List.Elements.{All-append, All-map}
use Rattle.std.proofs.lemmas.Option.{slice_get_within}
use Rattle.graph_core.specs.Graph.Extended.{Extended, modulus}
use Rattle.algebra_core.specs.AlgebraLines.{LiveLine, axioms, column_axiom, gate_axiom}
use Rattle.ripple_graft.specs.Extension.{IsExtension}

-- They are from 1 to the last one.
pub axiom_ids : (e : Extended) → IsExtension e → All (λ line. (0 < line.id) × (line.id ≤ e.max + length e.graph.outputs)) (axioms e).live
axiom_ids e made =
    All-append (λ (line : LiveLine). (0 < line.id) × (line.id ≤ e.max + length e.graph.outputs)) (map (gate_axiom (modulus e)) e.gates) (map (column_axiom e) e.replaced)
    (All-map (λ (line : LiveLine). (0 < line.id) × (line.id ≤ e.max + length e.graph.outputs)) (gate_axiom (modulus e)) e.gates
    (λ k d low. (made.defined_once.gates k d low, (let far = made.gates_in_range k d low in omega arith))))
    (All-map (λ (line : LiveLine). (0 < line.id) × (line.id ≤ e.max + length e.graph.outputs)) (column_axiom e) e.replaced
    (λ k d low. let c = slice_index_or e.replaced k d in let within = slice_get_within e.graph.outputs c.number c.old (made.replaced k d low) in (omega arith, omega arith)))
