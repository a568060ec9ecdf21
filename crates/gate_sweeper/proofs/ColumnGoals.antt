-- The variables that the goals of an adder's columns and the clauses of its gates name.
use Rattle.std.specs.Prelude.{◌≡◌, ℕ, ◌≤◌, List, slice_get, slice_index_or}
use Rattle.std.specs.declared.option.Option.TheVariants.{Some}
use Rattle.std.specs.List.{All, Contains}
use Rattle.std.proofs.Common.{arith}
use Rattle.std.proofs.lemmas.Option.{get_or_from_slice_get, slice_get_within}
use Rattle.graph_core.specs.declared.literal.Lit.{Lit}
use Rattle.graph_core.specs.Graph.Extended.{Column, Extended}
use Rattle.graph_core.specs.Graph.Literals.{variable_of}
use Rattle.graph_core.proofs.OfGraphs.CallerLemmas.{output_in_range}
use Rattle.ripple_graft.specs.Extension.{IsExtension}
use Rattle.clause_core.specs.Clause.{IsClauseInRange}
use Rattle.clause_core.specs.GateClauses.{gate_clauses}
use Rattle.clause_core.proofs.GateClauseLaws.{gate_clauses_are_in_range}
use Rattle.goal_refuter.specs.Refutations.{unmet_goals}
use Rattle.goal_refuter.proofs.GoalClauses.{unmet_range}

contained : (xs : List Lit) (k : ℕ) (l : Lit) → slice_get xs k ≡ Some l → Contains xs l
contained xs k l h = (k, slice_get_within xs k l h, get_or_from_slice_get xs k l l h)

pub goals_range : (e : Extended) → IsExtension e → All (IsClauseInRange e.max) (unmet_goals e)
goals_range e made = unmet_range e each
  where
    each : All (λ c. (variable_of c.old ≤ e.max) × (variable_of c.new ≤ e.max)) e.replaced
    each i d below =
        let c : Column = slice_index_or e.replaced i d in
        let old = output_in_range e.graph made.graph c.old (contained e.graph.outputs c.number c.old (made.replaced i d below)) in
        let room = made.room in
        (omega arith, (made.new_readable i d below).0)

pub gates_range : (e : Extended) → IsExtension e → All (IsClauseInRange e.max) (gate_clauses e.gates)
gates_range e made = gate_clauses_are_in_range e.max e.gates (record {
  own = λ i d below. let some = made.defined_once.gates i d below in (omega arith, made.gates_in_range i d below);
  operands = λ i d below. let both = made.operands i d below in (both.0.0, both.1.0);
})
