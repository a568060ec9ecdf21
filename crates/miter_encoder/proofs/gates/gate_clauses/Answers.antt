use Rattle.std.proofs.Common.{◌<◌, ◌^◌, List, subst, sym, arith}
use Rattle.std.specs.Prelude.{◌↔◌, IfOk}
use Rattle.std.specs.List.{All}
use Rattle.graph_core.specs.declared.gate.Gate.{Gate}
use Rattle.graph_core.specs.Graph.Assignments.{Assignment}
use Rattle.graph_core.specs.Graph.{IsEvaluation}
use Rattle.clause_core.specs.Clause.{Satisfies}
use Rattle.clause_core.specs.GateClauses.{gate_clauses}
use Rattle.clause_core.specs.Likeness.{AreSameSets}
use Rattle.miter_encoder.proofs.GateRanges.{in_range_ok}
use Rattle.miter_encoder.proofs.gates.gate_clauses.Goals as goal

pub gate_clauses_of-requires : goal.gate_clauses_of-requires
gate_clauses_of-requires c =
    subst (λ (gates : List Gate). All (λ x. x.v < 2 ^ 31) gates) (sym c.gates.ensures.value)
    (λ k d h. let top = c.gates.ensures.extension.gates_in_range k d h in let small = c.max-greatest.ensures.small in omega arith)

pub returns-clause-meaning : goal.returns-clause-meaning
returns-clause-meaning c =
    subst (λ (gates : List Gate). IfOk c.gate_clauses_of.result (λ clauses. (σ : Assignment) → Satisfies σ clauses ↔ IsEvaluation gates σ)) c.gates.ensures.value c.gate_clauses_of.ensures.meaning

pub returns-clause-in_range : goal.returns-clause-in_range
returns-clause-in_range c =
    in_range_ok c.args.extended.now c.gate_clauses_of.result c.gates.ensures.extension
    (subst (λ (gates : List Gate). IfOk c.gate_clauses_of.result (λ clauses. AreSameSets clauses (gate_clauses gates))) c.gates.ensures.value c.gate_clauses_of.ensures.sets)
