use Rattle.std.proofs.Common.{◌≡◌, ◌∙◌, refl, Bool, List, map, sym, ap, subst}
use Rattle.graph_core.specs.Graph.Assignments.{literal}
use Rattle.graph_core.specs.Graph.Operands.{inputs_at}
use Rattle.cdcl_solver.specs.Solving.{assignment_of}
use Rattle.goal_refuter.specs.Refuting.{IsGoalsOutcome}
use Rattle.goal_refuter.proofs.Lawful.{lines_agree}
use Rattle.stage_rewriter.proofs.Using.{differs, shown}
use Rattle.stage_rewriter.proofs.rewriting.rewrite_near.Goals as goal

pub returns-in-Refuted-clause-rewriting : goal.returns-in-Refuted-clause-rewriting
returns-in-Refuted-clause-rewriting c = (
  refl,
  shown c.args.graph.now c.args.conflicts c.args.cut c.in_ok-extended.extended c.in-Refuted.log c.requires.cut c.in_ok-extended.ensures
      (subst (IsGoalsOutcome c.in_ok-extended.extended c.args.conflicts) c.in-Refuted.is c.in_ok-log.ensures),
)

pub returns-in-Refuted-clause-agrees : goal.returns-in-Refuted-clause-agrees
returns-in-Refuted-clause-agrees c = lines_agree c.in_ok-extended.extended c.args.conflicts c.in-Refuted.log (subst (IsGoalsOutcome c.in_ok-extended.extended c.args.conflicts) c.in-Refuted.is c.in_ok-log.ensures)

pub returns-in-Model-clause-rewriting : goal.returns-in-Model-clause-rewriting
returns-in-Model-clause-rewriting c =
    let g = c.args.graph.now in
    let s = c.args.operands.now in
    let values = c.in-Model.values.items in
    let e = c.in_ok-extended.extended in
    let x = c.in_ok-numbers-in-Model.numbers in
    let inputs : map (literal (assignment_of values)) g.inputs ≡ inputs_at s x =
    ap (λ (vs : List Bool). map (literal (assignment_of vs)) g.inputs) (sym c.deref.ensures.value) ∙ c.in_ok-numbers-in-Model.ensures.inputs in
    differs g s c.args.cut e values x c.in_ok-extended.ensures (subst (IsGoalsOutcome e c.args.conflicts) c.in-Model.is c.in_ok-log.ensures) inputs c.in_ok-numbers-in-Model.ensures.range
