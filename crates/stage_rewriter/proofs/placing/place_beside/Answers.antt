use Rattle.std.proofs.Common.{◌≡◌, ◌∙◌, ◌≤◌, refl, Bool, List, length, map, sym, ap, subst}
use Rattle.graph_core.specs.Graph.Assignments.{literal}
use Rattle.graph_core.specs.Graph.Extended.{without_cut}
use Rattle.graph_core.specs.Graph.Operands.{inputs_at}
use Rattle.graph_core.specs.Graph.{Aig}
use Rattle.ripple_graft.specs.Beside.{IsBeside, with_beside}
use Rattle.cdcl_solver.specs.Solving.{assignment_of}
use Rattle.goal_refuter.specs.Refuting.{IsGoalsOutcome}
use Rattle.goal_refuter.proofs.Lawful.{lines_agree}
use Rattle.stage_rewriter.proofs.Placings.{differs_beside, same_graph, shown_beside, values_reach}
use Rattle.stage_rewriter.proofs.placing.place_beside.Goals as goal

pub show_extended-requires-clause-beside : goal.show_extended-requires-clause-beside
show_extended-requires-clause-beside c =
    let g = c.args.graph.now in
    subst (λ (x : Aig). IsBeside x c.args.beside) (sym (same_graph g c.args.beside c.in_ok-extended.extended c.requires.beside c.max-max.ensures.built.well_formed c.in_ok-extended.ensures)) c.requires.beside

pub show_extended-requires-clause-graph : goal.show_extended-requires-clause-graph
show_extended-requires-clause-graph c =
    let g = c.args.graph.now in
    c.in_ok-extended.ensures ∙
    ap (λ (x : Aig). with_beside (without_cut x) c.args.beside) (sym (same_graph g c.args.beside c.in_ok-extended.extended c.requires.beside c.max-max.ensures.built.well_formed c.in_ok-extended.ensures))

pub numbers_of-requires-clause-all : goal.numbers_of-requires-clause-all
numbers_of-requires-clause-all c =
    let g = c.args.graph.now in
    let e = c.in_ok-extended.extended in
    let values = c.in-Model.values.items in
    subst (λ (vs : List Bool). g.max ≤ length vs) (sym c.deref.ensures.value)
    (values_reach g c.args.beside e c.requires.beside c.max-max.ensures.built.well_formed c.in_ok-extended.ensures values (subst (IsGoalsOutcome e c.args.conflicts) c.in-Model.is c.in_ok-log.ensures))

pub returns-in-Refuted-clause-placing : goal.returns-in-Refuted-clause-placing
returns-in-Refuted-clause-placing c =
    let e = c.in_ok-extended.extended in (
      refl,
      shown_beside c.args.graph.now c.args.beside e c.requires.beside c.max-max.ensures.built.well_formed c.in_ok-extended.ensures c.args.conflicts c.in-Refuted.log (subst (IsGoalsOutcome e c.args.conflicts) c.in-Refuted.is c.in_ok-log.ensures),
    )

pub returns-in-Refuted-clause-agrees : goal.returns-in-Refuted-clause-agrees
returns-in-Refuted-clause-agrees c = lines_agree c.in_ok-extended.extended c.args.conflicts c.in-Refuted.log (subst (IsGoalsOutcome c.in_ok-extended.extended c.args.conflicts) c.in-Refuted.is c.in_ok-log.ensures)

pub returns-in-Model-clause-placing : goal.returns-in-Model-clause-placing
returns-in-Model-clause-placing c =
    let g = c.args.graph.now in
    let s = c.args.operands.now in
    let values = c.in-Model.values.items in
    let e = c.in_ok-extended.extended in
    let x = c.in_ok-numbers-in-Model.numbers in
    let inputs : map (literal (assignment_of values)) g.inputs ≡ inputs_at s x =
    ap (λ (vs : List Bool). map (literal (assignment_of vs)) g.inputs) (sym c.deref.ensures.value) ∙ c.in_ok-numbers-in-Model.ensures.inputs in
    differs_beside g c.args.beside e c.requires.beside c.max-max.ensures.built.well_formed c.in_ok-extended.ensures s values x (subst (IsGoalsOutcome e c.args.conflicts) c.in-Model.is c.in_ok-log.ensures) inputs
    c.in_ok-numbers-in-Model.ensures.range
