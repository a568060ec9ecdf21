-- An adder whose goals are all refuted is used, and operands at which one fails are a difference.
use Rattle.std.specs.Prelude.{◌≡◌, ℕ, Bool, List, length, map}
use Rattle.std.proofs.Common.{sym, ap, subst, ◌∙◌, arith}
use Rattle.graph_core.specs.Graph.Extended.{AgreeOnColumns, Extended}
use Rattle.graph_core.specs.Graph.{Aig, IsEvaluation}
use Rattle.graph_core.specs.Graph.Assignments.{literal}
use Rattle.graph_core.specs.Graph.Operands.{Sides, AreInRange, inputs_at}
use Rattle.graph_core.specs.declared.numbers.Numbers.{Numbers}
use Rattle.ripple_graft.specs.Blocks.{IsCut, with_cut}
use Rattle.ripple_graft.specs.declared.cut.Cut.{Cut}
use Rattle.adder_finder.specs.FinalStage.{IsFinalStage}
use Rattle.cdcl_solver.specs.Logs.{LogView}
use Rattle.cdcl_solver.specs.Solving.{assignment_of}
use Rattle.goal_refuter.specs.Refutations.{unmet_goals}
use Rattle.goal_refuter.specs.Refuting.{IsDiffering, IsSoFar}
use Rattle.goal_refuter.proofs.Lawful.{lawful_lines, lines_few}
use Rattle.stage_rewriter.specs.Rewriting.{IsRewriting, IsRewritingAt, IsRewritingDifference, IsShownRewriting}
use Rattle.stage_rewriter.specs.declared.rewriting.Rewriting.{Rewriting}
use Rattle.stage_rewriter.specs.declared.rewriting.Rewriting.TheVariants as kind
use Rattle.stage_rewriter.proofs.Columns.{replaced_long}

pub shown : (g : Aig) (conflicts : ℕ) (cut : Cut) (e : Extended) (log : LogView) → IsCut g cut → e ≡ with_cut g cut → IsSoFar e conflicts (length (unmet_goals e)) log → IsShownRewriting g conflicts cut e log.lines
shown g conflicts cut e log is_cut is h =
    let graph : e.graph ≡ g = ap (λ (x : Extended). x.graph) is in
    let outs : length e.graph.outputs ≡ length g.outputs = ap (λ (x : Aig). length x.outputs) graph in
    let cut' : IsCut e.graph cut = subst (λ (x : Aig). IsCut x cut) (sym graph) is_cut in
    let is' : e ≡ with_cut e.graph cut = is ∙ ap (λ (x : Aig). with_cut x cut) (sym graph) in
    let long = replaced_long e cut cut' is' in
    let few = lines_few e conflicts log h in
    record { fits = is_cut; extended_is = is; lawful = lawful_lines e conflicts log h; few = omega arith }

-- numbers at which an old and a new output differ
pub differs : (g : Aig) (s : Sides) (cut : Cut) (e : Extended) (values : List Bool) (x : Numbers) → e ≡ with_cut g cut → IsDiffering e values → map (literal (assignment_of values)) g.inputs ≡ inputs_at s x →
    AreInRange s x → IsRewritingDifference (with_cut g cut) s x
differs g s cut e values x is h inputs range = record {
  range = range;
  values = assignment_of values;
  evaluation = subst (λ (x : Extended). IsEvaluation x.gates (assignment_of values)) is h.evaluation;
  inputs = inputs;
  differ = subst (λ (x : Extended). ¬ (AgreeOnColumns x (assignment_of values))) is h.differ;
}

-- What comes of it at the final stage.
pub at_stage : (g : Aig) (s : Sides) (conflicts : ℕ) (cut : Cut) → IsFinalStage g cut → (r : Rewriting) → IsRewritingAt g s conflicts cut r → IsRewriting g s conflicts r
at_stage g s conflicts cut stage (kind.Used at e log) h = record {
  stage = subst (IsFinalStage g) (sym h.0) stage;
  extended_is = h.1.extended_is;
  lawful = h.1.lawful;
  few = h.1.few;
}
at_stage g s conflicts cut stage kind.None h = absurd h
at_stage g s conflicts cut stage (kind.Differs x) h = (cut, stage, h)
at_stage g s conflicts cut stage (kind.Spent lemmas goal log) h = (cut, stage, h)
