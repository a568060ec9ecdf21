-- What comes of putting a ripple-carry adder in place of a graph's final stage.
use Rattle.std.specs.Prelude.{◌≡◌, ℕ, ◌+◌, ◌*◌, ◌≤◌, List, length, map}
use Rattle.graph_core.specs.Graph.Extended.{AgreeOnColumns, Extended}
use Rattle.graph_core.specs.Graph.{Aig, IsEvaluation}
use Rattle.graph_core.specs.Graph.Assignments.{Assignment, literal}
use Rattle.graph_core.specs.Graph.Operands.{Sides, AreInRange, inputs_at}
use Rattle.graph_core.specs.declared.numbers.Numbers.{Numbers}
use Rattle.mv_fact.specs.Always.{Always}
use Rattle.ripple_graft.specs.Blocks.{IsCut, with_cut}
use Rattle.ripple_graft.specs.declared.cut.Cut.{Cut}
use Rattle.adder_finder.specs.FinalStage.{IsFinalStage}
use Rattle.clause_core.specs.ClauseLines.{AreLawfulClauseLines, ClauseLine}
use Rattle.goal_refuter.specs.Refutations.{IsSpent}
use Rattle.stage_rewriter.specs.declared.rewriting.Rewriting.{Rewriting}
use Rattle.stage_rewriter.specs.declared.rewriting.Rewriting.TheVariants as kind

-- The adder stands in place of a cut; the lines show each goal, and they are few.
pub record IsShownRewriting (g : Aig) (conflicts : ℕ) (cut : Cut) (extended : Extended) (lines : List ClauseLine) : Type 0 where
  pub fits : IsCut g cut
  pub extended_is : extended ≡ with_cut g cut
  pub lawful : AreLawfulClauseLines extended lines
  pub few : length lines ≤ 2 * (conflicts + 2 * length g.outputs)

-- The adder stands in place of the final stage; the lines show each goal, and they are few.
pub record IsUsed (g : Aig) (conflicts : ℕ) (cut : Cut) (extended : Extended) (lines : List ClauseLine) : Type 0 where
  pub stage : IsFinalStage g cut
  pub extended_is : extended ≡ with_cut g cut
  pub lawful : AreLawfulClauseLines extended lines
  pub few : length lines ≤ 2 * (conflicts + 2 * length g.outputs)

-- An evaluation with these operands and this addend at the inputs, on which an old and a new output differ.
pub record IsRewritingDifference (e : Extended) (s : Sides) (x : Numbers) : Type 0 where
  pub range : AreInRange s x
  pub values : Assignment
  pub evaluation : IsEvaluation e.gates values
  pub inputs : map (literal values) e.graph.inputs ≡ inputs_at s x
  pub differ : ¬ (AgreeOnColumns e values)

-- What comes of it at a cut: each kind by its cause.
abbrev pub IsRewritingAt : Aig → Sides → ℕ → Cut → Rewriting → Type 0
IsRewritingAt g s conflicts at (kind.Used cut extended log) = (cut ≡ at) × IsShownRewriting g conflicts cut extended log.lines
IsRewritingAt g s conflicts at kind.None = ⊥
IsRewritingAt g s conflicts at (kind.Differs x) = IsRewritingDifference (with_cut g at) s x
IsRewritingAt g s conflicts at (kind.Spent lemmas goal log) = IsSpent (with_cut g at) conflicts lemmas goal log

-- And at the final stage.
abbrev pub IsRewriting : Aig → Sides → ℕ → Rewriting → Type 0
IsRewriting g s conflicts (kind.Used cut extended log) = IsUsed g conflicts cut extended log.lines
IsRewriting g s conflicts kind.None = (cut : Cut) → ¬ (IsFinalStage g cut)
IsRewriting g s conflicts (kind.Differs x) = (cut : Cut) × IsFinalStage g cut × IsRewritingDifference (with_cut g cut) s x
IsRewriting g s conflicts (kind.Spent lemmas goal log) = (cut : Cut) × IsFinalStage g cut × IsSpent (with_cut g cut) conflicts lemmas goal log

-- Where the adder is used, the old and the new outputs are equal on every evaluation.
abbrev pub Agrees : Rewriting → Type 0
Agrees (kind.Used cut extended log) = Always extended.gates (AgreeOnColumns extended)
Agrees kind.None = Unit {0}
Agrees (kind.Differs x) = Unit {0}
Agrees (kind.Spent lemmas goal log) = Unit {0}
