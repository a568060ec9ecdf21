-- What comes of putting gates beside a graph, and literals in place of its outputs.
use Rattle.std.specs.Prelude.{◌≡◌, ℕ, ◌+◌, ◌*◌, ◌≤◌, length}
use Rattle.graph_core.specs.Graph.Extended.{AgreeOnColumns, without_cut}
use Rattle.graph_core.specs.Graph.{Aig}
use Rattle.graph_core.specs.Graph.Operands.{Sides}
use Rattle.mv_fact.specs.Always.{Always}
use Rattle.ripple_graft.specs.Beside.{IsBeside, with_beside}
use Rattle.ripple_graft.specs.declared.beside.Beside.{Beside}
use Rattle.clause_core.specs.ClauseLines.{AreLawfulClauseLines}
use Rattle.goal_refuter.specs.Refutations.{IsSpent}
use Rattle.stage_rewriter.specs.Rewriting.{IsRewritingDifference}
use Rattle.stage_rewriter.specs.declared.placing.Placed.{Placed}
use Rattle.stage_rewriter.specs.declared.placing.Placing.{Placing}
use Rattle.stage_rewriter.specs.declared.placing.Placing.TheVariants as kind

-- It fits the graph; the lines show each goal, and they are few.
pub record IsShownBeside (g : Aig) (conflicts : ℕ) (placed : Placed) : Type 0 where
  pub fits : IsBeside g placed.beside
  pub extended_is : placed.extended ≡ with_beside (without_cut g) placed.beside
  pub lawful : AreLawfulClauseLines placed.extended placed.log.lines
  pub few : length placed.log.lines ≤ 2 * (conflicts + 2 * length g.outputs)

-- What comes of it: each kind by its cause.
abbrev pub IsPlacing : Aig → Sides → ℕ → Beside → Placing → Type 0
IsPlacing g s conflicts beside (kind.Shown placed) = (placed.beside ≡ beside) × IsShownBeside g conflicts placed
IsPlacing g s conflicts beside (kind.Differs x) = IsRewritingDifference (with_beside (without_cut g) beside) s x
IsPlacing g s conflicts beside (kind.Spent lemmas goal log) = IsSpent (with_beside (without_cut g) beside) conflicts lemmas goal log

-- Where it is shown, the old and the new outputs are equal on every evaluation.
abbrev pub AgreesBeside : Placing → Type 0
AgreesBeside (kind.Shown placed) = Always placed.extended.gates (AgreeOnColumns placed.extended)
AgreesBeside (kind.Differs x) = Unit {0}
AgreesBeside (kind.Spent lemmas goal log) = Unit {0}
