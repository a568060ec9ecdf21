-- Two files that spell a pair of graphs, and where they don't. Private clauses alone cite it.
use Rattle.std.specs.Prelude.{◌≡◌, ℕ}
use Rattle.command_core.specs.Stopping.{IsStop}
use Rattle.graph_core.specs.Graph.{Aig, IsBuilt}
use Rattle.mv_desk.specs.View.{View}
use Rattle.mv_desk.specs.declared.limits.Limits.{Limits}
use Rattle.same_core.specs.declared.pairs.PairFail.{PairFail}
use Rattle.same_core.specs.declared.pairs.PairFail.TheVariants as pair
use Rattle.same_core.specs.Files.{ComparedFiles, ComparedTexts, HasOtherShapes, IsSpelled, compared_texts_of}
use Rattle.same_core.specs.Merged.{AreOfOneShape, Both, both}
use Rattle.same_core.specs.Outcome.{IsPairStop}

-- The first graph, and the merged gates of both.
pub record IsReadPair (limit : ℕ) (texts : ComparedTexts) (g : Aig) (m : Both) : Type 0 where
  pub other : Aig
  pub spelled : IsSpelled limit texts.graph g
  pub other_spelled : IsSpelled limit texts.other other
  pub built : IsBuilt g
  pub other_built : IsBuilt other
  pub shape : AreOfOneShape g other
  pub merged_is : m ≡ both g other

-- why there is no pair
abbrev pub IsPairFail : Limits → ComparedFiles → View → View → PairFail → Type 0
IsPairFail limits files before after pair.Shapes = HasOtherShapes limits.graph (compared_texts_of before files)
IsPairFail limits files before after (pair.Stopped why) = IsStop (IsPairStop limits.graph (compared_texts_of before files)) before after why
