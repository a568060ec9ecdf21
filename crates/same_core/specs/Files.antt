-- The three files, and the graphs that they spell.
use Rattle.std.specs.Prelude.{ℕ, List, IfSome, IsSome}
use Rattle.std.specs.declared.option.Option.{Option}
use Rattle.aiger_reader.specs.Refusals.{SpellsWithin}
use Rattle.graph_core.specs.declared.profile.Profile.TheVariants.{Any}
use Rattle.graph_core.specs.Graph.{Aig}
use Rattle.mv_desk.specs.View.{View, bytes_under}
use Rattle.command_core.specs.Files.{HasGraph}
pub use Rattle.command_core.specs.Files.{ComparedFiles, compared_files_of}
use Rattle.same_core.specs.Merged.{AreOfOneShape}

-- what the files have, each where it is told
pub record ComparedTexts : Type 0 where
  pub graph : Option (List ℕ)
  pub other : Option (List ℕ)
  pub clauses : Option (List ℕ)

-- the texts under the names, as a desk tells them
abbrev pub compared_texts_of : View → ComparedFiles → ComparedTexts
compared_texts_of view files = record { graph = bytes_under view files.graph; other = bytes_under view files.other; clauses = bytes_under view files.clauses }

-- each of the three is told
pub record AreComparedTold (texts : ComparedTexts) : Type 0 where
  pub graph_told : IsSome texts.graph
  pub other_told : IsSome texts.other
  pub clauses_told : IsSome texts.clauses

-- ---- what they come to

-- the file spells the graph within its limit, where it is told
abbrev pub IsSpelled : ℕ → Option (List ℕ) → Aig → Type 0
IsSpelled limit file g = IfSome file (λ bytes. SpellsWithin Any limit bytes g)

-- There is a first graph, of which something holds.
abbrev pub HasFirst : ℕ → ComparedTexts → (Aig → Type 0) → Type 0
HasFirst limit texts = HasGraph Any limit texts.graph

-- There are two graphs, of which something holds.
abbrev pub HasBoth : ℕ → ComparedTexts → (Aig → Aig → Type 0) → Type 0
HasBoth limit texts P = HasFirst limit texts (λ g. HasGraph Any limit texts.other (P g))

-- and they are of one shape
abbrev pub HasPair : ℕ → ComparedTexts → (Aig → Aig → Type 0) → Type 0
HasPair limit texts P = HasBoth limit texts (λ g h. AreOfOneShape g h × P g h)

-- and they aren't
abbrev pub HasOtherShapes : ℕ → ComparedTexts → Type 0
HasOtherShapes limit texts = HasBoth limit texts (λ g h. ¬ (AreOfOneShape g h))
