-- What a clause file that was read gives, and what is kept of the clauses that it adds.
use Rattle.std.specs.Prelude.{◌≡◌, ◌==◌, ℕ, Bool, true, false, if◌then◌else◌}
use Rattle.std.specs.List.{All}
use Rattle.clause_core.specs.Facts.{IsClauseFact}
use Rattle.algebra_core.specs.AlgebraLines.{Premises}
use Rattle.graph_core.specs.Graph.Extended.{AgreeOnColumns}
use Rattle.graph_core.specs.Graph.{Aig}
use Rattle.drup_checker.specs.declared.keeps.Keeps.{Keeps}
use Rattle.drup_checker.specs.declared.keeps.Keeps.TheVariants as keep
use Rattle.mv_fact.specs.Always.{Always}
use Rattle.clause_core.specs.KeptClauses.{AreEarlier}
use Rattle.drup_text.specs.Headers.{IsHeaderOf, extended_with}
use Rattle.joint_checker.specs.declared.clause_file.Shown.{Shown}
use Rattle.pair_core.specs.ClauseFiles.{importable, premises}

-- the premises that it gives
abbrev pub premises_of : Shown → Premises
premises_of s = premises s.header.version s.extended (importable s.header.version s.recorded.added)

-- The graph takes its header, and with the header's blocks and what stands beside it is the extended graph, over whose evaluations the columns agree and the
-- kept clauses hold. A kept chain uses clauses before its own.
pub record IsShownOf (g : Aig) (s : Shown) : Type 0 where
  pub takes : IsHeaderOf g s.header
  pub extended : s.extended ≡ extended_with g s.header
  pub columns : Always s.extended.gates (AgreeOnColumns s.extended)
  pub facts : All (IsClauseFact s.extended.gates) s.recorded.added
  pub earlier : AreEarlier s.recorded.uses.items

-- what is kept: with the chains each clause, else those that may be imported
abbrev pub keeps_of : Bool → ℕ → Keeps
keeps_of true version = keep.Chains
keeps_of false version = if version == 1 then keep.Nothing else keep.Clauses
