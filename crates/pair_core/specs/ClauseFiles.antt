-- Clause certificates that are lawful for a graph, and the premises that each gives for the algebra.
use Rattle.std.specs.Prelude.{◌≡◌, ◌==◌, ℕ, List, [], length, map, if◌then◌else◌}
use Rattle.std.specs.List.{All}
use Rattle.algebra_core.specs.AlgebraLines.{Premises}
use Rattle.algebra_core.specs.Agreement.{AreSamePremises}
use Rattle.graph_core.specs.Graph.Extended.{Extended}
use Rattle.graph_core.specs.Graph.{Aig}
use Rattle.graph_core.specs.Text.JudgedLines.{IsWithin, Lengths}
use Rattle.clause_core.specs.Clause.{Clause, IsClauseInRange}
use Rattle.clause_core.specs.ClauseLines.{AreGoalsShown, AreLawfulClauses, ClauseLine, added, clause_in}
use Rattle.clause_core.specs.GateClauses.{gate_clauses}
use Rattle.clause_core.specs.Likeness.{AreSameSets}
use Rattle.drup_text.specs.declared.head.Header.{Header}
use Rattle.drup_text.specs.Headers.{IsAnyClauseFile, IsHeaderOf, extended_with}
use Rattle.gate_axioms.specs.ClauseValues.{clause_value}

-- of added clauses those that an algebra certificate of the version may import
abbrev pub importable : ℕ → List Clause → List Clause
importable version cs = if version == 1 then [] else cs

-- the premises of a version over an extended graph, with the values of these clauses to import
abbrev pub premises : ℕ → Extended → List Clause → Premises
premises version e clauses = record { version = version; extended = e; imports = map clause_value clauses }

-- Those of a header that the graph takes.
pub record ArePremisesOf (g : Aig) (p : Premises) : Type 0 where
  pub header : Header
  pub takes : IsHeaderOf g header
  pub version : p.version ≡ header.version
  pub extended : p.extended ≡ extended_with g header

-- A file within the lengths with this header, which the graph takes, and these lines, each of which is lawful after those before
-- it, whatever the goals.
pub record HasLawfulLines (lengths : Lengths) (g : Aig) (bytes : List ℕ) (header : Header) (lines : List ClauseLine) : Type 0 where
  pub text : IsAnyClauseFile (length g.outputs) bytes header lines
  pub takes : IsHeaderOf g header
  pub in_range : All (λ x. IsClauseInRange (extended_with g header).max (clause_in x)) lines
  pub lawful : AreLawfulClauses (gate_clauses (extended_with g header).gates) lines
  pub within : IsWithin lengths bytes

-- Which premises a clause file within the lengths gives for a graph, where its lines are lawful and every goal of a replaced column is met
-- or shown by an added clause: its version, the graph extended by its header, and in versions above 1 the values of its added clauses.
pub record GivesPremises (lengths : Lengths) (g : Aig) (bytes : List ℕ) (p : Premises) : Type 0 where
  pub header : Header
  pub lines : List ClauseLine
  pub lawful : HasLawfulLines lengths g bytes header lines
  pub shown : AreGoalsShown lines (extended_with g header)
  pub same : AreSamePremises p (premises header.version (extended_with g header) (importable header.version (added lines)))

-- The lines after this header are lawful, show each goal and add these clauses, as sets, and there are so many lines.
pub record AddsClauses (lengths : Lengths) (g : Aig) (bytes : List ℕ) (header : Header) (clauses : List Clause) (count : ℕ) : Type 0 where
  pub lines : List ClauseLine
  pub lawful : HasLawfulLines lengths g bytes header lines
  pub shown : AreGoalsShown lines (extended_with g header)
  pub same : AreSameSets clauses (added lines)
  pub count_is : count ≡ length lines
