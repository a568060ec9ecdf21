-- What is kept of a pair of certificates, and that it is a pair again.
use Rattle.std.specs.Prelude.{◌≡◌, ℕ, true, List, length, slice_index}
use Rattle.graph_core.specs.Graph.Extended.{modulus, Extended}
use Rattle.graph_core.specs.Graph.{Aig}
use Rattle.graph_core.specs.Text.JudgedLines.{Lengths}
use Rattle.graph_core.specs.declared.claim.Claim.{Claim}
use Rattle.clause_core.specs.Clause.{Clause}
use Rattle.clause_core.specs.ClauseLines.{ClauseLine, added}
use Rattle.clause_core.specs.GateClauses.{gate_clauses}
use Rattle.clause_core.specs.Likeness.{AreSameSets}
use Rattle.drup_text.specs.Headers.{extended_with}
use Rattle.miter_encoder.specs.ColumnGoals.{AreGoalsOf}
use Rattle.miter_encoder.specs.declared.goal.Goal.{Goal}
use Rattle.poly_text.specs.declared.line.PacLine.{PacLine}
use Rattle.poly_text.specs.Recorded.{lines_in}
use Rattle.pair_core.specs.Certificates.{IsPair}
use Rattle.pair_core.specs.ClauseFiles.{HasLawfulLines}
use Rattle.pair_core.specs.Texts.{algebra_text, clauses_text}
use Rattle.algebra_judge.specs.Records.{IsRecordOf}
use Rattle.pair_trim.specs.Lines.{AreLinesKept, AreLinesUsed, all_renumbered, imports_in}
use Rattle.pair_trim.specs.Marking.{IsKeptOf, unmet}
use Rattle.pair_trim.specs.Trimmed.{AreClausesTrimmed}
use Rattle.pair_trim.specs.declared.answer.Trimmed.{Trimmed}

-- Of the clauses that were added those are kept that are used, in their order. Each follows by a tight chain of gates' clauses and of kept
-- ones that its uses name; and it is the first that shows some goal of the extended graph, or kept lines import it, or a later one uses it.
pub record AreClausesKept (e : Extended) (old : List Clause) (t : Trimmed) : Type 0 where
  pub goals : List Goal
  pub goals_are : AreGoalsOf e goals
  pub trimmed : AreClausesTrimmed (gate_clauses e.gates) (unmet goals) (imports_in t.pair.algebra.items) old t.pair.clauses.items t.uses.items

-- Of the lines that introduce ids those are kept that are used, in their order: each is the one that the closing line names, or a later
-- kept one is made of it. An import names by its new number the clause that it named.
pub record AreLinesTrimmed (old_clauses : List Clause) (recorded : List PacLine) (t : Trimmed) : Type 0 where
  pub kept : List PacLine
  pub are_kept : AreLinesKept recorded t.pair.closing kept
  pub goals : List Goal
  pub uses : List (List ℕ)
  pub ranks : List ℕ
  -- the ranks are the new numbers of kept clauses
  pub numbers : IsKeptOf goals (imports_in kept) old_clauses uses t.pair.clauses.items t.uses.items ranks
  pub renumbered : t.pair.algebra.items ≡ all_renumbered (slice_index ranks) kept
  pub used : AreLinesUsed t.pair.algebra.items t.pair.closing

-- Of a pair of certificates for a graph, each within its lengths, this is kept; the new texts are its texts, and a pair for that graph too,
-- under all lengths that they are within.
pub record IsTrimOf (lengths : Lengths) (g : Aig) (claim : Claim) (clauses algebra : List ℕ) (t : Trimmed) (to_clauses to_algebra : List ℕ) : Type 0 where
  -- the old lines, and how many there are
  pub clause_lines : List ClauseLine
  pub clause_file : HasLawfulLines lengths g clauses t.pair.header clause_lines
  pub of_clauses : t.of_clauses ≡ length clause_lines
  pub recorded : List PacLine
  pub algebra_file : IsRecordOf true t.pair.header.version (modulus (extended_with g t.pair.header)) algebra (lines_in t.pair.terms recorded) t.pair.closing t.of_algebra
  -- what is kept of them
  pub old : List Clause
  pub same : AreSameSets old (added clause_lines)
  pub clauses_kept : AreClausesKept (extended_with g t.pair.header) old t
  pub lines_kept : AreLinesTrimmed old recorded t
  -- the new pair
  pub to_clauses_is : to_clauses ≡ clauses_text t.pair
  pub to_algebra_is : to_algebra ≡ algebra_text t.pair
  pub pair : IsPair g claim to_clauses to_algebra
