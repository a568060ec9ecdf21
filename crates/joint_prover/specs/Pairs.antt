-- The certificates that are written: over the graph with what takes the place of outputs, or over the graph alone. They leave out what isn't
-- needed.
use Rattle.std.specs.Prelude.{◌≡◌, ℕ, ◌+◌, ◌*◌, ◌≤◌, List, [], length}
use Rattle.std.specs.List.{All}
use Rattle.std.specs.declared.option.Option.{Option}
use Rattle.std.specs.declared.option.Option.TheVariants.{None}
use Rattle.algebra_core.specs.AlgebraLines.{Line, Premises}
use Rattle.graph_core.specs.Graph.Extended.{modulus, Extended}
use Rattle.algebra_core.specs.Text.{IsLawfulAlgebraFile}
use Rattle.graph_core.specs.Graph.Operands.{sides_for}
use Rattle.graph_core.specs.Graph.{Aig}
use Rattle.graph_core.specs.Text.JudgedLines.{IsWithin, Lengths}
use Rattle.joint_prover.specs.declared.replacement.Replacement.{Replacement}
use Rattle.clause_core.specs.Clause.{IsClause}
use Rattle.clause_core.specs.ClauseLines.{ClauseLine, clause_in}
use Rattle.drup_text.specs.WrittenTexts.{any_file_text}
use Rattle.pac_writer.specs.Certificates.{written_certificate}
use Rattle.pac_writer.specs.Spare.{IsSpareLine}
use Rattle.pair_core.specs.ClauseFiles.{GivesPremises, premises}
use Rattle.command_core.specs.declared.task.Task.{Task}
use Rattle.joint_prover.specs.Replacements.{extended_by, header_of, version_for}
use Rattle.joint_prover.specs.Tries.{IsProvedOver}

-- The header that names what takes the place of outputs, in a version that may be written; its lines, of which there are none where
-- nothing does. Each has a literal once.
pub record NamesReplacement (most version : ℕ) (g : Aig) (r : Option Replacement) (text : List ℕ) : Type 0 where
  pub lines : List ClauseLine
  pub allowed : version_for version r ≤ version
  pub few : length lines ≤ most
  pub once : All (λ line. IsClause (clause_in line)) lines
  pub none : r ≡ None → lines ≡ []
  pub text_is : text ≡ any_file_text (header_of g version r) lines

-- Premises of this version over the graph with this.
pub record ArePremisesOver (g : Aig) (version : ℕ) (r : Option Replacement) (p : Premises) : Type 0 where
  pub version_is : p.version ≡ version
  pub extended : p.extended ≡ extended_by g r

-- A clause file with few lines that gives such premises, under all lengths that it is within.
pub record AreClausesOver (g : Aig) (task : Task) (r : Option Replacement) (clauses : List ℕ) : Type 0 where
  pub names : NamesReplacement (2 * (task.conflicts + 2 * length g.outputs)) task.version g r clauses
  pub gives : (lengths : Lengths) → IsWithin lengths clauses → (p : Premises) × GivesPremises lengths g clauses p × ArePremisesOver g (version_for task.version r) r p

-- A text of this version over an extended graph: few lines, each of them spare, and a closing line.
pub record IsSpareFile (version : ℕ) (e : Extended) (text : List ℕ) : Type 0 where
  pub lines : List Line
  pub closing : ℕ
  pub few : length lines ≤ 16 * (length e.gates + 2)
  pub spare : All (IsSpareLine (modulus e)) lines
  pub text_is : text ≡ written_certificate version (modulus e) lines closing

-- And an algebra file that is lawful over that graph, imports nothing and is spare.
pub record IsPairOver (g : Aig) (task : Task) (r : Option Replacement) (clauses algebra : List ℕ) : Type 0 where
  pub clause_file : AreClausesOver g task r clauses
  pub algebra_file : IsLawfulAlgebraFile (premises (version_for task.version r) (extended_by g r) []) (sides_for task.claim g) algebra
  pub spare : IsSpareFile (version_for task.version r) (extended_by g r) algebra

-- ---- what is written where a graph does what is claimed, with this in use or nothing

abbrev pub AreClausesFor : Aig → Task → Option Replacement → List ℕ → Type 0
AreClausesFor g task used clauses = (r : Option Replacement) × IsProvedOver g task.claim task.budget used r × AreClausesOver g task r clauses

abbrev pub IsPairFor : Aig → Task → Option Replacement → List ℕ → List ℕ → Type 0
IsPairFor g task used clauses algebra = (r : Option Replacement) × IsProvedOver g task.claim task.budget used r × IsPairOver g task r clauses algebra
