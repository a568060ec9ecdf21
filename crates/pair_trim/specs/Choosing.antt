-- What is chosen of a pair that is accepted. Private clauses alone cite this file.
use Rattle.std.specs.Prelude.{◌≡◌, ℕ, List, slice_index, IfSome}
use Rattle.graph_core.specs.Graph.Operands.{Does, profile_of}
use Rattle.graph_core.specs.declared.claim.Claim.{Claim}
use Rattle.mv_desk.specs.declared.limits.Limits.{Limits}
use Rattle.mv_text.specs.LineReading.{lengths_of}
use Rattle.miter_encoder.specs.ColumnGoals.{AreGoalsOf}
use Rattle.miter_encoder.specs.declared.goal.Goal.{Goal}
use Rattle.poly_text.specs.declared.line.PacLine.{PacLine}
use Rattle.command_core.specs.Files.{HasGraph, Texts}
use Rattle.joint_checker.specs.Judged.{extended_of}
use Rattle.joint_checker.specs.declared.checking.Judged.{Judged}
use Rattle.pair_trim.specs.Lines.{AreLinesKept, all_renumbered, imports_in}
use Rattle.pair_trim.specs.Marking.{IsKeptOf}
use Rattle.pair_trim.specs.declared.answer.Trimmed.{Trimmed}
use Rattle.pair_core.specs.Certificates.{IsPair}
use Rattle.pair_core.specs.Texts.{algebra_text, clauses_text}
use Rattle.pair_trim.specs.NewPairs.{IsTrimOf}

-- What is chosen: lines by the closing line, clauses by goals and by the imports of these lines, which name them by new numbers.
pub record IsChosen (j : Judged) (t : Trimmed) : Type 0 where
  pub header : t.pair.header ≡ j.header
  pub terms : t.pair.terms ≡ j.closed.record.terms
  pub closing : t.pair.closing ≡ j.closed.id
  pub of_clauses : t.of_clauses ≡ j.of_clauses
  pub of_algebra : t.of_algebra ≡ j.closed.lines
  pub goals : List Goal
  pub goals_are : AreGoalsOf (extended_of j) goals
  pub kept : List PacLine
  pub ranks : List ℕ
  pub lines_kept : AreLinesKept j.closed.record.lines.items j.closed.id kept
  pub clauses_kept : IsKeptOf goals (imports_in kept) j.recorded.added j.recorded.uses.items t.pair.clauses.items t.uses.items ranks
  pub renumbered : t.pair.algebra.items ≡ all_renumbered (slice_index ranks) kept

-- The graph does what is claimed, what is kept is a pair for it, and it is kept of the two certificates, where these are told.
abbrev pub HasChosen : Limits → Claim → Texts → Trimmed → Type 0
HasChosen limits claim texts t = HasGraph (profile_of claim.widths) limits.graph texts.graph (λ g. Does claim g ×
    IsPair g claim (clauses_text t.pair) (algebra_text t.pair) ×
    IfSome texts.clauses (λ clauses. IfSome texts.algebra (λ algebra.
    IsTrimOf (lengths_of limits) g claim clauses algebra t (clauses_text t.pair) (algebra_text t.pair))))
