-- What is recorded of a pair of certificates that was judged and accepted.
use Rattle.std.specs.Prelude.{true, [], IfSome}
use Rattle.aiger_reader.specs.Refusals.{SpellsWithin}
use Rattle.algebra_core.specs.AlgebraLines.{Premises}
use Rattle.graph_core.specs.Graph.Extended.{modulus, Extended}
use Rattle.graph_core.specs.Aiger.Sizes.{IsSizedAs}
use Rattle.graph_core.specs.Graph.{IsBuilt}
use Rattle.graph_core.specs.Graph.Operands.{Does, profile_of, sides_for}
use Rattle.graph_core.specs.declared.claim.Claim.{Claim}
use Rattle.clause_core.specs.GateClauses.{gate_clauses}
use Rattle.clause_judge.specs.Taking.{IsShownOver}
use Rattle.drup_checker.specs.declared.keeps.Keeps.TheVariants as keep
use Rattle.drup_text.specs.Headers.{IsHeaderOf, extended_with}
use Rattle.mv_desk.specs.declared.limits.Limits.{Limits}
use Rattle.mv_text.specs.LineReading.{lengths_of}
use Rattle.poly_text.specs.Recorded.{lines_in}
use Rattle.clause_core.specs.KeptClauses.{AreEarlier, HaveTightChains}
use Rattle.pair_core.specs.ClauseFiles.{AddsClauses, importable, premises}
use Rattle.command_core.specs.Files.{Texts}
use Rattle.algebra_judge.specs.Records.{IsLawfulRecord, IsRecordOf}
use Rattle.joint_checker.specs.declared.checking.Judged.{Judged}

-- the graph with the blocks of the header, and the premises that the clause file gives
abbrev pub extended_of : Judged → Extended
extended_of j = extended_with j.graph j.header

abbrev pub premises_for : Judged → Premises
premises_for j = premises j.header.version (extended_of j) (importable j.header.version j.recorded.added)

-- Each added clause has a tight chain.
pub record HasChains (j : Judged) : Type 0 where
  pub chains : HaveTightChains (gate_clauses (extended_of j).gates) [] j.recorded.added j.recorded.uses.items
  pub earlier : AreEarlier j.recorded.uses.items

-- What was judged, whether or not files are told.
pub record IsJudgedPair (claim : Claim) (j : Judged) : Type 0 where
  pub sized : IsSizedAs (profile_of claim.widths) j.graph
  pub built : IsBuilt j.graph
  pub does : Does claim j.graph
  pub takes : IsHeaderOf j.graph j.header
  pub shown : IsShownOver (extended_of j) keep.Chains j.recorded.added
  pub clauses : HasChains j
  pub lines : IsLawfulRecord (premises_for j) (sides_for claim j.graph) j.closed

-- It is what the files have, as far as they are told.
pub record IsToldPair (limits : Limits) (claim : Claim) (texts : Texts) (j : Judged) : Type 0 where
  pub graph : IfSome texts.graph (λ bytes. SpellsWithin (profile_of claim.widths) limits.graph bytes j.graph)
  pub clauses : IfSome texts.clauses (λ bytes. AddsClauses (lengths_of limits) j.graph bytes j.header j.recorded.added j.of_clauses)
  pub algebra : IfSome texts.algebra (λ bytes. IsRecordOf true j.header.version (modulus (extended_of j)) bytes
      (lines_in j.closed.record.terms j.closed.record.lines.items) j.closed.id j.closed.lines)
