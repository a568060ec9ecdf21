-- What was read of a pair of certificates, as one value.
use Rattle.std.proofs.Common.{◌≡◌, ℕ, [], sym, subst}
use Rattle.std.specs.Option.{IfSome}
use Rattle.std.specs.Prelude.{true}
use Rattle.aiger_reader.specs.Refusals.{SpellsWithin}
use Rattle.graph_core.specs.Aiger.Sizes.{IsSizedAs}
use Rattle.graph_core.specs.Graph.Extended.{modulus, Extended}
use Rattle.graph_core.specs.Graph.{Aig, IsBuilt}
use Rattle.graph_core.specs.Graph.Operands.{Does, profile_of, sides_for}
use Rattle.graph_core.specs.declared.claim.Claim.{Claim}
use Rattle.clause_core.specs.GateClauses.{gate_clauses}
use Rattle.clause_judge.specs.Taking.{IsShownOver}
use Rattle.drup_checker.specs.declared.keeps.Keeps.TheVariants as keep
use Rattle.drup_checker.specs.declared.record.Record.{Record}
use Rattle.drup_text.specs.Headers.{extended_with}
use Rattle.drup_text.specs.declared.head.Header.{Header}
use Rattle.mv_desk.specs.Calls.{Inspects}
use Rattle.mv_desk.specs.View.{View, bytes_under}
use Rattle.mv_desk.specs.declared.limits.Limits.{Limits}
use Rattle.mv_text.specs.LineReading.{lengths_of}
use Rattle.poly_text.specs.Recorded.{lines_in}
use Rattle.clause_core.specs.KeptClauses.{AreEarlier, HaveTightChains}
use Rattle.pair_core.specs.ClauseFiles.{AddsClauses, importable, premises}
use Rattle.command_core.specs.Files.{Files, texts_of}
use Rattle.joint_checker.specs.Judged.{IsJudgedPair, IsToldPair}
use Rattle.algebra_judge.specs.Records.{IsLawfulRecord, IsRecordOf}
use Rattle.joint_checker.specs.Shown.{IsShownOf, premises_of}
use Rattle.algebra_judge.specs.declared.judging.Closed.{Closed}
use Rattle.joint_checker.specs.declared.checking.Judged.{Judged}
use Rattle.joint_checker.specs.declared.clause_file.Shown.{Shown}
use Rattle.mv_desk.proofs.CallerLemmas.{Inspects-trans}
use Rattle.joint_checker.proofs.OutcomeRows.{earlier}
use Rattle.joint_checker.proofs.Sizes.{extended_graph}

-- the value of what was read
abbrev of_parts : Aig → Header → Record → ℕ → Closed → Judged
of_parts graph header recorded count closed = record { graph = graph; header = header; recorded = recorded; of_clauses = count; closed = closed }

module _ (claim : Claim) (graph : Aig) (shown : Shown) (of : IsShownOf graph shown) where
  pub is_judged : IsSizedAs (profile_of claim.widths) graph → IsBuilt graph → Does claim graph → IsShownOver shown.extended keep.Chains shown.recorded.added → HaveTightChains (gate_clauses shown.extended.gates) [] shown.recorded.added shown.recorded.uses.items → AreEarlier shown.recorded.uses.items →
      (closed : Closed) → IsLawfulRecord (premises_of shown) (sides_for claim shown.extended.graph) closed → (header : Header) (recorded : Record) → header ≡ shown.header → recorded ≡ shown.recorded → (count : ℕ) →
      IsJudgedPair claim (of_parts graph header recorded count closed)
  is_judged sized built does over chains earlier_uses closed lawful header recorded same_header same_recorded count =
      subst (λ (h : Header). IsJudgedPair claim (of_parts graph h recorded count closed)) (sym same_header)
      (subst (λ (r : Record). IsJudgedPair claim (of_parts graph shown.header r count closed)) (sym same_recorded) (record {
        sized = sized;
        built = built;
        does = does;
        takes = of.takes;
        shown = subst (λ (e : Extended). IsShownOver e keep.Chains shown.recorded.added) of.extended over;
        clauses = record {
          chains = subst (λ (e : Extended). HaveTightChains (gate_clauses e.gates) [] shown.recorded.added shown.recorded.uses.items) of.extended chains;
          earlier = earlier_uses;
        };
        lines = subst (λ (g : Aig). IsLawfulRecord (premises shown.header.version (extended_with graph shown.header) (importable shown.header.version shown.recorded.added)) (sides_for claim g) closed)
            (extended_graph graph shown.header of.takes)
            (subst (λ (e : Extended). IsLawfulRecord (premises shown.header.version e (importable shown.header.version shown.recorded.added)) (sides_for claim e.graph) closed) of.extended lawful);
      }))

  pub is_told : (limits : Limits) (files : Files) (a b c : View) → Inspects a b → Inspects b c → IfSome (bytes_under a files.graph) (λ bytes. SpellsWithin (profile_of claim.widths) limits.graph bytes graph) →
      IfSome (bytes_under b files.clauses) (λ bytes. AddsClauses (lengths_of limits) graph bytes shown.header shown.recorded.added shown.lines) → (closed : Closed) →
      IfSome (bytes_under c files.algebra) (λ bytes. IsRecordOf true shown.header.version (modulus shown.extended) bytes (lines_in closed.record.terms closed.record.lines.items) closed.id closed.lines) →
      (header : Header) (recorded : Record) (count : ℕ) → header ≡ shown.header → recorded ≡ shown.recorded → count ≡ shown.lines →
      IsToldPair limits claim (texts_of a files) (of_parts graph header recorded count closed)
  is_told limits files a b c first second spelled adds closed records header recorded count same_header same_recorded same_count =
      subst (λ (h : Header). IsToldPair limits claim (texts_of a files) (of_parts graph h recorded count closed)) (sym same_header)
      (subst (λ (r : Record). IsToldPair limits claim (texts_of a files) (of_parts graph shown.header r count closed)) (sym same_recorded)
      (subst (λ (n : ℕ). IsToldPair limits claim (texts_of a files) (of_parts graph shown.header shown.recorded n closed)) (sym same_count) (record {
        graph = spelled;
        clauses = earlier limits claim files a b files.clauses _ first adds;
        algebra = earlier limits claim files a c files.algebra _ (Inspects-trans a b c first second)
            (subst (λ (e : Extended). IfSome (bytes_under c files.algebra) (λ bytes. IsRecordOf true shown.header.version (modulus e) bytes (lines_in closed.record.terms closed.record.lines.items) closed.id closed.lines)) of.extended records);
      })))
