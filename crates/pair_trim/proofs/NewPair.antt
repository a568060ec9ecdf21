-- What is kept of an accepted pair is a pair again.
use Rattle.std.proofs.Common.{◌≡◌, ◌⊎◌, ◌<◌, ◌≤◌, ℕ, Bool, true, false, List, [], length, map, refl, sym, ap, subst, ◌∙◌, arith, inl, inr, ⊎_elim}
use Rattle.std.specs.Prelude.{cond, slice_index, ◌==◌, IsSome}
use Rattle.std.specs.declared.option.Option.{Option}
use Rattle.std.specs.declared.option.Option.TheVariants.{None, Some}
use Rattle.std.specs.List.{All}
use Rattle.std.proofs.lemmas.List.Elements.{All-weaker}
use Rattle.algebra_core.specs.AlgebraLines.{AreLawful, Premises}
use Rattle.algebra_core.specs.Text.{IsId, IsLawfulAlgebraFile}
use Rattle.graph_core.specs.Graph.{Aig}
use Rattle.graph_core.specs.Graph.Extended.{Extended}
use Rattle.graph_core.specs.Graph.Operands.{sides_for}
use Rattle.graph_core.specs.Text.JudgedLines.{IsWithin}
use Rattle.graph_core.specs.declared.claim.Claim.{Claim}
use Rattle.clause_core.specs.Clause.{Clause, IsClauseInRange}
use Rattle.clause_core.specs.ClauseLines.{ClauseLine, added, clause_in}
use Rattle.clause_core.specs.GateClauses.{gate_clauses}
use Rattle.drup_text.specs.Headers.{IsHeaderOf, extended_with}
use Rattle.drup_text.specs.WrittenTexts.{any_file_text}
use Rattle.drup_text.specs.declared.head.Header.{Header}
use Rattle.drup_text.proofs.Writable.{lines_are_writable}
use Rattle.drup_text.proofs.WrittenAgain.{written_files_are_read}
use Rattle.gate_axioms.specs.ClauseValues.{clause_value}
use Rattle.mv_nums.specs.Residue.{IsWidth}
use Rattle.ripple_graft.specs.HeaderBlocks.{cut_blocks}
use Rattle.ripple_graft.specs.declared.block.Block.{Block}
use Rattle.ripple_graft.specs.declared.cut.Cut.{Cut}
use Rattle.ripple_graft.proofs.GraftedGraphs.{grafted_small}
use Rattle.pac_checker.specs.Checking.{IsRecordable}
use Rattle.pac_writer.specs.Certificates.{written_certificate}
use Rattle.pac_writer.specs.LawfulTexts.{AreReadable}
use Rattle.pac_writer.proofs.CallerLemmas.{written_certificates_are_lawful}
use Rattle.poly_terms.specs.Tables as tables
use Rattle.poly_terms.specs.Tables.{Table}
use Rattle.poly_text.specs.Lines.{AreOf, line_in}
use Rattle.poly_text.specs.Recorded.{HasNewId, id_in, lines_in}
use Rattle.poly_text.specs.WrittenLines.{IsWritable}
use Rattle.poly_text.specs.declared.line.PacLine.{PacLine}
use Rattle.pair_core.specs.Certificates.{IsLawfulPair, IsPair}
use Rattle.pair_core.specs.ClauseFiles.{importable, premises}
use Rattle.joint_checker.specs.Judged.{IsJudgedPair, extended_of, premises_for}
use Rattle.joint_checker.specs.declared.checking.Judged.{Judged}
use Rattle.joint_checker.proofs.CallerLemmas.{extended_graph, header_made, outputs_of}
use Rattle.pair_core.proofs.CallerLemmas.{same_self}
use Rattle.pair_trim.specs.Lines.{AreLinesKept, AreLinesUsed, all_renumbered, imports_in}
use Rattle.pair_trim.specs.Marking.{unmet}
use Rattle.pair_trim.specs.Trimmed.{AreClausesTrimmed, AreWritable, ImportThese}
use Rattle.pair_trim.proofs.Renumbering.{kept_lines_are_writable, kept_pair_is_lawful}
use Rattle.pair_trim.proofs.TrimmedClauses.{kept_clauses_are_trimmed}
use Rattle.pair_trim.proofs.UsedLines.{renumbered_lines_serve}
use Rattle.pair_core.specs.Texts.{CanBeWritten, algebra_text, clauses_text}
use Rattle.pair_trim.specs.Choosing.{IsChosen}
use Rattle.pair_trim.specs.NewPairs.{AreClausesKept, AreLinesTrimmed}
use Rattle.pair_trim.specs.declared.answer.Trimmed.{Trimmed}
use Rattle.pair_trim.proofs.Parts.{all_added, all_chosen, all_in_range, all_lines, both_all, goals_shown, goes_on, has_id, same_in_range}

-- what may be imported becomes what is kept of it, or nothing may
imports_these : (version : ℕ) (e : Extended) (old : List Clause) (lines : List ClauseLine) →
    ImportThese clause_value old lines (premises version e (importable version old)) (premises version e (importable version (added lines)))
imports_these version e old lines = go (version == 1)
  where
    go : (b : Bool) → (map clause_value (cond b [] old) ≡ []) ⊎ ((map clause_value (cond b [] old) ≡ map clause_value old) × (map clause_value (cond b [] (added lines)) ≡ map clause_value (added lines)))
    go true = inl refl
    go false = inr (refl, refl)

version_or_none : (g : Aig) (h : Header) (cs : List Clause) → IsHeaderOf g h → (1 < h.version) ⊎ (map clause_value (importable h.version cs) ≡ [])
version_or_none g h cs takes =
    ⊎_elim (λ a. ⊎_elim (λ first. inr (ap (λ v. map clause_value (importable v cs)) first.0)) (λ second. let two = second.0 in inl (omega (arith, two))) a.0) (λ third. let three = third.0 in inl (omega (arith, three))) takes

one_block : (outputs : ℕ) (cut : Option Cut) → length (cut_blocks outputs cut) ≤ 1
one_block outputs None = omega arith
one_block outputs (Some cut) = omega arith

has_one : (g : Aig) (h : Header) → IsHeaderOf g h → (h.version ≡ 2) ⊎ (length h.blocks ≤ 1)
has_one g h takes =
    ⊎_elim (λ a. ⊎_elim (λ first. inr (subst (λ (bs : List Block). length bs ≤ 1) (sym first.1.1) (one_block (length g.outputs) first.1.0))) (λ second. inl second.0) a.0)
    (λ third. inr (subst (λ (bs : List Block). length bs ≤ 1) (sym third.1) (omega arith))) takes

module _ (claim : Claim) (j : Judged) (t : Trimmed) (judged : IsJudgedPair claim j) (chosen : IsChosen j t) where
  abbrev e : Extended
  e = extended_of j

  abbrev old : List PacLine
  old = j.closed.record.lines.items

  abbrev terms : Table
  terms = j.closed.record.terms

  abbrev new : List PacLine
  new = all_renumbered (slice_index chosen.ranks) chosen.kept

  same_graph : e.graph ≡ j.graph
  same_graph = extended_graph j.graph j.header judged.takes

  small : e.max < 2147483648
  small = grafted_small j.graph e judged.built (header_made j.graph j.header judged.takes)

  ids : All (λ x. 0 < id_in x) old
  ids = both_all HasNewId (IsRecordable e.max terms) (λ x. 0 < id_in x) (λ x one two. has_id x one two.writable) old judged.lines.new_ids judged.lines.recordable

  -- ---- clauses

  same_imports : imports_in t.pair.algebra.items ≡ map (slice_index chosen.ranks) (imports_in chosen.kept)
  same_imports = ap imports_in chosen.renumbered ∙ renumbered_lines_serve.imports (slice_index chosen.ranks) chosen.kept

  pub trimmed : AreClausesTrimmed (gate_clauses e.gates) (unmet chosen.goals) (imports_in t.pair.algebra.items) j.recorded.added t.pair.clauses.items t.uses.items
  trimmed = subst (λ (more : List ℕ). AreClausesTrimmed (gate_clauses e.gates) (unmet chosen.goals) more j.recorded.added t.pair.clauses.items t.uses.items) (sym same_imports)
      (kept_clauses_are_trimmed (gate_clauses e.gates) chosen.goals (imports_in chosen.kept) j.recorded.added j.recorded.uses.items t.pair.clauses.items t.uses.items chosen.ranks chosen.clauses_kept judged.clauses.chains)

  pub clauses_kept : AreClausesKept (extended_with j.graph t.pair.header) j.recorded.added t
  clauses_kept = subst (λ (h : Header). AreClausesKept (extended_with j.graph h) j.recorded.added t) (sym chosen.header)
      (record { goals = chosen.goals; goals_are = chosen.goals_are; trimmed = trimmed })

  -- ---- lines

  pub lines_trimmed : AreLinesTrimmed j.recorded.added old t
  lines_trimmed = record {
    kept = chosen.kept;
    are_kept = subst (λ c. AreLinesKept old c chosen.kept) (sym chosen.closing) chosen.lines_kept;
    goals = chosen.goals;
    uses = j.recorded.uses.items;
    ranks = chosen.ranks;
    numbers = chosen.clauses_kept;
    renumbered = chosen.renumbered;
    used = subst (λ (ls : List PacLine). AreLinesUsed ls t.pair.closing) (sym chosen.renumbered)
        (subst (AreLinesUsed new) (sym chosen.closing) (renumbered_lines_serve.used old chosen.kept j.closed.id (slice_index chosen.ranks) chosen.lines_kept));
  }

  abbrev new_premises : Premises
  new_premises = premises j.header.version e (importable j.header.version (added t.pair.clauses.items))

  lawful : AreLawful new_premises (sides_for claim j.graph) (lines_in terms new) j.closed.id
  lawful = kept_pair_is_lawful (premises_for j) new_premises (sides_for claim j.graph) terms old chosen.kept j.closed.id clause_value chosen.goals j.recorded.added j.recorded.uses.items t.pair.clauses.items t.uses.items chosen.ranks
      chosen.lines_kept judged.lines.rising ids judged.lines.lawful chosen.clauses_kept refl (imports_these j.header.version e j.recorded.added t.pair.clauses.items)

  writable : AreWritable terms e.max new
  writable = kept_lines_are_writable terms e.max old chosen.kept j.closed.id chosen.goals j.recorded.added j.recorded.uses.items t.pair.clauses.items t.uses.items chosen.ranks chosen.lines_kept chosen.clauses_kept
      (record {
        introduce = ids;
        of = judged.lines.of_table;
        writable = All-weaker (IsRecordable e.max terms) IsWritable (λ x r. r.writable) old judged.lines.recordable;
        in_range = all_in_range terms e.max old judged.lines.recordable;
      })

  go_on : All (λ x. IsSome (line_in terms x)) new
  go_on = All-weaker (λ x. 0 < id_in x) (λ x. IsSome (line_in terms x)) (λ x. goes_on terms x) new writable.introduce

  readable : AreReadable e.max terms new
  readable = record { go_on = go_on; of = writable.of; writable = writable.writable; in_range = writable.in_range }

  pub can_be_written : CanBeWritten t.pair
  can_be_written = record {
    one = subst (λ (h : Header). (h.version ≡ 2) ⊎ (length h.blocks ≤ 1)) (sym chosen.header) (has_one j.graph j.header judged.takes);
    go_on = over (λ s ls. All (λ x. IsSome (line_in s x)) ls) go_on;
    of = over (λ s ls. All (AreOf s) ls) writable.of;
    writable = over (λ s ls. All IsWritable ls) writable.writable;
    closing = subst IsId (sym chosen.closing) judged.lines.closing;
  }
    where
      over : (P : Table → List PacLine → Type 0) → P terms new → P t.pair.terms t.pair.algebra.items
      over P h = subst (λ (ls : List PacLine). P t.pair.terms ls) (sym chosen.renumbered) (subst (λ (s : Table). P s new) (sym chosen.terms) h)

  algebra_is : algebra_text t.pair ≡ written_certificate j.header.version (tables.modulus_in terms) (lines_in terms new) j.closed.id
  algebra_is =
      ap (λ (h : Header). written_certificate h.version (tables.modulus_in t.pair.terms) (lines_in t.pair.terms t.pair.algebra.items) t.pair.closing) chosen.header ∙
      ap (λ (s : Table). written_certificate j.header.version (tables.modulus_in s) (lines_in s t.pair.algebra.items) t.pair.closing) chosen.terms ∙
      ap (λ (ls : List PacLine). written_certificate j.header.version (tables.modulus_in terms) (lines_in terms ls) t.pair.closing) chosen.renumbered ∙
      ap (written_certificate j.header.version (tables.modulus_in terms) (lines_in terms new)) chosen.closing

  algebra_file : IsLawfulAlgebraFile new_premises (sides_for claim j.graph) (algebra_text t.pair)
  algebra_file =
      let outputs = subst (λ (g : Aig). IsWidth (length g.outputs)) (sym same_graph) (outputs_of claim.widths j.graph judged.sized) in
      subst (IsLawfulAlgebraFile new_premises (sides_for claim j.graph)) (sym algebra_is)
      (written_certificates_are_lawful new_premises (sides_for claim j.graph) terms new j.closed.id outputs (let low = small in omega arith) judged.lines.modulus_is
      (version_or_none j.graph j.header (added t.pair.clauses.items) judged.takes) readable judged.lines.closing lawful).file

  -- ---- the pair

  in_range : All (λ x. IsClauseInRange e.max (clause_in x)) t.pair.clauses.items
  in_range =
      let shown = judged.shown in
      let all = all_added (IsClauseInRange e.max) shown.lines shown.lawful.in_range in
      let kept = all_chosen (IsClauseInRange e.max) trimmed.marks j.recorded.added (same_in_range e.max j.recorded.added (added shown.lines) shown.same all) in
      subst (λ (ls : List ClauseLine). All (λ x. IsClauseInRange e.max (clause_in x)) ls) (sym trimmed.only_added)
      (all_lines (IsClauseInRange e.max) (added t.pair.clauses.items) (subst (All (IsClauseInRange e.max)) (sym trimmed.some) kept))

  pub pair : IsPair j.graph claim (clauses_text t.pair) (algebra_text t.pair)
  pair = λ limits clauses_within algebra_within. subst (λ (h : Header). IsLawfulPair limits j.graph claim (any_file_text h t.pair.clauses.items) (algebra_text t.pair)) (sym chosen.header) (record {
    premises = new_premises;
    gives = record {
      header = j.header;
      lines = t.pair.clauses.items;
      lawful = record {
        text = written_files_are_read j.graph j.header t.pair.clauses.items judged.built judged.takes (lines_are_writable e.max t.pair.clauses.items small in_range);
        takes = judged.takes;
        in_range = in_range;
        lawful = trimmed.lawful;
        within = subst (λ (h : Header). IsWithin limits (any_file_text h t.pair.clauses.items)) chosen.header clauses_within;
      };
      shown = goals_shown e chosen.goals j.recorded.added judged.shown.lines t.pair.clauses.items chosen.goals_are judged.shown.same trimmed.shown judged.shown.lawful.goals;
      same = same_self new_premises;
    };
    lawful = (algebra_file, algebra_within);
  })
