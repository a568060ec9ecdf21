-- What is held under the new names once a pair was trimmed.
use Rattle.std.proofs.Common.{◌≡◌, ◌≢◌, ℕ, List, [], Some, None, refl, sym, ap, subst, ◌∙◌, arith, length, length-append, ⊎_elim}
use Rattle.std.specs.Prelude.{IfSome, IsSome, option_map, unwrap_or}
use Rattle.std.specs.declared.option.Option.{Option}
use Rattle.aiger_reader.specs.Refusals.{SpellsWithin}
use Rattle.algebra_core.specs.AlgebraLines.{Line}
use Rattle.algebra_core.specs.Text.{IsAlgebraText}
use Rattle.graph_core.specs.Graph.Operands.{profile_of}
use Rattle.clause_core.specs.ClauseLines.{ClauseLine}
use Rattle.drup_text.specs.Headers.{IsAnyClauseFile}
use Rattle.drup_text.specs.declared.head.Header.{Header}
use Rattle.mv_desk.specs.View.{View, IsHeld, bytes_under, IsTold}
use Rattle.mv_desk.specs.declared.slot.Slot.TheVariants as slot
use Rattle.mv_text.specs.LineReading.{lengths_of}
use Rattle.command_core.specs.Files.{LeavesFiles}
use Rattle.command_core.specs.Written.{WritesPair}
use Rattle.command_core.proofs.CallerLemmas.{same_told, told_file}
use Rattle.pair_core.proofs.CallerLemmas.{algebra_is_held, clauses_are_held, others_stay_held}
use Rattle.pair_trim.specs.NewPairs.{IsTrimOf}
use Rattle.pair_trim.specs.Trimming.{ReadsOld, TrimmedFiles, TrimmedPairsAreHeld, new_files}

-- ---- no certificate is empty

no_clause_file : (outputs : ℕ) (h : Header) (lines : List ClauseLine) → IsAnyClauseFile outputs [] h lines → ⊥
no_clause_file outputs h lines file =
    ⊎_elim (λ first. absurd (omega (arith, simp length-append at (ap length first.1.2.2))))
    (λ o. ⊎_elim (λ second. absurd (omega (arith, simp length-append at (ap length second.1.2)))) (λ third. absurd (omega (arith, simp length-append at (ap length third.1.2)))) o) file.1

no_algebra_file : (version : ℕ) (lines : List Line) (closing : ℕ) → IsAlgebraText version [] lines closing → ⊥
no_algebra_file version lines closing file = absurd (omega (arith, simp length-append at (ap length file.6)))

some_is : (bytes : List ℕ) → ◌≡◌ {A = Option (List ℕ)} (Some []) (Some bytes) → bytes ≡ []
some_is bytes e = cc

-- a file that is told and has bytes is held
held_of : (view : View) (name bytes : List ℕ) → bytes_under view name ≡ Some bytes → bytes ≢ [] → IsHeld view name
held_of view name bytes is some = go (view.held name) refl is
  where
    go : (held : Option (Option (List ℕ))) → view.held name ≡ held → option_map (λ b. unwrap_or b []) held ≡ Some bytes → IsHeld view name
    go None same given = absurd (cc)
    go (Some None) same given = absurd (some (some_is bytes given))
    go (Some (Some text)) same given = (text, same)

-- ---- both files

module _ (files : TrimmedFiles) (clauses text : List ℕ) (a r c : View) (told : IsTold a) (apart : LeavesFiles files) (reads : ReadsOld files.old a r) (old : IsHeld a files.old.clauses) (other : IsHeld a files.old.algebra)
    (w : WritesPair (new_files files) clauses text r c) where
  clause_slot : IsSome (r.name slot.Clauses)
  clause_slot = reads.clauses_named old (told.names slot.Clauses)

  algebra_slot : IsSome (r.name slot.Algebra)
  algebra_slot = reads.algebra_named other (told.names slot.Algebra)

  held_in_r : (name : List ℕ) → IsSome (r.held name)
  held_in_r name = same_told (a.held name) (r.held name) (reads.inspects.held name) (told.held name)

  pub stays_held : (name : List ℕ) → files.to_clauses ≢ name → files.to_algebra ≢ name → bytes_under c name ≡ bytes_under a name
  stays_held name one two = others_stay_held (new_files files) clauses text r c w apart.apart clause_slot algebra_slot held_in_r name one two ∙
      ap (option_map (λ b. unwrap_or b [])) (reads.inspects.held name)

  pub new_clauses_are_held : bytes_under c files.to_clauses ≡ Some clauses
  new_clauses_are_held = clauses_are_held (new_files files) clauses text r c w apart.apart clause_slot algebra_slot held_in_r

  pub new_algebra_is_held : bytes_under c files.to_algebra ≡ Some text
  new_algebra_is_held = algebra_is_held (new_files files) clauses text r c w apart.apart clause_slot algebra_slot held_in_r

pub trimmed_pairs_are_held : TrimmedPairsAreHeld
trimmed_pairs_are_held limits claim files a c t told apart h =
    let graph = told_file (a.held files.old.graph) (told.held files.old.graph) in
    let one = told_file (a.held files.old.clauses) (told.held files.old.clauses) in
    let two = told_file (a.held files.old.algebra) (told.held files.old.algebra) in
    let g = h.1.0 in
    let clauses = h.1.2.1.0 in
    let algebra = h.1.2.1.1 in
    let both = h.1.2.1.3 in
    let state = h.1.2.1.4 in
    let first : IfSome (bytes_under a files.old.algebra) (λ other. IsTrimOf (lengths_of limits) g claim one.0 other t clauses algebra) =
    subst (λ o. IfSome o (λ old. IfSome (bytes_under a files.old.algebra) (λ other. IsTrimOf (lengths_of limits) g claim old other t clauses algebra))) one.1 both in
    let trims : IsTrimOf (lengths_of limits) g claim one.0 two.0 t clauses algebra = subst (λ o. IfSome o (λ other. IsTrimOf (lengths_of limits) g claim one.0 other t clauses algebra)) two.1 first in
    let old = held_of a files.old.clauses one.0 one.1 (λ none. no_clause_file (length g.outputs) t.pair.header trims.clause_lines (subst (λ (b : List ℕ). IsAnyClauseFile (length g.outputs) b t.pair.header trims.clause_lines) none trims.clause_file.text)) in
    let other = held_of a files.old.algebra two.0 two.1 (λ none. no_algebra_file t.pair.header.version trims.algebra_file.lines t.pair.closing (subst (λ (b : List ℕ). IsAlgebraText t.pair.header.version b trims.algebra_file.lines t.pair.closing) none trims.algebra_file.text)) in
    record {
      graph_file = graph.0;
      old_clauses = one.0;
      old_algebra = two.0;
      new_clauses = clauses;
      new_algebra = algebra;
      graph_held = graph.1;
      clauses_held = one.1;
      algebra_held = two.1;
      graph_stays = stays_held files clauses algebra a state.0 c told apart state.1 old other state.2 files.old.graph apart.clauses.graph apart.algebra.graph ∙ graph.1;
      clauses_stay = stays_held files clauses algebra a state.0 c told apart state.1 old other state.2 files.old.clauses apart.clauses.clauses apart.algebra.clauses ∙ one.1;
      algebra_stays = stays_held files clauses algebra a state.0 c told apart state.1 old other state.2 files.old.algebra apart.clauses.algebra apart.algebra.algebra ∙ two.1;
      to_clauses_held = new_clauses_are_held files clauses algebra a state.0 c told apart state.1 old other state.2;
      to_algebra_held = new_algebra_is_held files clauses algebra a state.0 c told apart state.1 old other state.2;
      graph = g;
      spells = subst (λ o. IfSome o (λ b. SpellsWithin (profile_of claim.widths) limits.graph b g)) graph.1 h.1.1;
      does = h.1.2.0;
      kept = t;
      trims = trims;
    }
