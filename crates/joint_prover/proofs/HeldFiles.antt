-- What is held under the names once both certificates were written.
use Rattle.std.proofs.Common.{◌≡◌, ◌≢◌, ℕ, List, [], Some, None, refl, sym, ap, subst, ◌∙◌}
use Rattle.std.specs.Prelude.{IfSome, IsSome, IsSomeAnd, option_map, unwrap_or}
use Rattle.std.specs.declared.option.Option.{Option}
use Rattle.aiger_reader.specs.Refusals.{SpellsWithin}
use Rattle.mv_desk.specs.View.{View, bytes_under}
use Rattle.mv_desk.specs.declared.slot.Slot.TheVariants as slot
use Rattle.command_core.proofs.CallerLemmas.{same_told, told_file}
use Rattle.pair_core.proofs.CallerLemmas.{algebra_is_held, clauses_are_held, others_stay_held}
use Rattle.command_core.specs.Written.{ReadsGraph, WritesPair}
use Rattle.joint_prover.specs.Verdicts.{HasNote, ProvedPairsAreHeld}
use Rattle.mv_text.specs.LineReading.{lengths_of}
use Rattle.pair_limits.specs.TooLong.{IsFirstTooLong}
use Rattle.graph_core.specs.Graph.{Aig}
use Rattle.graph_core.specs.Graph.Operands.{profile_of}
use Rattle.joint_prover.specs.declared.replacement.Replacement.{Replacement}
use Rattle.joint_prover.specs.declared.note.Note.{Note}
use Rattle.command_core.specs.declared.task.Task.{Task}
use Rattle.joint_prover.specs.Notes.{IsNote, replacement_of}
use Rattle.joint_prover.specs.Pairs.{IsPairFor}
use Rattle.joint_prover.proofs.Telling.{pair_is_lawful}

clauses_no_graph : slot.Clauses ≢ slot.Graph
clauses_no_graph e = cc

algebra_no_graph : slot.Algebra ≢ slot.Graph
algebra_no_graph e = cc

-- the note, with what else holds of its cut
note_there : (g : Aig) (task : Task) (noted : Option Note) (P : Option Replacement → Type 0) → HasNote g task noted P → (n : Note) × (noted ≡ Some n) × IsNote g task.claim task.conflicts n × P (replacement_of n)
note_there g task None P h = absurd h
note_there g task (Some n) P h = (n, refl, h.0, h.1)

pub proved_pairs_are_held : ProvedPairsAreHeld
proved_pairs_are_held limits task files a c long noted told apart h =
    let file = told_file (a.held files.graph) (told.held files.graph) in
    let g = h.0 in
    let n = note_there g task noted
    (λ used. (read : View) × ReadsGraph a read × ((clauses : List ℕ) × (algebra : List ℕ) × IsPairFor g task used clauses algebra × WritesPair files clauses algebra read c × IsFirstTooLong (lengths_of limits) clauses algebra long)) h.2.1 in
    let state = n.3 in
    let written = state.2 in
    let clauses = written.0 in
    let text = written.1 in
    let pair = written.2 in
    let files_apart : files.clauses ≢ files.algebra = apart.certificates in
    let read = state.0 in
    let first = same_told (a.name slot.Clauses) (read.name slot.Clauses) (state.1.others slot.Clauses clauses_no_graph).mode.name (told.names slot.Clauses) in
    let second = same_told (a.name slot.Algebra) (read.name slot.Algebra) (state.1.others slot.Algebra algebra_no_graph).mode.name (told.names slot.Algebra) in
    let held : (name : List ℕ) → IsSome (read.held name) = λ name. same_told (a.held name) (read.held name) (state.1.inspects.held name) (told.held name) in
    let writes = written.3 in
    let clauses_held = clauses_are_held files clauses text read c writes files_apart first second held in
    let algebra_held = algebra_is_held files clauses text read c writes files_apart first second held in (
      record {
        graph_file = file.0;
        clause_file = clauses;
        algebra_file = text;
        graph_held = others_stay_held files clauses text read c writes files_apart first second held files.graph (λ same. apart.clauses (sym same)) (λ same. apart.algebra (sym same)) ∙
            ap (option_map (λ b. unwrap_or b [])) (state.1.inspects.held files.graph) ∙ file.1;
        clauses_held = clauses_held;
        algebra_held = algebra_held;
        graph = g;
        spells = subst (λ o. IfSome o (λ b. SpellsWithin (profile_of task.claim.widths) limits.graph b g)) file.1 h.1;
        pair = pair_is_lawful g task pair.0 clauses text pair.2;
        does = h.2.0;
        note = subst (λ o. IsSomeAnd o (λ m. IsNote g task.claim task.conflicts m × IsPairFor g task (replacement_of m) clauses text)) (sym n.1) (n.2, pair);
      },
      subst (λ o. IfSome o (λ x. IfSome (bytes_under c files.algebra) (λ y. IsFirstTooLong (lengths_of limits) x y long))) (sym clauses_held)
          (subst (λ o. IfSome o (λ y. IsFirstTooLong (lengths_of limits) clauses y long)) (sym algebra_held) written.4),
    )
