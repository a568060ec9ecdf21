-- What the files are once two graphs were called equal.
use Rattle.std.proofs.Common.{◌≡◌, ◌≢◌, ℕ, List, [], Some, ap, subst, ◌∙◌}
use Rattle.std.specs.Prelude.{IfSome, IsSome, option_map, unwrap_or}
use Rattle.std.specs.declared.option.Option.{Option}
use Rattle.aiger_reader.specs.Refusals.{SpellsWithin}
use Rattle.graph_core.specs.declared.profile.Profile.TheVariants.{Any}
use Rattle.clause_core.specs.ClauseLines.{ClauseLine}
use Rattle.command_core.specs.Written.{WritesFile}
use Rattle.command_core.proofs.CallerLemmas.{file_is_held, others_are_held, same_told, told_file}
use Rattle.drup_text.specs.SameFiles.{same_text}
use Rattle.mv_desk.specs.View.{IsTold, View}
use Rattle.mv_desk.specs.declared.slot.Slot.TheVariants as slot
use Rattle.same_core.specs.Deciding.{EqualPairsAreHeld, ReadsGraphs}

clauses_no_graph : slot.Clauses ≢ slot.Graph
clauses_no_graph e = cc

clauses_no_other : slot.Clauses ≢ slot.Other
clauses_no_other e = cc

module _ (name : List ℕ) (lines : List ClauseLine) (a r c : View) (told : IsTold a) (reads : ReadsGraphs a r) (w : WritesFile slot.Clauses name (same_text lines) r c) where
  named : IsSome (r.name slot.Clauses)
  named = same_told (a.name slot.Clauses) (r.name slot.Clauses) (reads.others slot.Clauses clauses_no_graph clauses_no_other).mode.name (told.names slot.Clauses)

  pub certificate_is_held : c.held name ≡ Some (Some (same_text lines))
  certificate_is_held = file_is_held slot.Clauses name (same_text lines) r c w named (same_told (a.held name) (r.held name) (reads.inspects.held name) (told.held name))

  pub others_stay : (other : List ℕ) → name ≢ other → c.held other ≡ a.held other
  others_stay other apart = others_are_held slot.Clauses name (same_text lines) r c w named other apart ∙ reads.inspects.held other

pub equal_pairs_are_held : EqualPairsAreHeld
equal_pairs_are_held limits conflicts files a c told no_graph no_other (g, spelled, (h, other_spelled, (shape, (agree, (lines, r, written, reads, w))))) =
    let file = told_file (a.held files.graph) (told.held files.graph) in
    let other = told_file (a.held files.other) (told.held files.other) in
    let bytes : Option (Option (List ℕ)) → Option (List ℕ) = option_map (λ b. unwrap_or b []) in
    record {
      graph_file = file.0;
      other_file = other.0;
      lines = lines;
      graph_held = ap bytes (others_stay files.clauses lines a r c told reads w files.graph no_graph) ∙ file.1;
      other_held = ap bytes (others_stay files.clauses lines a r c told reads w files.other no_other) ∙ other.1;
      clauses_held = ap bytes (certificate_is_held files.clauses lines a r c told reads w);
      graph = g;
      other = h;
      spells = subst (λ o. IfSome o (λ b. SpellsWithin Any limits.graph b g)) file.1 spelled;
      other_spells = subst (λ o. IfSome o (λ b. SpellsWithin Any limits.graph b h)) other.1 other_spelled;
      shape = shape;
      written = written;
      agree = agree;
    }
