use Rattle.std.proofs.Common.{◌<◌, ℕ, List, length, arith, ap, refl, sym, subst, ◌∙◌}
use Rattle.std.proofs.lemmas.List.{with_items_is}
use Rattle.std.specs.Prelude.{slice_index}
use Rattle.std.specs.List.{All}
use Rattle.miter_encoder.specs.declared.goal.Goal.{Goal}
use Rattle.clause_core.specs.KeptClauses.{AreBelow}
use Rattle.pair_trim.specs.Lines.{all_renumbered, imports_in}
use Rattle.pair_trim.specs.Marking.{IsKeptOf}
use Rattle.pair_trim.proofs.Ranks.{named_have_ranks}
use Rattle.pair_trim.proofs.Choices.{imports_there, uses_long}
use Rattle.pair_trim.proofs.choosing.choose.Goals as goal

pub keep-requires-clause-long : goal.keep-requires-clause-long
keep-requires-clause-long c = ap length c.deref-3.ensures.value ∙ uses_long c.args.claim c.args.judged c.requires

pub keep-requires-clause-named : goal.keep-requires-clause-named
keep-requires-clause-named c =
    let numbers = c.deref-2.ensures.value ∙ c.in_ok-imports.ensures ∙ ap imports_in c.deref.ensures.value in
    subst (AreBelow (length c.args.judged.recorded.added)) (sym numbers) (imports_there c.args.claim c.args.judged c.requires c.in_ok-lines.lines.items c.in_ok-lines.ensures)

pub renumber-requires : goal.renumber-requires
renumber-requires c =
    let numbers = c.deref-2.ensures.value ∙ c.in_ok-imports.ensures ∙ ap imports_in (c.deref.ensures.value ∙ sym c.deref_mut.ensures.value) in
    let kept = c.in_ok-kept.kept in
    subst (λ (ns : List ℕ). All (λ n. n < length c.deref-4.result.now) ns) numbers
    (subst (λ (ranks : List ℕ). All (λ n. n < length ranks) c.deref-2.result.now) (sym c.deref-4.ensures.value)
    (named_have_ranks c.as_slice.result.now c.deref-2.result.now c.args.judged.recorded.added c.deref-3.result.now kept.lines.items kept.uses.items kept.ranks.items c.in_ok-kept.ensures))

pub returns : goal.returns
returns c =
    let judged = c.args.judged in
    let kept = c.in_ok-kept.kept in
    let lines = c.in_ok-lines.lines.items in
    let numbers = c.deref-2.ensures.value ∙ c.in_ok-imports.ensures ∙ ap imports_in c.deref.ensures.value in
    record {
      header = refl;
      terms = refl;
      closing = refl;
      of_clauses = refl;
      of_algebra = refl;
      goals = c.in_ok-goals.goals;
      goals_are = c.in_ok-goals.ensures;
      kept = lines;
      ranks = kept.ranks.items;
      lines_kept = c.in_ok-lines.ensures;
      clauses_kept = subst (λ (goals : List Goal). IsKeptOf goals (imports_in lines) judged.recorded.added judged.recorded.uses.items kept.lines.items kept.uses.items kept.ranks.items) c.as_slice.ensures
          (subst (λ (ns : List ℕ). IsKeptOf c.as_slice.result.now ns judged.recorded.added judged.recorded.uses.items kept.lines.items kept.uses.items kept.ranks.items) numbers
          (subst (λ (uses : List (List ℕ)). IsKeptOf c.as_slice.result.now c.deref-2.result.now judged.recorded.added uses kept.lines.items kept.uses.items kept.ranks.items) c.deref-3.ensures.value c.in_ok-kept.ensures));
      renumbered = with_items_is c.in_ok-lines.lines c.renumber.new.lines (omega (arith, c.renumber.auto.lines, c.deref_mut.ensures.len)) ∙ c.renumber.ensures ∙ ap (λ (ranks : List ℕ). all_renumbered (slice_index ranks) c.deref_mut.result.now) c.deref-4.ensures.value ∙ ap (all_renumbered (slice_index kept.ranks.items)) c.deref_mut.ensures.value;
    }
