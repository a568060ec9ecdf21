use Rattle.std.proofs.Common.{◌<◌, ◌++◌, ◌∷◌, [], Bool, List, cond, take, length, slice_index_or, sym, ap, ap₂, ◌∙◌, append-nil, arith}
use Rattle.std.proofs.lemmas.List.{get_or_default, map-append}
use Rattle.clause_core.specs.Clause.{Clause}
use Rattle.clause_core.specs.ClauseLines.{ClauseLine}
use Rattle.clause_core.specs.declared.line.Line.TheVariants.{Add}
use Rattle.clause_core.specs.KeptClauses.{added_lines, chosen}
use Rattle.pair_trim.proofs.KeptClauses.{chosen_none, chosen_step}
use Rattle.pair_trim.proofs.chosen.choose_lines.Goals.{then-marks-place+in_ok-copy+in_ok-push, else-marks-place}
use Rattle.pair_trim.proofs.chosen.choose_lines.Goals as goal

pub loop-place-init : goal.loop-place-init
loop-place-init c = c.new-kept.ensures.items ∙ sym (ap added_lines (chosen_none c.args.marks.now))

pub loop-place-preserved : goal.loop-place-preserved
loop-place-preserved c =
    let marks = c.args.marks.now in
    let clauses : List Clause = c.args.clauses.now in
    let n = c.loop-place.place in
    let low : n < length clauses = omega arith in
    let step = chosen_step marks clauses n [] low c.requires in
    let before = chosen marks (take n clauses) in
    elim c.if-marks-place.branch [
      | then-marks-place+in_ok-copy+in_ok-push w ↦
          let item = w.in_ok-copy.ensures ∙ (w.get.ensures ∙ sym (get_or_default clauses n [] w.get.result.now low)) in
          ap (λ v. v.items) w.kept-is ∙ (w.in_ok-push.ensures.items ∙ (ap₂ (λ (ks : List ClauseLine) (d : Clause). ks ++ Add d ∷ []) c.loop-place.invariant item ∙
          (sym (map-append (λ (d : Clause). Add d) before (slice_index_or clauses n [] ∷ [])) ∙
          ap added_lines (sym (step ∙ ap (λ (b : Bool). before ++ cond b (slice_index_or clauses n [] ∷ []) []) w.if-marks-place.true)))))
      | else-marks-place w ↦
          ap (λ v. v.items) w.kept-is ∙ (c.loop-place.invariant ∙
          ap added_lines (sym (step ∙ (ap (λ (b : Bool). before ++ cond b (slice_index_or clauses n [] ∷ []) []) w.if-marks-place.false ∙ append-nil before))))
    ]
