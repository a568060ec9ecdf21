use Rattle.std.proofs.Common.{◌≡◌, ◌+◌, ◌++◌, ◌∷◌, [], ℕ, List, take, sym, ap, ◌∙◌, append-nil}
use Rattle.std.specs.declared.option.Option.{Option}
use Rattle.std.specs.List.{cons_option, filter_map}
use Rattle.std.proofs.lemmas.List.{take_more}
use Rattle.std.proofs.lemmas.List.Elements.{filter_map-append}
use Rattle.poly_text.specs.declared.line.PacLine.{PacLine}
use Rattle.pair_trim.specs.Lines.{import_in, imports_in}
use Rattle.pair_trim.proofs.imports.imported_numbers.Goals.{in-Some+in_ok-push, in_default}
use Rattle.pair_trim.proofs.imports.imported_numbers.Goals as goal

pub loop-line-preserved : goal.loop-line-preserved
loop-line-preserved c =
    let lines = c.args.lines.now in
    let i = c.loop-line.line-index in
    let line = c.line-item.result in
    let before = imports_in (take i lines) in
    let more : take (i + 1) lines ≡ take i lines ++ line ∷ [] = take_more lines i line c.loop-line-test.true ∙ ap (λ (x : PacLine). take i lines ++ x ∷ []) (sym c.line-item.is) in
    let both : imports_in (take (i + 1) lines) ≡ before ++ filter_map import_in (line ∷ []) = ap imports_in more ∙ filter_map-append import_in (take i lines) (line ∷ []) in
    elim c.match-import_of.branch [
      | in-Some+in_ok-push w ↦
          ap (λ v. v.items) w.numbers-is ∙ (w.in_ok-push.ensures.items ∙ (ap (λ (ns : List ℕ). ns ++ w.in-Some.number ∷ []) c.loop-line.invariant ∙
          sym (both ∙ ap (λ (o : Option ℕ). before ++ cons_option o []) (sym c.import_of.ensures ∙ w.in-Some.is))))
      | in_default w ↦
          ap (λ v. v.items) w.numbers-is ∙ (c.loop-line.invariant ∙
          sym (both ∙ (ap (λ (o : Option ℕ). before ++ cons_option o []) (sym c.import_of.ensures ∙ w.in_default.is) ∙ append-nil before)))
    ]
