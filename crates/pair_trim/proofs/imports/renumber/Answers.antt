use Rattle.std.proofs.Common.{◌<◌, ℕ, length, slice_index, slice_set, sym, ap, subst, ◌∙◌}
use Rattle.std.specs.Option.{IfSome}
use Rattle.std.proofs.lemmas.List.Edits.{map_over_more}
use Rattle.poly_text.specs.declared.line.PacLine.{PacLine}
use Rattle.pair_trim.specs.Lines.{import_in, renumbered_in}
use Rattle.pair_trim.proofs.UsedLines.{at_still, import_at}
use Rattle.pair_trim.proofs.imports.renumber.Goals as goal

pub renumber_line-requires : goal.renumber_line-requires
renumber_line-requires c =
    let lines = c.args.lines.now in
    let n = length c.args.ranks.now in
    let d = c.index-lines-place.result in
    subst (λ (x : PacLine). IfSome (import_in x) (λ (k : ℕ). k < n))
    (sym (at_still (renumbered_in (slice_index c.args.ranks.now)) lines c.loop-place.lines c.loop-place.place d c.loop-place-test.true c.loop-place.invariant))
    (import_at (λ (k : ℕ). k < n) lines c.loop-place.place d c.loop-place-test.true c.requires)

pub loop-place-preserved : goal.loop-place-preserved
loop-place-preserved c =
    let f = renumbered_in (slice_index c.args.ranks.now) in
    let line = c.index-lines-place.result in
    ap (λ (x : PacLine). slice_set c.loop-place.lines c.loop-place.place x) (c.renumber_line.ensures ∙ ap f (sym c.index-lines-place.is)) ∙
    map_over_more f c.args.lines.now c.loop-place.lines c.loop-place.place line c.loop-place-test.true c.loop-place.invariant c.index-lines-place.is
