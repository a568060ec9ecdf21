use Rattle.std.proofs.Common.{Err, Ok, length, refl, subst}
use Rattle.std.specs.Prelude.{codes}
use Rattle.graph_core.proofs.OfTexts.CallerLemmas.{none_in}
use Rattle.drup_text.specs.ClauseTexts.{IsCountLine}
use Rattle.drup_text.specs.HeaderSteps.{ReadsHeaderPart, count_part, line_part}
use Rattle.drup_text.specs.LineTexts.{IsCountInRange}
use Rattle.drup_text.proofs.BlockSteps.{count_refused, counted_fit, counted_read}
use Rattle.drup_text.proofs.HeaderSteps.{refused_front}
use Rattle.drup_text.proofs.blocks.listed_blocks.Goals as goal

pub next_number-requires-clause-plain : goal.next_number-requires-clause-plain
next_number-requires-clause-plain g c = none_in (codes "cuts ") refl

pub returns-in-Ok-clause-blocks : goal.returns-in-Ok-clause-blocks
returns-in-Ok-clause-blocks g c =
    let before = g.D.Desk.seen c.args.desk.now in
    let between = g.D.Desk.seen c.next_number.new.desk in
    let number = subst (λ n. ReadsHeaderPart (line_part IsCountLine (IsCountInRange n)) c.args.file.now c.next_number.new.file before between (Ok c.in-Ok.count)) c.outputs.ensures.value c.in-Ok.ensures.number in
    counted_read c.args.graph.now c.in-Ok.count c.counted_blocks.result c.requires.first c.in-Ok.ensures.keeps.lengths c.in-Ok.ensures.reads.stands number c.counted_blocks.ensures.count c.counted_blocks.ensures.blocks

pub returns-in-Ok-clause-fits : goal.returns-in-Ok-clause-fits
returns-in-Ok-clause-fits g c =
    counted_fit c.args.graph.now c.in-Ok.count c.counted_blocks.result (subst (λ n. IsCountInRange n c.in-Ok.count) c.outputs.ensures.value c.in-Ok.ensures.in_range) c.counted_blocks.ensures.count c.counted_blocks.ensures.fits

pub returns-in-Err-clause-blocks : goal.returns-in-Err-clause-blocks
returns-in-Err-clause-blocks g c =
    let graph = c.args.graph.now in
    let before = g.D.Desk.seen c.args.desk.now in
    let between = g.D.Desk.seen c.next_number.new.desk in
    refused_front (line_part IsCountLine (IsCountInRange (length graph.outputs))) (count_part graph) c.in-Err.fail (λ IsLong. count_refused graph IsLong c.args.file.now.number c.requires.first)
    (subst (λ n. ReadsHeaderPart (line_part IsCountLine (IsCountInRange n)) c.args.file.now c.next_number.new.file before between (Err c.in-Err.fail)) c.outputs.ensures.value c.in-Err.ensures.number)
