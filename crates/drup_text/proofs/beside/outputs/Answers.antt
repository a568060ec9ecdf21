use Rattle.std.proofs.Common.{Err, Ok, ◌+◌, ◌≡◌, ◌∙◌, ap, length, refl, subst}
use Rattle.std.specs.Prelude.{codes}
use Rattle.graph_core.specs.Graph.{Aig}
use Rattle.graph_core.proofs.OfTexts.CallerLemmas.{none_in}
use Rattle.drup_text.specs.ClauseTexts.{IsReplaceLine}
use Rattle.drup_text.specs.HeaderSteps.{ReadsHeaderPart, line_part, listing_part}
use Rattle.drup_text.specs.LineTexts.{IsCountInRange}
use Rattle.drup_text.specs.Listings.{output_listing}
use Rattle.drup_text.proofs.HeaderSteps.{refused_front}
use Rattle.drup_text.proofs.ListedSteps.{listing_read, number_part, number_refused}
use Rattle.drup_text.proofs.beside.outputs.Goals as goal

pub next_number-requires-clause-plain : goal.next_number-requires-clause-plain
next_number-requires-clause-plain g c = none_in (codes "replace ") refl

pub returns-in-Ok-clause-outputs : goal.returns-in-Ok-clause-outputs
returns-in-Ok-clause-outputs g c =
    let before = g.D.Desk.seen c.args.desk.now in
    let between = g.D.Desk.seen c.next_number.new.desk in
    let most : c.outputs-most.result ≡ length c.args.extended.graph.outputs = c.outputs-most.ensures.value ∙ ap (λ (g : Aig). length g.outputs) c.graph.ensures in
    let number = subst (λ n. ReadsHeaderPart (line_part IsReplaceLine (IsCountInRange n)) c.args.file.now c.next_number.new.file before between (Ok c.in-Ok.count)) most c.in-Ok.ensures.number in
    listing_read output_listing c.args.extended c.in-Ok.count c.counted_outputs.result c.in-Ok.ensures.keeps.lengths c.in-Ok.ensures.reads.stands number c.counted_outputs.ensures.count c.counted_outputs.ensures.outputs

pub returns-clause-outputs : goal.returns-clause-outputs
returns-clause-outputs g c =
    let e = c.args.extended in
    let before = g.D.Desk.seen c.args.desk.now in
    let between = g.D.Desk.seen c.next_number.new.desk in
    let most : c.outputs-most.result ≡ length e.graph.outputs = c.outputs-most.ensures.value ∙ ap (λ (g : Aig). length g.outputs) c.graph.ensures in
    refused_front (number_part output_listing e) (listing_part output_listing e) c.in-Err.fail (λ IsLong. number_refused output_listing e IsLong (c.args.file.now.number + 1))
    (subst (λ n. ReadsHeaderPart (line_part IsReplaceLine (IsCountInRange n)) c.args.file.now c.next_number.new.file before between (Err c.in-Err.fail)) most c.in-Err.ensures.number)
