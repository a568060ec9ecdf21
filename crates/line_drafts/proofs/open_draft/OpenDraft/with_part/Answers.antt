use Rattle.std.proofs.Common.{◌<◌, arith, refl}
use Rattle.poly_terms.specs.Laws.{extends_on}
use Rattle.poly_terms.specs.Tables.{modulus_in, value_in}
use Rattle.pac_writer.specs.Writing.{IsOver}
use Rattle.line_drafts.proofs.OpenDrafts.{known_stays, open_pushed, open_stays, over_grown, size_some, some_stays, sum_moved}
use Rattle.line_drafts.proofs.open_draft.OpenDraft.with_part.Goals as goal

pub returns-clause-opened : goal.returns-clause-opened
returns-clause-opened c live known h =
    let t0 = c.args.terms.now in
    let t1 = c.make.new.self in
    let t2 = c.add_product.new.self in
    let grown1 = c.in_ok-factor.ensures.extends in
    let grown2 = c.in_ok-add_product.ensures.extends in
    let whole = extends_on t0 t1 t2 grown1 grown2 in
    let factor = c.in_ok-factor.factor in
    let o = c.args.self in
    let line = c.args.line.now in
    let max = c.args.max in
    let over : IsOver max t1 factor = (c.in_ok-factor.ensures.of, c.if-not-is_up_to.ensures refl) in
    let some = size_some (modulus_in t1) (value_in t1 factor) c.size.result c.size.ensures.size c.if-size-eq0.false in
    let above : o.last < line.id = omega (arith, c.if-line-self.false) in
    open_pushed max t2 live line o factor (known_stays t0 t2 live line whole known) (open_stays max t0 t2 live o whole h) above
    (over_grown max t1 t2 factor grown2 over) (some_stays t1 t2 factor grown2 over.0 some) _ c.in_ok-push.ensures.items refl c.in_ok-add_product.ensures.of
    (λ σ. sum_moved t0 t1 t2 o.sum line.poly factor c.add_product.new.sum σ grown1 grown2 c.requires.sum c.requires.line over.0 (c.in_ok-add_product.ensures.value σ))
