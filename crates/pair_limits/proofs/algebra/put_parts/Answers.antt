use Rattle.std.proofs.Common.{◌++◌, ◌+◌, ◌==◌, ℕ, ap, sym, subst, drop, get_or}
use Rattle.std.proofs.lemmas.List.Elements.{All-get_or}
use Rattle.poly_terms.specs.Tables.{IsOf, Sum, modulus_in}
use Rattle.poly_text.specs.Lines.{part_in, parts_in}
use Rattle.poly_text.specs.WrittenLines.{joint_text, part_text, parts_text}
use Rattle.poly_text.proofs.WrittenTerms.{next_part, no_part_left}
use Rattle.pair_limits.proofs.Behind.{up_to_all, up_to_more, text_is, text_then}
use Rattle.pair_limits.proofs.algebra.put_parts.Goals as goal

pub put_part-requires : goal.put_part-requires
put_part-requires c =
    let P = λ (part : ℕ × Sum). IsOf c.args.terms.now part.1 in
    subst P (sym c.index-parts-index.is) (All-get_or P c.args.parts.now c.loop-index.index c.index-parts-index.result c.loop-index-test.true c.requires)

pub loop-index-preserved : goal.loop-index-preserved
loop-index-preserved c =
    let i = c.loop-index.index in
    let parts = c.args.parts.now in
    let part = c.index-parts-index.result in
    let t = c.args.terms.now in
    let m = modulus_in t in
    up_to_more (joint_text (i == 0) ++ part_text m (part_in t (get_or parts i part))) (parts_text m (i + 1 == 0) (parts_in t (drop (i + 1) parts))) (next_part t parts i part c.loop-index-test.true)
    c.loop-index.invariant (text_then (text_is c.joint.ensures c.put.ensures) (text_is (ap (λ x. part_text m (part_in t x)) c.index-parts-index.is) c.put_part.ensures))

pub returns : goal.returns
returns c = up_to_all (no_part_left c.args.terms.now (c.loop-index.index == 0) c.args.parts.now c.loop-index.index c.loop-index-test.false) c.loop-index.invariant
