use Rattle.std.proofs.Common.{◌≡◌, ◌≤◌, ◌+◌, ◌++◌, ◌==◌, ◌∙◌, arith, ap, subst, length-append, drop, get_or, length}
use Rattle.poly_terms.specs.Tables.{modulus_in, monomials_in}
use Rattle.poly_text.specs.Lines.{part_in, parts_in}
use Rattle.poly_text.specs.WrittenLines.{joint_text, part_text, parts_text, poly_text}
use Rattle.poly_text.proofs.WrittenTerms.{next_part}
use Rattle.pair_limits.proofs.Lengths.{part_short}
use Rattle.pair_limits.proofs.surely.bytes_of_parts.Goals as goal

pub loop-id-preserved : goal.loop-id-preserved
loop-id-preserved c =
    let i = c.loop-id.id-index in
    let t = c.args.terms.now in
    let m = modulus_in t in
    let parts = c.args.parts.now in
    let part = c.loop-id-item.result in
    let here = part_in t (get_or parts i part) in
    let text = joint_text (i == 0) ++ part_text m here in
    let later = parts_text m (i + 1 == 0) (parts_in t (drop (i + 1) parts)) in
    let whole : length (parts_text m (i == 0) (parts_in t (drop i parts))) ≡ length text + length later = ap length (next_part t parts i part c.loop-id-test.true) ∙ length-append text later in
    let short : length (joint_text (i == 0) ++ part_text m (part_in t part)) ≤ 32 + length (poly_text m (monomials_in t part.1)) = part_short m (i == 0) (part_in t part) c.bytes_of_id.ensures.short in
    let same : length text ≤ 32 + length (poly_text m (monomials_in t part.1)) = subst (λ x. length (joint_text (i == 0) ++ part_text m (part_in t x)) ≤ 32 + length (poly_text m (monomials_in t part.1))) c.loop-id-item.is short in
    omega (arith, c.loop-id.invariant, whole, same, c.in_ok-bytes_of_poly.ensures, c.in_ok-more.ensures, c.in_ok-bytes.ensures, c.bytes_of_id.ensures.bytes)
