use Rattle.std.proofs.Common.{◌≡◌, ◌+◌, ◌*◌, ◌%◌, ◌^◌, ◌≤◌, ap, ap₂, subst, sym, ◌∙◌}
use Rattle.poly_terms.specs.Tables.{modulus_in}
use Rattle.column_reducer.proofs.PieceValues.{power_small}
use Rattle.column_reducer.proofs.pieces.minus_power.Goals as goal

pub returns : goal.returns
returns c =
    let k = c.args.k in
    let w = c.args.terms.now.exponent in
    let width = c.exponent-exponent.ensures.exponent in
    let wide : w ≤ 128 = subst (λ n. n ≤ 128) width c.exponent-exponent.ensures.in_range.1 in
    let power : c.new.result.value ≡ 2 ^ k = c.new.ensures.value ∙ ap (λ n. (1 * 2 ^ k) % 2 ^ 128 % 2 ^ n) width ∙ power_small k w c.requires wide in
    ap₂ (λ a b. (a + b) % modulus_in c.args.terms.now) c.value.ensures.value (sym power) ∙
    ap (λ n. (c.neg.result.value + c.new.result.value) % 2 ^ n) (sym (c.new.ensures.width ∙ width)) ∙ c.neg.ensures.value
