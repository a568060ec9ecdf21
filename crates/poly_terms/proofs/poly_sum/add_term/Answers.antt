use Rattle.std.proofs.Common.{◌+◌, ◌%◌, ◌^◌, ap₂, ◌∙◌}
use Rattle.std.proofs.lemmas.Nat.{pow_pos}
use Rattle.std.proofs.lemmas.Result.{on_ok_weaker}
use Rattle.poly_terms.proofs.PolySums.{added_one}
use Rattle.poly_terms.proofs.poly_sum.add_term.Goals as goal

pub returns-clause-added : goal.returns-clause-added
returns-clause-added c =
    let m = 2 ^ c.args.width in
    let sum = c.sum.ensures ∙ ap₂ (λ a b. (a + b) % m) c.at-before.ensures c.coefficient.ensures in
    on_ok_weaker c.put.result
    (added_one m c.args.coefficients.now c.reach.new.self c.put.new.self c.number-number.result c.sum.result c.args.term.now (pow_pos c.args.width) c.number-number.ensures
    c.in_ok-reach.ensures.longer c.in_ok-reach.ensures.long sum)
    c.put.ensures.put
