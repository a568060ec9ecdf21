use Rattle.std.proofs.Common.{◌+◌, ◌%◌, ◌^◌, [], get_or, ap₂, subst, ◌∙◌}
use Rattle.std.proofs.lemmas.Nat.{pow_pos}
use Rattle.std.proofs.lemmas.Result.{on_ok_weaker}
use Rattle.poly_terms.specs.Indexed.{EntersNew}
use Rattle.poly_terms.proofs.Indexing.{added_one}
use Rattle.poly_terms.proofs.indexed.add_term.Goals as goal

pub returns : goal.returns
returns c =
    let m = 2 ^ c.args.width in
    let ms = c.args.table.now in
    let n = c.number-number.result in
    let places = c.args.places.now in
    let more = c.enter_new.new.places in
    let sum = c.sum.ensures ∙ ap₂ (λ a b. (a + b) % m) c.at-before.ensures c.coefficient.ensures in
    let entered = subst (λ b. EntersNew b n (get_or ms n []) places more) c.at-before.ensures c.in_ok-enter_new.ensures in
    on_ok_weaker c.put.result
    (λ put.
    added_one m ms c.args.coefficients.now c.reach.new.self c.put.new.self places more n c.sum.result c.args.term.now (pow_pos c.args.width) c.number-number.ensures c.requires.term
    c.requires.indexed c.in_ok-reach.ensures.longer c.in_ok-reach.ensures.long sum put entered)
    c.put.ensures.put
