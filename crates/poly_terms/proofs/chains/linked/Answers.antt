use Rattle.std.proofs.Common.{◌+◌, [], get_or, ap, ◌∙◌}
use Rattle.poly_terms.proofs.Chaining.{hangs}
use Rattle.poly_terms.proofs.chains.linked.Goals as goal

pub loop-number-preserved : goal.loop-number-preserved
loop-number-preserved c =
    let ms = c.args.monomials.now in
    let o =
    hangs c.args.count ms c.loop-number.heads c.loop-number.links c.hang.new.heads c.hang.new.links c.at.result.now c.loop-number.invariant.chains c.requires.some
    (ap (λ n. get_or ms n []) c.loop-number.invariant.long ∙ c.at.ensures) c.loop-number.invariant.linked c.in_ok-hang.ensures.hangs in
    record {
      chains = o.0;
      long = o.1 ∙ ap (λ n. n + 1) c.loop-number.invariant.long;
      linked = o.2;
    }
