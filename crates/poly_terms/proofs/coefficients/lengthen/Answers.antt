use Rattle.std.proofs.Common.{◌≡◌, ◌+◌, ◌*◌, ◌<◌, ◌^◌, ◌∷◌, [], length, ap, ◌∙◌, length-append, arith}
use Rattle.poly_terms.specs.Blocks.{joined}
use Rattle.poly_terms.proofs.Blocks.{blocks_more, longer_block}
use Rattle.poly_terms.proofs.coefficients.lengthen.Goals as goal

one_more : (c : goal.Then-counter-last) → length c.push.new.self.items ≡ c.loop.counter + 1
one_more c = ap length c.in_ok-push.ensures.items ∙ length-append c.loop.blocks.items (c.new.result ∷ []) ∙ ap (λ n. n + 1) c.loop.invariant.counter

pub loop-preserved : goal.loop-preserved
loop-preserved c =
    let few : length c.push.new.self.items * 64 < 2 ^ 64 = omega (arith, one_more c, c.loop-test.true, c.if-last.false) in
    record {
      blocks = blocks_more c.loop.blocks.items c.new.result c.push.new.self.items c.new.ensures c.in_ok-push.ensures.items c.loop.invariant.blocks few;
      longer = longer_block (joined c.args.blocks.now.items) c.loop.blocks.items c.new.result c.push.new.self.items c.new.ensures c.in_ok-push.ensures.items c.loop.invariant.longer;
      counter = one_more c;
    }

pub returns-in_ok-push-clause-longer : goal.returns-in_ok-push-clause-longer
returns-in_ok-push-clause-longer c =
    longer_block (joined c.args.blocks.now.items) c.loop.blocks.items c.new.result c.push.new.self.items c.new.ensures c.in_ok-push.ensures.items c.loop.invariant.longer
