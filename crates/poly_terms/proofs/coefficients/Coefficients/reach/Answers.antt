use Rattle.std.proofs.Common.{◌<◌, ◌/◌, length, subst, ap, sym, arith}
use Rattle.std.proofs.lemmas.Result.{on_ok_weaker}
use Rattle.poly_terms.proofs.Blocks.{number_within}
use Rattle.poly_terms.proofs.coefficients.Coefficients.reach.Goals as goal

pub returns-then-last-len-clause-long : goal.returns-then-last-len-clause-long
returns-then-last-len-clause-long c =
    let bs = c.self.inside.blocks.items in
    let low : c.args.number / 64 < length bs = omega (arith, c.len.ensures, c.if-last-len.true, c.self.inside.blocks.ok.0) in
    omega (arith, number_within bs c.args.number c.self.invariant.whole low, ap length c.self.view_is)

pub returns-clause-long : goal.returns-clause-long
returns-clause-long c = on_ok_weaker c.lengthen.result (number_within c.lengthen.new.blocks.items c.args.number c.lengthen.ensures.blocks.whole) c.lengthen.ensures.long
