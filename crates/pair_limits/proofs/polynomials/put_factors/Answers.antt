use Rattle.std.proofs.Common.{◌++◌, ◌+◌, ◌&&◌, ◌==◌, ap, drop, decimal, get_or}
use Rattle.poly_text.specs.WrittenLines.{factors_text, mark_text}
use Rattle.poly_text.proofs.WrittenTerms.{next_factor, no_factor_left}
use Rattle.pair_limits.proofs.Behind.{up_to_all, up_to_more, text_is, text_then}
use Rattle.pair_limits.proofs.polynomials.put_factors.Goals as goal

pub loop-index-preserved : goal.loop-index-preserved
loop-index-preserved c =
    let i = c.loop-index.index in
    let vs = c.args.variables.now in
    let bare = c.args.bare in
    up_to_more (mark_text ((i == 0) && bare) ++ decimal (get_or vs i 0)) (factors_text ((i + 1 == 0) && bare) (drop (i + 1) vs)) (next_factor bare vs i c.loop-index-test.true)
    c.loop-index.invariant (text_then (text_is c.mark.ensures c.put.ensures) (text_is (ap decimal c.from.ensures) c.put_number.ensures))

pub returns : goal.returns
returns c =
    up_to_all (no_factor_left ((c.loop-index.index == 0) && c.args.bare) c.args.variables.now c.loop-index.index c.loop-index-test.false)
    c.loop-index.invariant
