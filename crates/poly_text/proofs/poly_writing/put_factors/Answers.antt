use Rattle.std.proofs.Common.{◌++◌, ◌+◌, ◌&&◌, ◌==◌, ap, drop, decimal, get_or, lit≤}
use Rattle.std.proofs.Math.Nat.{le_trans}
use Rattle.poly_text.specs.WrittenLines.{factors_text, mark_text}
use Rattle.mv_text.proofs.CallerLemmas.{Puts-is, Puts-then, up_to_all, up_to_more, up_to_none}
use Rattle.poly_text.proofs.WrittenTerms.{next_factor, no_factor_left}
use Rattle.poly_text.proofs.poly_writing.put_factors.Goals as goal

pub loop-index-init : goal.loop-index-init
loop-index-init g c = record {
  «open» = c.requires.open;
  puts = up_to_none (factors_text c.args.bare c.args.variables.now) c.args.output.now (g.D.Desk.seen c.args.desk.now);
}

pub put-requires-clause-open : goal.put-requires-clause-open
put-requires-clause-open g c = c.loop-index.invariant.open

pub put-requires-clause-fits : goal.put-requires-clause-fits
put-requires-clause-fits g c = le_trans c.mark.ensures.few (lit≤ tt)

pub put_number-requires : goal.put_number-requires
put_number-requires g c = record { «open» = c.put.ensures.open }

pub loop-index-preserved : goal.loop-index-preserved
loop-index-preserved g c =
    let i = c.loop-index.index in
    let vs = c.args.variables.now in
    let bare = c.args.bare in
    record {
      «open» = c.put_number.ensures.open;
      puts = up_to_more (mark_text ((i == 0) && bare) ++ decimal (get_or vs i 0)) (factors_text ((i + 1 == 0) && bare) (drop (i + 1) vs)) (next_factor bare vs i c.loop-index-test.true)
          c.loop-index.invariant.puts (Puts-then (Puts-is c.mark.ensures.text c.put.ensures.puts) (Puts-is (ap decimal c.from.ensures) c.put_number.ensures.puts));
    }

pub returns-clause-open : goal.returns-clause-open
returns-clause-open g c = c.loop-index.invariant.open

pub returns-clause-puts : goal.returns-clause-puts
returns-clause-puts g c =
    up_to_all (no_factor_left ((c.loop-index.index == 0) && c.args.bare) c.args.variables.now c.loop-index.index c.loop-index-test.false)
    c.loop-index.invariant.puts
