use Rattle.std.proofs.Common.{ℕ, ◌++◌, ◌+◌, ◌==◌, ap, drop, get_or, lit≤, subst, sym, true}
use Rattle.std.proofs.Math.Nat.{le_trans}
use Rattle.std.proofs.lemmas.List.Elements.{All-get_or}
use Rattle.poly_terms.specs.Tables.{IsOf, Sum, modulus_in}
use Rattle.poly_text.specs.Lines.{part_in, parts_in}
use Rattle.poly_text.specs.WrittenLines.{joint_text, part_text, parts_text}
use Rattle.mv_text.proofs.CallerLemmas.{Puts-is, Puts-then, up_to_all, up_to_more, up_to_none}
use Rattle.poly_text.proofs.WrittenTerms.{next_part, no_part_left}
use Rattle.poly_text.proofs.writing.put_parts.Goals as goal

pub loop-index-init : goal.loop-index-init
loop-index-init g c = record {
  «open» = c.requires.open;
  puts = up_to_none (parts_text (modulus_in c.args.terms.now) true (parts_in c.args.terms.now c.args.parts.now)) c.args.output.now (g.D.Desk.seen c.args.desk.now);
}

pub put-requires-clause-open : goal.put-requires-clause-open
put-requires-clause-open g c = c.loop-index.invariant.open

pub put-requires-clause-fits : goal.put-requires-clause-fits
put-requires-clause-fits g c = le_trans c.joint.ensures.few (lit≤ tt)

pub put_part-requires-clause-open : goal.put_part-requires-clause-open
put_part-requires-clause-open g c = c.put.ensures.open

pub put_part-requires-clause-of : goal.put_part-requires-clause-of
put_part-requires-clause-of g c =
    let P = λ (part : ℕ × Sum). IsOf c.args.terms.now part.1 in
    subst P (sym c.index-parts-index.is) (All-get_or P c.args.parts.now c.loop-index.index c.index-parts-index.result c.loop-index-test.true c.requires.of)

pub loop-index-preserved : goal.loop-index-preserved
loop-index-preserved g c =
    let i = c.loop-index.index in
    let parts = c.args.parts.now in
    let part = c.index-parts-index.result in
    let t = c.args.terms.now in
    let m = modulus_in t in
    record {
      «open» = c.put_part.ensures.open;
      puts = up_to_more (joint_text (i == 0) ++ part_text m (part_in t (get_or parts i part))) (parts_text m (i + 1 == 0) (parts_in t (drop (i + 1) parts))) (next_part t parts i part c.loop-index-test.true)
          c.loop-index.invariant.puts (Puts-then (Puts-is c.joint.ensures.text c.put.ensures.puts) (Puts-is (ap (λ x. part_text m (part_in t x)) c.index-parts-index.is) c.put_part.ensures.puts));
    }

pub returns-clause-open : goal.returns-clause-open
returns-clause-open g c = c.loop-index.invariant.open

pub returns-clause-puts : goal.returns-clause-puts
returns-clause-puts g c =
    up_to_all (no_part_left c.args.terms.now (c.loop-index.index == 0) c.args.parts.now c.loop-index.index c.loop-index-test.false) c.loop-index.invariant.puts
