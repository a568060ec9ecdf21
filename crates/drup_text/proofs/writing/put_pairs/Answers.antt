use Rattle.std.proofs.Common.{◌++◌, ◌+◌, ◌∷◌, [], ap₂, drop, get_or}
use Rattle.graph_core.specs.Text.{newline}
use Rattle.mv_text.proofs.CallerLemmas.{Puts-is, up_to_more}
use Rattle.drup_text.specs.WrittenTexts.{pairs_text, two_text}
use Rattle.drup_text.proofs.WrittenLoops.{next_pair, no_pair}
use Rattle.drup_text.proofs.writing.put_pairs.Goals as goal

pub loop-pair-preserved : goal.loop-pair-preserved
loop-pair-preserved g c =
    let i = c.loop-pair.pair-index in
    let pairs = c.args.pairs.now in
    let pair = get_or pairs i no_pair in
    record {
      «open» = c.put_two.ensures.open;
      puts = up_to_more (two_text pair.0.0 pair.1.0 ++ newline ∷ []) (pairs_text (drop (i + 1) pairs)) (next_pair pairs i no_pair c.loop-pair-test.true) c.loop-pair.invariant.puts
          (Puts-is (ap₂ (λ a b. two_text a b ++ newline ∷ []) c.from.ensures c.from-in-loop-pair.ensures) c.put_two.ensures.puts);
    }
