use Rattle.std.proofs.Common.{◌++◌, ◌+◌, ◌∷◌, [], ap, ap₂, drop, get_or}
use Rattle.std.proofs.lemmas.List.{drop_all}
use Rattle.graph_core.specs.Text.{newline}
use Rattle.drup_text.specs.WrittenTexts.{pairs_text, two_text}
use Rattle.drup_text.proofs.WrittenLoops.{next_pair, no_pair}
use Rattle.pair_limits.proofs.Behind.{up_to_all, up_to_more, text_is}
use Rattle.pair_limits.proofs.clauses.put_pairs.Goals as goal

pub loop-pair-preserved : goal.loop-pair-preserved
loop-pair-preserved c =
    let i = c.loop-pair.pair-index in
    let pairs = c.args.pairs.now in
    let pair = get_or pairs i no_pair in
    up_to_more (two_text pair.0.0 pair.1.0 ++ newline ∷ []) (pairs_text (drop (i + 1) pairs)) (next_pair pairs i no_pair c.loop-pair-test.true) c.loop-pair.invariant
    (text_is (ap₂ (λ a b. two_text a b ++ newline ∷ []) c.from.ensures c.from-in-loop-pair.ensures) c.put_two.ensures)

pub returns : goal.returns
returns c = up_to_all (ap pairs_text (drop_all c.loop-pair.pair-index c.args.pairs.now c.loop-pair-test.false)) c.loop-pair.invariant
