use Rattle.std.proofs.Common.{◌++◌, ◌∷◌, [], ap, ap₂, length}
use Rattle.std.specs.Prelude.{codes}
use Rattle.graph_core.specs.Text.{newline}
use Rattle.drup_text.specs.WrittenTexts.{pairs_text, two_text}
use Rattle.drup_text.proofs.WrittenLoops.{cut_end}
use Rattle.pair_limits.proofs.Behind.{text_is, text_then}
use Rattle.pair_limits.proofs.clauses.put_cut.Goals as goal

pub returns : goal.returns
returns c =
    let cut = c.args.cut.now in
    let pairs = c.as_slice-pairs.ensures in
    text_is (cut_end (codes "replace ") (pairs_text cut.pairs) (two_text cut.lo (length cut.pairs)))
    (text_then (text_then c.put.ensures (text_is (ap₂ (λ a b. two_text a b ++ newline ∷ []) c.from.ensures (ap length pairs)) c.put_two.ensures)) (text_is (ap pairs_text pairs) c.put_pairs.ensures))
