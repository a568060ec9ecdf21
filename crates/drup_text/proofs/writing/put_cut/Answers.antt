use Rattle.std.proofs.Common.{◌++◌, ◌∷◌, [], ap, ap₂, length}
use Rattle.std.specs.Prelude.{codes}
use Rattle.graph_core.specs.Text.{newline}
use Rattle.mv_text.proofs.CallerLemmas.{Puts-is, Puts-then}
use Rattle.drup_text.specs.WrittenTexts.{pairs_text, two_text}
use Rattle.drup_text.proofs.WrittenLoops.{cut_end}
use Rattle.drup_text.proofs.writing.put_cut.Goals as goal

pub returns-clause-puts : goal.returns-clause-puts
returns-clause-puts g c =
    let cut = c.args.cut.now in
    let pairs = c.as_slice-pairs.ensures in
    Puts-is (cut_end (codes "replace ") (pairs_text cut.pairs) (two_text cut.lo (length cut.pairs)))
    (Puts-then (Puts-then c.put.ensures.puts (Puts-is (ap₂ (λ a b. two_text a b ++ newline ∷ []) c.from.ensures (ap length pairs)) c.put_two.ensures.puts)) (Puts-is (ap pairs_text pairs) c.put_pairs.ensures.puts))
