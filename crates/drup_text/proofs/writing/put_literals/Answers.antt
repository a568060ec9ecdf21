use Rattle.std.proofs.Common.{◌++◌, ◌+◌, ◌∷◌, [], pos, w32, SFits, drop, get_or, rules}
use Rattle.std.specs.Fmt.{signed_decimal}
use Rattle.std.proofs.lemmas.Int.{to_z-of_z}
use Rattle.graph_core.specs.Text.{space}
use Rattle.mv_text.proofs.CallerLemmas.{up_to_more}
use Rattle.drup_text.specs.WrittenTexts.{literals_text}
use Rattle.drup_text.proofs.WrittenLoops.{next_literal}
use Rattle.drup_text.proofs.writing.put_literals.Goals as goal

pub loop-literal-preserved : goal.loop-literal-preserved
loop-literal-preserved g c =
    let i = c.loop-literal.literal-index in
    let ls = c.args.literals.now in
    let fits : SFits w32 (get_or ls i (pos 0)) = search rules in
    let here = simp to_z-of_z at c.put_literal.ensures.puts in
    record {
      «open» = c.put_literal.ensures.open;
      puts = up_to_more (signed_decimal (get_or ls i (pos 0)) ++ space ∷ []) (literals_text (drop (i + 1) ls) []) (next_literal ls i (pos 0) c.loop-literal-test.true) c.loop-literal.invariant.puts here;
    }
