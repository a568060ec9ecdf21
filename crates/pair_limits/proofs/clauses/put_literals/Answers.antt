use Rattle.std.proofs.Common.{◌++◌, ◌+◌, ◌∷◌, [], pos, w32, SFits, ap, drop, get_or, rules}
use Rattle.std.specs.Fmt.{signed_decimal}
use Rattle.std.proofs.lemmas.Int.{to_z-of_z}
use Rattle.std.proofs.lemmas.List.{drop_all}
use Rattle.graph_core.specs.Text.{space}
use Rattle.drup_text.specs.WrittenTexts.{literals_text}
use Rattle.drup_text.proofs.WrittenLoops.{next_literal}
use Rattle.pair_limits.proofs.Behind.{up_to_all, up_to_more}
use Rattle.pair_limits.proofs.clauses.put_literals.Goals as goal

pub loop-literal-preserved : goal.loop-literal-preserved
loop-literal-preserved c =
    let i = c.loop-literal.literal-index in
    let ls = c.args.literals.now in
    let fits : SFits w32 (get_or ls i (pos 0)) = search rules in
    let here = simp to_z-of_z at c.put_literal.ensures in
    up_to_more (signed_decimal (get_or ls i (pos 0)) ++ space ∷ []) (literals_text (drop (i + 1) ls) []) (next_literal ls i (pos 0) c.loop-literal-test.true) c.loop-literal.invariant here

pub returns : goal.returns
returns c = up_to_all (ap (λ ls. literals_text ls []) (drop_all c.loop-literal.literal-index c.args.literals.now c.loop-literal-test.false)) c.loop-literal.invariant
