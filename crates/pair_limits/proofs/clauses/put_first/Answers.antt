use Rattle.std.proofs.Common.{◌<◌, ◌++◌, ◌∙◌, ap, arith, eqb-true, length, sym}
use Rattle.std.proofs.lemmas.Bool.{eqb-false}
use Rattle.drup_text.specs.Headers.{version_line}
use Rattle.drup_text.specs.WrittenTexts.{cut_text}
use Rattle.drup_text.proofs.WrittenLoops.{first_missing, first_there}
use Rattle.pair_limits.proofs.Behind.{text_is, text_then}
use Rattle.pair_limits.proofs.clauses.put_first.Goals as goal

pub returns-then-is_empty : goal.returns-then-is_empty
returns-then-is_empty c =
    let none = eqb-true (length c.args.blocks.now) 0 (sym c.is_empty.ensures ∙ c.if-is_empty.true) in
    text_is (ap (λ o. version_line ++ cut_text o) (sym (first_missing c.args.blocks.now none))) (text_then c.put.ensures c.put-then-is_empty.ensures)

pub returns-else-is_empty : goal.returns-else-is_empty
returns-else-is_empty c =
    let none = eqb-false (length c.args.blocks.now) 0 (sym c.is_empty.ensures ∙ c.if-is_empty.false) in
    let some : 0 < length c.args.blocks.now = omega (arith, none) in
    text_is (ap (λ o. version_line ++ cut_text o) (sym (first_there c.args.blocks.now c.index-blocks-0.result some))) (text_then c.put.ensures c.put_cut.ensures)
