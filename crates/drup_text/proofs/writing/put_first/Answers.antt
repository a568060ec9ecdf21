use Rattle.std.proofs.Common.{◌<◌, ◌++◌, ◌∙◌, ap, arith, eqb-true, length, sym}
use Rattle.std.proofs.lemmas.Bool.{eqb-false}
use Rattle.mv_text.proofs.CallerLemmas.{Puts-is, Puts-then}
use Rattle.drup_text.specs.Headers.{version_line}
use Rattle.drup_text.specs.WrittenTexts.{cut_text}
use Rattle.drup_text.proofs.WrittenLoops.{first_missing, first_there}
use Rattle.drup_text.proofs.writing.put_first.Goals as goal

pub returns-then-is_empty-clause-puts : goal.returns-then-is_empty-clause-puts
returns-then-is_empty-clause-puts g c =
    let none = eqb-true (length c.args.blocks.now) 0 (sym c.is_empty.ensures ∙ c.if-is_empty.true) in
    Puts-is (ap (λ o. version_line ++ cut_text o) (sym (first_missing c.args.blocks.now none))) (Puts-then c.put.ensures.puts c.put-then-is_empty.ensures.puts)

pub returns-else-is_empty-clause-puts : goal.returns-else-is_empty-clause-puts
returns-else-is_empty-clause-puts g c =
    let none = eqb-false (length c.args.blocks.now) 0 (sym c.is_empty.ensures ∙ c.if-is_empty.false) in
    let some : 0 < length c.args.blocks.now = omega (arith, none) in
    Puts-is (ap (λ o. version_line ++ cut_text o) (sym (first_there c.args.blocks.now c.index-blocks-0.result some))) (Puts-then c.put.ensures.puts c.put_cut.ensures.puts)
