use Rattle.std.proofs.Common.{◌++◌, ◌+◌, ◌∷◌, [], ap, drop, get_or}
use Rattle.std.proofs.lemmas.List.{drop_all}
use Rattle.graph_core.specs.Text.{newline}
use Rattle.drup_text.specs.WrittenTexts.{clause_line_text, clause_lines_text}
use Rattle.drup_text.proofs.WrittenLoops.{next_line}
use Rattle.pair_limits.proofs.Behind.{up_to_all, up_to_more, text_is}
use Rattle.pair_limits.proofs.clauses.put_lines.Goals as goal

pub loop-line-preserved : goal.loop-line-preserved
loop-line-preserved c =
    let i = c.loop-line.line-index in
    let lines = c.args.lines.now in
    let line = c.line-item.result in
    up_to_more (clause_line_text (get_or lines i line) ++ newline ∷ []) (clause_lines_text (drop (i + 1) lines)) (next_line lines i line c.loop-line-test.true) c.loop-line.invariant
    (text_is (ap (λ x. clause_line_text x ++ newline ∷ []) c.line-item.is) c.put_line.ensures)

pub returns : goal.returns
returns c = up_to_all (ap clause_lines_text (drop_all c.loop-line.line-index c.args.lines.now c.loop-line-test.false)) c.loop-line.invariant
