use Rattle.std.proofs.Common.{◌++◌, ◌+◌, ◌∷◌, [], ap, drop, get_or}
use Rattle.graph_core.specs.Text.{newline}
use Rattle.mv_text.proofs.CallerLemmas.{Puts-is, up_to_more}
use Rattle.drup_text.specs.WrittenTexts.{clause_line_text, clause_lines_text}
use Rattle.drup_text.proofs.WrittenLoops.{next_line}
use Rattle.drup_text.proofs.writing.put_lines.Goals as goal

pub loop-line-preserved : goal.loop-line-preserved
loop-line-preserved g c =
    let i = c.loop-line.line-index in
    let lines = c.args.lines.now in
    let line = c.line-item.result in
    record {
      «open» = c.put_line.ensures.open;
      puts = up_to_more (clause_line_text (get_or lines i line) ++ newline ∷ []) (clause_lines_text (drop (i + 1) lines)) (next_line lines i line c.loop-line-test.true) c.loop-line.invariant.puts
          (Puts-is (ap (λ x. clause_line_text x ++ newline ∷ []) c.line-item.is) c.put_line.ensures.puts);
    }
