use Rattle.std.specs.Prelude.{[], ◌∷◌, ◌++◌, codes, decimal}
use Rattle.std.proofs.Common.{ap, ◌∙◌}
use Rattle.graph_core.specs.Text.{newline}
use Rattle.verdict_program.proofs.ReportLines.{numbers_line}
use Rattle.verdict_program.proofs.report_texts.push_undecided.Goals as goal

pub returns-clause-text : goal.returns-clause-text
returns-clause-text c =
    let old = c.args.report.now in
    let text = codes "undecided plain step " in
    let more = codes " monomials " in
    let step = c.args.step in
    let size = c.args.size in
    let first = c.push_numbered.ensures.text ∙ ap (λ n. old ++ text ++ decimal n) c.from.ensures in
    let second = c.push_numbered-2.ensures.text ∙ ap (λ n. c.push_numbered.new.self ++ more ++ decimal n) c.from-2.ensures in
    c.push.ensures ∙ ap (λ xs. xs ++ newline ∷ []) (second ∙ ap (λ xs. xs ++ more ++ decimal size) first) ∙
    numbers_line old text (decimal step) more (decimal size)
