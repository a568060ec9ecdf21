use Rattle.std.specs.Prelude.{[], ◌∷◌, ◌++◌, codes, decimal}
use Rattle.std.proofs.Common.{ap, sym, ◌∙◌}
use Rattle.graph_core.specs.Text.{newline}
use Rattle.verdict_program.specs.Answer.{least_column, numbers_text, report_of_note}
use Rattle.verdict_program.proofs.ReportLines.{number_line}
use Rattle.verdict_program.proofs.report_texts.push_note.Goals as goal

pub returns-in-Used-clause-text : goal.returns-in-Used-clause-text
returns-in-Used-clause-text c =
    let old = c.args.report.now in
    let text = codes "rewriting used from column " in
    c.push.ensures ∙ ap (λ xs. xs ++ newline ∷ []) (c.push_numbered.ensures.text ∙ ap (λ n. old ++ text ++ decimal n) c.from.ensures) ∙
    number_line old text (decimal c.in-Used.cut.lo) ∙ ap (λ n. old ++ report_of_note n) (sym c.in-Used.is)

pub returns-in-Found-clause-text : goal.returns-in-Found-clause-text
returns-in-Found-clause-text c =
    let old = c.args.report.now in
    let text = codes "rewriting found from column " in
    c.push-in-Found.ensures ∙ ap (λ xs. xs ++ newline ∷ []) (c.push_numbered-in-Found.ensures.text ∙ ap (λ n. old ++ text ++ decimal n) c.from-in-Found.ensures) ∙
    number_line old text (decimal c.in-Found.cut.lo) ∙ ap (λ n. old ++ report_of_note n) (sym c.in-Found.is)

pub returns-in-Beside-clause-text : goal.returns-in-Beside-clause-text
returns-in-Beside-clause-text c =
    let old = c.args.report.now in
    let text = codes "rewriting beside from column " in
    let least = ap (λ n. old ++ text ++ decimal n) (c.from-in-Beside.ensures ∙ c.least_column-least.ensures ∙ ap least_column c.as_slice.ensures) in
    c.push-in-Beside.ensures ∙ ap (λ xs. xs ++ newline ∷ []) (c.push_numbered-in-Beside.ensures.text ∙ least) ∙
    number_line old text (decimal (least_column c.in-Beside.beside.outputs)) ∙ ap (λ n. old ++ report_of_note n) (sym c.in-Beside.is)

pub returns-in-Differs-clause-text : goal.returns-in-Differs-clause-text
returns-in-Differs-clause-text c =
    let old = c.args.report.now in
    let text = codes "rewriting differs " in
    let numbers = numbers_text c.in-Differs.has_addend c.in-Differs.numbers in
    let told = c.push_report.ensures ∙ ap (λ n. c.push-in-Differs.new.self ++ n) c.numbers_report.ensures.text ∙ ap (λ xs. xs ++ numbers) c.push-in-Differs.ensures in
    c.push-in-Differs-2.ensures ∙ ap (λ xs. xs ++ newline ∷ []) told ∙
    number_line old text numbers ∙ ap (λ n. old ++ report_of_note n) (sym c.in-Differs.is)

pub returns-in-Spent-clause-text : goal.returns-in-Spent-clause-text
returns-in-Spent-clause-text c =
    let old = c.args.report.now in
    let text = codes "rewriting spent " in
    c.push-in-Spent.ensures ∙ ap (λ xs. xs ++ newline ∷ []) (c.push_numbered-in-Spent.ensures.text ∙ ap (λ n. old ++ text ++ decimal n) c.from-in-Spent.ensures) ∙
    number_line old text (decimal c.in-Spent.lemmas) ∙ ap (λ n. old ++ report_of_note n) (sym c.in-Spent.is)
