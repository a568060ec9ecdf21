use Rattle.std.proofs.Common.{◌∙◌, sym}
use Rattle.algebra_core.specs.Reading.{combination_at, drop_at, import_at, multiple_at, second_at, sum_at}
use Rattle.poly_text.proofs.FormSteps.{form_there}
use Rattle.poly_text.proofs.LineSteps.{combination_there, drop_there, import_there, multiple_there, sum_there}
use Rattle.poly_text.proofs.pac_reader.PacReader.behind_id.Goals as goal

pub returns-then-is_at : goal.returns-then-is_at
returns-then-is_at c =
    form_there sum_at c.sum.result
    (λ n. sum_there c.args.self.now.version n c.args.scanner.now (sym c.is_at.ensures ∙ c.if-is_at.true)) c.sum.ensures

pub returns-then-is_at-2 : goal.returns-then-is_at-2
returns-then-is_at-2 c =
    form_there multiple_at c.multiple.result
    (λ n. multiple_there c.args.self.now.version n c.args.scanner.now (sym c.is_at.ensures ∙ c.if-is_at.false) (sym c.is_at-2.ensures ∙ c.if-is_at-2.true)) c.multiple.ensures

pub returns-then-is_at-3 : goal.returns-then-is_at-3
returns-then-is_at-3 c =
    form_there combination_at c.combination.result
    (λ n. combination_there c.args.self.now.version n c.args.scanner.now (sym c.is_at.ensures ∙ c.if-is_at.false) (sym c.is_at-2.ensures ∙ c.if-is_at-2.false) (sym c.is_at-3.ensures ∙ c.if-is_at-3.true)) c.combination.ensures

pub returns-then-is_at-4 : goal.returns-then-is_at-4
returns-then-is_at-4 c =
    form_there (λ n. second_at c.args.self.now.version (import_at n)) c.import.result
    (λ n. import_there c.args.self.now.version n c.args.scanner.now (sym c.is_at.ensures ∙ c.if-is_at.false) (sym c.is_at-2.ensures ∙ c.if-is_at-2.false) (sym c.is_at-3.ensures ∙ c.if-is_at-3.false) (sym c.is_at-4.ensures ∙ c.if-is_at-4.true)) c.import.ensures

pub returns : goal.returns
returns c =
    form_there drop_at c.delete_line.result
    (λ n. drop_there c.args.self.now.version n c.args.scanner.now (sym c.is_at.ensures ∙ c.if-is_at.false) (sym c.is_at-2.ensures ∙ c.if-is_at-2.false) (sym c.is_at-3.ensures ∙ c.if-is_at-3.false) (sym c.is_at-4.ensures ∙ c.if-is_at-4.false)) (c.delete_line.ensures c.args.terms.now c.args.self.now.max)
