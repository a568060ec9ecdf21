use Rattle.std.proofs.Common.{sym, ◌∙◌, true≢false}
use Rattle.column_reducer.proofs.Columns.{column_kept}
use Rattle.column_reducer.proofs.gathered.Gathered.take_column.Goals as goal

pub returns-then-not-replaced-clause-column : goal.returns-then-not-replaced-clause-column
returns-then-not-replaced-clause-column c =
    column_kept c.args.terms.now c.args.extended.now c.args.k c.args.self.now (λ is. true≢false (sym (c.replaced.ensures.1 is) ∙ c.if-not-replaced.true))

pub add_column-requires-clause-replaced : goal.add_column-requires-clause-replaced
add_column-requires-clause-replaced c = c.replaced.ensures.0 c.if-not-replaced.false
