use Rattle.std.proofs.Common.{◌≡◌, sym, ap, ◌∙◌, slice_get, Some}
use Rattle.std.proofs.lemmas.Bool.{true≢false}
use Rattle.gate_axioms.proofs.ReplacedColumns.{column_none, column_some}
use Rattle.gate_axioms.proofs.left_axioms.column_at.Goals as goal

pub returns-then-not-replaced : goal.returns-then-not-replaced
returns-then-not-replaced c = column_none c.args.extended.now c.args.k (λ there. true≢false (sym (c.replaced.ensures.1 there) ∙ c.if-not-replaced.true))

pub returns : goal.returns
returns c =
    let e = c.args.extended.now in
    let left : slice_get e.graph.outputs c.args.k ≡ Some c.output-old.result = ap (λ g. slice_get g.outputs c.args.k) (sym c.graph.ensures) ∙ c.output-old.ensures in
    column_some e c.args.k c.output-old.result c.new_output-new.result c.requires.extension (c.replaced.ensures.0 c.if-not-replaced.false) left c.new_output-new.ensures
