use Rattle.gate_axioms.proofs.Columns.{IsColumnLeft}
use Rattle.gate_axioms.proofs.form.Form.add_column.Given as goal

abbrev pub invariant-loop-i : goal.invariant-loop-i
invariant-loop-i l = IsColumnLeft l.fn.coefficient.width l.fn.coefficient.value l.sign l.a l.b l.k l.i l.initial.self l.self
