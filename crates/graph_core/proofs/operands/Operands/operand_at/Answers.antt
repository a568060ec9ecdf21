use Rattle.std.proofs.Common.{◌≡◌, ◌-◌, ◌≤◌, Some, slice_get, arith, sym, subst, ◌∙◌}
use Rattle.graph_core.proofs.OfGraphs.InputPlaces.{separate_a, separate_b, interleaved_a, interleaved_b}
use Rattle.graph_core.proofs.operands.Operands.operand_at.Goals as goal

pub a-requires-then-i-eq0 : goal.a-requires-then-i-eq0
a-requires-then-i-eq0 c = record { in_range = let low = c.requires in let same = c.a_width-a_width.ensures.sides.even (sym c.order.ensures ∙ c.in-Interleaved.is) in omega arith }

pub b-requires-else-i-eq0 : goal.b-requires-else-i-eq0
b-requires-else-i-eq0 c = record { in_range = let low = c.requires in let same = c.a_width-a_width.ensures.sides.even (sym c.order.ensures ∙ c.in-Interleaved.is) in omega arith }

pub returns-then-i-a_width : goal.returns-then-i-a_width
returns-then-i-a_width c = separate_a c.args.self.now c.args.i c.a.result (sym c.order.ensures ∙ c.in-Separate.is) c.a.ensures

pub returns-else-i-a_width : goal.returns-else-i-a_width
returns-else-i-a_width c = separate_b c.args.self.now c.args.i c.b.result (sym c.order.ensures ∙ c.in-Separate.is) (subst (λ n. n ≤ c.args.i) c.a_width-a_width.ensures.value c.if-i-a_width.false) (subst (λ n. slice_get c.args.self.now.b (c.args.i - n) ≡ Some c.b.result) c.a_width-a_width.ensures.value c.b.ensures)

pub returns-then-i-eq0 : goal.returns-then-i-eq0
returns-then-i-eq0 c = interleaved_a c.args.self.now c.args.i c.a-then-i-eq0.result (sym c.order.ensures ∙ c.in-Interleaved.is) (c.a_width-a_width.ensures.sides.even (sym c.order.ensures ∙ c.in-Interleaved.is)) c.if-i-eq0.true c.a-then-i-eq0.ensures

pub returns-else-i-eq0 : goal.returns-else-i-eq0
returns-else-i-eq0 c = interleaved_b c.args.self.now c.args.i c.b-else-i-eq0.result (sym c.order.ensures ∙ c.in-Interleaved.is) (c.a_width-a_width.ensures.sides.even (sym c.order.ensures ∙ c.in-Interleaved.is)) c.if-i-eq0.false c.b-else-i-eq0.ensures
