use Rattle.std.proofs.Common.{◌≡◌, ◌+◌, ◌-◌, ◌<◌, Some, get_or, slice_get, length, ap, subst, arith}
use Rattle.std.proofs.lemmas.Option.{slice_get-get_or}
use Rattle.graph_core.specs.declared.literal.Lit.{Lit}
use Rattle.graph_core.specs.Graph.Operands.{inputs_in}
use Rattle.graph_core.proofs.OfGraphs.InputPlaces.{addend_at, length-inputs_in}
use Rattle.graph_core.proofs.operands.Operands.input.Goals as goal

pub bounds-c_literals-i : goal.bounds-c_literals-i
bounds-c_literals-i c =
    let low = c.requires.in_range in
    let a = c.a_width.ensures.value in
    let b = c.b_width.ensures.value in
    let high = c.if-i-both.false in
    let addend = ap length c.c_literals.ensures.value in
    omega (arith, length-inputs_in c.args.self.now)

pub returns-else-i-both : goal.returns-else-i-both
returns-else-i-both c =
    let s = c.args.self.now in
    let k = c.args.i - (length s.a + length s.b) in
    let ls = c.c_literals.result.now in
    let d : Lit = record { 0 = 0 } in
    let low = c.requires.in_range in
    let a = c.a_width.ensures.value in
    let b = c.b_width.ensures.value in
    let high = c.if-i-both.false in
    let addend = ap length c.c_literals.ensures.value in
    let below : k < length ls = omega (arith, length-inputs_in s) in
    let place : c.args.i - (c.a_width.result + c.b_width.result) ≡ k = omega arith in
    subst (λ j. slice_get (inputs_in s) c.args.i ≡ Some (get_or ls j d)) {x = k} (omega arith)
    (addend_at s c.args.i (get_or ls k d) k (omega arith) (subst (λ xs. slice_get xs k ≡ Some (get_or ls k d)) c.c_literals.ensures.value (slice_get-get_or ls k d below)))
