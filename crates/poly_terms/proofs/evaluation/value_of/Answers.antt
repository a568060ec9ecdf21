use Rattle.std.proofs.Common.{◌≡◌, ◌+◌, ◌%◌, ◌^◌, ℕ, [], get_or, ap, sym, ◌∙◌, arith, mod-lt}
use Rattle.graph_core.specs.Graph.Assignments.{bit, listed}
use Rattle.algebra_core.specs.Polynomials.{product}
use Rattle.poly_terms.proofs.Totals.{counted, not_counted}
use Rattle.std.proofs.lemmas.Nat.{pow_pos}
use Rattle.poly_terms.proofs.evaluation.value_of.Goals as goal
use Rattle.poly_terms.proofs.evaluation.value_of.Goals.{then-are_true, else-are_true}

pub loop-entry-preserved : goal.loop-entry-preserved
loop-entry-preserved c =
    let m = 2 ^ c.args.exponent in
    let t = c.args.table.now in
    let f = λ (k : ℕ). product (listed c.args.values.now) (get_or t k []) in
    let e = c.entry-item.result in
    let es = c.args.entries.now in
    let i = c.loop-entry.entry-index in
    let holds : bit c.are_true.result ≡ f e.0 = c.are_true.ensures ∙ sym (ap (product (listed c.args.values.now)) (ap (λ k. get_or t k []) (sym c.number.ensures) ∙ c.variables.ensures.value)) in
    record {
      below = elim c.if-are_true.branch [ then-are_true w ↦ rw (w.sum-is, w.sum-sum.ensures) (mod-lt _ (pow_pos c.args.exponent)) | else-are_true w ↦ omega arith ];
      same = (elim c.if-are_true.branch [
        | then-are_true w ↦
            counted m f c.loop-entry.sum c.if-are_true.sum es i e c.loop-entry-test.true c.entry-item.is (sym (ap bit w.if-are_true.true) ∙ holds)
            (w.sum-is ∙ w.sum-sum.ensures ∙ ap (λ n. (c.loop-entry.sum + n) % m) w.coefficient.ensures)
        | else-are_true w ↦
            not_counted m f c.loop-entry.sum c.if-are_true.sum es i e c.loop-entry-test.true c.entry-item.is (sym (ap bit w.if-are_true.false) ∙ holds) w.sum-is
      ]) ∙ c.loop-entry.invariant.same;
    }
