use Rattle.std.proofs.Common.{◌≡◌, sym, subst}
use Rattle.frontier_core.specs.LastFrontier.{IsOverInputs}
use Rattle.frontier_core.specs.LeastDifference.{AreInputs, IsLeastNonzero}
use Rattle.graph_core.specs.Graph.Assignments.{Assignment}
use Rattle.graph_core.specs.Graph.Operands.{AreInRange, Sides, inputs_at, inputs_in}
use Rattle.poly_terms.specs.Tables.{Table, monomials_in, value_in}
use Rattle.joint_prover.specs.Endings.{AreLeast, IsProof, replacement_named}
use Rattle.joint_prover.proofs.Remainders.{operands_are, remainder_proves, rest_closes, rest_inputs, rest_over, witness_is_least}
use Rattle.joint_prover.proofs.reduction.end_plan.Goals as goal

pub least-requires-clause-inputs : goal.least-requires-clause-inputs
least-requires-clause-inputs c =
    let h = c.requires.left in
    subst (λ s. AreInputs (inputs_in s)) (sym c.operands.ensures) (rest_inputs h.0 h.1 c.args.lines c.args.poly.now c.args.id h.4)

pub least-requires-clause-over : goal.least-requires-clause-over
least-requires-clause-over c =
    let h = c.requires.left in
    subst (λ s. IsOverInputs (inputs_in s) (monomials_in c.terms.result.now c.args.poly.now)) (sym c.operands.ensures)
    (subst (λ t. IsOverInputs (inputs_in c.args.lines.sides) (monomials_in t c.args.poly.now)) (sym c.terms.ensures.table)
    (rest_over h.0 h.1 c.args.lines c.args.poly.now c.args.id h.4))

pub refute-requires-clause-least : goal.refute-requires-clause-least
refute-requires-clause-least c =
    let h = c.requires.left in
    let job = c.args.job.now in
    let l = c.args.lines in
    let x = c.in-Some.numbers in
    let P : Table → Sides → Type 0 = λ t s. IsLeastNonzero (value_in t c.args.poly.now) (inputs_in s) (inputs_at s x) in
    let at : P l.table l.sides = subst (λ t. P t l.sides) c.terms.ensures.table (subst (P c.terms.result.now) c.operands.ensures c.in-Some.ensures.some) in
    subst (λ t. AreLeast job.graph.now t x) (sym (operands_are job c.requires.job))
    (witness_is_least h.0 h.1 l c.args.poly.now c.args.id h.4 job.graph.now job.task.claim (replacement_named c.args.shown) h.3 h.2 x at (subst (λ s. AreInRange s x) c.operands.ensures c.in-Some.ensures.range))

pub close-requires-clause-closes : goal.close-requires-clause-closes
close-requires-clause-closes c =
    let h = c.requires.left in
    rest_closes h.0 h.1 c.args.lines c.args.poly.now c.args.id h.4 c.last-last.ensures.lawful
    (subst (λ t. (σ : Assignment) → value_in t c.args.poly.now σ ≡ 0) c.terms.ensures.table (c.least.ensures.none.0 c.in-None.is))

pub prove-requires-clause-proof : goal.prove-requires-clause-proof
prove-requires-clause-proof c =
    let h = c.requires.left in
    let job = c.args.job.now in
    let cut = replacement_named c.args.shown in
    let zero = subst (λ t. (σ : Assignment) → value_in t c.args.poly.now σ ≡ 0) c.terms.ensures.table (c.least.ensures.none.0 c.in-None.is) in
    subst (IsProof job.graph.now job.task.claim cut) (sym c.close.ensures)
    (remainder_proves h.0 h.1 c.args.lines c.args.poly.now c.args.id h.4 job.graph.now job.task.claim cut h.3 h.2 c.last-last.ensures.lawful zero)
