use Rattle.std.proofs.Common.{◌+◌, ◌*◌, ◌%◌, ap, ◌∙◌, mul_comm}
use Rattle.algebra_core.specs.Polynomials.{value}
use Rattle.poly_terms.specs.Laws.{extends_itself}
use Rattle.poly_terms.specs.Tables.{modulus_in, value_in}
use Rattle.gate_axioms.specs.LeftAxioms.{axiom_value}
use Rattle.gate_axioms.proofs.left_axioms.Axiom.add_times.Goals as goal

pub returns-clause-value : goal.returns-clause-value
returns-clause-value c σ =
    let t = c.args.terms.now in
    let m = modulus_in t in
    ap (λ s. value_in c.add_times.new.terms s σ) c.keep_room.ensures ∙
    c.in_ok-add_times.ensures.value σ ∙
    ap (λ s. (value_in t s σ + value_in t c.args.factor.now σ * value m c.in_ok-form.form σ) % m) c.take_room.ensures.same ∙
    ap (λ n. (value_in t c.args.sum.now σ + n) % m)
    (ap (λ n. value_in t c.args.factor.now σ * n) (c.in_ok-form.ensures σ) ∙ mul_comm (value_in t c.args.factor.now σ) (axiom_value m c.args.self.now σ))

pub returns-in_err-form-clause-extends : goal.returns-in_err-form-clause-extends
returns-in_err-form-clause-extends c = extends_itself c.args.terms.now
