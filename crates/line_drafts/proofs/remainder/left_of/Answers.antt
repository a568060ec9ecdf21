use Rattle.std.proofs.Common.{◌≡◌, ◌+◌, ◌*◌, ◌%◌, ap, ap₂, refl, subst, sym, ◌∙◌}
use Rattle.std.proofs.Math.Nat.{mod-mod}
use Rattle.graph_core.specs.Graph.{Aig}
use Rattle.graph_core.specs.Graph.Extended.{modulus, without_cut}
use Rattle.algebra_core.specs.AlgebraLines.{specification}
use Rattle.algebra_core.specs.Polynomials.{difference, sum_of}
use Rattle.algebra_core.proofs.CallerLemmas.{modulus_pos}
use Rattle.frontier_core.specs.LastFrontier.{IsOverInputs}
use Rattle.poly_terms.specs.Laws.{modulus_stays, value_stays}
use Rattle.poly_terms.specs.Tables.{modulus_in, monomials_in, value_in}
use Rattle.line_drafts.proofs.Leaving.{taken_again}
use Rattle.line_drafts.proofs.remainder.left_of.Goals as goal

pub returns-clause-left : goal.returns-clause-left
returns-clause-left c =
    let e = c.args.extended.now in
    let s = c.args.operands.now in
    let m = modulus e in
    let t0 = c.args.terms.now in
    let t1 = c.spec_poly.new.terms in
    let t = c.add.new.self in
    let total = c.args.total.now in
    let poly = c.in_ok-poly.poly in
    let less = c.minus_one-less.result in
    let same : modulus_in t1 ≡ m = modulus_stays t0 t1 c.in_ok-spec.ensures.extends ∙ c.requires.same_modulus in
    let lits = c.input_literals.ensures.value ∙ ap (λ (g : Aig). g.inputs) c.graph-graph.ensures in
    record {
      of = c.in_ok-poly.ensures.of;
      over = subst (λ ls. IsOverInputs ls (monomials_in t poly)) lits (c.if-not-is_over.ensures refl);
      left = λ σ.
          let spec : value_in t1 c.in_ok-spec.spec σ ≡ specification e s σ = c.in_ok-spec.ensures.value σ ∙ ap (λ g. specification (without_cut g) s σ) c.graph-graph.ensures in
          let value = value_in t0 total σ in
          let opposite : value_in t1 c.in_ok-opposite.opposite σ ≡ (less * value) % m =
          c.in_ok-opposite.ensures.value σ ∙ ap₂ (λ v n. (less * v) % n) (value_stays t0 t1 total σ c.in_ok-spec.ensures.extends c.requires.total) same in
          let left : value_in t poly σ ≡ (specification e s σ + (less * value) % m) % m =
          c.in_ok-poly.ensures.value σ ∙ ap₂ (λ v n. v % n) (ap₂ ◌+◌ spec opposite) same in
          let once : value % m ≡ value = ap (λ n. value % n) (sym c.requires.same_modulus) ∙ mod-mod (sum_of (modulus_in t0) (monomials_in t0 total) σ) (modulus_in t0) in
          sym (ap (difference m (specification e s σ)) left ∙ taken_again m (specification e s σ) value less (modulus_pos e) (ap (λ n. (less + 1) % n) (sym same) ∙ c.minus_one-less.ensures) ∙ once);
    }
