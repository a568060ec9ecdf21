use Rattle.std.proofs.Common.{◌≡◌, ◌*◌, ◌%◌, ap, ◌∙◌, arith}
use Rattle.std.proofs.Math.Nat.{mod-mod}
use Rattle.algebra_core.specs.Polynomials.{sum_of}
use Rattle.poly_terms.specs.Tables.{modulus_in, monomials_in, value_in}
use Rattle.column_reducer.proofs.gate_part.divided.Goals as goal

pub returns-in-None-clause-value : goal.returns-in-None-clause-value
returns-in-None-clause-value c σ =
    let t = c.args.terms.now in
    let m = modulus_in t in
    let n = value_in t c.args.p σ in
    ap (λ k. k % m) (let e : 1 * n ≡ n = omega arith in e) ∙ mod-mod (sum_of m (monomials_in t c.args.p) σ) m
