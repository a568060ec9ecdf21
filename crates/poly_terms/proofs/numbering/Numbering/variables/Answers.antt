use Rattle.std.proofs.Common.{◌<◌, length, ap, subst, arith}
use Rattle.algebra_core.specs.NormalForm.{AreRising}
use Rattle.poly_terms.proofs.Values.{rises}
use Rattle.poly_terms.proofs.numbering.Numbering.variables.Goals as goal

pub returns-clause-rising : goal.returns-clause-rising
returns-clause-rising c =
    let ms = c.self.inside.monomials in
    let low : c.args.number < length ms = omega (arith, c.requires, ap length c.self.view_is) in
    subst (AreRising 0) c.variables.ensures (rises ms c.args.number c.self.invariant low)
