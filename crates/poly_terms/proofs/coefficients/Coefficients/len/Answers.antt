use Rattle.std.proofs.Common.{ap, sym, length, arith}
use Rattle.poly_terms.proofs.Blocks.{joined_length}
use Rattle.poly_terms.proofs.coefficients.Coefficients.len.Goals as goal

pub returns : goal.returns
returns c = omega (arith, c.len.ensures, joined_length c.self.inside.blocks.items c.self.invariant.whole, ap length c.self.view_is)
