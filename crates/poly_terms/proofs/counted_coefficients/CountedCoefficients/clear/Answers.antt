use Rattle.std.proofs.Common.{◌<◌, length, ap, arith}
use Rattle.poly_terms.specs.Indexed.{counted, terms_from}
use Rattle.poly_terms.proofs.Sparse.{count-put, count_below, count_some, counted_none, counted_some}
use Rattle.poly_terms.proofs.counted_coefficients.CountedCoefficients.clear.Goals as goal

pub recount-self-inside-requires-clause-some : goal.recount-self-inside-requires-clause-some
recount-self-inside-requires-clause-some c some =
    let cs = c.self.inside.coefficients in
    let n = c.args.number in
    let low : n < length cs = omega (arith, c.requires, ap length c.self.view_is) in
    omega (arith, count_some 0 cs n low, ap counted c.at.ensures, counted_some c.at.result some, c.self.invariant)

pub recount-self-inside-requires-clause-room : goal.recount-self-inside-requires-clause-room
recount-self-inside-requires-clause-room c none =
    let cs = c.self.inside.coefficients in
    let n = c.args.number in
    let low : n < length cs = omega (arith, c.requires, ap length c.self.view_is) in
    omega (arith, count_below 0 cs n low, ap counted c.at.ensures, counted_none c.at.result none, c.self.invariant, c.len-length.ensures)

pub invariant_of-self : goal.invariant_of-self
invariant_of-self c =
    let cs = c.self.inside.coefficients in
    let n = c.args.number in
    let low : n < length cs = omega (arith, c.requires, ap length c.self.view_is) in
    let now = ap (λ ds. length (terms_from 0 ds)) c.clear.ensures in
    omega (arith, count-put 0 cs n 0 low, ap counted c.at.ensures, c.recount-self-inside.ensures, c.self.invariant, now)
