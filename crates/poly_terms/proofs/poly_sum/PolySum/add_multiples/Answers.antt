use Rattle.std.proofs.Common.{◌*◌, ◌^◌, sym, subst}
use Rattle.std.proofs.lemmas.Result.{on_ok_weaker}
use Rattle.algebra_core.specs.Polynomials.{sum_of}
use Rattle.poly_terms.specs.Indexed.{terms_from}
use Rattle.poly_terms.specs.Monomials.{Adds, total_in}
use Rattle.poly_terms.specs.Tables.{IsOf, said, table_of}
use Rattle.poly_terms.proofs.PolySums.{gained-of}
use Rattle.poly_terms.proofs.poly_sum.PolySum.add_multiples.Goals as goal

pub returns-clause-of : goal.returns-clause-of
returns-clause-of c =
    let w = c.args.width in
    let old = c.args.table.now in
    on_ok_weaker c.add_multiples.result
    (λ gains of.
    gained-of w old c.add_multiples.new.table c.self.inside.coefficients c.add_multiples.new.coefficients (λ σ. total_in old σ c.args.entries.now * sum_of (2 ^ w) (said c.args.parts.now) σ) c.add_multiples.ensures.grows gains
    (subst (IsOf (table_of w old)) (sym c.self.view_is) of))
    c.add_multiples.ensures.gains

pub returns-clause-adds : goal.returns-clause-adds
returns-clause-adds c =
    let m = 2 ^ c.args.width in
    let old = c.args.table.now in
    let new = c.add_multiples.new.table in
    let after = terms_from 0 c.add_multiples.new.coefficients in
    on_ok_weaker c.add_multiples.result
    (λ gains. subst (λ before. Adds m old new before after (λ σ. total_in old σ c.args.entries.now * sum_of m (said c.args.parts.now) σ)) c.self.view_is gains.adds)
    c.add_multiples.ensures.gains
