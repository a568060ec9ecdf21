use Rattle.std.proofs.Common.{◌*◌, ◌^◌, sym, subst}
use Rattle.std.proofs.lemmas.Result.{on_ok_weaker}
use Rattle.poly_terms.specs.Indexed.{terms_from}
use Rattle.poly_terms.specs.Monomials.{Adds, total_in}
use Rattle.poly_terms.specs.Tables.{IsOf, table_of}
use Rattle.poly_terms.proofs.PolySums.{gained-of}
use Rattle.poly_terms.proofs.poly_sum.PolySum.add_products.Goals as goal

pub returns-clause-of : goal.returns-clause-of
returns-clause-of c =
    let w = c.args.width in
    let old = c.args.table.now in
    on_ok_weaker c.add_products.result
    (λ gains of.
    gained-of w old c.add_products.new.table c.self.inside.coefficients c.add_products.new.coefficients (λ σ. total_in old σ c.args.left.now * total_in old σ c.args.right.now) c.add_products.ensures.grows gains
    (subst (IsOf (table_of w old)) (sym c.self.view_is) of))
    c.add_products.ensures.gains

pub returns-clause-adds : goal.returns-clause-adds
returns-clause-adds c =
    let old = c.args.table.now in
    let new = c.add_products.new.table in
    let after = terms_from 0 c.add_products.new.coefficients in
    on_ok_weaker c.add_products.result
    (λ gains. subst (λ before. Adds (2 ^ c.args.width) old new before after (λ σ. total_in old σ c.args.left.now * total_in old σ c.args.right.now)) c.self.view_is gains.adds)
    c.add_products.ensures.gains
