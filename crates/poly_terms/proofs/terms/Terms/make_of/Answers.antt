use Rattle.std.proofs.Common.{◌^◌, [], ap, subst, ◌∙◌}
use Rattle.algebra_core.specs.Polynomials.{sum_of, value}
use Rattle.poly_terms.specs.Monomials.{Adds}
use Rattle.poly_terms.specs.Tables.{Table, modulus_in, said}
use Rattle.poly_terms.proofs.Made.{made-IsOf, made-value}
use Rattle.poly_terms.proofs.terms.Terms.make_of.Goals as goal

pub returns-clause-of : goal.returns-clause-of
returns-clause-of c =
    let w = c.self.inside.exponent in
    let new = c.entries_of.new.table in
    let raw = c.in_ok-raw.raw.items in
    made-IsOf w new raw c.in_ok-entries.entries.items c.of.result c.of.ensures c.stand_once.ensures ((c.in_ok-raw.ensures.adds (2 ^ w)).numbers tt) c.in_ok-entries.ensures

pub returns-clause-value : goal.returns-clause-value
returns-clause-value c σ =
    let w = c.self.inside.exponent in
    let old = c.self.inside.monomials in
    let new = c.entries_of.new.table in
    let raw = c.in_ok-raw.raw.items in
    let parts = c.args.parts.items in
    let adds = subst (λ ps. Adds (2 ^ w) old new [] raw (λ σ. sum_of (2 ^ w) (said ps) σ)) c.deref.ensures.value (c.in_ok-raw.ensures.adds (2 ^ w)) in
    made-value w old new (λ σ. sum_of (2 ^ w) (said parts) σ) raw c.in_ok-entries.entries.items c.of.result σ c.of.ensures adds c.in_ok-entries.ensures ∙
    ap (λ (u : Table). value (modulus_in u) (said parts) σ) c.self.view_is
