use Rattle.std.proofs.Common.{length, refl, ap, sym, ◌∙◌}
use Rattle.std.proofs.lemmas.List.{length-map}
use Rattle.poly_terms.specs.Indexed.{IndexedSum}
use Rattle.poly_terms.specs.Tables.{monomials_in, monomial_in}
use Rattle.poly_terms.proofs.Values.{normal}
use Rattle.poly_terms.proofs.indexed.Indexed.size.Goals as goal

pub returns-clause-size : goal.returns-clause-size
unfolding monomials_in
returns-clause-size c t h =
    let p = c.args.self.now.sum in
    (monomials_in t p, normal t p h, λ σ. refl, length-map p (monomial_in t) ∙ sym (c.count.ensures ∙ ap (λ (x : IndexedSum). length x.sum) c.self.view_is))
