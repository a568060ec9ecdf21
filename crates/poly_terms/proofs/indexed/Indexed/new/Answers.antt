use Rattle.std.proofs.Common.{ap, sym, subst, ◌∙◌}
use Rattle.poly_terms.specs.Indexed.{terms_from}
use Rattle.poly_terms.specs.Monomials.{AreMonomials}
use Rattle.poly_terms.specs.Tables.{IsOf, value_in}
use Rattle.poly_terms.proofs.Indexing.{zero-value, zero_indexed, zero_of}
use Rattle.poly_terms.proofs.indexed.Indexed.new.Goals as goal

pub returns-clause-of : goal.returns-clause-of
returns-clause-of c =
    let t = c.args.terms.now in
    subst (λ cs. IsOf t (terms_from 0 cs)) (sym c.new.ensures) (zero_of t (subst AreMonomials c.numbering.ensures c.stand_once.ensures))

pub returns-clause-indexed : goal.returns-clause-indexed
returns-clause-indexed c = zero_indexed c.args.terms.now _ (ap (terms_from 0) c.new.ensures)

pub returns-clause-value : goal.returns-clause-value
returns-clause-value c σ = ap (λ cs. value_in c.args.terms.now (terms_from 0 cs) σ) c.new.ensures ∙ zero-value c.args.terms.now σ
