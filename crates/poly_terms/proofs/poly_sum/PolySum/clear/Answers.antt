use Rattle.std.proofs.Common.{◌≡◌, [], sym, subst}
use Rattle.poly_terms.specs.Indexed.{terms_from}
use Rattle.poly_terms.specs.Monomials.{AreMonomials}
use Rattle.poly_terms.specs.PolySums.{AreListed}
use Rattle.poly_terms.specs.Tables.{IsOf}
use Rattle.poly_terms.proofs.Indexing.{zero_of}
use Rattle.poly_terms.proofs.PolySums.{nothing_left}
use Rattle.poly_terms.proofs.poly_sum.PolySum.clear.Goals as goal

none_left : (c : goal.After-clear) → terms_from 0 c.clear_all.new.coefficients ≡ []
none_left c =
    let listed : AreListed c.self.inside.coefficients c.deref.result.now = subst (AreListed c.self.inside.coefficients) (sym c.deref.ensures.value) c.self.invariant in
    nothing_left c.self.inside.coefficients c.clear_all.new.coefficients c.deref.result.now listed c.clear_all.ensures.less c.clear_all.ensures.gone

pub returns-clause-none : goal.returns-clause-none
returns-clause-none c = none_left c

pub returns-clause-of : goal.returns-clause-of
returns-clause-of c = subst (IsOf c.args.terms.now) (sym (none_left c)) (zero_of c.args.terms.now (subst AreMonomials c.numbering.ensures c.stand_once.ensures))
