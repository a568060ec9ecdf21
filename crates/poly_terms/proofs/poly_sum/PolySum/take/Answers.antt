use Rattle.std.proofs.Common.{◌≡◌, [], sym, subst}
use Rattle.poly_terms.specs.Indexed.{terms_from}
use Rattle.poly_terms.specs.PolySums.{AreListed}
use Rattle.poly_terms.proofs.PolySums.{all_gone, nothing_left, some_before, taken-of, taken-value}
use Rattle.poly_terms.proofs.Ends.{not_done, not_given}
use Rattle.poly_terms.proofs.poly_sum.PolySum.take.Goals as goal

listed : (c : goal.After-of) → AreListed c.self.inside.coefficients c.deref.result.now
listed c = subst (AreListed c.self.inside.coefficients) (sym c.deref.ensures.value) c.self.invariant

none_left : (c : goal.After-of) → terms_from 0 c.take_out.new.coefficients ≡ []
none_left c =
    nothing_left c.self.inside.coefficients c.take_out.new.coefficients c.deref.result.now (listed c) c.in_ok-raw.ensures.less c.in_ok-raw.ensures.gone

pub returns-clause-none : goal.returns-clause-none
returns-clause-none c = none_left c

pub returns-clause-of : goal.returns-clause-of
returns-clause-of c =
    taken-of c.args.terms.now c.exponent.result c.self.inside.coefficients c.take_out.new.coefficients c.args.self.now c.in_ok-raw.raw.items c.in_ok-entries.entries.items c.of.result
    c.self.view_is c.exponent.ensures.exponent c.requires c.in_ok-raw.ensures.taken (none_left c) c.in_ok-entries.ensures c.of.ensures

pub returns-clause-value : goal.returns-clause-value
returns-clause-value c =
    taken-value c.args.terms.now c.exponent.result c.self.inside.coefficients c.take_out.new.coefficients c.args.self.now c.in_ok-raw.raw.items c.in_ok-entries.entries.items c.of.result
    c.self.view_is c.exponent.ensures.exponent c.requires c.in_ok-raw.ensures.taken (none_left c) c.in_ok-entries.ensures c.of.ensures

pub returns-in_err-raw-clause-none : goal.returns-in_err-raw-clause-none
returns-in_err-raw-clause-none c = not_done _ _ c.from_residual.result c.from_residual.ensures.1

pub returns-in_err-raw-clause-of : goal.returns-in_err-raw-clause-of
returns-in_err-raw-clause-of c = not_given _ _ c.from_residual.result c.from_residual.ensures.1

pub returns-in_err-raw-clause-value : goal.returns-in_err-raw-clause-value
returns-in_err-raw-clause-value c = not_given _ _ c.from_residual.result c.from_residual.ensures.1

pub returns-in_err-entries-clause-none : goal.returns-in_err-entries-clause-none
returns-in_err-entries-clause-none c = not_done _ _ c.from_residual-in_err-entries.result c.from_residual-in_err-entries.ensures.1

pub returns-in_err-entries-clause-of : goal.returns-in_err-entries-clause-of
returns-in_err-entries-clause-of c = not_given _ _ c.from_residual-in_err-entries.result c.from_residual-in_err-entries.ensures.1

pub returns-in_err-entries-clause-value : goal.returns-in_err-entries-clause-value
returns-in_err-entries-clause-value c = not_given _ _ c.from_residual-in_err-entries.result c.from_residual-in_err-entries.ensures.1

pub invariant_of-self : goal.invariant_of-self
invariant_of-self c n some = c.self.invariant n (some_before c.self.inside.coefficients c.take_out.new.coefficients n c.take_out.ensures.less some)

pub invariant_of-self-in_err-entries : goal.invariant_of-self-in_err-entries
invariant_of-self-in_err-entries c n some =
    let listed : AreListed c.self.inside.coefficients c.deref.result.now = subst (AreListed c.self.inside.coefficients) (sym c.deref.ensures.value) c.self.invariant in
    absurd (all_gone c.self.inside.coefficients c.take_out.new.coefficients c.deref.result.now listed c.in_ok-raw.ensures.less c.in_ok-raw.ensures.gone n some)

pub invariant_of-self-2 : goal.invariant_of-self-2
invariant_of-self-2 c n some =
    absurd (all_gone c.self.inside.coefficients c.take_out.new.coefficients c.deref.result.now (listed c) c.in_ok-raw.ensures.less c.in_ok-raw.ensures.gone n some)
