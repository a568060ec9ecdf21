use Rattle.std.proofs.Common.{◌^◌, subst}
use Rattle.poly_terms.proofs.PolySums.{added_more}
use Rattle.poly_terms.proofs.Ends.{not_done}
use Rattle.std.proofs.lemmas.List.{take_all}
use Rattle.poly_terms.specs.PolySums.{IsAdded}
use Rattle.poly_terms.proofs.poly_sum.add_all.Goals as goal

pub loop-entry-preserved : goal.loop-entry-preserved
loop-entry-preserved c = record {
  listed = c.in_ok-add_term.ensures.listed;
  added = added_more (2 ^ c.args.width) c.args.coefficients.now c.loop-entry.coefficients c.add_term.new.coefficients c.args.entries.now c.loop-entry.entry-index c.entry-item.result
      c.loop-entry-test.true c.entry-item.is c.loop-entry.invariant.added c.in_ok-add_term.ensures.added;
}

pub returns-in_err-add_term-clause-listed : goal.returns-in_err-add_term-clause-listed
returns-in_err-add_term-clause-listed c = c.add_term.ensures.listed

pub returns-in_err-add_term-clause-added : goal.returns-in_err-add_term-clause-added
returns-in_err-add_term-clause-added c = not_done _ _ c.from_residual.result c.from_residual.ensures.1

pub returns-clause-listed : goal.returns-clause-listed
returns-clause-listed c = c.loop-entry.invariant.listed

pub returns-clause-added : goal.returns-clause-added
returns-clause-added c =
    subst (IsAdded (2 ^ c.args.width) c.args.coefficients.now c.loop-entry.coefficients) (take_all c.loop-entry.entry-index c.args.entries.now c.loop-entry-test.false)
    c.loop-entry.invariant.added
