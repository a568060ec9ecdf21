use Rattle.std.proofs.Common.{◌*◌, ◌+◌, [], subst, take, arith}
use Rattle.std.proofs.lemmas.List.{take_all}
use Rattle.algebra_core.specs.Polynomials.{product, sum_of}
use Rattle.poly_terms.specs.Monomials.{Adds}
use Rattle.poly_terms.specs.Tables.{said}
use Rattle.poly_terms.specs.Laws.{grows_on, grows_itself}
use Rattle.poly_terms.proofs.Adding.{adds_on}
use Rattle.poly_terms.proofs.Given.{one_more_part}
use Rattle.poly_terms.proofs.Ends.{not_given}
use Rattle.poly_terms.proofs.parts.entries_of.Goals as goal

pub loop-coefficient-preserved : goal.loop-coefficient-preserved
loop-coefficient-preserved c =
    let old = c.args.table.now in
    let mid = c.loop-coefficient.table in
    let new = c.push_part.new.table in
    let parts = c.args.parts.now in
    let part = c.loop-coefficient-item.result in
    let vs = c.as_slice.result.now in
    let i = c.loop-coefficient.coefficient-index in
    let at = c.loop-coefficient.invariant in
    record {
      grows = grows_on old mid new at.grows c.push_part.ensures.grows;
      adds = λ m. adds_on m old mid new [] c.loop-coefficient.out.items c.push_part.new.out.items
          (λ σ. sum_of m (said (take i parts)) σ) (λ σ. part.0 * product σ vs) (λ σ. sum_of m (said (take (i + 1) parts)) σ)
          (at.adds m) (c.in_ok-push_part.ensures.adds m)
          (λ σ. one_more_part m σ parts i part vs c.loop-coefficient-test.true c.loop-coefficient-item.is c.as_slice.ensures);
    }

pub returns-clause-adds : goal.returns-clause-adds
returns-clause-adds c m =
    subst (λ ps. Adds m c.args.table.now c.loop-coefficient.table [] c.loop-coefficient.out.items (λ σ. sum_of m (said ps) σ))
    (take_all c.loop-coefficient.coefficient-index c.args.parts.now (omega arith)) (c.loop-coefficient.invariant.adds m)

pub returns-in_err-out-clause-grows : goal.returns-in_err-out-clause-grows
returns-in_err-out-clause-grows c = grows_itself c.args.table.now

pub returns-in_err-out-clause-adds : goal.returns-in_err-out-clause-adds
returns-in_err-out-clause-adds c = not_given _ _ c.from_residual.result c.from_residual.ensures.1

pub returns-in_err-push_part-clause-grows : goal.returns-in_err-push_part-clause-grows
returns-in_err-push_part-clause-grows c = grows_on c.args.table.now c.loop-coefficient.table c.push_part.new.table c.loop-coefficient.invariant.grows c.push_part.ensures.grows

pub returns-in_err-push_part-clause-adds : goal.returns-in_err-push_part-clause-adds
returns-in_err-push_part-clause-adds c = not_given _ _ c.from_residual-in_err-push_part.result c.from_residual-in_err-push_part.ensures.1

pub returns-clause-grows : goal.returns-clause-grows
returns-clause-grows c = c.loop-coefficient.invariant.grows
