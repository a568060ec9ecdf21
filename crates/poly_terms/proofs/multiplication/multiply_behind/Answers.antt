use Rattle.std.proofs.Common.{ℕ, ◌*◌, ◌^◌, ◌<◌, ◌+◌, [], get_or, length, take, refl, mul-zero, subst}
use Rattle.graph_core.specs.Graph.Assignments.{Assignment}
use Rattle.algebra_core.specs.Polynomials.{product}
use Rattle.poly_terms.specs.Monomials.{total_in, Adds}
use Rattle.poly_terms.specs.Laws.{grows_itself, grows_on, in_grown}
use Rattle.poly_terms.proofs.Adding.{adds_none, adds_on, all_at, one_more_product}
use Rattle.poly_terms.proofs.Ends.{not_done}
use Rattle.std.proofs.lemmas.List.{take_all}
use Rattle.poly_terms.specs.Entries.{Sum}
use Rattle.poly_terms.proofs.multiplication.multiply_behind.Goals as goal

pub push_product-requires-clause-entry : goal.push_product-requires-clause-entry
push_product-requires-clause-entry c =
    let old = c.args.table.now in
    let e = c.entry-item.result in
    in_grown old c.loop-entry.table e.0 c.loop-entry.invariant.grows
    (all_at (λ x. x.0 < length old) c.args.entries.now c.loop-entry.entry-index e c.loop-entry-test.true c.entry-item.is c.requires.entries)

pub loop-entry-init : goal.loop-entry-init
loop-entry-init c =
    let old = c.args.table.now in
    let out = c.reserve.new.self.items in
    record {
      grows = grows_itself old;
      adds = adds_none (2 ^ c.args.exponent) old old out out (λ σ. c.args.coefficient * product σ c.args.monomial.now * total_in old σ (take 0 c.args.entries.now)) (grows_itself old) refl
          (λ σ. mul-zero (c.args.coefficient * product σ c.args.monomial.now));
    }

pub loop-entry-preserved : goal.loop-entry-preserved
loop-entry-preserved c =
    let old = c.args.table.now in
    let mid = c.loop-entry.table in
    let new = c.push_product.new.table in
    let e = c.entry-item.result in
    let es = c.args.entries.now in
    let i = c.loop-entry.entry-index in
    let at = c.loop-entry.invariant in
    let a : Assignment → ℕ = λ σ. c.args.coefficient * product σ c.args.monomial.now in
    record {
      grows = grows_on old mid new at.grows c.push_product.ensures.grows;
      adds = adds_on (2 ^ c.args.exponent) old mid new c.reserve.new.self.items c.loop-entry.out.items c.push_product.new.out.items
          (λ σ. a σ * total_in old σ (take i es)) (λ σ. a σ * (e.1 * product σ (get_or mid e.0 []))) (λ σ. a σ * total_in old σ (take (i + 1) es))
          at.adds c.in_ok-push_product.ensures.adds
          (λ σ. one_more_product old mid (a σ) σ es i e at.grows c.requires.entries c.loop-entry-test.true c.entry-item.is);
    }

pub returns-in_err-reserve-clause-grows : goal.returns-in_err-reserve-clause-grows
returns-in_err-reserve-clause-grows c = grows_itself c.args.table.now

pub returns-in_err-reserve-clause-adds : goal.returns-in_err-reserve-clause-adds
returns-in_err-reserve-clause-adds c = not_done _ _ c.from_residual.result c.from_residual.ensures.1

pub returns-in_err-push_product-clause-grows : goal.returns-in_err-push_product-clause-grows
returns-in_err-push_product-clause-grows c = grows_on c.args.table.now c.loop-entry.table c.push_product.new.table c.loop-entry.invariant.grows c.push_product.ensures.grows

pub returns-in_err-push_product-clause-adds : goal.returns-in_err-push_product-clause-adds
returns-in_err-push_product-clause-adds c = not_done _ _ c.from_residual-in_err-push_product.result c.from_residual-in_err-push_product.ensures.1

pub returns-clause-grows : goal.returns-clause-grows
returns-clause-grows c = c.loop-entry.invariant.grows

pub returns-clause-adds : goal.returns-clause-adds
returns-clause-adds c =
    let old = c.args.table.now in
    let P : Sum → Sum → Type 0 =
    λ os es. Adds (2 ^ c.args.exponent) old c.loop-entry.table os c.loop-entry.out.items (λ σ. c.args.coefficient * product σ c.args.monomial.now * total_in old σ es) in
    subst (λ os. P os c.args.entries.now) c.reserve.ensures.items
    (subst (P c.reserve.new.self.items) (take_all c.loop-entry.entry-index c.args.entries.now c.loop-entry-test.false) c.loop-entry.invariant.adds)
