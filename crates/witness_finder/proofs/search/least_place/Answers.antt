use Rattle.std.proofs.Common.{◌≡◌, ◌<◌, ℕ, true, false, List, length, get_or, arith, sym, subst, ◌∙◌, true≢false, ⊎_elim}
use Rattle.std.specs.List.{All}
use Rattle.std.proofs.lemmas.Bool.{cases_Bool}
use Rattle.std.proofs.lemmas.List.{get_or_default, take_all}
use Rattle.std.specs.Prelude.{MatchBool}
use Rattle.frontier_core.specs.LeastDifference.{Precedes}
use Rattle.poly_terms.specs.Tables.{modulus_in, monomials_in}
use Rattle.poly_terms.proofs.Values.{normal}
use Rattle.witness_finder.specs.Positions.{IsMonomialOver, IsNoLater, positions}
use Rattle.witness_finder.proofs.Searching.{IsBest, best_step, monomial_at, no_term, variables_at}
use Rattle.witness_finder.proofs.search.least_place.Goals as goal
use Rattle.witness_finder.proofs.search.least_place.Goals.{then-comes_before, else-comes_before}

pub comes_before-requires-clause-first : goal.comes_before-requires-clause-first
comes_before-requires-clause-first c =
    let ts = monomials_in c.args.terms.now c.args.poly.now in
    let test = c.loop-i-test.true in
    let size = c.size-i-end.ensures.monomials in
    let low : c.loop-i.i < length ts = omega arith in
    subst (IsMonomialOver c.args.operands.now) (variables_at ts c.loop-i.i no_term c.vars.result.now low c.vars.ensures)
    (monomial_at (modulus_in c.args.terms.now) c.args.operands.now ts c.loop-i.i no_term low (normal c.args.terms.now c.args.poly.now c.requires.of) c.requires.over)

pub comes_before-requires-clause-second : goal.comes_before-requires-clause-second
comes_before-requires-clause-second c =
    let ts = monomials_in c.args.terms.now c.args.poly.now in
    let low = c.loop-i.invariant.place in
    subst (IsMonomialOver c.args.operands.now) (variables_at ts c.loop-i.best no_term c.vars-in-loop-i.result.now low c.vars-in-loop-i.ensures)
    (monomial_at (modulus_in c.args.terms.now) c.args.operands.now ts c.loop-i.best no_term low (normal c.args.terms.now c.args.poly.now c.requires.of) c.requires.over)

pub loop-i-preserved : goal.loop-i-preserved
loop-i-preserved c =
    let s = c.args.operands.now in
    let ts = monomials_in c.args.terms.now c.args.poly.now in
    let i = c.loop-i.i in
    let best = c.loop-i.best in
    let r = c.comes_before.result in
    let test = c.loop-i-test.true in
    let size = c.size-i-end.ensures.monomials in
    let low : i < length ts = omega arith in
    let is_i : r ≡ true → c.if-comes_before.best ≡ i =
    elim c.if-comes_before.branch as (λ b. r ≡ true → c.if-comes_before.best ≡ i) [ then-comes_before w ↦ (λ t. w.best-is) | else-comes_before w ↦ (λ t. absurd (true≢false (sym t ∙ w.if-comes_before.false))) ] in
    let is_best : r ≡ false → c.if-comes_before.best ≡ best =
    elim c.if-comes_before.branch as (λ b. r ≡ false → c.if-comes_before.best ≡ best) [ then-comes_before w ↦ (λ f. absurd (true≢false (sym w.if-comes_before.true ∙ f))) | else-comes_before w ↦ (λ f. w.best-is) ] in
    record {
      place = ⊎_elim (λ t. subst (λ n. n < length ts) (sym (is_i t)) low) (λ f. subst (λ n. n < length ts) (sym (is_best f)) c.loop-i.invariant.place) (cases_Bool r);
      best = λ d.
          let here = variables_at ts i d c.vars.result.now low c.vars.ensures in
          let there = variables_at ts best d c.vars-in-loop-i.result.now c.loop-i.invariant.place c.vars-in-loop-i.ensures in
          let P : List ℕ → List ℕ → Type 0 = λ us vs. MatchBool r (Precedes (positions s us) (positions s vs)) (IsNoLater (positions s vs) (positions s us)) in
          best_step s ts i best d r low (subst (λ us. P us (get_or ts best d).variables) (sym here) (subst (λ vs. P c.vars.result.now vs) (sym there) c.comes_before.ensures))
          (c.loop-i.invariant.best d) c.if-comes_before.best is_i is_best;
    }

pub returns-clause-least : goal.returns-clause-least
returns-clause-least c d =
    let ts = monomials_in c.args.terms.now c.args.poly.now in
    let best = c.loop-i.best in
    let test = c.loop-i-test.false in
    let size = c.size-i-end.ensures.monomials in
    record {
      member = (best, c.loop-i.invariant.place, get_or_default ts best (get_or ts best d) d c.loop-i.invariant.place);
      least = subst (All (IsBest c.args.operands.now (get_or ts best d).variables)) (take_all c.loop-i.i ts (omega arith)) (c.loop-i.invariant.best d);
    }
