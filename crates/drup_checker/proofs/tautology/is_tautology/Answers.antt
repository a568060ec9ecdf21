use Rattle.std.proofs.Common.{◌≡◌, ◌<◌, ◌+◌, ◌-◌, ◌<ℤ◌, ℕ, List, ℤ, SFits, neg_ℤ, length, sym, ap, subst, arith, rules, of_z, w32}
use Rattle.std.proofs.lemmas.Int.{to_z-of_z}
use Rattle.clause_core.proofs.CallerLemmas.{at}
use Rattle.drup_checker.proofs.Tautologies.{ArePairsBetween, less_false, less_true, no_pair, pairs_before, pairs_behind}
use Rattle.drup_checker.proofs.tautology.is_tautology.Goals as goal

pub pairs-preserved-then-lits-front-2 : goal.pairs-preserved-then-lits-front-2
pairs-preserved-then-lits-front-2 c =
    let lits = c.args.clause.now in
    let front = c.pairs.front in
    let last : ℕ = c.pairs.back - 1 in
    let same : c.lits-lits.result.now ≡ c.args.clause.now = c.lits-lits.ensures.value in
    let one : c.pairs.back ≡ last + 1 = omega (arith, c.pairs-test.true) in
    let within : last < length c.args.clause.now = omega (arith, c.pairs-test.true, c.pairs.invariant.within) in
    let fits_front : SFits w32 (at c.lits-lits.result.now c.pairs.front) = search rules in
    let fits_last : SFits w32 (at c.lits-lits.result.now (c.pairs.back - 1)) = search rules in
    let fits_opposite : SFits w32 c.negation-opposite.result = search rules in
    let opposite : c.negation-opposite.result ≡ neg_ℤ (at c.lits-lits.result.now (c.pairs.back - 1)) = rw to_z-of_z at c.negation-opposite.ensures in
    let less : at c.lits-lits.result.now c.pairs.front <ℤ c.negation-opposite.result = less_true _ _ (simp to_z-of_z at c.if-lits-front-2.true) in
    let low = subst (λ (xs : List ℤ). at xs front <ℤ neg_ℤ (at xs last)) same (subst (λ (l : ℤ). at c.lits-lits.result.now front <ℤ l) opposite less) in
    let moved = pairs_behind lits c.lits-lits.ensures.clause.rising front last (omega (arith, c.pairs-test.true)) within (subst (ArePairsBetween lits front) one c.pairs.invariant.pairs) low in
    record { within = c.pairs.invariant.within; pairs = subst (ArePairsBetween lits (front + 1)) (sym one) moved }

pub pairs-preserved : goal.pairs-preserved
pairs-preserved c =
    let lits = c.args.clause.now in
    let front = c.pairs.front in
    let last : ℕ = c.pairs.back - 1 in
    let same : c.lits-lits.result.now ≡ c.args.clause.now = c.lits-lits.ensures.value in
    let one : c.pairs.back ≡ last + 1 = omega (arith, c.pairs-test.true) in
    let within : last < length c.args.clause.now = omega (arith, c.pairs-test.true, c.pairs.invariant.within) in
    let fits_front : SFits w32 (at c.lits-lits.result.now c.pairs.front) = search rules in
    let fits_last : SFits w32 (at c.lits-lits.result.now (c.pairs.back - 1)) = search rules in
    let fits_opposite : SFits w32 c.negation-opposite.result = search rules in
    let opposite : c.negation-opposite.result ≡ neg_ℤ (at c.lits-lits.result.now (c.pairs.back - 1)) = rw to_z-of_z at c.negation-opposite.ensures in
    let more : c.negation-opposite.result <ℤ at c.lits-lits.result.now c.pairs.front = less_false _ _ (simp to_z-of_z at c.if-lits-front-2.false) (λ e. c.if-lits-front.false (ap (of_z w32) e)) in
    let high = subst (λ (xs : List ℤ). neg_ℤ (at xs last) <ℤ at xs front) same (subst (λ (l : ℤ). l <ℤ at c.lits-lits.result.now front) opposite more) in
    record {
      within = omega (arith, within);
      pairs = pairs_before lits c.lits-lits.ensures.clause.rising front last (omega (arith, c.pairs-test.true)) within (subst (ArePairsBetween lits front) one c.pairs.invariant.pairs) high;
    }

pub returns : goal.returns
returns c =
    (λ e. absurd (cc), λ t. absurd (no_pair c.args.clause.now c.pairs.front c.pairs.back c.lits-lits.ensures.clause (omega arith) c.pairs.invariant.pairs t))
