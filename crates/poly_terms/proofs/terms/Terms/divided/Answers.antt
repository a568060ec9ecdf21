use Rattle.std.proofs.Common.{◌↔◌, ◌%◌, ◌^◌, ◌≢◌, IfSome, IsNone, false, true, subst}
use Rattle.std.specs.List.{Any}
use Rattle.poly_terms.specs.Entries.{IsQuotient}
use Rattle.poly_terms.specs.Tables.{modulus_in}
use Rattle.poly_terms.proofs.Scaled.{coefficients_below, none_in, quotient-IsOf, quotient-value, quotient-variables, quotient_in}
use Rattle.poly_terms.proofs.terms.Terms.divided.Goals as goal

pub quotients-requires-clause-below : goal.quotients-requires-clause-below
quotients-requires-clause-below c =
    coefficients_below c.self.inside.exponent c.self.inside.monomials c.args.self.now c.args.p.now c.entries.result.now c.self.view_is c.entries.ensures c.requires.of

pub returns-in-Some : goal.returns-in-Some
returns-in-Some c =
    let t = c.args.self.now in
    let w = c.self.inside.exponent in
    let by = 2 ^ c.args.k in
    let p = c.args.p.now in
    let p' = c.entries.result.now in
    let r = c.of.result in
    let is : IsQuotient (modulus_in t) by p r =
    quotient_in w by c.self.inside.monomials t p p' c.in-Some.entries.items r c.self.view_is c.entries.ensures c.of.ensures
    (subst (λ o. IfSome o (λ out. IsQuotient (2 ^ w) by p' out.items)) c.in-Some.is c.in_ok-divided.ensures.quotient) in
    record {
      of = quotient-IsOf t by p r c.requires.of is;
      value = λ σ. quotient-value t by p r σ is;
      variables = quotient-variables t by p r is;
      none =
          none_in true (λ n. n % by ≢ 0) t p p' c.entries.ensures
          (subst (λ o. IsNone o ↔ Any (λ e. e.1 % by ≢ 0) p') c.in-Some.is c.in_ok-divided.ensures.none);
    }

pub returns-in-None-clause-none : goal.returns-in-None-clause-none
returns-in-None-clause-none c =
    let by = 2 ^ c.args.k in
    let p' = c.entries.result.now in
    none_in false (λ n. n % by ≢ 0) c.args.self.now c.args.p.now p' c.entries.ensures
    (subst (λ o. IsNone o ↔ Any (λ e. e.1 % by ≢ 0) p') c.in-None.is c.in_ok-divided.ensures.none)
