use Rattle.std.specs.Prelude.{IfSome, List}
use Rattle.std.specs.List.{All}
use Rattle.std.proofs.Common.{◌≡◌, ◌*◌, ◌%◌, ◌<◌, ◌∙◌, length, refl, ap, subst, arith, rules}
use Rattle.std.proofs.Math.Nat.{mod-mod}
use Rattle.algebra_core.specs.AlgebraLines.{LiveLine}
use Rattle.algebra_core.specs.Polynomials.{sum_of}
use Rattle.poly_terms.specs.Tables.{modulus_in, monomials_in, value_in}
use Rattle.line_drafts.specs.Drafts.{IsKnownIn, IsOpen}
use Rattle.line_drafts.proofs.line.line_from.Goals as goal

pub returns-clause-ready : goal.returns-clause-ready
returns-clause-ready c live all =
    let t0 = c.args.terms.now in
    let t = c.opened.new.terms in
    let o = c.in-Some.open in
    let poly = c.in_ok-poly.poly in
    let opens : IsOpen c.args.max t live o =
    subst (λ r. IfSome r (λ o. (live : List LiveLine) → All (IsKnownIn t0 live) c.args.known.now → IsOpen c.args.max t live o)) c.in-Some.is c.in_ok-open.ensures.opened live all in
    let some : 0 < length o.parts.items = search rules in
    record {
      over = record { some = some; factors = opens.over; stated = (c.in_ok-poly.ensures.of, c.if-not-is_up_to.ensures refl) };
      spare = opens.spare;
      equal = λ σ. c.in_ok-poly.ensures.value σ ∙ opens.sum σ;
      copy_of = c.in_ok-copy.ensures.of;
      copy = λ σ.
          let one : 1 * value_in t poly σ ≡ value_in t poly σ = omega arith in
          c.in_ok-copy.ensures.value σ ∙ ap (λ n. n % modulus_in t) one ∙ mod-mod (sum_of (modulus_in t) (monomials_in t poly) σ) (modulus_in t);
    }
