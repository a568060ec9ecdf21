use Rattle.std.proofs.Common.{◌≡◌, ◌<◌, ◌-◌, get_or, length, sym, ap, subst, ◌∙◌, arith, true≢false}
use Rattle.poly_terms.specs.Chains.{chain_of}
use Rattle.poly_terms.proofs.Chaining.{before_above, before_at, links_fall}
use Rattle.poly_terms.proofs.chains.find_in.Goals as goal

pub loop-link-init : goal.loop-link-init
loop-link-init c =
    let heads = c.args.heads.now in
    let count = length heads in
    let chain : c.chain_of.result ≡ chain_of count c.args.monomial.now = c.chain_of.ensures.chain ∙ ap (λ n. chain_of n c.args.monomial.now) c.len.ensures in
    let at : c.at-link.result ≡ get_or heads c.chain_of.result 0 = c.at-link.ensures in
    record {
      at = λ n is. let o = c.requires.linked.head c.chain_of.result n (sym at ∙ is) in (o.0, o.1 ∙ chain);
      above = λ n h is.
          let low : n < length c.args.links.now = omega (arith, c.requires.long, h) in
          let up = subst (λ d. n < get_or heads d 0) (ap (chain_of count) is ∙ sym chain) (c.requires.linked.below_head n low) in
          omega (arith, up, at);
    }

pub at-requires : goal.at-requires
at-requires c = let o = c.loop-link.invariant.at (c.loop-link.link - 1) (omega (arith, c.loop-link-test.true)) in omega (arith, o.0, c.requires.long)

pub returns-then-are_same-clause-some : goal.returns-then-are_same-clause-some
returns-then-are_same-clause-some c =
    let k = c.loop-link.link - 1 in
    record {
      in_table = let o = c.loop-link.invariant.at k (omega (arith, c.loop-link-test.true)) in omega (arith, o.0, c.requires.long);
      monomial = c.at.ensures ∙ c.are_same.ensures.0 c.if-are_same.true;
    }

pub loop-link-smaller : goal.loop-link-smaller
loop-link-smaller c =
    let k = c.loop-link.link - 1 in
    let o = c.loop-link.invariant.at k (omega (arith, c.loop-link-test.true)) in
    let falls = links_fall (length c.args.heads.now) _ c.args.heads.now c.args.links.now k c.requires.linked o.0 in
    omega (arith, falls, c.loop-link-test.true, c.at-link-in-loop-link.ensures)

pub loop-link-preserved : goal.loop-link-preserved
loop-link-preserved c =
    let k = c.loop-link.link - 1 in
    let m = c.args.monomial.now in
    let heads = c.args.heads.now in
    let links = c.args.links.now in
    let linked = c.requires.linked in
    let o = c.loop-link.invariant.at k (omega (arith, c.loop-link-test.true)) in
    let next = c.at-link-in-loop-link.ensures in
    record {
      at = λ n is. before_at (length heads) _ heads links m k linked o.0 o.1 n (sym next ∙ is);
      above = λ n h is.
          let up = c.loop-link.invariant.above n h is in
          let down = before_above (length heads) _ heads links m k linked o.0 o.1 (λ same. true≢false (sym (c.are_same.ensures.1 (sym c.at.ensures ∙ same)) ∙ c.if-are_same.false)) n (omega (arith, up, c.loop-link-test.true)) is in
          omega (arith, down, next);
    }
