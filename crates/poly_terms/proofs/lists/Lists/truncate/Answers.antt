use Rattle.std.proofs.Common.{◌<◌, length, take, sym, ap, ap₂, subst, ◌∙◌, arith}
use Rattle.poly_terms.specs.Lists.{AreEnds, lists_from}
use Rattle.poly_terms.proofs.Listing.{first_ends, first_lists, length_lists}
use Rattle.poly_terms.proofs.lists.Lists.truncate.Goals as goal

pub start_of-requires : goal.start_of-requires
start_of-requires c =
    let long = length_lists 0 c.self.inside.variables.items c.self.inside.ends in
    let is = ap length c.self.view_is in
    omega (arith, c.if-count-len.true, c.len.ensures, long, is)

pub invariant_of-self : goal.invariant_of-self
invariant_of-self c =
    let vs = c.self.inside.variables.items in
    let ends = c.self.inside.ends in
    let long = length_lists 0 vs ends in
    let is = ap length c.self.view_is in
    let low : c.args.count < length ends = omega (arith, c.if-count-len.true, c.len.ensures, long, is) in
    let first = first_lists 0 vs ends c.args.count c.self.invariant low in
    let cut = c.truncate.ensures.items ∙ ap (λ n. take n vs) c.start_of.ensures in
    rw (c.truncate-then-count-len.ensures, cut)
    (subst (λ n. AreEnds 0 n (take c.args.count ends)) (sym first.0) (first_ends 0 (length vs) ends c.args.count c.self.invariant (omega (arith, low))))

pub returns-then-count-len : goal.returns-then-count-len
returns-then-count-len c =
    let vs = c.self.inside.variables.items in
    let ends = c.self.inside.ends in
    let long = length_lists 0 vs ends in
    let is = ap length c.self.view_is in
    let low : c.args.count < length ends = omega (arith, c.if-count-len.true, c.len.ensures, long, is) in
    let first = first_lists 0 vs ends c.args.count c.self.invariant low in
    let cut = c.truncate.ensures.items ∙ ap (λ n. take n vs) c.start_of.ensures in
    ap₂ (lists_from 0) cut c.truncate-then-count-len.ensures ∙ first.1 ∙ ap (take c.args.count) c.self.view_is
