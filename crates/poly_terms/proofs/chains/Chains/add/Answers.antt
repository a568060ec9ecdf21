use Rattle.poly_terms.proofs.Chaining.{one_more}
use Rattle.poly_terms.proofs.chains.Chains.add.Goals as goal

pub invariant_of-self-in-Ok : goal.invariant_of-self-in-Ok
invariant_of-self-in-Ok c =
    let now = c.make_wide.new in
    rw (c.in_ok-push.ensures.pushed)
    (one_more c.self.inside.monomials now.heads now.links c.hang.new.heads c.hang.new.links c.args.monomial.now c.make_wide.ensures.chained c.in_ok-make_wide.ensures.wide c.in-Ok.ensures.hangs)
