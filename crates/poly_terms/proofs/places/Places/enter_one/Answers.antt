use Rattle.poly_terms.proofs.Entering.{enters_item}
use Rattle.poly_terms.proofs.places.Places.enter_one.Goals as goal

pub returns : goal.returns
returns c =
    enters_item c.args.number c.args.v c.args.self.now c.reach.new.self c.self.inside.by_variable.items c.index_mut.result.now c.push.new.self c.self.view_is c.in_ok-reach.ensures.same
    c.in_ok-reach.ensures.long c.index_mut.ensures.value c.in_ok-push.ensures.pushed
