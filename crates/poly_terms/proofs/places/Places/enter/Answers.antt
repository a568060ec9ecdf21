use Rattle.std.proofs.Common.{get_or, subst}
use Rattle.std.proofs.lemmas.List.{get_or_default, take_all}
use Rattle.poly_terms.specs.Indexed.{Enters}
use Rattle.poly_terms.proofs.Entering.{enters_more, enters_none}
use Rattle.poly_terms.proofs.Ends.{not_done}
use Rattle.poly_terms.proofs.places.Places.enter.Goals as goal

pub returns-in_err-enter_one : goal.returns-in_err-enter_one
returns-in_err-enter_one c = not_done _ _ c.from_residual.result c.from_residual.ensures.1

pub returns : goal.returns
returns c = subst (λ vs. Enters c.args.number vs c.args.self.now c.loop-v.self) (take_all c.loop-v.v-index c.args.variables.now c.loop-v-test.false) c.loop-v.invariant

pub loop-v-init : goal.loop-v-init
loop-v-init c = enters_none c.args.number c.args.self.now

pub loop-v-preserved : goal.loop-v-preserved
loop-v-preserved c =
    let vs = c.args.variables.now in
    let i = c.loop-v.v-index in
    let v = get_or vs i 0 in
    enters_more c.args.number c.args.self.now c.loop-v.self c.enter_one.new.self vs i v c.loop-v-test.true (get_or_default vs i 0 v c.loop-v-test.true) c.loop-v.invariant c.in_ok-enter_one.ensures
