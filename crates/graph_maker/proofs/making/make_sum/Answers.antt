use Rattle.std.proofs.Common.{◌≡◌, ◌*◌, length, sym, ap, subst, ◌∙◌, arith}
use Rattle.std.proofs.lemmas.Result.{IfOk-weaker}
use Rattle.graph_core.specs.declared.order.Order.TheVariants.{Separate}
use Rattle.graph_core.specs.declared.sign.Sign.TheVariants.{Unsigned}
use Rattle.graph_core.specs.declared.profile.Profile.TheVariants as profile
use Rattle.graph_core.specs.Aiger.{HasCounts, IsPacked}
use Rattle.graph_core.specs.Graph.{IsWellFormed}
use Rattle.graph_core.specs.Graph.Operands.{Does, adding, sum_width}
use Rattle.graph_core.specs.Aiger.Writing.{written}
use Rattle.graph_maker.specs.Made.{whole_graph}
use Rattle.graph_maker.specs.WithAddend.{made_sum, with_addend}
use Rattle.graph_maker.proofs.ProductOfWidths.{product_few}
use Rattle.graph_maker.proofs.SumsAdd.{made_sums_add}
use Rattle.graph_maker.proofs.SumsPacked.{sums_are_packed}
use Rattle.graph_maker.proofs.making.make_sum.Goals as goal

pub add_addend-requires-clause-room : goal.add_addend-requires-clause-room
add_addend-requires-clause-room c =
    omega (arith, ap (λ r. r.builder.last) c.in_ok-building.ensures, product_few (4 * c.args.bits) c.args.kind c.args.bits c.args.bits c.args.adder c.requires.some c.requires.some c.requires.few c.requires.few, c.requires.few)

pub graph_of-requires-clause-few_outputs : goal.graph_of-requires-clause-few_outputs
graph_of-requires-clause-few_outputs c =
    let law = made_sums_add c.args.kind c.args.bits c.args.adder c.requires.some in
    let made = ap (with_addend c.args.bits) c.in_ok-building.ensures ∙ c.in_ok-outputs.ensures in
    omega (arith, ap (λ r. length r.outputs) made, law.whole, c.requires.few)

pub graph_of-requires-clause-small : goal.graph_of-requires-clause-small
graph_of-requires-clause-small c =
    let made = ap (with_addend c.args.bits) c.in_ok-building.ensures ∙ c.in_ok-outputs.ensures in
    omega (arith, ap (λ r. r.builder.last) made, (sums_are_packed c.args.kind c.args.bits c.args.adder c.requires.some c.requires.few).counts.max)

pub graph_of-requires-clause-well_formed : goal.graph_of-requires-clause-well_formed
graph_of-requires-clause-well_formed c =
    let made = ap (with_addend c.args.bits) c.in_ok-building.ensures ∙ c.in_ok-outputs.ensures in
    subst (λ r. IsWellFormed (whole_graph (4 * c.args.bits) r)) made (made_sums_add c.args.kind c.args.bits c.args.adder c.requires.some).well_formed

pub returns-clause-ok : goal.returns-clause-ok
returns-clause-ok c =
    let made = ap (whole_graph (4 * c.args.bits)) (ap (with_addend c.args.bits) c.in_ok-building.ensures ∙ c.in_ok-outputs.ensures) in
    IfOk-weaker c.graph_of.result _ (λ g. g ≡ made_sum c.args.kind c.args.bits c.args.adder) (λ g e. e ∙ sym made) c.graph_of.ensures

pub returns-clause-width : goal.returns-clause-width
returns-clause-width c =
    let made = ap (whole_graph (4 * c.args.bits)) (ap (with_addend c.args.bits) c.in_ok-building.ensures ∙ c.in_ok-outputs.ensures) in
    let law = made_sums_add c.args.kind c.args.bits c.args.adder c.requires.some in
    IfOk-weaker c.graph_of.result _ (λ g. sum_width g ≡ c.args.bits) (λ g e. ap sum_width (e ∙ sym made) ∙ law.width) c.graph_of.ensures

pub returns-clause-adds : goal.returns-clause-adds
returns-clause-adds c =
    let made = ap (whole_graph (4 * c.args.bits)) (ap (with_addend c.args.bits) c.in_ok-building.ensures ∙ c.in_ok-outputs.ensures) in
    let law = made_sums_add c.args.kind c.args.bits c.args.adder c.requires.some in
    IfOk-weaker c.graph_of.result _ (λ g. Does (adding Separate Unsigned) g) (λ g e. subst (λ h. Does (adding Separate Unsigned) h) (made ∙ sym e) law.adds) c.graph_of.ensures

pub returns-clause-counts : goal.returns-clause-counts
returns-clause-counts c =
    let made = ap (whole_graph (4 * c.args.bits)) (ap (with_addend c.args.bits) c.in_ok-building.ensures ∙ c.in_ok-outputs.ensures) in
    let law = sums_are_packed c.args.kind c.args.bits c.args.adder c.requires.some c.requires.few in
    IfOk-weaker c.graph_of.result _ (λ g. HasCounts profile.MultiplyAdd (written g)) (λ g e. subst (λ h. HasCounts profile.MultiplyAdd (written h)) (made ∙ sym e) law.counts) c.graph_of.ensures

pub returns-clause-packed : goal.returns-clause-packed
returns-clause-packed c =
    let made = ap (whole_graph (4 * c.args.bits)) (ap (with_addend c.args.bits) c.in_ok-building.ensures ∙ c.in_ok-outputs.ensures) in
    let law = sums_are_packed c.args.kind c.args.bits c.args.adder c.requires.some c.requires.few in
    IfOk-weaker c.graph_of.result _ (λ g. IsPacked (written g)) (λ g e. subst (λ h. IsPacked (written h)) (made ∙ sym e) law.packed) c.graph_of.ensures
