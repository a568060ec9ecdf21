use Rattle.std.proofs.Common.{◌≡◌, ◌*◌, length, sym, ap, subst, ◌∙◌, arith}
use Rattle.std.proofs.lemmas.Result.{IfOk-weaker}
use Rattle.graph_core.specs.declared.order.Order.TheVariants.{Separate}
use Rattle.graph_core.specs.declared.sign.Sign.TheVariants.{Signed}
use Rattle.graph_core.specs.declared.profile.Profile.TheVariants as profile
use Rattle.graph_core.specs.Aiger.{HasCounts, IsPacked}
use Rattle.graph_core.specs.Graph.{IsWellFormed}
use Rattle.graph_core.specs.Graph.Operands.{Does, multiplying, width}
use Rattle.graph_core.specs.Aiger.Writing.{written}
use Rattle.graph_maker.specs.declared.kind.Kind.TheVariants.{Array}
use Rattle.graph_maker.specs.Corrected.{corrected, made_corrected}
use Rattle.graph_maker.specs.Made.{whole_graph}
use Rattle.graph_maker.proofs.CorrectedMultiplies.{corrected_multiplies}
use Rattle.graph_maker.proofs.CorrectedPacked.{corrected_are_packed}
use Rattle.graph_maker.proofs.ProductOfWidths.{product_few, product_long}
use Rattle.graph_maker.proofs.making.make_corrected.Goals as goal

pub correct-requires-clause-whole : goal.correct-requires-clause-whole
correct-requires-clause-whole c =
    ap (λ r. length r.outputs) (sym c.in_ok-building.ensures) ∙ product_long (2 * c.args.bits) Array c.args.bits c.args.bits c.args.adder c.requires.some c.requires.some ∙ omega arith

pub correct-requires-clause-room : goal.correct-requires-clause-room
correct-requires-clause-room c =
    omega (arith, ap (λ r. r.builder.last) c.in_ok-building.ensures, product_few (2 * c.args.bits) Array c.args.bits c.args.bits c.args.adder c.requires.some c.requires.some c.requires.few c.requires.few, c.requires.few)

pub graph_of-requires-clause-few_outputs : goal.graph_of-requires-clause-few_outputs
graph_of-requires-clause-few_outputs c =
    let law = corrected_multiplies c.args.bits c.args.adder c.requires.some in
    let made = ap (corrected c.args.bits) c.in_ok-building.ensures ∙ c.in_ok-outputs.ensures in
    omega (arith, ap (λ r. length r.outputs) made, law.whole, c.requires.few)

pub graph_of-requires-clause-small : goal.graph_of-requires-clause-small
graph_of-requires-clause-small c =
    let made = ap (corrected c.args.bits) c.in_ok-building.ensures ∙ c.in_ok-outputs.ensures in
    omega (arith, ap (λ r. r.builder.last) made, (corrected_are_packed c.args.bits c.args.adder c.requires.some c.requires.few).counts.max)

pub graph_of-requires-clause-well_formed : goal.graph_of-requires-clause-well_formed
graph_of-requires-clause-well_formed c =
    let made = ap (corrected c.args.bits) c.in_ok-building.ensures ∙ c.in_ok-outputs.ensures in
    subst (λ r. IsWellFormed (whole_graph (2 * c.args.bits) r)) made (corrected_multiplies c.args.bits c.args.adder c.requires.some).well_formed

pub returns-clause-ok : goal.returns-clause-ok
returns-clause-ok c =
    let made = ap (whole_graph (2 * c.args.bits)) (ap (corrected c.args.bits) c.in_ok-building.ensures ∙ c.in_ok-outputs.ensures) in
    IfOk-weaker c.graph_of.result _ (λ g. g ≡ made_corrected c.args.bits c.args.adder) (λ g e. e ∙ sym made) c.graph_of.ensures

pub returns-clause-width : goal.returns-clause-width
returns-clause-width c =
    let made = ap (whole_graph (2 * c.args.bits)) (ap (corrected c.args.bits) c.in_ok-building.ensures ∙ c.in_ok-outputs.ensures) in
    let law = corrected_multiplies c.args.bits c.args.adder c.requires.some in
    IfOk-weaker c.graph_of.result _ (λ g. width g ≡ c.args.bits) (λ g e. ap width (e ∙ sym made) ∙ law.width) c.graph_of.ensures

pub returns-clause-multiplies : goal.returns-clause-multiplies
returns-clause-multiplies c =
    let made = ap (whole_graph (2 * c.args.bits)) (ap (corrected c.args.bits) c.in_ok-building.ensures ∙ c.in_ok-outputs.ensures) in
    let law = corrected_multiplies c.args.bits c.args.adder c.requires.some in
    IfOk-weaker c.graph_of.result _ (λ g. Does (multiplying Separate Signed) g) (λ g e. subst (λ h. Does (multiplying Separate Signed) h) (made ∙ sym e) law.multiplies) c.graph_of.ensures

pub returns-clause-counts : goal.returns-clause-counts
returns-clause-counts c =
    let made = ap (whole_graph (2 * c.args.bits)) (ap (corrected c.args.bits) c.in_ok-building.ensures ∙ c.in_ok-outputs.ensures) in
    let law = corrected_are_packed c.args.bits c.args.adder c.requires.some c.requires.few in
    IfOk-weaker c.graph_of.result _ (λ g. HasCounts profile.Multiplier (written g)) (λ g e. subst (λ h. HasCounts profile.Multiplier (written h)) (made ∙ sym e) law.counts) c.graph_of.ensures

pub returns-clause-packed : goal.returns-clause-packed
returns-clause-packed c =
    let made = ap (whole_graph (2 * c.args.bits)) (ap (corrected c.args.bits) c.in_ok-building.ensures ∙ c.in_ok-outputs.ensures) in
    let law = corrected_are_packed c.args.bits c.args.adder c.requires.some c.requires.few in
    IfOk-weaker c.graph_of.result _ (λ g. IsPacked (written g)) (λ g e. subst (λ h. IsPacked (written h)) (made ∙ sym e) law.packed) c.graph_of.ensures
