use Rattle.std.proofs.Common.{◌≡◌, ◌+◌, false, length, sym, ap, subst, ◌∙◌, arith}
use Rattle.std.proofs.lemmas.Result.{IfOk-weaker}
use Rattle.graph_core.specs.declared.profile.Profile.TheVariants as profile
use Rattle.graph_core.specs.Aiger.{HasCounts, IsPacked}
use Rattle.graph_core.specs.Graph.{IsWellFormed}
use Rattle.graph_core.specs.Graph.Operands.{Does}
use Rattle.graph_core.specs.Aiger.Writing.{written}
use Rattle.graph_maker.specs.Made.{whole_graph}
use Rattle.graph_maker.specs.MadeOfWidths.{MultipliesOf, claim_of_widths, made_of}
use Rattle.graph_maker.proofs.MadeOfWidths.{made_of_multiplies}
use Rattle.graph_maker.proofs.MadePacked.{made_of_are_packed}
use Rattle.graph_maker.proofs.making.make_of.Goals as goal

pub graph_of-requires-clause-few_outputs : goal.graph_of-requires-clause-few_outputs
graph_of-requires-clause-few_outputs c =
    let law = made_of_multiplies c.args.kind c.args.a c.args.b c.args.adder c.requires.some_a c.requires.some_b in
    omega (arith, ap (λ r. length r.outputs) c.in_ok-building.ensures, law.whole, c.requires.few_a, c.requires.few_b)

pub graph_of-requires-clause-small : goal.graph_of-requires-clause-small
graph_of-requires-clause-small c =
    let law = made_of_are_packed c.args.kind c.args.a c.args.b c.args.adder c.requires.some_a c.requires.some_b c.requires.few_a c.requires.few_b in
    omega (arith, ap (λ r. r.builder.last) c.in_ok-building.ensures, law.counts.max)

pub graph_of-requires-clause-well_formed : goal.graph_of-requires-clause-well_formed
graph_of-requires-clause-well_formed c =
    let law = made_of_multiplies c.args.kind c.args.a c.args.b c.args.adder c.requires.some_a c.requires.some_b in
    subst (λ r. IsWellFormed (whole_graph (c.args.a + c.args.b) r)) c.in_ok-building.ensures law.well_formed

pub returns-clause-ok : goal.returns-clause-ok
returns-clause-ok c =
    let made = ap (whole_graph (c.args.a + c.args.b)) c.in_ok-building.ensures in
    IfOk-weaker c.graph_of.result _ (λ g. g ≡ made_of c.args.kind c.args.a c.args.b c.args.adder) (λ g e. e ∙ sym made) c.graph_of.ensures

pub returns-clause-multiplies : goal.returns-clause-multiplies
returns-clause-multiplies c =
    let made = ap (whole_graph (c.args.a + c.args.b)) c.in_ok-building.ensures in
    let law = made_of_multiplies c.args.kind c.args.a c.args.b c.args.adder c.requires.some_a c.requires.some_b in
    IfOk-weaker c.graph_of.result _ (MultipliesOf c.args.a c.args.b) (λ g e. subst (MultipliesOf c.args.a c.args.b) (made ∙ sym e) law.multiplies) c.graph_of.ensures

pub returns-clause-does : goal.returns-clause-does
returns-clause-does c =
    let made = ap (whole_graph (c.args.a + c.args.b)) c.in_ok-building.ensures in
    let law = made_of_multiplies c.args.kind c.args.a c.args.b c.args.adder c.requires.some_a c.requires.some_b in
    IfOk-weaker c.graph_of.result _ (Does (claim_of_widths c.args.a c.args.b)) (λ g e. subst (Does (claim_of_widths c.args.a c.args.b)) (made ∙ sym e) law.does) c.graph_of.ensures

pub returns-clause-counts : goal.returns-clause-counts
returns-clause-counts c =
    let made = ap (whole_graph (c.args.a + c.args.b)) c.in_ok-building.ensures in
    let law = made_of_are_packed c.args.kind c.args.a c.args.b c.args.adder c.requires.some_a c.requires.some_b c.requires.few_a c.requires.few_b in
    IfOk-weaker c.graph_of.result _ (λ g. HasCounts (profile.Given c.args.a c.args.b false) (written g)) (λ g e. subst (λ h. HasCounts (profile.Given c.args.a c.args.b false) (written h)) (made ∙ sym e) law.counts) c.graph_of.ensures

pub returns-clause-packed : goal.returns-clause-packed
returns-clause-packed c =
    let made = ap (whole_graph (c.args.a + c.args.b)) c.in_ok-building.ensures in
    let law = made_of_are_packed c.args.kind c.args.a c.args.b c.args.adder c.requires.some_a c.requires.some_b c.requires.few_a c.requires.few_b in
    IfOk-weaker c.graph_of.result _ (λ g. IsPacked (written g)) (λ g e. subst (λ h. IsPacked (written h)) (made ∙ sym e) law.packed) c.graph_of.ensures
