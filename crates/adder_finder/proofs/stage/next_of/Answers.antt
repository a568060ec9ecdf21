use Rattle.std.proofs.Common.{refl, sym, subst}
use Rattle.std.specs.Option.{IsNone}
use Rattle.adder_finder.proofs.NextShapes.{next_x, next_y, none_both, none_neither, x_low, y_low}
use Rattle.adder_finder.proofs.XorSearch.{has_shape}
use Rattle.adder_finder.proofs.stage.next_of.Goals as goal

pub xor_of-requires-2 : goal.xor_of-requires-2
xor_of-requires-2 c = record { in_range = x_low c.args.graph.now c.max-max.ensures.built.well_formed c.args.output c.var.result c.in_ok-top.top c.var.ensures c.in_ok-top.ensures.some c.var-x.result c.var-y.result c.var-x.ensures c.var-y.ensures }

pub xor_of-requires-3 : goal.xor_of-requires-3
xor_of-requires-3 c = record { in_range = y_low c.args.graph.now c.max-max.ensures.built.well_formed c.args.output c.var.result c.in_ok-top.top c.var.ensures c.in_ok-top.ensures.some c.var-x.result c.var-y.result c.var-x.ensures c.var-y.ensures }

pub returns-in-Some-None-clause-some : goal.returns-in-Some-None-clause-some
returns-in-Some-None-clause-some c =
    next_x c.args.graph.now c.max-max.ensures.built.well_formed c.args.output c.var.result c.in_ok-top.top c.var.ensures c.in_ok-top.ensures.some c.var-x.result c.var-y.result c.var-x.ensures c.var-y.ensures
    c.in-Some-None.xor c.in-Some-None.ensures.some (c.xor_of-3.ensures.none.0 (subst IsNone (sym c.in-Some-None.is-1) refl))

pub returns-in-None-Some-clause-some : goal.returns-in-None-Some-clause-some
returns-in-None-Some-clause-some c =
    next_y c.args.graph.now c.max-max.ensures.built.well_formed c.args.output c.var.result c.in_ok-top.top c.var.ensures c.in_ok-top.ensures.some c.var-x.result c.var-y.result c.var-x.ensures c.var-y.ensures
    c.in-None-Some.xor c.in-None-Some.ensures.some (c.xor_of-2.ensures.none.0 (subst IsNone (sym c.in-None-Some.is-0) refl))

pub returns-in_default-clause-none : goal.returns-in_default-clause-none
returns-in_default-clause-none c =
    λ _. none_both c.args.graph.now c.max-max.ensures.built.well_formed c.args.output c.var.result c.in_ok-top.top c.var.ensures c.in_ok-top.ensures.some c.var-x.result c.var-y.result c.var-x.ensures c.var-y.ensures
    (has_shape c.args.graph.now c.max-max.ensures.built.well_formed c.var-x.result c.in_default.field-0-0 c.in_default.ensures.some) (has_shape c.args.graph.now c.max-max.ensures.built.well_formed c.var-y.result c.in_default.field-0-1 c.in_default.ensures'.some)

pub returns-in_default-2-clause-none : goal.returns-in_default-2-clause-none
returns-in_default-2-clause-none c =
    λ _. none_neither c.args.graph.now c.max-max.ensures.built.well_formed c.args.output c.var.result c.in_ok-top.top c.var.ensures c.in_ok-top.ensures.some c.var-x.result c.var-y.result c.var-x.ensures c.var-y.ensures
    (c.xor_of-2.ensures.none.0 (subst IsNone (sym c.in_default.is-0) refl)) (c.xor_of-3.ensures.none.0 (subst IsNone (sym c.in_default.is-1) refl))
