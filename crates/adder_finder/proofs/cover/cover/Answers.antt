use Rattle.std.proofs.Common.{◌<◌, arith, length}
use Rattle.graph_core.specs.Graph.Literals.{variable_of}
use Rattle.adder_finder.proofs.Covers.{cover_of, greater_is}
use Rattle.adder_finder.proofs.XorSearch.{operands_low}
use Rattle.adder_finder.proofs.cover.cover.Goals as goal

pub index-left-requires : goal.index-left-requires
index-left-requires c = let low = (operands_low c.args.graph.now c.max-max.ensures.built.well_formed c.args.v c.in-Some.gate c.in-Some.ensures.some).0 in omega arith

pub index-right-requires : goal.index-right-requires
index-right-requires c = let low = (operands_low c.args.graph.now c.max-max.ensures.built.well_formed c.args.v c.in-Some.gate c.in-Some.ensures.some).1 in omega arith

pub returns-in-Some : goal.returns-in-Some
returns-in-Some c =
    let low = operands_low c.args.graph.now c.max-max.ensures.built.well_formed c.args.v c.in-Some.gate c.in-Some.ensures.some in
    let left = low.0 in
    let right = low.1 in
    let x = c.in-Some.gate in
    let old = c.args.needs.now.items in
    let l : variable_of x.left < length old = omega arith in
    let r : variable_of x.right < length old = omega arith in
    cover_of c.args.graph.now c.max-max.ensures.built.well_formed c.args.v c.max.result x old c.lower.new.needs.items c.in-Some.ensures.some
    (greater_is old c.var.result c.var-in-Some.result (variable_of x.left) (variable_of x.right) c.index-left.result.now c.index-right.result.now c.max.result c.max.ensures c.var.ensures c.var-in-Some.ensures c.index-left.ensures c.index-right.ensures l r)
    c.lower.ensures
