use Rattle.std.specs.Prelude.{List}
use Rattle.std.proofs.Common.{◌≡◌, ap, arith, map, take, ◌∙◌}
use Rattle.std.proofs.lemmas.List.{take_all}
use Rattle.graph_core.specs.declared.gate.Gate.{Gate}
use Rattle.adder_finder.proofs.Orders.{keys_are}
use Rattle.adder_finder.proofs.cover.keys_by_level.Goals as goal

pub returns : goal.returns
returns c =
    let sorted = c.sort_unstable.ensures in
    let gates : List Gate = c.gates-gate-items.result.now in
    let whole : take c.loop-gate.gate-index gates ≡ c.args.graph.now.gates = take_all c.loop-gate.gate-index gates c.loop-gate-test.false ∙ c.gates-gate-items.ensures.value in
    keys_are c.args.graph.now c.gates-gate-items.ensures.built.well_formed c.loop-gate.keys.items c.sort_unstable.new.self.items sorted.permutation c.loop-gate.invariant.levels
    (c.loop-gate.invariant.variables ∙ ap (λ (xs : List Gate). map (λ x. x.v) xs) whole) (λ k d low. sorted.sorted k d (omega arith) low)
