use Rattle.std.proofs.Common.{◌≡◌, map, take}
use Rattle.std.specs.List.{All}
use Rattle.graph_core.specs.Graph.{IsLevel}
use Rattle.adder_finder.proofs.cover.keys_by_level.Given as goal

abbrev pub invariant-loop-gate : goal.invariant-loop-gate
invariant-loop-gate l = record {
  levels : All (λ key. IsLevel l.graph.gates key.1 key.0) l.keys.items;
  variables : map (λ key. key.1) l.keys.items ≡ map (λ x. x.v) (take l.gate-index l.gate-items);
  items : l.gate-items ≡ l.graph.gates;
}
