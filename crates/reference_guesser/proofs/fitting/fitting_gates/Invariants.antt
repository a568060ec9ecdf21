use Rattle.std.proofs.Common.{◌≡◌, ◌≤◌, length}
use Rattle.graph_core.specs.declared.bounds.TheConstants.{MOST_VARIABLES}
use Rattle.graph_core.specs.Graph.Extended.{without_cut}
use Rattle.ripple_graft.specs.Beside.{AreGates, with_gates}
use Rattle.reference_guesser.proofs.fitting.fitting_gates.Given as goal

abbrev pub invariant-loop-pair : goal.invariant-loop-pair
invariant-loop-pair l = record {
  few : length l.fitting.items ≤ MOST_VARIABLES;
  many : length l.fitting.items ≡ l.pair-index;
  made : l.extended ≡ with_gates (without_cut l.fn.graph) l.fitting.items;
  fit : AreGates (without_cut l.fn.graph) l.fitting.items;
}
