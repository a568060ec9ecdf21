use Rattle.std.proofs.Common.{◌≡◌, ◌+◌, ◌%◌, ◌^◌, ◌<◌, drop}
use Rattle.graph_core.specs.Graph.Assignments.{listed}
use Rattle.poly_terms.specs.Monomials.{total_in}
use Rattle.poly_terms.proofs.evaluation.value_of.Given as goal

abbrev pub invariant-loop-entry : goal.invariant-loop-entry
invariant-loop-entry l = record {
  below : l.sum < 2 ^ l.exponent;
  same : (l.sum + total_in l.table (listed l.values) (drop l.entry-index l.entries)) % 2 ^ l.exponent ≡ total_in l.table (listed l.values) l.entries % 2 ^ l.exponent;
}
