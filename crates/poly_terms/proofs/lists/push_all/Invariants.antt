use Rattle.std.proofs.Common.{◌≡◌, ◌≤◌, ◌+◌, ◌-◌, ◌++◌, length, take}
use Rattle.std.specs.Vec.{vec_capacity, vec_len}
use Rattle.poly_terms.proofs.lists.push_all.Given as goal

abbrev pub invariant-loop-v : goal.invariant-loop-v
invariant-loop-v l = record {
  items : l.variables.items ≡ l.initial.variables.items ++ take l.v-index l.list;
  room : vec_len l.variables + (length l.list - l.v-index) ≤ vec_capacity l.variables;
}
