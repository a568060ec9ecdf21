use Rattle.std.proofs.Common.{◌≡◌, ◌++◌, length}
use Rattle.std.specs.Vec.Iter.{into_iter_items, into_iter_len}
use Rattle.clause_core.specs.KeptClauses.{chosen}
use Rattle.pair_trim.proofs.chosen.choose_pac.Given as goal

abbrev pub invariant-loop-line : goal.invariant-loop-line
invariant-loop-line l = record {
  rest : l.yielded ++ into_iter_items l.line-iterator ≡ into_iter_items l.initial.line-iterator;
  len : into_iter_len l.line-iterator ≡ length (into_iter_items l.line-iterator);
  count : l.place ≡ length l.yielded;
  kept : l.kept.items ≡ chosen l.marks l.yielded;
}
