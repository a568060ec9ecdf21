use Rattle.std.proofs.Common.{◌≡◌, take}
use Rattle.clause_core.specs.KeptClauses.{added_lines, chosen}
use Rattle.pair_trim.proofs.chosen.choose_lines.Given as goal

abbrev pub invariant-loop-place : goal.invariant-loop-place
invariant-loop-place l = l.kept.items ≡ added_lines (chosen l.marks (take l.place l.clauses))
