use Rattle.std.proofs.Common.{◌≡◌, take}
use Rattle.pair_trim.specs.Lines.{imports_in}
use Rattle.pair_trim.proofs.imports.imported_numbers.Given as goal

abbrev pub invariant-loop-line : goal.invariant-loop-line
invariant-loop-line l = l.numbers.items ≡ imports_in (take l.line-index l.lines)
