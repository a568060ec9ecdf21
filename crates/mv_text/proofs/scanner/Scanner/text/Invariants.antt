use Rattle.std.proofs.Common.{◌≡◌, drop}
use Rattle.graph_core.specs.Text.Numerals.{front_at}
use Rattle.mv_text.proofs.scanner.Scanner.text.Given as goal

abbrev pub invariant-loop-byte : goal.invariant-loop-byte
invariant-loop-byte l = front_at l.text l.initial.self ≡ front_at (drop l.byte-index l.text) l.self
