use Rattle.std.proofs.Common.{◌≡◌, ◌≤◌, ◌+◌, ◌++◌, length, map, take}
use Rattle.verdict_program.specs.Answer.{digit_of}
use Rattle.verdict_program.proofs.same_texts.push_bits.Given as goal

abbrev pub invariant-loop-bit : goal.invariant-loop-bit
invariant-loop-bit l = record {
  text : l.report ≡ l.initial.report ++ map digit_of (take l.bit-index l.bits);
  short : length l.report ≤ length l.initial.report + l.bit-index;
}
