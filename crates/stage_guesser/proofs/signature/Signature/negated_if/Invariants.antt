use Rattle.std.proofs.Common.{◌≡◌, ℕ, ◌<◌, ◌≤◌, length, slice_index}
use Rattle.std.specs.Prelude.{bit_xor}
use Rattle.stage_guesser.proofs.signature.Signature.negated_if.Given as goal

abbrev pub invariant-loop-i : goal.invariant-loop-i
invariant-loop-i l = record {
  long : length l.words ≡ 24;
  done : (k : ℕ) → k < l.i → slice_index l.words k ≡ bit_xor (slice_index l.self.words k) l.mask;
  rest : (k : ℕ) → l.i ≤ k → slice_index l.words k ≡ slice_index l.self.words k;
}
