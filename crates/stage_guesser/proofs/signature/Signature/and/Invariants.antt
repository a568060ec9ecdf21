use Rattle.std.proofs.Common.{◌≡◌, ℕ, ◌<◌, ◌≤◌, slice_index}
use Rattle.std.specs.Prelude.{bit_and}
use Rattle.stage_guesser.proofs.signature.Signature.and.Given as goal

abbrev pub invariant-loop-i : goal.invariant-loop-i
invariant-loop-i l = record {
  done : (k : ℕ) → k < l.i → slice_index l.words k ≡ bit_and (slice_index l.self.words k) (slice_index l.other.words k);
  rest : (k : ℕ) → l.i ≤ k → slice_index l.words k ≡ slice_index l.self.words k;
}
