use Rattle.std.proofs.Common.{◌≡◌, ◌≢◌, ℕ, ◌<◌, take}
use Rattle.operand_search.specs.Lanes.{lane}
use Rattle.operand_search.proofs.lanes.set_lane.Given as goal

abbrev pub invariant-loop-k : goal.invariant-loop-k
invariant-loop-k l = record {
  here : take l.k (lane l.place l.words) ≡ take l.k l.bits;
  others : (i : ℕ) → i < 64 → i ≢ l.place → lane i l.words ≡ lane i l.initial.words;
}
