use Rattle.std.proofs.Common.{◌+◌, ◌<◌, ◌≤◌, ℕ}
use Rattle.poly_terms.specs.Tables.{Extends}
use Rattle.column_reducer.specs.Gathering.{IsWalked}
use Rattle.column_reducer.specs.Reducing.{HasSizeAt}
use Rattle.column_reducer.proofs.Ends.{taken_after}
use Rattle.column_reducer.proofs.walk.Walk.follow.Given as goal

abbrev pub invariant-loop-count : goal.invariant-loop-count
invariant-loop-count l = record {
  table : Extends l.fn.terms l.terms;
  walked : IsWalked l.plan.extended l.operands l.terms (taken_after l.plan l.count) l.self;
  within : (i n : ℕ) → l.plan.uncounted + i < l.count → HasSizeAt l.plan l.operands i n → n ≤ l.budget;
}
