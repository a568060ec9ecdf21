use Rattle.std.specs.Prelude.{◌≡◌, ℕ, List}
use Rattle.slice_planner.specs.GroupPlans.{AreAtGroups, AreGroups}
use Rattle.slice_planner.specs.Arranged.{lists_in}
use Rattle.slice_planner.proofs.taking.Taking.try_due.Given as goal

abbrev pub invariant-loop-place : goal.invariant-loop-place
invariant-loop-place l = record {
  extended : l.self.extended ≡ l.initial.self.extended;
  below : l.self.below ≡ l.initial.self.below;
  groups : (gs : List (List ℕ)) → lists_in l.arrangement ≡ gs → AreGroups l.initial.self.extended gs → AreAtGroups l.initial.self.extended gs l.initial.self.steps → AreAtGroups l.initial.self.extended gs l.self.steps;
}
