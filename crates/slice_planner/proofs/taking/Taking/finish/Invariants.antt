use Rattle.std.specs.Prelude.{◌≡◌, ℕ, true, List}
use Rattle.std.specs.List.{All}
use Rattle.frontier_core.specs.Plan.{nothing, taken}
use Rattle.frontier_core.specs.Sets.{has}
use Rattle.slice_planner.specs.GroupPlans.{AreAtGroups, AreGroups}
use Rattle.slice_planner.specs.Arranged.{lists_in}
use Rattle.slice_planner.proofs.Words.{left_count}
use Rattle.slice_planner.proofs.taking.Taking.finish.Given as goal

-- Where the groups have all gates in an order in which readers come first, none is left.
abbrev pub invariant-loop-gate : goal.invariant-loop-gate
invariant-loop-gate l = record {
  extended : l.taking.extended ≡ l.fn.self.extended;
  below : l.taking.below ≡ 0;
  groups : (gs : List (List ℕ)) → lists_in l.arrangement ≡ gs → AreGroups l.fn.self.extended gs → AreAtGroups l.fn.self.extended gs l.fn.self.steps →
      AreAtGroups l.fn.self.extended gs l.taking.steps × All (λ x. has (taken nothing l.taking.steps).eliminated x.v ≡ true) l.fn.self.extended.gates;
}

-- a gate goes in each turn
abbrev pub decreases-loop-gate : goal.decreases-loop-gate
decreases-loop-gate l = left_count l.taking.extended.gates (taken nothing l.taking.steps).eliminated
