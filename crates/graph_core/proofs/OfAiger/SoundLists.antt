-- What lists without a fault, but maybe one of levels, give to the rest of the making of a graph.
use Rattle.std.specs.Prelude.{◌≡◌, ◌≢◌, ◌+◌, ◌≤◌, List, [], ◌∷◌, map, length, slice_index_or, Some}
use Rattle.std.specs.List.{All, AllPairs, flat_map}
use Rattle.std.proofs.Common.{sym, subst, arith}
use Rattle.std.proofs.lemmas.List.Elements.{Contains-get_or}
use Rattle.graph_core.specs.declared.gate.Gate.{Gate}
use Rattle.graph_core.specs.declared.fault.GraphFault.{GraphFault}
use Rattle.graph_core.specs.declared.fault.GraphFault.TheVariants.{Cycle}
use Rattle.graph_core.specs.Graph.Literals.{variable_of}
use Rattle.graph_core.specs.Graph.{read_literals}
use Rattle.graph_core.specs.Aiger.{Listing, graph_of, IsFaultless}
use Rattle.graph_core.specs.Aiger.Refusal.{IsFault, fault_of}
use Rattle.graph_core.specs.Graph.Searches.{AreSound}
use Rattle.graph_core.specs.Graph.Tables.{IsSchedule}
use Rattle.graph_core.specs.Graph.Walk.{FitsPlaces, IsCycle}
use Rattle.graph_core.proofs.OfGraphs.BuiltFacts.{few_distinct}
use Rattle.graph_core.proofs.OfGraphs.Faults.{apart, apart_pairs, apart_right, faultless_from, fault_is_found, gates_low, in_right, read_low}
use Rattle.graph_core.proofs.OfGraphs.Levels.{contains_in}
use Rattle.graph_core.proofs.OfGraphs.WalkLevels.{schedule_levels}
use Rattle.graph_core.proofs.OfGraphs.WellFormedGates.{operands_in}

module _ (g : Listing) (sound : AreSound g) where
  pub variables_low : All (λ x. x.v ≤ g.max) (graph_of g).gates
  variables_low k d below = (gates_low g sound (slice_index_or (graph_of g).gates k d) (contains_in (slice_index_or (graph_of g).gates k d) (graph_of g).gates (Contains-get_or (graph_of g).gates k d below))).0

  pub variables_apart : AllPairs ◌≢◌ (map (λ x. x.v) (graph_of g).gates)
  variables_apart = apart_pairs (map (λ x. x.v) (graph_of g).gates) (apart_right (map variable_of g.inputs) (map (λ x. x.v) (graph_of g).gates) (apart g sound))

  pub few_listed : length (graph_of g).gates ≤ g.max
  few_listed = few_distinct (graph_of g).gates g.max variables_apart
      (λ k d below. let r = gates_low g sound (slice_index_or (graph_of g).gates k d) (contains_in (slice_index_or (graph_of g).gates k d) (graph_of g).gates (Contains-get_or (graph_of g).gates k d below)) in (r.1, r.0))

  pub listed_fit : All (FitsPlaces (g.max + 1)) (graph_of g).gates
  listed_fit k d below =
      let x = slice_index_or (graph_of g).gates k d in
      let i = contains_in x (graph_of g).gates (Contains-get_or (graph_of g).gates k d below) in
      let own = (gates_low g sound x i).0 in
      let o = operands_in (graph_of g).gates x i in
      let left = read_low g sound x.left (in_right x.left g.inputs (read_literals (graph_of g)) (in_right x.left g.outputs (flat_map (λ y. y.left ∷ y.right ∷ []) (graph_of g).gates) o.0)) in
      let right = read_low g sound x.right (in_right x.right g.inputs (read_literals (graph_of g)) (in_right x.right g.outputs (flat_map (λ y. y.left ∷ y.right ∷ []) (graph_of g).gates) o.1)) in
      record { own = omega arith; left = omega arith; right = omega arith }

  pub cycle_found : (f : GraphFault) → IsCycle (graph_of g).gates (g.max + 1) f → fault_of g ≡ Some f
  cycle_found f c =
      let low = c.2 in
      let fault : IsFault g (Cycle c.0) = (sound.above, sound.no_left, sound.repeated, sound.undefined, omega arith, c.3, c.4) in
      (fault_is_found g f).1 (subst (IsFault g) (sym c.1) fault)

  pub scheduled_faultless : (schedule : List Gate) → IsSchedule (graph_of g).gates schedule → IsFaultless g
  scheduled_faultless schedule order = faultless_from g sound (schedule_levels (graph_of g).gates schedule order)
