-- The graph alone is an extended graph without faults, and its outputs are the graph's.
use Rattle.std.specs.Prelude.{◌≡◌, ◌+◌, ◌*◌, ◌≤◌, ◌⊎◌, List, [], ◌∷◌, ◌++◌}
use Rattle.std.specs.List.{AllByRecursion, Contains, flat_map}
use Rattle.std.proofs.Common.{arith}
use Rattle.std.proofs.lemmas.List.Elements.{All-from_recursion, recursion_from_All, All-contains_itself}
use Rattle.graph_core.specs.declared.literal.Lit.{Lit}
use Rattle.graph_core.specs.declared.gate.Gate.{Gate}
use Rattle.graph_core.specs.Graph.Literals.{variable_of}
use Rattle.graph_core.specs.Graph.{Aig, IsWellFormed, defined, read_literals}
use Rattle.graph_core.specs.Graph.Extended.{without_cut}
use Rattle.graph_core.proofs.OfGraphs.CallerLemmas.{all_split}
use Rattle.ripple_graft.specs.Extension.{IsExtension, IsReadable}

module _ (g : Aig) (well : IsWellFormed g) where
  abbrev Readable : Lit → Type 0
  Readable = IsReadable (without_cut g)

  each_readable : (ls : List Lit) → AllByRecursion (λ l. l.0 ≤ 2 * g.max + 1) ls → AllByRecursion (λ l. (variable_of l ≡ 0) ⊎ Contains (defined g) (variable_of l)) ls → AllByRecursion Readable ls
  each_readable [] a b = tt
  each_readable (l ∷ ls) a b = let top = a.0 in ((omega arith, b.0), each_readable ls a.1 b.1)

  reads : AllByRecursion Readable (read_literals g)
  reads =
      each_readable (read_literals g)
      (all_split (λ l. l.0 ≤ 2 * g.max + 1) g.inputs (read_literals g) (recursion_from_All (λ l. l.0 ≤ 2 * g.max + 1) (g.inputs ++ read_literals g) well.in_range)).1
      (recursion_from_All (λ l. (variable_of l ≡ 0) ⊎ Contains (defined g) (variable_of l)) (read_literals g) well.known)

  gate_operands : (gates : List Gate) → AllByRecursion Readable (flat_map (λ x. x.left ∷ x.right ∷ []) gates) → AllByRecursion (λ x. Readable x.left × Readable x.right) gates
  gate_operands [] h = tt
  gate_operands (x ∷ gates) h = ((h.0, h.1.0), gate_operands gates h.1.1)

  pub graph_extends : IsExtension (without_cut g)
  graph_extends = record {
    graph = well;
    room = omega arith;
    defined_once = record { inputs = well.defined_once.inputs; gates = well.defined_once.gates; once = well.defined_once.once };
    acyclic = well.acyclic;
    kept = All-contains_itself g.gates;
    replaced = λ k d h. absurd (omega arith);
    new_readable = λ k d h. absurd (omega arith);
    operands = All-from_recursion (λ x. Readable x.left × Readable x.right) g.gates
        (gate_operands g.gates (all_split Readable g.outputs (flat_map (λ x. x.left ∷ x.right ∷ []) g.gates) reads).1);
    gates_in_range = well.gates_in_range;
    numbers_once = λ i j d lt within e. absurd (omega arith);
  }
