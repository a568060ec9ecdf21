-- What is known of each gate and literal of a graph without faults.
use Rattle.std.specs.Prelude.{◌≡◌, ◌≢◌, ℕ, ◌+◌, ◌*◌, ◌%◌, ◌<◌, ◌≤◌, ◌⊎◌, List, [], ◌∷◌, ◌++◌, map, length, get_or}
use Rattle.std.specs.List.{AllPairs, Contains, flat_map}
use Rattle.std.proofs.Common.{sym, ap, ◌∙◌, arith, inl, inr, ⊎_elim, length-append}
use Rattle.std.proofs.lemmas.List.{length-map, get_or-append-add}
use Rattle.std.proofs.lemmas.List.Elements.{recursion_from_All, All-contains}
use Rattle.graph_core.specs.declared.literal.Lit.{Lit}
use Rattle.graph_core.specs.declared.gate.Gate.{Gate}
use Rattle.graph_core.specs.Graph.Literals.{variable_of}
use Rattle.graph_core.specs.Graph.{Aig, IsWellFormed, IsFree, defined, read_literals}
use Rattle.graph_core.proofs.OfGraphs.Levels.{In, in_contains, contains_in, all_in, free_or_gate, free_is}
use Rattle.graph_core.proofs.OfGraphs.Faults.{in_left, in_right}
use Rattle.graph_core.proofs.OfGraphs.Evaluation.{Distinct}
use Rattle.graph_core.proofs.OfGraphs.Multiplies.{apart_from_pairs, rest_apart, gates_distinct as apart_gates}

-- a gate and its operands fit the greatest variable
pub record IsInRange (max : ℕ) (x : Gate) : Type 0 where
  pub positive : 0 < x.v
  pub own : x.v ≤ max
  pub left : x.left.0 ≤ 2 * max + 1
  pub right : x.right.0 ≤ 2 * max + 1

pub operands_in : (gates : List Gate) (x : Gate) → In x gates → In x.left (flat_map (λ y. y.left ∷ y.right ∷ []) gates) × In x.right (flat_map (λ y. y.left ∷ y.right ∷ []) gates)
operands_in [] x h = absurd h
operands_in (y ∷ gates) x (inl e) = (inl (ap (λ z. z.left) e), inr (inl (ap (λ z. z.right) e)))
operands_in (y ∷ gates) x (inr h) = let r = operands_in gates x h in (inr (inr r.0), inr (inr r.1))

module _ (g : Aig) (well : IsWellFormed g) where
  abbrev IsLow : Lit → Type 0
  IsLow l = l.0 ≤ 2 * g.max + 1

  low : (l : Lit) → In l (g.inputs ++ read_literals g) → IsLow l
  low l i = all_in IsLow (g.inputs ++ read_literals g) l (recursion_from_All IsLow (g.inputs ++ read_literals g) well.in_range) i

  read_operands : (x : Gate) → Contains g.gates x → In x.left (read_literals g) × In x.right (read_literals g)
  read_operands x h =
      let o = operands_in g.gates x (contains_in x g.gates h) in
      (in_right x.left g.outputs (flat_map (λ y. y.left ∷ y.right ∷ []) g.gates) o.0, in_right x.right g.outputs (flat_map (λ y. y.left ∷ y.right ∷ []) g.gates) o.1)

  pub gate_in_range : (x : Gate) → Contains g.gates x → IsInRange g.max x
  gate_in_range x h =
      let o = read_operands x h in
      record {
        positive = All-contains (λ y. 0 < y.v) g.gates x well.defined_once.gates h;
        own = All-contains (λ y. y.v ≤ g.max) g.gates x well.gates_in_range h;
        left = low x.left (in_right x.left g.inputs (read_literals g) o.0);
        right = low x.right (in_right x.right g.inputs (read_literals g) o.1);
      }

  pub input_in_range : (l : Lit) → Contains g.inputs l → (l.0 ≤ 2 * g.max + 1) × (0 < variable_of l)
  input_in_range l h =
      let own = All-contains (λ m. (m.0 % 2 ≡ 0) × (0 < variable_of m)) g.inputs l well.defined_once.inputs h in
      (low l (in_left l g.inputs (read_literals g) (contains_in l g.inputs h)), own.1)

  pub output_in_range : (l : Lit) → Contains g.outputs l → l.0 ≤ 2 * g.max + 1
  output_in_range l h = low l (in_right l g.inputs (read_literals g) (in_left l g.outputs (flat_map (λ y. y.left ∷ y.right ∷ []) g.gates) (contains_in l g.outputs h)))

  pub distinct_gates : Distinct g.gates
  distinct_gates = apart_gates g.gates (rest_apart (map variable_of g.inputs) (map (λ x. x.v) g.gates) (apart_from_pairs (defined g) well.defined_once.once))

-- the gates' variables differ
pub gates_apart : (g : Aig) → IsWellFormed g → AllPairs ◌≢◌ (map (λ x. x.v) g.gates)
gates_apart g well i j d below within e =
    let size = length-map g.inputs variable_of in
    let total = length-append (map variable_of g.inputs) (map (λ x. x.v) g.gates) in
    let at : (k : ℕ) → get_or (defined g) (length (map variable_of g.inputs) + k) d ≡ get_or (map (λ x. x.v) g.gates) k d = λ k. get_or-append-add (map variable_of g.inputs) (map (λ x. x.v) g.gates) k d in
    well.defined_once.once (length (map variable_of g.inputs) + i) (length (map variable_of g.inputs) + j) d (omega arith) (omega arith) (at i ∙ e ∙ sym (at j))

-- a variable is no gate's, or some gate's
pub free_or_some : (gates : List Gate) (v : ℕ) → IsFree gates v ⊎ ((x : Gate) × Contains gates x × (x.v ≡ v))
free_or_some gates v = ⊎_elim (λ f. inl (free_is gates v f)) (λ r. inr (r.0, in_contains r.0 gates r.1, r.2)) (free_or_gate gates v)
