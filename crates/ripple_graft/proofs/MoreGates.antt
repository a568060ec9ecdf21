-- Gates numbered on, each of which reads what is below it, keep an extended graph without faults, and each evaluation goes on to one with them.
use Rattle.std.specs.Prelude.{◌≡◌, ◌≢◌, ℕ, suc, zero, ◌+◌, ◌*◌, ◌-◌, ◌<◌, ◌≤◌, ◌⊎◌, ◌&&◌, min, cond, List, [], ◌∷◌, ◌++◌, map, length, slice_index_or, nat_le}
use Rattle.std.specs.List.{All, AllByRecursion, AllPairs, Contains}
use Rattle.std.proofs.Common.{sym, ap, ap₂, subst, ◌∙◌, arith, append_assoc, inl, inr, ⊎_elim}
use Rattle.std.proofs.lemmas.Bool.{le-leb, lt-leb, cases_lt}
use Rattle.std.proofs.lemmas.List.{length-map, map-append}
use Rattle.std.proofs.lemmas.List.Elements.{All-from_recursion, recursion_from_All, All-append, All-map, All-weaker, Contains-append_left, Contains-append_right, All-contains}
use Rattle.graph_core.specs.declared.literal.Lit.{Lit}
use Rattle.graph_core.specs.declared.gate.Gate.{Gate}
use Rattle.graph_core.specs.Graph.Literals.{variable_of}
use Rattle.graph_core.specs.Graph.Assignments.{Assignment, variable, literal}
use Rattle.graph_core.specs.Graph.{IsEvaluation, IsOrder, defined, evaluation, read_literals}
use Rattle.graph_core.specs.Graph.Extended.{Extended}
use Rattle.graph_core.proofs.OfGraphs.CallerLemmas.{evaluation_is, finds_none, literal_same, rounds-free, variable_same, all_join, all_split, all_weaker, Apart, apart_from_pairs, gates_distinct}
use Rattle.graph_core.proofs.OfAiger.CallerLemmas.{Counts, counts_apart, counts_contain}
use Rattle.ripple_graft.specs.Extension.{IsExtension, IsKnown, IsReadable, whole}
use Rattle.ripple_graft.specs.Blocks.{SameUpTo}
use Rattle.ripple_graft.proofs.Orders.{order_from, rank}

-- ---- lists

pub pairs_from_apart : (xs : List ℕ) → Apart xs → AllPairs ◌≢◌ xs
pairs_from_apart [] h i j d lt within e = absurd (omega arith)
pairs_from_apart (x ∷ xs) h zero zero d lt within e = absurd (omega arith)
pairs_from_apart (x ∷ xs) h zero (suc j) d lt within e = All-from_recursion (λ y. x ≢ y) xs h.0 j d (omega arith) e
pairs_from_apart (x ∷ xs) h (suc i) zero d lt within e = absurd (omega arith)
pairs_from_apart (x ∷ xs) h (suc i) (suc j) d lt within e = pairs_from_apart xs h.1 i j d (omega arith) (omega arith) e

-- two lists without repeats, no element of which is in both
pub apart_join : (xs ys : List ℕ) → Apart xs → Apart ys → AllByRecursion (λ x. AllByRecursion (λ y. x ≢ y) ys) xs → Apart (xs ++ ys)
apart_join [] ys a b h = b
apart_join (x ∷ xs) ys a b h = (all_join (λ y. x ≢ y) xs ys a.0 h.0, apart_join xs ys a.1 b h.1)

apart_above : (low : ℕ) (xs ys : List ℕ) → AllByRecursion (λ x. x ≤ low) xs → AllByRecursion (λ y. low < y) ys → AllByRecursion (λ x. AllByRecursion (λ y. x ≢ y) ys) xs
apart_above low [] ys h k = tt
apart_above low (x ∷ xs) ys h k = (all_weaker (λ y. low < y) (λ y. x ≢ y) ys (λ y lt e. let here = h.0 in absurd (omega arith)) k, apart_above low xs ys h.1 k)

-- ---- gates above others

-- a variable of those below, or one of the gates'
abbrev pub IsOne : (ℕ → Type 0) → ℕ → ℕ → Type 0
IsOne Below low v = Below v ⊎ (low < v)

-- a gate's variable is above `low` and at most `high`, and its operands are below it
pub record IsAbove (Below : ℕ → Type 0) (low high : ℕ) (x : Gate) : Type 0 where
  pub from : low < x.v
  pub upto : x.v ≤ high
  pub left : variable_of x.left < x.v
  pub right : variable_of x.right < x.v
  pub left_one : IsOne Below low (variable_of x.left)
  pub right_one : IsOne Below low (variable_of x.right)

-- the constant, an input's variable or a gate's
abbrev pub IsOf : Extended → ℕ → Type 0
IsOf e v = (v ≡ 0) ⊎ Contains (defined (whole e)) v

abbrev pub more_gates : Extended → ℕ → List Gate → Extended
more_gates e high own = record { graph = e.graph; max = high; gates = e.gates ++ own; replaced = e.replaced }

-- ---- what is known of an extended graph is up to its greatest variable

module _ (e : Extended) (made : IsExtension e) where
  inputs_low : All (λ v. v ≤ e.max) (map variable_of e.graph.inputs)
  inputs_low =
      All-map (λ v. v ≤ e.max) variable_of e.graph.inputs
      (All-from_recursion (λ l. variable_of l ≤ e.max) e.graph.inputs
      (all_weaker (λ l. l.0 ≤ 2 * e.graph.max + 1) (λ l. variable_of l ≤ e.max) e.graph.inputs (λ l h. let room = made.room in omega arith)
      (all_split (λ l. l.0 ≤ 2 * e.graph.max + 1) e.graph.inputs (read_literals e.graph) (recursion_from_All (λ l. l.0 ≤ 2 * e.graph.max + 1) (e.graph.inputs ++ read_literals e.graph) made.graph.in_range)).0))

  pub defined_low : All (λ v. v ≤ e.max) (defined (whole e))
  defined_low = All-append (λ v. v ≤ e.max) (map variable_of e.graph.inputs) (map (λ x. x.v) e.gates) inputs_low (All-map (λ v. v ≤ e.max) (λ x. x.v) e.gates made.gates_in_range)

  pub known_low : (l : Lit) → IsKnown e l → variable_of l ≤ e.max
  known_low l known = ⊎_elim (λ z. omega arith) (λ c. All-contains (λ v. v ≤ e.max) (defined (whole e)) (variable_of l) defined_low c) known

-- ---- more gates

module _ (e : Extended) (high : ℕ) (own : List Gate) (made : IsExtension e) (counts : Counts (e.max + 1) (map (λ x. x.v) own)) (many : high ≡ e.max + length own)
    (above : AllByRecursion (IsAbove (IsOf e) e.max high) own) where
  abbrev longer : Extended
  longer = more_gates e high own

  each : All (IsAbove (IsOf e) e.max high) own
  each = All-from_recursion (IsAbove (IsOf e) e.max high) own above

  defined_is : defined (whole e) ++ map (λ x. x.v) own ≡ defined (whole longer)
  defined_is =
      append_assoc (map variable_of e.graph.inputs) (map (λ x. x.v) e.gates) (map (λ x. x.v) own) ∙ ap (λ zs. map variable_of e.graph.inputs ++ zs) (sym (map-append (λ x. x.v) e.gates own))

  once : AllPairs ◌≢◌ (defined (whole longer))
  once =
      pairs_from_apart (defined (whole longer))
      (subst Apart defined_is
      (apart_join (defined (whole e)) (map (λ x. x.v) own) (apart_from_pairs (defined (whole e)) made.defined_once.once)
      (apart_from_pairs (map (λ x. x.v) own) (counts_apart (e.max + 1) (map (λ x. x.v) own) counts))
      (apart_above e.max (defined (whole e)) (map (λ x. x.v) own) (recursion_from_All (λ v. v ≤ e.max) (defined (whole e)) (defined_low e made))
      (recursion_from_All (λ v. e.max < v) (map (λ x. x.v) own) (All-map (λ v. e.max < v) (λ x. x.v) own (λ k d h. (each k d h).from))))))

  -- what was known is, and so is each variable of the new gates
  still_of : (v : ℕ) → IsOf e v → IsOf longer v
  still_of v h = ⊎_elim inl (λ c. inr (subst (λ z. Contains z v) defined_is (Contains-append_left (defined (whole e)) (map (λ x. x.v) own) v c))) h

  own_known : (v : ℕ) → e.max < v → v ≤ high → Contains (defined (whole longer)) v
  own_known v lt le =
      let all = length-map own (λ x. x.v) in
      let top = many in
      subst (λ z. Contains z v) defined_is
      (Contains-append_right (defined (whole e)) (map (λ x. x.v) own) v (counts_contain (e.max + 1) (map (λ x. x.v) own) counts v (omega arith) (omega arith)))

  pub one_readable : (l : Lit) → variable_of l ≤ high → IsOne (IsOf e) e.max (variable_of l) → IsReadable longer l
  one_readable l le one = (le, ⊎_elim (still_of (variable_of l)) (λ lt. inr (own_known (variable_of l) lt le)) one)

  still_readable : (l : Lit) → IsReadable e l → IsReadable longer l
  still_readable l h = let low = h.0 in let top = many in (omega arith, still_of (variable_of l) h.1)

  operands : All (λ x. IsReadable longer x.left × IsReadable longer x.right) (e.gates ++ own)
  operands =
      All-append (λ x. IsReadable longer x.left × IsReadable longer x.right) e.gates own
      (λ k d h. let x = slice_index_or e.gates k d in (still_readable x.left (made.operands k d h).0, still_readable x.right (made.operands k d h).1))
      (λ k d h.
      let x = slice_index_or own k d in
      let a = each k d h in
      let up = a.upto in
      let l = a.left in
      let r = a.right in
      (one_readable x.left (omega arith) a.left_one, one_readable x.right (omega arith) a.right_one))

  -- the gates so far by their order, and the new ones after them by their variables
  abbrev number : ℕ → ℕ
  number v = cond (nat_le v e.max) (min (made.acyclic.0 v) (length e.gates)) (length e.gates + v)

  number-low : (v : ℕ) → v ≤ e.max → number v ≡ min (made.acyclic.0 v) (length e.gates)
  number-low v h = ap (λ t. cond t (min (made.acyclic.0 v) (length e.gates)) (length e.gates + v)) (le-leb v e.max h)

  number-high : (v : ℕ) → e.max < v → number v ≡ length e.gates + v
  number-high v h = ap (λ t. cond t (min (made.acyclic.0 v) (length e.gates)) (length e.gates + v)) (lt-leb v e.max h)

  number-most : (v w : ℕ) → v < w → e.max < w → number v < number w
  number-most v w h up =
      ⊎_elim
      (λ below. let low = number-low v (omega arith) in let top = number-high w up in omega arith)
      (λ over. let low = number-high v (omega arith) in let top = number-high w up in omega arith)
      (cases_lt v (suc e.max))

  left_below : All (λ x. number (variable_of x.left) < number x.v) (e.gates ++ own)
  left_below = All-append (λ x. number (variable_of x.left) < number x.v) e.gates own
      (λ k d h.
      let x = slice_index_or e.gates k d in
      let low = number-low (variable_of x.left) (made.operands k d h).0.0 in
      let up = number-low x.v (made.gates_in_range k d h) in
      omega (arith, made.acyclic.1.left k d h, made.acyclic.1.few k d h))
      (λ k d h. let x = slice_index_or own k d in number-most (variable_of x.left) x.v (each k d h).left (each k d h).from)

  right_below : All (λ x. number (variable_of x.right) < number x.v) (e.gates ++ own)
  right_below = All-append (λ x. number (variable_of x.right) < number x.v) e.gates own
      (λ k d h.
      let x = slice_index_or e.gates k d in
      let low = number-low (variable_of x.right) (made.operands k d h).1.0 in
      let up = number-low x.v (made.gates_in_range k d h) in
      omega (arith, made.acyclic.1.right k d h, made.acyclic.1.few k d h))
      (λ k d h. let x = slice_index_or own k d in number-most (variable_of x.right) x.v (each k d h).right (each k d h).from)

  pub gates_extend : IsExtension longer
  gates_extend = record {
    graph = made.graph;
    room = let room = made.room in let top = many in omega arith;
    defined_once = record {
      inputs = made.defined_once.inputs;
      gates = All-append (λ x. 0 < x.v) e.gates own made.defined_once.gates (λ k d h. omega (arith, (each k d h).from));
      once = once;
    };
    acyclic = (rank (e.gates ++ own) number, order_from (e.gates ++ own) number left_below right_below);
    kept = All-weaker (Contains e.gates) (Contains (e.gates ++ own)) (λ x c. Contains-append_left e.gates own x c) e.graph.gates made.kept;
    replaced = made.replaced;
    new_readable = λ k d h. still_readable (slice_index_or e.replaced k d).new (made.new_readable k d h);
    operands = operands;
    gates_in_range = All-append (λ x. x.v ≤ high) e.gates own (λ k d h. omega (arith, many, made.gates_in_range k d h)) (λ k d h. (each k d h).upto);
    numbers_once = made.numbers_once;
  }

  -- ---- evaluations

  own_order : IsOrder own (λ v. v - e.max)
  own_order = record {
    left = λ k d h. omega (arith, (each k d h).from, (each k d h).left);
    right = λ k d h. omega (arith, (each k d h).from, (each k d h).right);
    few = λ k d h. omega (arith, many, (each k d h).upto);
  }

  module _ (τ : Assignment) (evaluates : IsEvaluation e.gates τ) where
    abbrev values : Assignment
    values = evaluation own τ

    kept_values : SameUpTo e.max values τ
    kept_values v h =
        rounds-free own τ (length own) v
        (finds_none own v (recursion_from_All (λ x. v ≢ x.v) own (λ k d l same. let far = (each k d l).from in absurd (omega arith))))

    own_evaluate : IsEvaluation own values
    own_evaluate =
        evaluation_is own (λ v. v - e.max) own_order
        (gates_distinct own (apart_from_pairs (map (λ x. x.v) own) (counts_apart (e.max + 1) (map (λ x. x.v) own) counts)))
        (λ k d h. omega (arith, (each k d h).from)) τ

    front_evaluates : IsEvaluation e.gates values
    front_evaluates k d h =
        let x = slice_index_or e.gates k d in
        variable_same values τ x.v (kept_values x.v (made.gates_in_range k d h)) ∙ evaluates k d h ∙
        sym (ap₂ ◌&&◌ (literal_same values τ x.left (kept_values (variable_of x.left) (made.operands k d h).0.0)) (literal_same values τ x.right (kept_values (variable_of x.right) (made.operands k d h).1.0)))

    all_evaluate : IsEvaluation (e.gates ++ own) values
    all_evaluate = All-append (λ x. variable values x.v ≡ (literal values x.left && literal values x.right)) e.gates own front_evaluates own_evaluate

    pub gates_go_on : (σ : Assignment) × IsEvaluation (e.gates ++ own) σ × SameUpTo e.max σ τ
    gates_go_on = (values, all_evaluate, kept_values)
