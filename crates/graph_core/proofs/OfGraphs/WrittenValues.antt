-- Values that are written gate by gate, operands first, are those of the evaluation.
use Rattle.std.specs.Prelude.{◌≡◌, ◌≢◌, ℕ, ◌+◌, ◌%◌, ◌<◌, ◌≤◌, ◌⊎◌, Bool, true, false, cond, ◌&&◌, ◌==◌, List, [], ◌∷◌, ◌++◌, map, take, length, slice_set, get_or, nat_lt, replicate}
use Rattle.std.specs.List.{All, AllByRecursion, AllPairs, Contains}
use Rattle.std.proofs.Common.{refl, sym, ap, ap₂, subst, ◌∙◌, arith, inl, inr, ⊎_elim, eq-eqb, ne_eqb, eqb-true, ltb-true, length-append, get_or-set_same, get_or-set_other}
use Rattle.std.proofs.lemmas.Bool.{cases_eq, ltb-false}
use Rattle.std.proofs.lemmas.List.{take_more, map_push, take_all, get_or_past, length-take, length-map, get_or-take, get_or_default, get_or-map, get_or_append_left, get_or-replicate, length-replicate}
use Rattle.std.proofs.lemmas.List.Elements.{recursion_from_All, All-contains, Contains-push_cases}
use Rattle.graph_core.specs.declared.literal.Lit.{Lit}
use Rattle.graph_core.specs.declared.gate.Gate.{Gate}
use Rattle.graph_core.specs.Graph.Literals.{variable_of}
use Rattle.graph_core.specs.Graph.Assignments.{variable, literal, listed}
use Rattle.graph_core.specs.Graph.{Aig, IsWellFormed, IsFree, defined, of_inputs, evaluated, AreValues}
use Rattle.graph_core.specs.Graph.Tables.{IsSettled, IsSchedule}
use Rattle.graph_core.proofs.OfGraphs.Evaluation.{literal_same, rounds-free, finds_none, variable-pos}
use Rattle.graph_core.proofs.OfGraphs.Multiplies.{evaluated_is}
use Rattle.graph_core.proofs.OfGraphs.TableLemmas.{scheduled_left, scheduled_right}
use Rattle.graph_core.proofs.OfGraphs.WellFormedGates.{IsInRange, gate_in_range, free_or_some}

-- ---- the inputs

-- one more input, of a variable that none of the others has
pub of_inputs-push : (ls : List Lit) (bits : List Bool) (l : Lit) (b : Bool) (v : ℕ) → length ls ≡ length bits → AllByRecursion (λ m. variable_of m ≢ variable_of l) ls →
    of_inputs (ls ++ l ∷ []) (bits ++ b ∷ []) v ≡ cond (v == variable_of l) b (of_inputs ls bits v)
of_inputs-push [] [] l b v e h = refl
of_inputs-push [] (c ∷ bits) l b v e h = absurd (omega arith)
of_inputs-push (m ∷ ls) [] l b v e h = absurd (omega arith)
of_inputs-push (m ∷ ls) (c ∷ bits) l b v e h = go (v == variable_of m) refl (v == variable_of l) refl (of_inputs-push ls bits l b v (omega arith) h.1)
  where
    go : (p : Bool) → (v == variable_of m) ≡ p → (q : Bool) → (v == variable_of l) ≡ q → of_inputs (ls ++ l ∷ []) (bits ++ b ∷ []) v ≡ cond (v == variable_of l) b (of_inputs ls bits v) →
        cond p c (of_inputs (ls ++ l ∷ []) (bits ++ b ∷ []) v) ≡ cond q b (cond p c (of_inputs ls bits v))
    go true s true t r = absurd (h.0 (sym (eqb-true v (variable_of m) s) ∙ eqb-true v (variable_of l) t))
    go true s false t r = refl
    go false s true t r = r ∙ ap (λ d. cond d b (of_inputs ls bits v)) t
    go false s false t r = r ∙ ap (λ d. cond d b (of_inputs ls bits v)) t

-- a write at a place
pub listed-set : (values : List Bool) (i : ℕ) (b : Bool) (v : ℕ) → i < length values → listed (slice_set values i b) v ≡ cond (v == i) b (listed values v)
listed-set values i b v h = ⊎_elim (λ e. same e) other (cases_eq v i)
  where
    same : v ≡ i → listed (slice_set values i b) v ≡ cond (v == i) b (listed values v)
    same e = ap (listed (slice_set values i b)) e ∙ get_or-set_same values i b false h ∙ ap (λ c. cond c b (listed values v)) (sym (eq-eqb v i e))

    other : v ≢ i → listed (slice_set values i b) v ≡ cond (v == i) b (listed values v)
    other n = get_or-set_other values i v b false n ∙ ap (λ c. cond c b (listed values v)) (sym (ne_eqb v i n))

module _ (g : Aig) (well : IsWellFormed g) (bits : List Bool) where
  free_keeps : (v : ℕ) → IsFree g.gates v → evaluated g bits v ≡ of_inputs g.inputs bits v
  free_keeps v f = rounds-free g.gates (of_inputs g.inputs bits) (length g.gates) v (finds_none g.gates v (turned g.gates (recursion_from_All (λ x. x.v ≢ v) g.gates f)))
    where
      turned : (gates : List Gate) → AllByRecursion (λ x. x.v ≢ v) gates → AllByRecursion (λ x. v ≢ x.v) gates
      turned [] h = tt
      turned (x ∷ gates) h = ((λ e. h.0 (sym e)), turned gates h.1)

  abbrev IsWritten : List Gate → List Bool → Type 0
  IsWritten done values = (v : ℕ) → IsSettled g.gates done v → listed values v ≡ evaluated g bits v

  -- before the first gate
  pub inputs_written : (values : List Bool) → ((v : ℕ) → listed values v ≡ of_inputs g.inputs bits v) → IsWritten [] values
  inputs_written values h v (inl f) = h v ∙ sym (free_keeps v f)
  inputs_written values h v (inr c) = let low = c.1 in absurd (omega arith)

  constant_free : IsFree g.gates 0
  constant_free k d h = let p = well.defined_once.gates k d h in omega arith

  inputs_positive : (ls : List Lit) (bs : List Bool) → AllByRecursion (λ l. (l.0 % 2 ≡ 0) × (0 < variable_of l)) ls → of_inputs ls bs 0 ≡ false
  inputs_positive [] bs h = refl
  inputs_positive (l ∷ ls) [] h = refl
  inputs_positive (l ∷ ls) (b ∷ bs) h = let some = h.0.1 in ap (λ c. cond c b (of_inputs ls bs 0)) (ne_eqb 0 (variable_of l) (omega arith)) ∙ inputs_positive ls bs h.1

  -- the constant has its value at place 0
  pub constant_written : (done : List Gate) (values : List Bool) → IsWritten done values → listed values 0 ≡ false
  constant_written done values w =
      w 0 (inl constant_free) ∙ free_keeps 0 constant_free ∙ inputs_positive g.inputs bits (recursion_from_All (λ l. (l.0 % 2 ≡ 0) × (0 < variable_of l)) g.inputs well.defined_once.inputs)

  -- one more gate, whose operands are settled
  pub gate_written : (done : List Gate) (x : Gate) (values : List Bool) → Contains g.gates x → length values ≡ g.max + 1 → IsSettled g.gates done (variable_of x.left) → IsSettled g.gates done (variable_of x.right) →
      IsWritten done values → IsWritten (done ++ x ∷ []) (slice_set values x.v (literal (listed values) x.left && literal (listed values) x.right))
  gate_written done x values c size left right w v settled = ⊎_elim here there (cases_eq v x.v)
    where
      range : IsInRange g.max x
      range = gate_in_range g well x c

      value : Bool
      value = literal (listed values) x.left && literal (listed values) x.right

      is_value : variable (evaluated g bits) x.v ≡ (literal (evaluated g bits) x.left && literal (evaluated g bits) x.right)
      is_value = All-contains (λ y. variable (evaluated g bits) y.v ≡ (literal (evaluated g bits) y.left && literal (evaluated g bits) y.right)) g.gates x (evaluated_is g bits well.defined_once well.acyclic) c

      positive : 0 < x.v
      positive = range.positive

      same : (literal (listed values) x.left && literal (listed values) x.right) ≡ evaluated g bits x.v
      same =
          ap₂ ◌&&◌ (literal_same (listed values) (evaluated g bits) x.left (w (variable_of x.left) left)) (literal_same (listed values) (evaluated g bits) x.right (w (variable_of x.right) right)) ∙
          sym is_value ∙ variable-pos (evaluated g bits) x.v positive

      within : x.v < length values
      within = let l = range.own in omega arith

      here : v ≡ x.v → listed (slice_set values x.v (literal (listed values) x.left && literal (listed values) x.right)) v ≡ evaluated g bits v
      here e = ap (listed (slice_set values x.v (literal (listed values) x.left && literal (listed values) x.right))) e ∙ get_or-set_same values x.v (literal (listed values) x.left && literal (listed values) x.right) false within ∙ same ∙ ap (evaluated g bits) (sym e)

      before : v ≢ x.v → IsSettled g.gates (done ++ x ∷ []) v → IsSettled g.gates done v
      before n (inl f) = inl f
      before n (inr k) = ⊎_elim inr (λ e. absurd (n (sym e))) (Contains-push_cases (map (λ y. y.v) done) x.v v (subst (λ vs. Contains vs v) (map_push (λ y. y.v) done x) k))

      there : v ≢ x.v → listed (slice_set values x.v (literal (listed values) x.left && literal (listed values) x.right)) v ≡ evaluated g bits v
      there n = get_or-set_other values x.v v (literal (listed values) x.left && literal (listed values) x.right) false n ∙ w v (before n settled)

-- ---- the loops

-- so many inputs are written
abbrev pub InputsWritten : List Lit → List Bool → ℕ → List Bool → Type 0
InputsWritten lits bits k values = (v : ℕ) → listed values v ≡ of_inputs (take k lits) (take k bits) v

-- different variables by recursion, up to one of them
pub apart_before : (lits : List Lit) (k : ℕ) (d : Lit) → AllPairs (λ l m. variable_of l ≢ variable_of m) lits → k < length lits → AllByRecursion (λ m. variable_of m ≢ variable_of (get_or lits k d)) (take k lits)
apart_before lits k d h below =
    recursion_from_All (λ m. variable_of m ≢ variable_of (get_or lits k d)) (take k lits)
    (λ j e l. let short : j < k = omega (arith, length-take k lits) in
    rw (get_or-take k lits j e short, get_or_default lits k d e below) (h j k e short below))

pub input_written : (lits : List Lit) (bits values : List Bool) (k : ℕ) → length bits ≡ length lits → All (λ l. variable_of l < length values) lits → AllPairs (λ l m. variable_of l ≢ variable_of m) lits →
    k < length lits → InputsWritten lits bits k values →
    InputsWritten lits bits (k + 1) (slice_set values (variable_of (get_or lits k (record { 0 = 0 }))) (get_or bits k false))
input_written lits bits values k same low apart below w v =
    listed-set values (variable_of (get_or lits k (record { 0 = 0 }))) (get_or bits k false) v (low k (record { 0 = 0 }) below) ∙
    ap (cond (v == variable_of (get_or lits k (record { 0 = 0 }))) (get_or bits k false)) (w v) ∙
    sym (of_inputs-push (take k lits) (take k bits) (get_or lits k (record { 0 = 0 })) (get_or bits k false) v (omega (arith, length-take k lits, length-take k bits)) (apart_before lits k (record { 0 = 0 }) apart below)) ∙
    ap₂ (λ ls bs. of_inputs ls bs v) (sym (take_more lits k (record { 0 = 0 }) below)) (sym (take_more bits k false (omega arith)))

pub all_inputs_written : (lits : List Lit) (bits values : List Bool) (k : ℕ) → length bits ≡ length lits → length lits ≤ k → InputsWritten lits bits k values → (v : ℕ) → listed values v ≡ of_inputs lits bits v
all_inputs_written lits bits values k same all w v = w v ∙ ap₂ (λ ls bs. of_inputs ls bs v) (take_all k lits all) (take_all k bits (omega arith))

pub below_or_not : (m n : ℕ) → (m < n) ⊎ (n ≤ m)
below_or_not m n = go (nat_lt m n) refl
  where
    go : (b : Bool) → nat_lt m n ≡ b → (m < n) ⊎ (n ≤ m)
    go true e = inl (ltb-true m n e)
    go false e = inr (ltb-false m n e)

-- values that are all false
pub none_written : (n : ℕ) (values : List Bool) → values ≡ replicate n false → (v : ℕ) → listed values v ≡ false
none_written n values e v = ap (λ xs. listed xs v) e ∙ ⊎_elim (λ l. get_or-replicate n v false false l) (λ l. get_or_past (replicate n false) v false (omega (arith, length-replicate n false))) (below_or_not v n)

-- different input variables
pub inputs_apart : (g : Aig) → IsWellFormed g → AllPairs (λ l m. variable_of l ≢ variable_of m) g.inputs
inputs_apart g well i j d below within e =
    let first : i < length g.inputs = omega arith in
    let size = length-map g.inputs variable_of in
    let at : (k : ℕ) → k < length g.inputs → get_or (defined g) k 0 ≡ variable_of (get_or g.inputs k d) = λ k l.
    get_or_append_left (map variable_of g.inputs) (map (λ x. x.v) g.gates) 0 k (omega arith) ∙ get_or-map variable_of g.inputs k d 0 l in
    well.defined_once.once i j 0 below (omega (arith, length-append (map variable_of g.inputs) (map (λ x. x.v) g.gates))) (at i first ∙ e ∙ sym (at j within))

module _ (g : Aig) (well : IsWellFormed g) (bits : List Bool) (schedule : List Gate) (order : IsSchedule g.gates schedule) where
  -- the gates before a place are written
  abbrev pub GatesWritten : ℕ → List Bool → Type 0
  GatesWritten i values = (v : ℕ) → IsSettled g.gates (take i schedule) v → listed values v ≡ evaluated g bits v

  pub scheduled : (i : ℕ) (d : Gate) → i < length schedule → Contains g.gates (get_or schedule i d)
  scheduled i d below = order.some i d below

  pub next_written : (values : List Bool) (i : ℕ) (d : Gate) → i < length schedule → length values ≡ g.max + 1 → GatesWritten i values →
      GatesWritten (i + 1) (slice_set values (get_or schedule i d).v (literal (listed values) (get_or schedule i d).left && literal (listed values) (get_or schedule i d).right))
  next_written values i d below size w =
      let next = gate_written g well bits (take i schedule) (get_or schedule i d) values (scheduled i d below) size (scheduled_left g.gates schedule i d order below) (scheduled_right g.gates schedule i d order below) w in
      rw (take_more schedule i d below) next

  pub all_gates_written : (values : List Bool) (i : ℕ) → length schedule ≤ i → GatesWritten i values → AreValues g bits values
  all_gates_written values i all w v = w v (⊎_elim inl settled (free_or_some g.gates v))
    where
      contains_map : (f : Gate → ℕ) (xs : List Gate) (x : Gate) → Contains xs x → Contains (map f xs) (f x)
      contains_map f xs x h = let l = h.1 in (h.0, omega (arith, length-map xs f), get_or-map f xs h.0 x (f x) l ∙ ap f h.2)

      settled : (x : Gate) × Contains g.gates x × (x.v ≡ v) → IsSettled g.gates (take i schedule) v
      settled r =
          let here = All-contains (Contains schedule) g.gates r.0 order.all r.1 in
          rw (take_all i schedule all) (inr (subst (Contains (map (λ y. y.v) schedule)) r.2 (contains_map (λ y. y.v) schedule r.0 here)))
