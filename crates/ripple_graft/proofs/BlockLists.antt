-- Blocks one after the other: they extend a graph, its evaluations go on, each adds, and all of them at once.
use Rattle.std.specs.Prelude.{◌≡◌, ℕ, zero, suc, ◌+◌, ◌*◌, ◌<◌, ◌≤◌, ◌⊎◌, ◌&&◌, Bool, true, false, cond, List, [], ◌∷◌, ◌++◌, map, length, take, drop, slice_index_or, ◌==◌}
use Rattle.std.specs.List.{All, AllByRecursion, Contains, flat_map}
use Rattle.std.proofs.Common.{refl, sym, ap, ap₂, subst, ◌∙◌, arith, append_assoc, inl, inr, ⊎_elim, eqb-true}
use Rattle.std.proofs.lemmas.Bool.{eqb-false}
use Rattle.std.proofs.lemmas.List.{append-nil}
use Rattle.std.proofs.lemmas.List.Elements.{All-from_recursion, recursion_from_All, All-append}
use Rattle.graph_core.specs.declared.literal.Lit.{Lit}
use Rattle.graph_core.specs.declared.gate.Gate.{Gate}
use Rattle.graph_core.specs.Graph.Assignments.{Assignment, variable, literal}
use Rattle.graph_core.specs.Graph.{Aig, IsEvaluation, IsWellFormed, read_literals}
use Rattle.graph_core.specs.Graph.Extended.{Column, Extended, without_cut}
use Rattle.graph_core.specs.Graph.Literals.{variable_of, constant_false}
use Rattle.graph_core.proofs.OfGraphs.CallerLemmas.{all_split}
use Rattle.graph_core.specs.Graph.Positions.{carry_after}
use Rattle.ripple_graft.specs.Ripple.{ripple_gates, ripple_outputs}
use Rattle.ripple_graft.specs.Extension.{IsExtension, IsReadable, WholeIsWellFormed, new_or_old, new_outputs, outputs_from, whole}
use Rattle.ripple_graft.specs.Blocks.{AreBlocks, Block, BlockAdds, BlocksAdd, BlocksAreJoined, BlocksExtend, Cut, CutIsBlock, CutReplaces, EvaluationsExtend, IsBlock, IsCut, SameUpTo, block_columns, block_of, columns, graft_all, graft_block, pair_count, placed, with_cut}
use Rattle.ripple_graft.proofs.OneBlock.{evaluation_goes_on, graft_extends}
use Rattle.ripple_graft.proofs.Plain.{graph_extends}
use Rattle.ripple_graft.proofs.RippleAdds.{ripple_adds}

-- ---- without faults, and evaluations

all_extend : (e : Extended) (blocks : List Block) → IsExtension e → AreBlocks e blocks → IsExtension (graft_all e blocks)
all_extend e [] made fit = made
all_extend e (b ∷ blocks) made fit = all_extend (graft_block e b) blocks (graft_extends e b made fit.0) fit.1

pub blocks_extend : BlocksExtend
blocks_extend g blocks well fit = all_extend (without_cut g) blocks (graph_extends g well) fit

abbrev GoesOn : Extended → List Block → Assignment → Type 0
GoesOn e blocks τ = (σ : Assignment) × IsEvaluation (graft_all e blocks).gates σ × SameUpTo e.max σ τ

all_go_on : (e : Extended) (blocks : List Block) (τ : Assignment) → IsExtension e → AreBlocks e blocks → IsEvaluation e.gates τ → GoesOn e blocks τ
all_go_on e [] τ made fit evaluates = (τ, evaluates, λ v h. refl)
all_go_on e (b ∷ blocks) τ made fit evaluates =
    let one = evaluation_goes_on e b τ made fit.0 evaluates in
    let more = all_go_on (graft_block e b) blocks one.0 (graft_extends e b made fit.0) fit.1 one.1 in
    (more.0, more.1, λ v h. more.2 v (omega arith) ∙ one.2 v h)

pub evaluations_extend : EvaluationsExtend
evaluations_extend g blocks τ well fit evaluates = all_go_on (without_cut g) blocks τ (graph_extends g well) fit evaluates

-- ---- all gates with the new outputs

module _ (e : Extended) (made : IsExtension e) where
  abbrev InRange : Lit → Type 0
  InRange l = l.0 ≤ 2 * e.max + 1

  in_range : (l : Lit) → IsReadable e l → InRange l
  in_range l h = let low = h.0 in omega arith

  outputs_all : (P : Lit → Type 0) (cs : List Column) → AllByRecursion (λ c. P c.new) cs → (k : ℕ) (ls : List Lit) → AllByRecursion P ls → AllByRecursion P (outputs_from cs k ls)
  outputs_all P cs h k [] a = tt
  outputs_all P cs h k (l ∷ ls) a = (one cs h, outputs_all P cs h (suc k) ls a.1)
    where
      one : (ds : List Column) → AllByRecursion (λ c. P c.new) ds → P (new_or_old ds k l)
      one [] i = a.0
      one (c ∷ ds) i = go (c.number == k) (one ds i.1)
        where
          go : (t : Bool) → P (new_or_old ds k l) → P (cond t c.new (new_or_old ds k l))
          go true later = i.0
          go false later = later

  -- what the graph knows is known
  gates_have : (gates : List Gate) → AllByRecursion (Contains e.gates) gates → (v : ℕ) → Contains (map (λ x. x.v) gates) v → Contains (map (λ x. x.v) e.gates) v
  gates_have [] h v c = absurd (let below : c.0 < 0 = c.1 in omega arith)
  gates_have (x ∷ gates) h v c = ⊎_elim (λ same. subst (Contains (map (λ y. y.v) e.gates)) same (image e.gates x h.0)) (gates_have gates h.1 v) (cases c.0 c.1 c.2)
    where
      cases : (i : ℕ) → i < length (map (λ y. y.v) (x ∷ gates)) → slice_index_or (map (λ y. y.v) (x ∷ gates)) i v ≡ v → (x.v ≡ v) ⊎ Contains (map (λ y. y.v) gates) v
      cases zero below is = inl is
      cases (suc i) below is = inr (i, omega arith, is)

      image : (ys : List Gate) (y : Gate) → Contains ys y → Contains (map (λ z. z.v) ys) y.v
      image [] y d = absurd (let below : d.0 < 0 = d.1 in omega arith)
      image (z ∷ ys) y (zero, below, is) = (0, omega arith, ap (λ w. w.v) is)
      image (z ∷ ys) y (suc i, below, is) = let more = image ys y (i, omega arith, is) in let low : more.0 < length (map (λ w. w.v) ys) = more.1 in (suc more.0, omega arith, more.2)

  abbrev input_variables : List ℕ
  input_variables = map variable_of e.graph.inputs

  defined_known : (xs : List ℕ) (v : ℕ) → Contains (xs ++ map (λ x. x.v) e.graph.gates) v → Contains (xs ++ map (λ x. x.v) e.gates) v
  defined_known [] v c = gates_have e.graph.gates (recursion_from_All (Contains e.gates) e.graph.gates made.kept) v c
  defined_known (x ∷ xs) v (zero, below, is) = (0, omega arith, is)
  defined_known (x ∷ xs) v (suc i, below, is) =
      let more = defined_known xs v (i, omega arith, is) in let low : more.0 < length (xs ++ map (λ y. y.v) e.gates) = more.1 in (suc more.0, omega arith, more.2)

  old_readable : AllByRecursion (IsReadable e) e.graph.outputs
  old_readable = go e.graph.outputs
      (all_split (λ l. l.0 ≤ 2 * e.graph.max + 1) e.graph.outputs (flat_map (λ x. x.left ∷ x.right ∷ []) e.graph.gates)
      (all_split (λ l. l.0 ≤ 2 * e.graph.max + 1) e.graph.inputs (read_literals e.graph) (recursion_from_All (λ l. l.0 ≤ 2 * e.graph.max + 1) (e.graph.inputs ++ read_literals e.graph) made.graph.in_range)).1).0
      (all_split (λ l. (variable_of l ≡ 0) ⊎ Contains (input_variables ++ map (λ x. x.v) e.graph.gates) (variable_of l)) e.graph.outputs (flat_map (λ x. x.left ∷ x.right ∷ []) e.graph.gates)
      (recursion_from_All (λ l. (variable_of l ≡ 0) ⊎ Contains (input_variables ++ map (λ x. x.v) e.graph.gates) (variable_of l)) (read_literals e.graph) made.graph.known)).0
    where
      go : (ls : List Lit) → AllByRecursion (λ l. l.0 ≤ 2 * e.graph.max + 1) ls → AllByRecursion (λ l. (variable_of l ≡ 0) ⊎ Contains (input_variables ++ map (λ x. x.v) e.graph.gates) (variable_of l)) ls →
          AllByRecursion (IsReadable e) ls
      go [] a b = tt
      go (l ∷ ls) a b =
          let top = a.0 in
          let room = made.room in
          ((omega arith, ⊎_elim inl (λ c. inr (defined_known input_variables (variable_of l) c)) b.0), go ls a.1 b.1)

  operands_all : (gates : List Gate) → AllByRecursion (λ x. IsReadable e x.left × IsReadable e x.right) gates → AllByRecursion (IsReadable e) (flat_map (λ x. x.left ∷ x.right ∷ []) gates)
  operands_all [] h = tt
  operands_all (x ∷ gates) h = (h.0.0, (h.0.1, operands_all gates h.1))

  reads : All (IsReadable e) (read_literals (whole e))
  reads =
      All-append (IsReadable e) (new_outputs e) (flat_map (λ x. x.left ∷ x.right ∷ []) e.gates)
      (All-from_recursion (IsReadable e) (new_outputs e) (outputs_all (IsReadable e) e.replaced (recursion_from_All (λ c. IsReadable e c.new) e.replaced made.new_readable) 0 e.graph.outputs old_readable))
      (All-from_recursion (IsReadable e) (flat_map (λ x. x.left ∷ x.right ∷ []) e.gates)
      (operands_all e.gates (recursion_from_All (λ x. IsReadable e x.left × IsReadable e x.right) e.gates made.operands)))

  inputs_in_range : All InRange e.graph.inputs
  inputs_in_range = All-from_recursion InRange e.graph.inputs
      (go e.graph.inputs (all_split (λ l. l.0 ≤ 2 * e.graph.max + 1) e.graph.inputs (read_literals e.graph) (recursion_from_All (λ l. l.0 ≤ 2 * e.graph.max + 1) (e.graph.inputs ++ read_literals e.graph) made.graph.in_range)).0)
    where
      go : (ls : List Lit) → AllByRecursion (λ l. l.0 ≤ 2 * e.graph.max + 1) ls → AllByRecursion InRange ls
      go [] a = tt
      go (l ∷ ls) a = let top = a.0 in let room = made.room in (omega arith, go ls a.1)

  pub well_formed : IsWellFormed (whole e)
  well_formed = record {
    in_range = All-append InRange e.graph.inputs (read_literals (whole e)) inputs_in_range (λ k d h. in_range (slice_index_or (read_literals (whole e)) k d) (reads k d h));
    gates_in_range = made.gates_in_range;
    defined_once = made.defined_once;
    known = λ k d h. (reads k d h).1;
    acyclic = made.acyclic;
  }

pub whole_is_well_formed : WholeIsWellFormed
whole_is_well_formed e made = well_formed e made

-- ---- each block adds

pub all_split_at : {X : Type 0} (P : X → Type 0) (xs ys : List X) → All P (xs ++ ys) → All P xs × All P ys
all_split_at P xs ys h = let both = all_split P xs ys (recursion_from_All P (xs ++ ys) h) in (All-from_recursion P xs both.0, All-from_recursion P ys both.1)

abbrev Follows : Assignment → Gate → Type 0
Follows σ x = variable σ x.v ≡ (literal σ x.left && literal σ x.right)

-- an evaluation of the whole is one of the gates so far
front_of : (e : Extended) (blocks : List Block) (σ : Assignment) → IsEvaluation (graft_all e blocks).gates σ → IsEvaluation e.gates σ
front_of e [] σ h = h
front_of e (b ∷ blocks) σ h = (all_split_at (Follows σ) e.gates (ripple_gates e.max constant_false b.cut.pairs) (front_of (graft_block e b) blocks σ h)).0

each_adds : (e : Extended) (blocks : List Block) (σ : Assignment) → IsEvaluation (graft_all e blocks).gates σ → AllByRecursion (BlockAdds σ) (placed e.max blocks)
each_adds e [] σ h = tt
each_adds e (b ∷ blocks) σ h = (
  ripple_adds e.max b.cut.pairs σ (all_split_at (Follows σ) e.gates (ripple_gates e.max constant_false b.cut.pairs) (front_of (graft_block e b) blocks σ h)).1,
  each_adds (graft_block e b) blocks σ h,
)

pub blocks_add : BlocksAdd
blocks_add g blocks σ h = All-from_recursion (BlockAdds σ) (placed g.max blocks) (each_adds (without_cut g) blocks σ h)

-- ---- all of them at once

abbrev joined : Extended → List Block → Extended
joined e blocks = record {
  graph = e.graph;
  max = e.max + 7 * pair_count blocks;
  gates = e.gates ++ flat_map (λ p. ripple_gates p.0 constant_false p.1.cut.pairs) (placed e.max blocks);
  replaced = e.replaced ++ flat_map (λ p. block_columns e.graph p.0 p.1) (placed e.max blocks);
}

abbrev extended : Aig → ℕ → List Gate → List Column → Extended
extended g max gates replaced = record { graph = g; max = max; gates = gates; replaced = replaced }

joined_more : (e : Extended) (k n : ℕ) (gates later_gates : List Gate) (cs later_cs : List Column) →
    extended e.graph ((e.max + 7 * k) + 7 * n) ((e.gates ++ gates) ++ later_gates) ((e.replaced ++ cs) ++ later_cs) ≡ extended e.graph (e.max + 7 * (k + n)) (e.gates ++ (gates ++ later_gates)) (e.replaced ++ (cs ++ later_cs))
joined_more e k n gates later_gates cs later_cs =
    ap (λ m. extended e.graph m ((e.gates ++ gates) ++ later_gates) ((e.replaced ++ cs) ++ later_cs)) sums ∙
    ap₂ (λ xs ys. extended e.graph (e.max + 7 * (k + n)) xs ys) (append_assoc e.gates gates later_gates) (append_assoc e.replaced cs later_cs)
  where
    sums : (e.max + 7 * k) + 7 * n ≡ e.max + 7 * (k + n)
    sums = omega arith

all_joined : (e : Extended) (blocks : List Block) → graft_all e blocks ≡ joined e blocks
all_joined e [] = sym (ap (λ m. extended e.graph m (e.gates ++ []) (e.replaced ++ [])) (plus_zero e.max) ∙ ap₂ (λ gates cs. extended e.graph e.max gates cs) (append-nil e.gates) (append-nil e.replaced))
  where
    plus_zero : (n : ℕ) → n + 7 * 0 ≡ n
    plus_zero n = omega arith
all_joined e (b ∷ blocks) =
    let next = e.max + 7 * length b.cut.pairs in
    all_joined (graft_block e b) blocks ∙
    joined_more e (length b.cut.pairs) (pair_count blocks) (ripple_gates e.max constant_false b.cut.pairs) (flat_map (λ p. ripple_gates p.0 constant_false p.1.cut.pairs) (placed next blocks))
    (block_columns e.graph e.max b) (flat_map (λ p. block_columns e.graph p.0 p.1) (placed next blocks))

pub blocks_are_joined : BlocksAreJoined
blocks_are_joined g blocks = all_joined (without_cut g) blocks

-- ---- one cut

pub length-ripple_outputs : (v : ℕ) (c : Lit) (ps : List (Lit × Lit)) → length (ripple_outputs v c ps) ≡ length ps + 1
length-ripple_outputs v c [] = refl
length-ripple_outputs v c (p ∷ ps) = let more = length-ripple_outputs (v + 7) (carry_after v) ps in omega arith

-- columns are made as far as there are old outputs
columns_take : (k n : ℕ) (old new : List Lit) → length old ≤ n → columns k old (take n new) ≡ columns k old new
columns_take k n [] new h = refl
columns_take k zero (o ∷ old) new h = absurd (omega arith)
columns_take k (suc n) (o ∷ old) [] h = refl
columns_take k (suc n) (o ∷ old) (r ∷ new) h = ap (λ cs. record { number = k; old = o; new = r } ∷ cs) (columns_take (suc k) n old new (omega arith))

take_enough : {X : Type 0} (n : ℕ) (xs : List X) → length xs ≤ n → take n xs ≡ xs
take_enough zero [] h = refl
take_enough zero (x ∷ xs) h = absurd (omega arith)
take_enough (suc n) [] h = refl
take_enough (suc n) (x ∷ xs) h = ap (λ ys. x ∷ ys) (take_enough n xs (omega arith))

length-drop_from : {X : Type 0} (n : ℕ) (xs : List X) (k : ℕ) → n + k ≡ length xs → length (drop n xs) ≡ k
length-drop_from zero xs k h = sym h ∙ omega arith
length-drop_from (suc n) [] k h = absurd (omega arith)
length-drop_from (suc n) (x ∷ xs) k h = length-drop_from n xs k (omega arith)

module _ (g : Aig) (cut : Cut) (is_cut : IsCut g cut) where
  abbrev ends : Bool
  ends = cut.lo + length cut.pairs + 1 == length g.outputs

  abbrev outputs : List Lit
  outputs = ripple_outputs g.max constant_false cut.pairs

  same_columns : (t : Bool) → ends ≡ t → columns cut.lo (drop cut.lo g.outputs) (take (cond t (length cut.pairs + 1) (length cut.pairs)) outputs) ≡ columns cut.lo (drop cut.lo g.outputs) outputs
  same_columns true h = ap (columns cut.lo (drop cut.lo g.outputs)) (take_enough (length cut.pairs + 1) outputs (let all = length-ripple_outputs g.max constant_false cut.pairs in omega arith))
  same_columns false h =
      columns_take cut.lo (length cut.pairs) (drop cut.lo g.outputs) outputs
      (let other = eqb-false (cut.lo + length cut.pairs + 1) (length g.outputs) h in
      let last : cut.lo + length cut.pairs ≡ length g.outputs = ⊎_elim (λ a. absurd (other a)) (λ b. b) is_cut.columns in
      let all = length-drop_from cut.lo g.outputs (length cut.pairs) last in omega arith)

  within : (t : Bool) → ends ≡ t → cut.lo + cond t (length cut.pairs + 1) (length cut.pairs) ≤ length g.outputs
  within true h = let same = eqb-true (cut.lo + length cut.pairs + 1) (length g.outputs) h in omega arith
  within false h = ⊎_elim (λ a. omega arith) (λ b. omega arith) is_cut.columns

  pub replaces : with_cut g cut ≡ extended g (g.max + 7 * length cut.pairs) (g.gates ++ ripple_gates g.max constant_false cut.pairs) (columns cut.lo (drop cut.lo g.outputs) outputs)
  replaces = ap (extended g (g.max + 7 * length cut.pairs) (g.gates ++ ripple_gates g.max constant_false cut.pairs)) (same_columns ends refl)

  pub is_block : IsBlock (without_cut g) (block_of (length g.outputs) cut)
  is_block = record { some = is_cut.some; within = within ends refl; apart = λ k d h. absurd (omega arith); known = is_cut.known }

pub cut_replaces : CutReplaces
cut_replaces g cut is_cut = replaces g cut is_cut

pub cut_is_block : CutIsBlock
cut_is_block g cut is_cut = is_block g cut is_cut
