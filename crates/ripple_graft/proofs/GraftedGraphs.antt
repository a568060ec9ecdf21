-- An extended graph, as it is kept: with a block, a gate or an output more, how large it can be, and the gates of its variables.
use Rattle.std.specs.Prelude.{◌≡◌, ◌≢◌, ℕ, zero, suc, ◌+◌, ◌*◌, ◌<◌, ◌≤◌, Bool, true, false, List, [], ◌∷◌, ◌++◌, map, length, take, drop, slice_get, slice_index_or}
use Rattle.std.specs.declared.option.Option.{Option}
use Rattle.std.specs.declared.option.Option.TheVariants.{None, Some}
use Rattle.std.specs.declared.result.Result.{Result}
use Rattle.std.specs.Option.{IfSome}
use Rattle.std.specs.Result.{IfOk}
use Rattle.std.specs.List.{AllByRecursion, Contains}
use Rattle.std.proofs.Common.{refl, sym, ap, subst, ◌∙◌, arith, append_assoc, append-nil, length-append, length-drop, get_or, get_or-append-add, Fits, w32}
use Rattle.std.proofs.lemmas.List.{length-map, take_more}
use Rattle.std.proofs.lemmas.List.Elements.{All-from_recursion, recursion_from_All, All-append, All-contains, Contains-append_left}
use Rattle.graph_core.specs.declared.bounds.TheConstants.{MOST_OUTPUTS, MOST_VARIABLES}
use Rattle.graph_core.specs.declared.literal.Lit.{Lit}
use Rattle.graph_core.specs.declared.gate.Gate.{Gate}
use Rattle.graph_core.specs.Graph.{Aig, IsBuilt, IsFree, IsGateOf}
use Rattle.graph_core.specs.Graph.Extended.{Column, Extended, without_cut}
use Rattle.graph_core.specs.Graph.Literals.{and_gate, constant_false}
use Rattle.graph_core.proofs.OfAiger.CallerLemmas.{Counts}
use Rattle.graph_core.proofs.OfGraphs.CallerLemmas.{Apart, apart_from_pairs, few_numbers}
use Rattle.ripple_graft.specs.Ripple.{ripple_gates, ripple_outputs}
use Rattle.ripple_graft.specs.Extension.{IsExtension}
use Rattle.ripple_graft.specs.Beside.{IsOutput, with_gate, with_output}
use Rattle.ripple_graft.specs.Blocks.{AreBlocks, Block, IsBlock, block_columns, block_outputs, columns, graft_all, graft_block, pair_count, reach, span, with_blocks}
use Rattle.ripple_graft.specs.declared.fault.GraftFail.{GraftFail}
use Rattle.ripple_graft.specs.declared.added.Added.{Added}
use Rattle.ripple_graft.specs.Grafts.{AreNumberedOn, IsAddedGrafted, IsBlockFault, IsFirstFault, IsGrafted, IsKnownPair, seen, seen_in}
use Rattle.ripple_graft.proofs.BesideGraphs.{gate_extends, output_extends}
use Rattle.ripple_graft.proofs.BlockLists.{all_split_at, blocks_extend, length-ripple_outputs}
use Rattle.ripple_graft.proofs.MoreGates.{pairs_from_apart}
use Rattle.ripple_graft.proofs.OneBlock.{graft_extends}
use Rattle.ripple_graft.proofs.Plain.{graph_extends}
use Rattle.ripple_graft.proofs.RippleGates.{length-ripple_gates, ripple_counts}

-- ---- one block more

graft_more : (e : Extended) (blocks : List Block) (b : Block) → graft_all e (blocks ++ b ∷ []) ≡ graft_block (graft_all e blocks) b
graft_more e [] b = refl
graft_more e (c ∷ blocks) b = graft_more (graft_block e c) blocks b

blocks_more : (e : Extended) (blocks : List Block) (b : Block) → AreBlocks e blocks → IsBlock (graft_all e blocks) b → AreBlocks e (blocks ++ b ∷ [])
blocks_more e [] b fit one = (one, tt)
blocks_more e (c ∷ blocks) b fit one = (fit.0, blocks_more (graft_block e c) blocks b fit.1 one)

-- ---- there are at most as many pairs as outputs

suc_others : (n : ℕ) (cs : List Column) → AllByRecursion (λ y. n ≢ y) (map (λ c. c.number) cs) → AllByRecursion (λ y. suc n ≢ y) (map (λ c. suc c.number) cs)
suc_others n [] h = tt
suc_others n (c ∷ cs) h = (λ same. h.0 (omega arith), suc_others n cs h.1)

suc_apart : (cs : List Column) → Apart (map (λ c. c.number) cs) → Apart (map (λ c. suc c.number) cs)
suc_apart [] h = tt
suc_apart (c ∷ cs) h = (suc_others c.number cs h.0, suc_apart cs h.1)

within_of : (ls : List Lit) (k : ℕ) (l : Lit) → slice_get ls k ≡ Some l → k < length ls
within_of [] k l is = absurd (cc)
within_of (x ∷ ls) zero l is = omega arith
within_of (x ∷ ls) (suc k) l is = let more = within_of ls k l is in omega arith

numbers_low : (all : List Lit) (cs : List Column) → AllByRecursion (λ c. slice_get all c.number ≡ Some c.old) cs → AllByRecursion (λ v. (0 < v) × (v ≤ length all)) (map (λ c. suc c.number) cs)
numbers_low all [] h = tt
numbers_low all (c ∷ cs) h = ((omega arith, let low = within_of all c.number c.old h.0 in omega arith), numbers_low all cs h.1)

few_replaced : (e : Extended) → IsExtension e → length e.replaced ≤ length e.graph.outputs
few_replaced e made =
    let numbers = map (λ (c : Column). suc c.number) e.replaced in
    let few = few_numbers numbers (length e.graph.outputs)
    (pairs_from_apart numbers (suc_apart e.replaced (apart_from_pairs (map (λ c. c.number) e.replaced) made.numbers_once)))
    (All-from_recursion (λ v. (0 < v) × (v ≤ length e.graph.outputs)) numbers
    (numbers_low e.graph.outputs e.replaced (recursion_from_All (λ c. slice_get e.graph.outputs c.number ≡ Some c.old) e.replaced made.replaced))) in
    omega (arith, length-map e.replaced (λ (c : Column). suc c.number))

length-columns : (k : ℕ) (old new : List Lit) → length new ≤ length old → length (columns k old new) ≡ length new
length-columns k [] [] h = refl
length-columns k [] (r ∷ new) h = absurd (omega arith)
length-columns k (o ∷ old) [] h = refl
length-columns k (o ∷ old) (r ∷ new) h = ap suc (length-columns (suc k) old new (omega arith))

pub length-take_enough : {X : Type 0} → (n : ℕ) (xs : List X) → n ≤ length xs → length (take n xs) ≡ n
length-take_enough zero xs h = refl
length-take_enough (suc n) [] h = absurd (omega arith)
length-take_enough (suc n) (x ∷ xs) h = ap suc (length-take_enough n xs (omega arith))

pub reach_is : (pairs : ℕ) (carry : Bool) → (pairs ≤ reach pairs carry) × (reach pairs carry ≤ pairs + 1)
reach_is pairs true = (omega arith, omega arith)
reach_is pairs false = (omega arith, omega arith)

length-block_columns : (e : Extended) (b : Block) → b.cut.lo + span b ≤ length e.graph.outputs → length (block_columns e.graph e.max b) ≡ span b
length-block_columns e b within =
    let wide = (reach_is (length b.cut.pairs) b.carry).1 in
    let outs = length-ripple_outputs e.max constant_false b.cut.pairs in
    let new = length-take_enough (span b) (ripple_outputs e.max constant_false b.cut.pairs) (omega arith) in
    let old = length-drop b.cut.lo e.graph.outputs in
    length-columns b.cut.lo (drop b.cut.lo e.graph.outputs) (block_outputs e.max b) (omega arith) ∙ new

few_more : (e : Extended) (blocks : List Block) → AreBlocks e blocks → length e.replaced + pair_count blocks ≤ length (graft_all e blocks).replaced
few_more e [] fit = omega arith
few_more e (b ∷ blocks) fit =
    let more = few_more (graft_block e b) blocks fit.1 in
    let own = length-block_columns e b fit.0.within in
    let all = length-append e.replaced (block_columns e.graph e.max b) in
    let wide = (reach_is (length b.cut.pairs) b.carry).0 in
    omega arith

graft_keeps : (e : Extended) (blocks : List Block) → (graft_all e blocks).graph ≡ e.graph
graft_keeps e [] = refl
graft_keeps e (b ∷ blocks) = graft_keeps (graft_block e b) blocks

few_pairs : (g : Aig) (blocks : List Block) → IsBuilt g → AreBlocks (without_cut g) blocks → pair_count blocks ≤ MOST_OUTPUTS
few_pairs g blocks built fit =
    let few = few_replaced (with_blocks g blocks) (blocks_extend g blocks built.well_formed fit) in
    let more = few_more (without_cut g) blocks fit in
    let same : length (with_blocks g blocks).graph.outputs ≡ length g.outputs = ap (λ (x : Aig). length x.outputs) (graft_keeps (without_cut g) blocks) in
    let most = built.few_outputs in
    omega arith

few_blocks : (e : Extended) (blocks : List Block) → AreBlocks e blocks → length blocks ≤ pair_count blocks
few_blocks e [] fit = omega arith
few_blocks e (b ∷ blocks) fit = let more = few_blocks (graft_block e b) blocks fit.1 in let some = fit.0.some in omega arith

-- so are the blocks
pub blocks_few : (g : Aig) (blocks : List Block) → IsBuilt g → AreBlocks (without_cut g) blocks → length blocks ≤ MOST_OUTPUTS
blocks_few g blocks built fit = let few = few_pairs g blocks built fit in let some = few_blocks (without_cut g) blocks fit in omega arith

-- ---- one block, gate or output more

numbered_append : (v : ℕ) (xs ys : List Gate) → AreNumberedOn v xs → AreNumberedOn (v + length xs) ys → AreNumberedOn v (xs ++ ys)
numbered_append v [] ys a b = subst (λ n. AreNumberedOn n ys) (omega arith) b
numbered_append v (x ∷ xs) ys a b = (a.0, numbered_append (suc v) xs ys a.1 (subst (λ n. AreNumberedOn n ys) (omega arith) b))

numbered_from : (v : ℕ) (gates : List Gate) → Counts (v + 1) (map (λ x. x.v) gates) → AreNumberedOn v gates
numbered_from v [] c = tt
numbered_from v (x ∷ gates) c = (omega (arith, c.0), numbered_from (suc v) gates (subst (λ n. Counts n (map (λ y. y.v) gates)) (omega arith) c.1))

numbered_at : (v : ℕ) (gates : List Gate) → AreNumberedOn v gates → (i : ℕ) (d : Gate) → i < length gates → (slice_index_or gates i d).v ≡ v + 1 + i
numbered_at v [] h i d below = absurd (omega arith)
numbered_at v (x ∷ gates) h zero d below = omega (arith, h.0)
numbered_at v (x ∷ gates) h (suc i) d below = omega (arith, numbered_at (suc v) gates h.1 i d (omega arith))

pub grafted_none : (g : Aig) → IsGrafted g (without_cut g)
grafted_none g = record {
  own = [];
  graph_is = refl;
  extends = λ well. graph_extends g well;
  gates_are = sym (append-nil g.gates);
  numbered = tt;
  max_is = omega arith;
  room = omega arith;
}

-- with gates numbered on, and columns: seven gates for each of them, or else as many as have room
module _ (g : Aig) (e : Extended) (more : List Gate) (replaced : List Column) (high : ℕ) (h : IsGrafted g e) where
  abbrev longer : Extended
  longer = record { graph = e.graph; max = high; gates = e.gates ++ more; replaced = replaced }

  pub grafted_longer : (IsExtension e → IsExtension longer) → Counts (e.max + 1) (map (λ x. x.v) more) → high ≡ e.max + length more → high ≤ g.max + MOST_VARIABLES + 7 * length replaced → IsGrafted g longer
  grafted_longer extends counts many room = record {
    own = h.own ++ more;
    graph_is = h.graph_is;
    extends = λ well. extends (h.extends well);
    gates_are = ap (λ xs. xs ++ more) h.gates_are ∙ append_assoc g.gates h.own more;
    numbered = numbered_append g.max h.own more h.numbered (subst (λ v. AreNumberedOn v more) h.max_is (numbered_from e.max more counts));
    max_is = omega (arith, many, h.max_is, length-append h.own more);
    room = room;
  }

pub grafted_more : (g : Aig) (e : Extended) (b : Block) → IsGrafted g e → IsBlock e b → IsGrafted g (graft_block e b)
grafted_more g e b h one =
    let adder = ripple_gates e.max constant_false b.cut.pairs in
    let many = length-ripple_gates e.max constant_false b.cut.pairs in
    let wide = (reach_is (length b.cut.pairs) b.carry).0 in
    let own = length-block_columns e b one.within in
    let all = length-append e.replaced (block_columns e.graph e.max b) in
    let before = h.room in
    grafted_longer g e adder (e.replaced ++ block_columns e.graph e.max b) (e.max + 7 * length b.cut.pairs) h (λ made. graft_extends e b made one) (ripple_counts e.max constant_false b.cut.pairs) (omega arith) (omega arith)

pub gate_grafted : (g : Aig) (e : Extended) (p : Lit × Lit) → IsGrafted g e → IsKnownPair e p → e.max < e.graph.max + MOST_VARIABLES → IsGrafted g (with_gate e p)
gate_grafted g e p h known room =
    let same : e.graph.max ≡ g.max = ap (λ (x : Aig). x.max) h.graph_is in
    grafted_longer g e (and_gate (suc e.max) p.0 p.1 ∷ []) e.replaced (suc e.max) h (λ made. gate_extends e p made known) (omega arith, tt) (omega arith) (omega arith)

pub output_grafted : (g : Aig) (e : Extended) (c : ℕ × Lit) → IsGrafted g e → IsOutput e c → IsGrafted g (with_output e c)
output_grafted g e c h fits =
    let all = length-append e.replaced (columns c.0 (drop c.0 e.graph.outputs) (c.1 ∷ [])) in
    let before = h.room in record {
      own = h.own;
      graph_is = h.graph_is;
      extends = λ well. output_extends e c (h.extends well) fits;
      gates_are = h.gates_are;
      numbered = h.numbered;
      max_is = h.max_is;
      room = omega arith;
    }

blocks_grafted_on : (g : Aig) (e : Extended) (blocks : List Block) → IsGrafted g e → AreBlocks e blocks → IsGrafted g (graft_all e blocks)
blocks_grafted_on g e [] h fit = h
blocks_grafted_on g e (b ∷ blocks) h fit = blocks_grafted_on g (graft_block e b) blocks (grafted_more g e b h fit.0) fit.1

pub blocks_grafted : (g : Aig) (blocks : List Block) → AreBlocks (without_cut g) blocks → IsGrafted g (with_blocks g blocks)
blocks_grafted g blocks fit = blocks_grafted_on g (without_cut g) blocks (grafted_none g) fit

pub grafted_extends : (g : Aig) (e : Extended) → IsBuilt g → IsGrafted g e → IsExtension e
grafted_extends g e built h = h.extends built.well_formed

pub grafted_graph : (g : Aig) (e : Extended) → IsGrafted g e → e.graph ≡ g
grafted_graph g e h = h.graph_is

-- variables have 31 bits
pub grafted_small : (g : Aig) (e : Extended) → IsBuilt g → IsGrafted g e → e.max < 2147483648
grafted_small g e built h =
    let few = few_replaced e (grafted_extends g e built h) in
    let same : length e.graph.outputs ≡ length g.outputs = ap (λ (x : Aig). length x.outputs) h.graph_is in
    let most = built.few_outputs in
    let small = built.small in
    let room = h.room in
    omega arith

-- ---- gates

module _ (g : Aig) (e : Extended) (h : IsGrafted g e) where
  pub length-gates : length e.gates + g.max ≡ length g.gates + e.max
  length-gates = let all = ap length h.gates_are in let both = length-append g.gates h.own in let top = h.max_is in omega arith

  own_at : (i : ℕ) (d : Gate) → i < length h.own → (slice_index_or h.own i d).v ≡ g.max + 1 + i
  own_at i d below = numbered_at g.max h.own h.numbered i d below

  -- a variable above the graph's is that of the added gate in its place
  pub added_gate : (v i : ℕ) (x : Gate) → g.max < v → v ≤ e.max → v ≡ g.max + 1 + i → x ≡ slice_index_or e.gates (length g.gates + i) x → IsGateOf e.gates v x
  added_gate v i x low high place is =
      let all = length-gates in
      let top = h.max_is in (
        (length g.gates + i, omega arith, sym is),
        ap (λ y. y.v) (is ∙ ap (λ xs. slice_index_or xs (length g.gates + i) x) h.gates_are ∙ get_or-append-add g.gates h.own i x) ∙ own_at i x (omega arith) ∙ sym place,
      )

  kept_gate : (v : ℕ) (x : Gate) → IsGateOf g.gates v x → IsGateOf e.gates v x
  kept_gate v x is = (subst (λ xs. Contains xs x) (sym h.gates_are) (Contains-append_left g.gates h.own x is.0), is.1)

  pub kept_gates : (v : ℕ) (r : Option Gate) → IfSome r (IsGateOf g.gates v) → IfSome r (IsGateOf e.gates v)
  kept_gates v None is = is
  kept_gates v (Some x) is = kept_gate v x is

  -- and no other variable is an added gate's
  pub kept_free : (v : ℕ) → v ≤ g.max → IsFree g.gates v → IsFree e.gates v
  kept_free v low free =
      subst (λ xs. IsFree xs v) (sym h.gates_are)
      (All-append (λ x. x.v ≢ v) g.gates h.own free (λ i d below same. let at = own_at i d below in absurd (omega arith)))

  pub free_before : (v : ℕ) → IsFree e.gates v → IsFree g.gates v
  free_before v free = (all_split_at (λ x. x.v ≢ v) g.gates h.own (subst (λ xs. IsFree xs v) h.gates_are free)).0

  pub not_free : (v : ℕ) (x : Gate) → IsGateOf e.gates v x → IsFree e.gates v → ⊥
  not_free v x is free = All-contains (λ y. y.v ≢ v) e.gates x free is.0 is.1

-- ---- the blocks so far

pub record IsSoFar (g : Aig) (blocks : List Block) (i : ℕ) (e : Extended) : Type 0 where
  pub fit : AreBlocks (without_cut g) (take i blocks)
  pub is : e ≡ with_blocks g (take i blocks)

pub so_far_more : (g : Aig) (blocks : List Block) (i : ℕ) (e next : Extended) (b : Block) → i < length blocks → b ≡ get_or blocks i b → IsBlock e b → next ≡ graft_block e b → IsSoFar g blocks i e → IsSoFar g blocks (i + 1) next
so_far_more g blocks i e next b below is one next_is h =
    let longer : take (i + 1) blocks ≡ take i blocks ++ b ∷ [] = take_more blocks i b below ∙ ap (λ c. take i blocks ++ c ∷ []) (sym is) in record {
      fit = subst (AreBlocks (without_cut g)) (sym longer) (blocks_more (without_cut g) (take i blocks) b h.fit (subst (λ (x : Extended). IsBlock x b) h.is one));
      is = next_is ∙ ap (λ (x : Extended). graft_block x b) h.is ∙ sym (ap (graft_all (without_cut g)) longer ∙ graft_more (without_cut g) (take i blocks) b);
    }

first_fault : (e : Extended) (blocks : List Block) (i : ℕ) (d : Block) (why : GraftFail) → i < length blocks → AreBlocks e (take i blocks) → IsBlockFault (graft_all e (take i blocks)) (get_or blocks i d) why → IsFirstFault e blocks i why
first_fault e [] i d why below fit fault = absurd (omega arith)
first_fault e (b ∷ blocks) zero d why below fit fault = fault
first_fault e (b ∷ blocks) (suc i) d why below fit fault = (fit.0, first_fault (graft_block e b) blocks i d why (omega arith) fit.1 fault)

pub fault_told : (g : Aig) (blocks : List Block) (i : ℕ) (e : Extended) (b : Block) (why told : GraftFail) → i < length blocks → b ≡ get_or blocks i b → told ≡ why → IsSoFar g blocks i e → IsBlockFault e b told → IsFirstFault (without_cut g) blocks i why
fault_told g blocks i e b why told below is same h fault =
    let here : IsBlockFault e (get_or blocks i b) why = subst (λ c. IsBlockFault e c why) is (subst (IsBlockFault e b) same fault) in
    first_fault (without_cut g) blocks i b why below h.fit (subst (λ (x : Extended). IsBlockFault x (get_or blocks i b) why) h.is here)

pub so_far_fits : (g : Aig) (blocks : List Block) (i : ℕ) (e : Extended) → IsBuilt g → i < length blocks → IsSoFar g blocks i e → Fits w32 i
so_far_fits g blocks i e built below h =
    let few = blocks_few g (take i blocks) built h.fit in
    let long = length-take_enough i blocks (omega arith) in
    omega arith

pub so_far_built : (g : Aig) (blocks : List Block) (i : ℕ) (e : Extended) → IsSoFar g blocks i e → IsBuilt e.graph → IsBuilt g
so_far_built g blocks i e h built = subst IsBuilt (ap (λ (x : Extended). x.graph) h.is ∙ graft_keeps (without_cut g) (take i blocks)) built

-- ---- what is kept

pub alone_kept : {X : Type 0} (g : Aig) (o : Option Added) (r : Result Added X) (e : Extended) → seen g o ≡ e → o ≡ None → IfOk r (λ a. seen_in g a ≡ without_cut g) → IfOk r (λ a. seen_in e.graph a ≡ e)
alone_kept g o r e view is alone =
    let whole : e ≡ without_cut g = sym view ∙ ap (seen g) is in
    subst (λ (x : Extended). IfOk r (λ a. seen_in x.graph a ≡ x)) (sym whole) alone

pub more_kept : (g : Aig) (o : Option Added) (a : Added) (e : Extended) → seen g o ≡ e → o ≡ Some a → seen_in e.graph a ≡ e
more_kept g o a e view is =
    let whole : seen_in g a ≡ e = ap (seen g) (sym is) ∙ view in
    subst (λ (x : Extended). seen_in x.graph a ≡ x) whole refl

-- as the graph's, it is the extended graph
pub kept_is : (g : Aig) (o : Option Added) (a : Added) (e : Extended) → IsAddedGrafted g o → seen g o ≡ e → seen_in e.graph a ≡ e → seen_in g a ≡ e
kept_is g o a e h view kept =
    let same : e.graph ≡ g = ap (λ (x : Extended). x.graph) (sym view) ∙ grafted_graph g (seen g o) h in
    subst (λ (x : Aig). seen_in x a ≡ e) same kept

pub grafted_is : (g : Aig) (o : Option Added) (e : Extended) → IsAddedGrafted g o → seen g o ≡ e → IsGrafted g e
grafted_is g o e h view = subst (IsGrafted g) view h
