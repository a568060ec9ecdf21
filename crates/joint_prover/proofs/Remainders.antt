-- What the remainder of a plan says of the graph.
use Rattle.std.proofs.Common.{◌≡◌, ◌≢◌, ℕ, ◌+◌, ◌*◌, ◌%◌, ◌<◌, ◌≤◌, Bool, cond, List, [], ◌∷◌, ◌++◌, length, map, take, refl, sym, ap, ap₂, subst, ◌∙◌, arith, ⊎_elim, ne_eqb, length-append, zero, suc}
use Rattle.std.specs.List.{AllByRecursion}
use Rattle.std.proofs.Math.Seq.{take-append-add, take-length}
use Rattle.std.proofs.lemmas.Bool.{cases_lt}
use Rattle.std.proofs.lemmas.List.{length-map, take-map, take_all}
use Rattle.std.proofs.lemmas.List.Sorted.{length_permutation}
use Rattle.std.proofs.lemmas.List.Elements.{recursion_from_All}
use Rattle.column_reducer.specs.Reducing.{ContinuesLines, IsLastRest, IsPassed, IsReduced, KeepsBudget, Planned, planned, value_after}
use Rattle.column_reducer.specs.declared.reduced.Reduced.{Reduced}
use Rattle.column_reducer.specs.declared.reduced.Reduced.TheVariants as answer
use Rattle.column_reducer.specs.declared.reduced.Reduced.TheVariants.{Rest}
use Rattle.frontier_core.specs.declared.step.Step.{Step}
use Rattle.frontier_core.specs.declared.step.Step.TheVariants.{Add, Eliminate}
use Rattle.frontier_core.specs.Columns.{all_columns}
use Rattle.frontier_core.specs.Frontier.{IsFrontier, frontier_value}
use Rattle.frontier_core.specs.LastFrontier.{IsEnd, IsOverInputs, AgreeEverywhere}
use Rattle.frontier_core.specs.LeastDifference.{AreInputs, IsLeastDifferenceAt, IsLeastNonzero}
use Rattle.frontier_core.specs.Plan.{IsPlan, Taken, nothing, plain_steps, taken, value_of_taken}
use Rattle.frontier_core.specs.PlainOrder.{HasPlainSize, IsPlainOrder}
use Rattle.frontier_core.proofs.Plans.{plan_leaves_frontiers}
use Rattle.frontier_core.proofs.CallerLemmas.{graph_inputs, last_frontier_decides, last_frontier_gives_least, last_frontier_is_over_inputs, lowest_bits, operands_in_order, plain_order_is_one, plain_plan_is_plan, specification_is_not_zero, difference_small}
use Rattle.algebra_core.specs.NormalForm.{HasSize, IsNormalForm}
use Rattle.graph_core.specs.Graph.{Aig, IsDefinedOnce, of_inputs}
use Rattle.graph_core.specs.declared.literal.Lit.{Lit}
use Rattle.graph_core.specs.Graph.Assignments.{Assignment, word}
use Rattle.graph_core.specs.Graph.Extended.{Extended, without_cut, modulus}
use Rattle.graph_core.specs.Graph.Operands.{AreInRange, Does, HasShapeFor, MeetsClaim, ReadInputs, Sides, claimed, inputs_at, inputs_in, sides_for, AreOperandsOf, profile_of}
use Rattle.graph_core.specs.declared.claim.Claim.{Claim}
use Rattle.graph_core.specs.declared.numbers.Numbers.{Numbers}
use Rattle.joint_prover.specs.declared.replacement.Replacement.{Replacement}
use Rattle.joint_prover.specs.declared.replacement.Replacement.TheVariants.{Adder, Beside}
use Rattle.std.specs.declared.option.Option.{Option}
use Rattle.algebra_core.specs.AlgebraLines.{Closes, LiveLine, line_of, specification, value_of, value_or_zero}
use Rattle.algebra_core.specs.Polynomials.{difference, value}
use Rattle.graph_core.proofs.OfGraphs.CallerLemmas.{claim_is_done, sides_read_inputs}
use Rattle.algebra_core.proofs.CallerLemmas.{difference_is, modulus_pos}
use Rattle.graph_core.proofs.OfAiger.CallerLemmas.{shape_for}
use Rattle.pac_writer.specs.Writing.{AreLawfulSoFar, Made, closed, written_ledger, IsFresh}
use Rattle.poly_terms.specs.Laws.{modulus_stays}
use Rattle.poly_terms.specs.Tables as table
use Rattle.poly_terms.specs.Tables.{Table, Sum, monomials_in, value_in}
use Rattle.poly_terms.proofs.Values.{normal}
use Rattle.ripple_graft.specs.Beside.{with_gate, with_gates, with_output, with_outputs}
use Rattle.ripple_graft.specs.Extension.{IsExtension}
use Rattle.slice_planner.specs.ColumnPlans.{IsColumnPlan}
use Rattle.slice_planner.specs.Slices.{IsSlicePlan}
use Rattle.joint_prover.proofs.Sizes.{some_bits, some_outputs}
use Rattle.joint_prover.specs.declared.verdict.Tried.{Tried}
use Rattle.joint_prover.specs.Endings.{AreFew, AreLeast, IsProof, IsRemainder, IsStart, IsTriedAt, IsJob, IsShown, replacement_named}
use Rattle.joint_prover.specs.Replacements.{extended_by}
use Rattle.joint_prover.specs.Tries.{EndsWithin, IsAbove, IsWithinBudget}
use Rattle.joint_prover.specs.Verdicts.{IsFirstAbove}
use Rattle.std.specs.declared.option.Option.TheVariants.{None, Some}
use Rattle.graph_core.specs.Aiger.Sizes.{IsSizedAs}
use Rattle.joint_prover.specs.declared.shown.Shown.{Shown}
use Rattle.joint_prover.specs.declared.task.Job.{Job}
use Rattle.command_core.specs.declared.task.Task.{Task}
use Rattle.frontier_core.specs.Sets.{count_from}

-- ---- lines that are fresh

starts : (l : Made) (e : Extended) (s : Sides) → IsFresh e s l → AreOperandsOf e.graph s → IsSizedAs (profile_of s.claim.widths) e.graph → IsExtension e → AgreeEverywhere e → IsStart l
starts l e s fresh of sized extension agree = record {
  sides = subst (AreOperandsOf l.extended.graph) (sym fresh.sides) (subst (λ (x : Extended). AreOperandsOf x.graph s) (sym fresh.extended) of);
  same_modulus = fresh.same_modulus ∙ sym (ap modulus fresh.extended);
  lines = fresh.lines;
  unclosed = fresh.unclosed;
  sized = subst (λ (t : Sides). IsSizedAs (profile_of t.claim.widths) l.extended.graph) (sym fresh.sides)
      (subst (λ (x : Extended). IsSizedAs (profile_of s.claim.widths) x.graph) (sym fresh.extended) sized);
  extension = subst IsExtension (sym fresh.extended) extension;
  agree = subst AgreeEverywhere (sym fresh.extended) agree;
}

-- an extended graph is over its graph
gates_keep : (e : Extended) (pairs : List (Lit × Lit)) → (with_gates e pairs).graph ≡ e.graph
gates_keep e [] = refl
gates_keep e (p ∷ pairs) = gates_keep (with_gate e p) pairs

outputs_keep : (e : Extended) (outputs : List (ℕ × Lit)) → (with_outputs e outputs).graph ≡ e.graph
outputs_keep e [] = refl
outputs_keep e (c ∷ outputs) = outputs_keep (with_output e c) outputs

pub graph_by : (g : Aig) (r : Option Replacement) → (extended_by g r).graph ≡ g
graph_by g None = refl
graph_by g (Some (Adder cut)) = refl
graph_by g (Some (Beside b)) = outputs_keep (with_gates (without_cut g) b.gates) b.outputs ∙ gates_keep (without_cut g) b.gates

-- and so over a graph that is shown
pub starts_shown : (l : Made) (g : Aig) (task : Task) (s : Sides) (shown : Shown) → IsShown g task shown → IsFresh shown.extended.now s l → AreOperandsOf g s → IsSizedAs (profile_of s.claim.widths) g →
    IsExtension shown.extended.now → IsStart l
starts_shown l g task s shown is fresh of sized extension =
    let graph = sym (ap (λ (x : Extended). x.graph) is.extended ∙ graph_by g (replacement_named shown)) in
    starts l shown.extended.now s fresh (subst (λ h. AreOperandsOf h s) graph of) (subst (IsSizedAs (profile_of s.claim.widths)) graph sized) extension
    (subst AgreeEverywhere (sym is.extended) is.agree)

-- the operands are those that are asked for
pub operands_are : (job : Job) → IsJob job → job.operands.now ≡ sides_for job.task.claim job.graph.now
operands_are job is = is.operands ∙ ap (λ k. sides_for k job.graph.now) is.claim

length-count_from : (k n : ℕ) → length (count_from k n) ≡ n
length-count_from k zero = refl
length-count_from k (suc n) = ap suc (length-count_from (suc k) n)

-- ---- the plain plan

-- that of a plain order: all columns, and then the gates in that order
abbrev pub plain_of : Extended → List ℕ → Planned
plain_of e order = planned e (plain_steps e order) (length e.graph.outputs)

-- The reduction of a plain order has this answer, and the lines go on; they are few.
pub record IsPlainlyReduced (budget : ℕ) (old new : Made) (answer : Reduced) : Type 0 where
  pub order : List ℕ
  pub plain : IsPlainOrder old.extended.gates order
  pub goes_on : ContinuesLines old new
  pub reduced : IsReduced (plain_of old.extended order) old.sides budget new answer
  pub few : AreFew new

pub plan_is_plain : (p : Planned) (e given : Extended) (vs : List ℕ) → p.extended ≡ e → given ≡ e → p.steps ≡ plain_steps given vs → p.uncounted ≡ length given.graph.outputs → p ≡ plain_of e vs
plan_is_plain p e given vs extended same steps uncounted =
    ap (λ ss. planned p.extended ss p.uncounted) (steps ∙ ap (λ x. plain_steps x vs) same) ∙
    ap (planned p.extended (plain_steps e vs)) (uncounted ∙ ap (λ (x : Extended). length x.graph.outputs) same) ∙ ap (λ x. planned x (plain_steps e vs) (length e.graph.outputs)) extended

size_same : (m n : ℕ) (f g : Assignment → ℕ) → ((σ : Assignment) → f σ ≡ g σ) → HasSize m f n → HasSize m g n
size_same m n f g same h = (h.0, h.1, (λ σ. h.2 σ ∙ same σ), h.3)

module _ (e : Extended) (s : Sides) (vs : List ℕ) (extension : IsExtension e) (order : IsPlainOrder e.gates vs) where
  plain_steps_taken : (t : ℕ) → take (length e.graph.outputs + t) (plain_steps e vs) ≡ map Add (all_columns e) ++ map Eliminate (take t vs)
  plain_steps_taken t =
      let columns = map Add (all_columns e) in
      let count : length columns ≡ length e.graph.outputs = length-map (all_columns e) Add ∙ length-count_from 0 (length e.graph.outputs) in
      ap (λ n. take (n + t) (plain_steps e vs)) (sym count) ∙ take-append-add columns (map Eliminate vs) t ∙ ap (λ ys. columns ++ ys) (take-map Eliminate t vs)

  value_plain : (t : ℕ) (σ : Assignment) → t ≤ length vs → value_after (plain_of e vs) s (length e.graph.outputs + t) σ ≡ frontier_value e s (all_columns e) (take t vs) σ
  value_plain t σ low =
      ap (λ ss. value_of_taken e s (taken nothing ss) σ) (plain_steps_taken t) ∙ (plain_plan_is_plan e vs extension order).1 s t low σ

  length-plain_steps : length (plain_steps e vs) ≡ length e.graph.outputs + length vs
  length-plain_steps =
      length-append (map Add (all_columns e)) (map Eliminate vs) ∙
      ap₂ ◌+◌ (length-map (all_columns e) Add ∙ length-count_from 0 (length e.graph.outputs)) (length-map vs Eliminate)

  order_length : length vs ≡ length e.gates
  order_length = sym (length_permutation vs (map (λ x. x.v) e.gates) order.0) ∙ length-map e.gates (λ x. x.v)

  -- the first frontier above the budget, in the words of the plain order
  pub passed_is_first : (budget step size : ℕ) → IsPassed (plain_of e vs) s budget step size →
      (step ≤ length e.gates) × HasPlainSize e s step size × ((i k : ℕ) → i < step → HasPlainSize e s i k → k ≤ budget)
  passed_is_first budget step size h =
      let there = h.there in
      let low : step ≤ length vs = omega (arith, length-plain_steps) in (
        omega (arith, order_length),
        (vs, order, size_same (modulus e) size (value_after (plain_of e vs) s (length e.graph.outputs + step)) (frontier_value e s (all_columns e) (take step vs)) (λ σ. value_plain step σ low) h.has),
        λ i k before size_i. h.first i k before
            (size_same (modulus e) k (frontier_value e s (all_columns e) (take i size_i.0)) (value_after (plain_of e vs) s (length e.graph.outputs + i))
            (λ σ. ap (λ ws. frontier_value e s (all_columns e) (take i ws) σ) (plain_order_is_one e.gates size_i.0 vs extension.acyclic size_i.1 order) ∙ sym (value_plain i σ (omega arith))) size_i.2),
      )

  -- where none is above it

  of_order : (t n : ℕ) → HasPlainSize e s t n → HasSize (modulus e) (frontier_value e s (all_columns e) (take t vs)) n
  of_order t n size = size_same (modulus e) n (frontier_value e s (all_columns e) (take t size.0)) (frontier_value e s (all_columns e) (take t vs))
      (λ σ. ap (λ ws. frontier_value e s (all_columns e) (take t ws) σ) (plain_order_is_one e.gates size.0 vs extension.acyclic size.1 order)) size.2

  within_there : (budget : ℕ) → KeepsBudget (plain_of e vs) s budget → (t n : ℕ) → t ≤ length vs → HasSize (modulus e) (frontier_value e s (all_columns e) (take t vs)) n → n ≤ budget
  within_there budget h t n low size = h t n (omega (arith, length-plain_steps))
      (size_same (modulus e) n (frontier_value e s (all_columns e) (take t vs)) (value_after (plain_of e vs) s (length e.graph.outputs + t)) (λ σ. sym (value_plain t σ low)) size)

  pub within_always : (budget : ℕ) → KeepsBudget (plain_of e vs) s budget → (t n : ℕ) → HasPlainSize e s t n → n ≤ budget
  within_always budget h t n size = ⊎_elim
      (λ high. within_there budget h (length vs) n (omega arith)
      (subst (λ ws. HasSize (modulus e) (frontier_value e s (all_columns e) ws) n) (take_all t vs (omega arith) ∙ sym (take-length vs)) (of_order t n size)))
      (λ low. within_there budget h t n low (of_order t n size)) (cases_lt (length vs) t)

-- what a reduction asks for
pub reads_inputs : (l : Made) → IsStart l → ReadInputs l.extended.graph l.sides
reads_inputs l start = subst (ReadInputs l.extended.graph) (sym start.sides) (sides_read_inputs l.extended.graph l.sides.claim)

-- ---- a frontier above the budget

module _ (e : Extended) (s : Sides) (steps : List Step) (slices : IsSlicePlan e steps) (budget step size : ℕ) (h : IsPassed (planned e steps 0) s budget step size) where
  abbrev here : Taken
  here = taken nothing (take step steps)

  nothing_more : (n : ℕ) → 0 + n ≡ n
  nothing_more n = omega arith

  pub few_steps : step ≤ length steps
  few_steps = let low = h.there in omega arith

  pub above_of : (rewritten : Bool) (tried : Tried) → IsTriedAt steps step size rewritten tried → IsAbove e s budget tried
  above_of rewritten tried at = record {
    of_slices = record { steps = steps; slices = slices; count = step; columns = at.columns; gates = at.gates };
    frontier = subst (λ ks. IsFrontier e ks tried.gates.items) (sym at.columns)
        (subst (IsFrontier e here.added) (sym at.gates) (plan_leaves_frontiers e steps step slices.plan.follow).0);
    size = subst (λ ks. HasSize (modulus e) (frontier_value e s ks tried.gates.items) tried.size) (sym at.columns)
        (subst (λ vs. HasSize (modulus e) (frontier_value e s here.added vs) tried.size) (sym at.gates)
        (subst (HasSize (modulus e) (frontier_value e s here.added here.eliminated)) (sym at.size_is) (subst (λ k. HasSize (modulus e) (value_after (planned e steps 0) s k) size) (nothing_more step) h.has)));
    above = subst (λ n. budget < n) (sym at.size_is) h.above;
  }

-- ---- a plan that ended

pub ends_within : (l : Made) (p : Planned) (budget : ℕ) → p.extended ≡ l.extended → p.uncounted ≡ 0 → IsColumnPlan l.extended p.steps → KeepsBudget p l.sides budget → EndsWithin l.extended l.sides budget
ends_within l p budget same counted columns h = record {
  steps = p.steps;
  columns = columns;
  within = subst (λ x. KeepsBudget (planned x p.steps 0) l.sides budget) same (subst (λ n. KeepsBudget (planned p.extended p.steps n) l.sides budget) counted h);
}

-- and so within more, over the same graph
pub ends_at : (l : Made) (e : Extended) (s : Sides) (budget most : ℕ) → l.extended ≡ e → l.sides ≡ s → budget ≤ most → EndsWithin l.extended l.sides budget → EndsWithin e s most
ends_at l e s budget most extended sides low h = subst (λ x. EndsWithin x s most) extended (subst (λ t. EndsWithin l.extended t most) sides
    (record { steps = h.steps; columns = h.columns; within = λ i n there size. let few = h.within i n there size in omega arith }))

-- ---- the remainder

-- at most two lines more than an extended graph has gates
abbrev pub IsFewOver : Extended → Made → Type 0
IsFewOver e l = length l.lines ≤ length e.gates + 2

pub few_over : (e : Extended) (l after : Made) → e ≡ l.extended → ContinuesLines l after → IsFewOver e after → AreFew after
few_over e l after same goes few = times_few (length after.lines) (length after.extended.gates) (subst (λ x. IsFewOver x after) (same ∙ sym goes.extended) few)
  where
    times_few : (n k : ℕ) → n ≤ k + 2 → n ≤ 16 * (k + 2)
    times_few n k few = omega arith

pub remainder_of : (l after : Made) (p : Planned) (poly : Sum) (id : ℕ) → p.extended ≡ l.extended → IsPlan l.extended p.steps → ContinuesLines l after → AreFew after →
    IsLastRest p l.sides after.table (written_ledger after).live poly id → IsRemainder l after poly id
remainder_of l after p poly id same plan goes few rest = record {
  steps = p.steps;
  uncounted = p.uncounted;
  plan = plan;
  goes_on = goes;
  rest = subst (λ x. IsLastRest (planned x p.steps p.uncounted) l.sides after.table (written_ledger after).live poly id) same rest;
  few = few;
}

pub plainly_reduced : (budget : ℕ) (l after : Made) (p : Planned) (given : Extended) (vs : List ℕ) (answer : Reduced) → given ≡ l.extended → p.extended ≡ given → p.uncounted ≡ length given.graph.outputs →
    IsPlainOrder given.gates vs → p.steps ≡ plain_steps given vs → ContinuesLines l after → IsFewOver p.extended after → IsReduced p l.sides budget after answer → IsPlainlyReduced budget l after answer
plainly_reduced budget l after p given vs answer same extended uncounted plain steps goes few h = record {
  order = vs;
  plain = subst (λ (x : Extended). IsPlainOrder x.gates vs) same plain;
  goes_on = goes;
  reduced = subst (λ q. IsReduced q l.sides budget after answer) (plan_is_plain p l.extended given vs (extended ∙ same) same steps uncounted) h;
  few = few_over p.extended l after (extended ∙ same) goes few;
}

pub plain_remainder : (l : Made) → IsStart l → (budget : ℕ) (after : Made) (poly : Sum) (id : ℕ) → IsPlainlyReduced budget l after (Rest poly id) → IsRemainder l after poly id
plain_remainder l start budget after poly id h =
    remainder_of l after (plain_of l.extended h.order) poly id refl (plain_plan_is_plan l.extended h.order start.extension h.plain).0 h.goes_on h.few h.reduced.0

module _ (l : Made) (start : IsStart l) (after : Made) (poly : Sum) (id : ℕ) (left : IsRemainder l after poly id) where
  goes : ContinuesLines l after
  goes = left.goes_on

  rest : IsLastRest (planned l.extended left.steps left.uncounted) l.sides after.table (written_ledger after).live poly id
  rest = left.rest

  abbrev e : Extended
  e = l.extended

  abbrev s : Sides
  s = l.sides

  abbrev g : Aig
  g = l.extended.graph

  abbrev f : Taken
  f = taken nothing left.steps

  once : IsDefinedOnce g
  once = start.extension.graph.defined_once

  shape : HasShapeFor s.claim.widths g
  shape = shape_for s.claim.widths g start.sized

  is_end : IsEnd e s f.added f.eliminated
  is_end = record {
    extension = start.extension;
    inputs = reads_inputs l start;
    agree = start.agree;
    last = left.plan.last;
  }

  poly_value : (σ : Assignment) → value_in after.table poly σ ≡ frontier_value e s f.added f.eliminated σ
  poly_value σ = rest.last σ ∙ ap (λ ss. value_of_taken e s (taken nothing ss) σ) (take-length left.steps)

  same_modulus : table.modulus_in after.table ≡ modulus e
  same_modulus = modulus_stays l.table after.table goes.table ∙ start.same_modulus

  inputs_are : inputs_in after.sides ≡ g.inputs
  inputs_are = ap inputs_in goes.sides ∙ operands_in_order g s start.sides shape

  pub rest_inputs : AreInputs (inputs_in after.sides)
  rest_inputs = subst AreInputs (sym inputs_are) (graph_inputs g once)

  pub rest_over : IsOverInputs (inputs_in after.sides) (monomials_in after.table poly)
  rest_over = subst (λ ls. IsOverInputs ls (monomials_in after.table poly)) (sym inputs_are)
      (last_frontier_is_over_inputs e s f.added f.eliminated (monomials_in after.table poly) is_end
      (subst (λ m. IsNormalForm m (monomials_in after.table poly)) same_modulus (normal after.table poly rest.of))
      (λ σ. ap (λ m. value m (monomials_in after.table poly) σ) (sym same_modulus) ∙ poly_value σ))

  -- ---- where it is 0

  pub zero_does : ((σ : Assignment) → value_in after.table poly σ ≡ 0) → Does s.claim g
  zero_does vanishes =
      let meets = (last_frontier_decides e s f.added f.eliminated is_end).0 (λ σ. sym (poly_value σ) ∙ vanishes σ) in
      (claim_is_done g s.claim shape once).0 (subst (MeetsClaim g) start.sides meets)

  module _ (lawful : AreLawfulSoFar after) (vanishes : (σ : Assignment) → value_in after.table poly σ ≡ 0) where
    closes_value : (σ : Assignment) → value_of (written_ledger after).live id σ ≡ specification e s σ
    closes_value σ =
        rest.differs σ ∙ ap (difference (modulus e) (specification e s σ)) (vanishes σ) ∙
        difference_is (modulus e) (specification e s σ) 0 (specification e s σ) (modulus_pos e) (ap (λ z. z % modulus e) (omega arith)) ∙
        difference_small (modulus e) (word σ g.outputs) (claimed (modulus e) s σ) (modulus_pos e)

    none_there : (live : List LiveLine) → AllByRecursion (λ line. (0 < line.id) × (line.id ≤ after.last)) live → line_of live 0 ≡ None
    none_there [] h = refl
    none_there (x ∷ xs) h =
        let above = h.0.0 in
        let ne : x.id ≢ 0 = omega arith in
        ap (λ c. cond c (Some x) (line_of xs 0)) (ne_eqb x.id 0 ne) ∙ none_there xs h.1

    no_line : id ≡ 0 → ⊥
    no_line none =
        let bits = lowest_bits g s start.sides shape once (some_bits s.claim.widths g start.sized).0 (some_bits s.claim.widths g start.sized).1 in
        let missing = none_there (written_ledger after).live (recursion_from_All (λ line. (0 < line.id) × (line.id ≤ after.last)) (written_ledger after).live lawful.ids) in
        specification_is_not_zero e s bits.0 bits.1 bits.2 (some_outputs s.claim.widths g start.sized)
        (λ σ. sym (closes_value σ) ∙ ap (λ i. value_of (written_ledger after).live i σ) none ∙ ap (λ line. value_or_zero line σ) missing)

    pub rest_closes : Closes after.extended after.sides (written_ledger after).live id
    rest_closes = subst (λ x. Closes x after.sides (written_ledger after).live id) (sym goes.extended)
        (subst (λ x. Closes e x (written_ledger after).live id) (sym goes.sides)
        (⊎_elim (λ none. absurd (no_line none)) (λ live. live) rest.line, closes_value))

  -- ---- where it isn't

  change : (h k : Assignment → ℕ) (ls : List Lit) (bits : List Bool) → ((σ : Assignment) → h σ ≡ k σ) → IsLeastNonzero h ls bits → IsLeastNonzero k ls bits
  change h k ls bits same least = record {
    size = least.size;
    nonzero = λ vanishes. least.nonzero (same (of_inputs ls bits) ∙ vanishes);
    least = λ other size nonzero. least.least other size (λ vanishes. nonzero (sym (same (of_inputs ls other)) ∙ vanishes));
  }

  module _ (graph : Aig) (claim : Claim) (r : Option Replacement) (extended : l.extended ≡ extended_by graph r) (sides : l.sides ≡ sides_for claim graph) where
    same_graph : g ≡ graph
    same_graph = ap (λ (x : Extended). x.graph) extended ∙ graph_by graph r

    pub witness_is_least : (x : Numbers) → IsLeastNonzero (value_in after.table poly) (inputs_in after.sides) (inputs_at after.sides x) → AreInRange after.sides x → AreLeast graph (sides_for claim graph) x
    witness_is_least x nonzero in_range =
        let P : List Lit → Sides → Type 0 = λ ls t. IsLeastNonzero (value_in after.table poly) ls (inputs_at t x) in
        let at_inputs : P g.inputs s = subst (P g.inputs) goes.sides (subst (λ ls. P ls after.sides) inputs_are nonzero) in
        let least : IsLeastDifferenceAt g s (inputs_at s x) =
        last_frontier_gives_least e s f.added f.eliminated (inputs_at s x) is_end (change (value_in after.table poly) (frontier_value e s f.added f.eliminated) g.inputs (inputs_at s x) poly_value at_inputs) in
        let range : AreInRange s x = subst (λ (t : Sides). AreInRange t x) goes.sides in_range in
        subst (λ t. AreLeast graph t x) sides (subst (λ h. AreLeast h s x) same_graph (record { least = least; range = range }))

    -- ---- what is decided

    pub remainder_proves : AreLawfulSoFar after → ((σ : Assignment) → value_in after.table poly σ ≡ 0) → IsProof graph claim r (closed after id)
    remainder_proves lawful vanishes = record {
      extended = goes.extended ∙ extended;
      sides = goes.sides ∙ sides;
      few = left.few;
      closed = refl;
      does = subst (λ k. Does k graph) (ap (λ (t : Sides). t.claim) sides) (subst (Does s.claim) same_graph (zero_does vanishes));
    }

-- ---- the plain plan over the graph alone

module _ (g : Aig) (claim : Claim) (l : Made) (start : IsStart l) (extended : l.extended ≡ without_cut g) (sides : l.sides ≡ sides_for claim g) where
  pub within_alone : (budget : ℕ) (after : Made) (poly : Sum) (id : ℕ) → IsPlainlyReduced budget l after (Rest poly id) → IsWithinBudget g claim budget
  within_alone budget after poly id h = λ t n is. within_always l.extended l.sides h.order start.extension h.plain budget h.reduced.1 t n
      (subst (λ x. HasPlainSize x l.sides t n) (sym extended) (subst (λ x. HasPlainSize (without_cut g) x t n) (sym sides) is))

  pub first_alone : (budget step size : ℕ) (after : Made) → IsPlainlyReduced budget l after (answer.Passed step size) → IsFirstAbove g claim budget step size
  first_alone budget step size after h =
      let r = passed_is_first l.extended l.sides h.order start.extension h.plain budget step size h.reduced in
      record {
        there = subst (λ (x : Extended). step ≤ length x.gates) extended r.0;
        above = h.reduced.above;
        size = subst (λ x. HasPlainSize (without_cut g) x step size) sides (subst (λ x. HasPlainSize x l.sides step size) extended r.1);
        first = λ i k before is. r.2 i k before (subst (λ x. HasPlainSize x l.sides i k) (sym extended) (subst (λ x. HasPlainSize (without_cut g) x i k) (sym sides) is));
      }
