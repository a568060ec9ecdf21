-- What is shown of new outputs beside a graph, and operands at which one differs.
use Rattle.std.specs.Prelude.{◌≡◌, ℕ, ◌<◌, ◌≤◌, Bool, true, false, ◌||◌, List, [], ◌∷◌, length, map, slice_get}
use Rattle.std.specs.declared.option.Option.TheVariants.{Some}
use Rattle.std.specs.List.{AllByRecursion, list_any}
use Rattle.std.proofs.Common.{refl, sym, ap, subst, arith, inr, eqb, eqb-true}
use Rattle.std.proofs.lemmas.Bool.Decides.{Decides-eqb}
use Rattle.std.proofs.lemmas.List.{length-map}
use Rattle.std.proofs.lemmas.List.Elements.{recursion_from_All}
use Rattle.std.proofs.lemmas.Map.Made.{IsDistinct-from_AllPairs}
use Rattle.std.proofs.lemmas.Map.Steps.{length-le_from_distinct_below}
use Rattle.std.proofs.lemmas.Option.{slice_get_within}
use Rattle.graph_core.specs.declared.literal.Lit.{Lit}
use Rattle.graph_core.specs.declared.numbers.Numbers.{Numbers}
use Rattle.graph_core.specs.Graph.Assignments.{literal}
use Rattle.graph_core.specs.Graph.Extended.{AgreeOnColumns, Column, Extended, without_cut}
use Rattle.graph_core.specs.Graph.Operands.{Sides, AreInRange, inputs_at}
use Rattle.graph_core.specs.Graph.{Aig, IsEvaluation, IsWellFormed}
use Rattle.ripple_graft.specs.Beside.{IsBeside, with_beside}
use Rattle.ripple_graft.specs.Extension.{IsExtension}
use Rattle.ripple_graft.specs.HeaderBlocks.{AreHeaderParts}
use Rattle.ripple_graft.specs.declared.beside.Beside.{Beside}
use Rattle.ripple_graft.proofs.CallerLemmas.{header_extends, header_grafted}
use Rattle.cdcl_solver.specs.Logs.{LogView}
use Rattle.cdcl_solver.specs.Solving.{assignment_of}
use Rattle.goal_refuter.specs.Refutations.{unmet_goals}
use Rattle.goal_refuter.specs.Refuting.{IsDiffering, IsSoFar}
use Rattle.goal_refuter.proofs.Lawful.{lawful_lines, lines_few}
use Rattle.stage_rewriter.specs.Placing.{IsShownBeside}
use Rattle.stage_rewriter.specs.Rewriting.{IsRewritingDifference}

-- ---- there are at most as many new outputs as outputs

low_any : (m q : ℕ) (xs : List ℕ) → AllByRecursion (λ x. x < m) xs → list_any (eqb q) xs ≡ true → q < m
low_any m q [] low h = absurd (cc)
low_any m q (x ∷ xs) low h = go (eqb q x) refl h (low_any m q xs low.1)
  where
    go : (b : Bool) → eqb q x ≡ b → (b || list_any (eqb q) xs) ≡ true → (list_any (eqb q) xs ≡ true → q < m) → q < m
    go true e some more = let same = eqb-true q x e in let below = low.0 in omega arith
    go false e some more = more some

numbers_low : (all : List Lit) (cs : List Column) → AllByRecursion (λ c. slice_get all c.number ≡ Some c.old) cs → AllByRecursion (λ n. n < length all) (map (λ c. c.number) cs)
numbers_low all [] h = tt
numbers_low all (c ∷ cs) h = (slice_get_within all c.number c.old h.0, numbers_low all cs h.1)

few_replaced : (e : Extended) → IsExtension e → length e.replaced ≤ length e.graph.outputs
few_replaced e made =
    let numbers : List ℕ = map (λ (c : Column). c.number) e.replaced in
    let low = numbers_low e.graph.outputs e.replaced (recursion_from_All (λ c. slice_get e.graph.outputs c.number ≡ Some c.old) e.replaced made.replaced) in
    let few = length-le_from_distinct_below numbers (length e.graph.outputs) (IsDistinct-from_AllPairs Decides-eqb numbers made.numbers_once) (λ q some. low_any (length e.graph.outputs) q numbers low some) in
    omega (arith, length-map e.replaced (λ (c : Column). c.number))

-- ---- the graph with what stands beside it

module _ (g : Aig) (b : Beside) (e : Extended) (is_beside : IsBeside g b) (well : IsWellFormed g) (is : e ≡ with_beside (without_cut g) b) where
  parts : AreHeaderParts g 3 [] b
  parts = inr (refl, refl, is_beside)

  extends : IsExtension e
  extends = subst IsExtension (sym is) (header_extends g 3 [] b parts well)

  pub same_graph : e.graph ≡ g
  same_graph = subst (λ (x : Extended). x.graph ≡ g) (sym is) (header_grafted g 3 [] b parts).graph_is

  pub shown_beside : (conflicts : ℕ) (log : LogView) → IsSoFar e conflicts (length (unmet_goals e)) log → IsShownBeside g conflicts (record { beside = b; extended = e; log = log })
  shown_beside conflicts log h =
      let outs : length e.graph.outputs ≡ length g.outputs = ap (λ (x : Aig). length x.outputs) same_graph in
      let replaced = few_replaced e extends in
      let few = lines_few e conflicts log h in
      record { fits = is_beside; extended_is = is; lawful = lawful_lines e conflicts log h; few = omega arith }

  -- the values of all variables are those of the graph's, too
  pub values_reach : (values : List Bool) → IsDiffering e values → g.max ≤ length values
  values_reach values h =
      let max : e.graph.max ≡ g.max = ap (λ (x : Aig). x.max) same_graph in
      let room = extends.room in
      let all = h.all in
      omega arith

  pub differs_beside : (s : Sides) (values : List Bool) (x : Numbers) → IsDiffering e values → map (literal (assignment_of values)) g.inputs ≡ inputs_at s x → AreInRange s x → IsRewritingDifference (with_beside (without_cut g) b) s x
  differs_beside s values x h inputs range =
      let whole_inputs : (with_beside (without_cut g) b).graph ≡ g = (header_grafted g 3 [] b parts).graph_is in
      record {
        range = range;
        values = assignment_of values;
        evaluation = subst (λ (x : Extended). IsEvaluation x.gates (assignment_of values)) is h.evaluation;
        inputs = subst (λ (y : Aig). map (literal (assignment_of values)) y.inputs ≡ inputs_at s x) (sym whole_inputs) inputs;
        differ = subst (λ (x : Extended). ¬ (AgreeOnColumns x (assignment_of values))) is h.differ;
      }
