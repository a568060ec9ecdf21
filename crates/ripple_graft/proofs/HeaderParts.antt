-- What the header of a certificate names, where the graph takes it: it fits, and the graph with it is as wanted.
use Rattle.std.specs.Prelude.{◌≡◌, ℕ, suc, ◌+◌, ◌≤◌, List, [], ◌∷◌, length}
use Rattle.std.specs.declared.option.Option.{Option}
use Rattle.std.specs.declared.option.Option.TheVariants.{None, Some}
use Rattle.std.proofs.Common.{refl, sym, ap, subst, ◌∙◌, arith, inl, inr, ⊎_elim}
use Rattle.graph_core.specs.declared.bounds.TheConstants.{MOST_VARIABLES}
use Rattle.graph_core.specs.declared.literal.Lit.{Lit}
use Rattle.graph_core.specs.Graph.Assignments.{Assignment}
use Rattle.graph_core.specs.Graph.{Aig, IsEvaluation, IsWellFormed}
use Rattle.graph_core.specs.Graph.Extended.{Extended, without_cut}
use Rattle.ripple_graft.specs.Beside.{AreGates, AreOutputs, Beside, FitsBeside, HaveRoom, IsBeside, nothing, with_beside, with_gate, with_gates, with_output, with_outputs}
use Rattle.ripple_graft.specs.Blocks.{AreBlocks, Block, Cut, SameUpTo, with_blocks}
use Rattle.ripple_graft.specs.Extension.{IsExtension}
use Rattle.ripple_graft.specs.Grafts.{IsGrafted}
use Rattle.ripple_graft.specs.HeaderBlocks.{AreHeaderBlocks, AreHeaderParts, IsCutOf, cut_blocks}
use Rattle.ripple_graft.proofs.BesideGraphs.{beside_extends, evaluations_go_on_beside}
use Rattle.ripple_graft.proofs.BlockLists.{blocks_extend, cut_is_block, evaluations_extend}
use Rattle.ripple_graft.proofs.GraftedGraphs.{blocks_grafted, gate_grafted, grafted_graph, output_grafted}

-- ---- it fits

cut_fits : (g : Aig) (cut : Option Cut) → IsCutOf g cut → AreBlocks (without_cut g) (cut_blocks (length g.outputs) cut)
cut_fits g None takes = tt
cut_fits g (Some cut) takes = (cut_is_block g cut takes, tt)

pub header_blocks_fit : (g : Aig) (version : ℕ) (blocks : List Block) → AreHeaderBlocks g version blocks → AreBlocks (without_cut g) blocks
header_blocks_fit g version blocks takes = ⊎_elim (λ a. subst (AreBlocks (without_cut g)) (sym a.1.1) (cut_fits g a.1.0 a.1.2)) (λ b. b.2) takes

pub nothing_fits : (e : Extended) → FitsBeside e nothing
nothing_fits e = record { room = inl refl; gates = tt; outputs = tt }

pub beside_fits : (g : Aig) (b : Beside) → IsBeside g b → FitsBeside (without_cut g) b
beside_fits g b is = record { room = inr (let few = is.few in omega arith); gates = is.gates; outputs = is.outputs }

-- the blocks fit, and beside the graph with them what stands beside
pub header_parts_fit : (g : Aig) (version : ℕ) (blocks : List Block) (beside : Beside) → AreHeaderParts g version blocks beside → AreBlocks (without_cut g) blocks × FitsBeside (with_blocks g blocks) beside
header_parts_fit g version blocks beside takes =
    ⊎_elim
    (λ a. (header_blocks_fit g version blocks a.0, subst (FitsBeside (with_blocks g blocks)) (sym a.1) (nothing_fits (with_blocks g blocks))))
    (λ b. subst (λ bs. AreBlocks (without_cut g) bs × FitsBeside (with_blocks g bs) beside) (sym b.1) (tt, beside_fits g beside b.2))
    takes

-- ---- the graph with it

gates_grafted : (g : Aig) (e : Extended) (pairs : List (Lit × Lit)) → IsGrafted g e → HaveRoom e (length pairs) → AreGates e pairs → IsGrafted g (with_gates e pairs)
gates_grafted g e [] h room fit = h
gates_grafted g e (p ∷ pairs) h room fit =
    let below : e.max + suc (length pairs) ≤ e.graph.max + MOST_VARIABLES = ⊎_elim (λ (none : suc (length pairs) ≡ 0). absurd (omega arith)) (λ (some : e.max + suc (length pairs) ≤ e.graph.max + MOST_VARIABLES). some) room in
    gates_grafted g (with_gate e p) pairs (gate_grafted g e p h fit.0 (omega arith)) (inr (omega arith)) fit.1

outputs_grafted : (g : Aig) (e : Extended) (outputs : List (ℕ × Lit)) → IsGrafted g e → AreOutputs e outputs → IsGrafted g (with_outputs e outputs)
outputs_grafted g e [] h fit = h
outputs_grafted g e (c ∷ outputs) h fit = outputs_grafted g (with_output e c) outputs (output_grafted g e c h fit.0) fit.1

pub beside_grafted : (g : Aig) (e : Extended) (b : Beside) → IsGrafted g e → FitsBeside e b → IsGrafted g (with_beside e b)
beside_grafted g e b h fits = outputs_grafted g (with_gates e b.gates) b.outputs (gates_grafted g e b.gates h fits.room fits.gates) fits.outputs

module _ (g : Aig) (version : ℕ) (blocks : List Block) (beside : Beside) (takes : AreHeaderParts g version blocks beside) where
  fit : AreBlocks (without_cut g) blocks × FitsBeside (with_blocks g blocks) beside
  fit = header_parts_fit g version blocks beside takes

  abbrev whole_graph : Extended
  whole_graph = with_beside (with_blocks g blocks) beside

  pub header_grafted : IsGrafted g whole_graph
  header_grafted = beside_grafted g (with_blocks g blocks) beside (blocks_grafted g blocks fit.0) fit.1

  -- it is without faults, and each evaluation of the graph goes on to one of it
  pub header_extends : IsWellFormed g → IsExtension whole_graph
  header_extends well = beside_extends (with_blocks g blocks) beside (blocks_extend g blocks well fit.0) fit.1

  pub header_goes_on : (τ : Assignment) → IsWellFormed g → IsEvaluation g.gates τ → (σ : Assignment) × IsEvaluation whole_graph.gates σ × SameUpTo g.max σ τ
  header_goes_on τ well evaluates =
      let made = blocks_extend g blocks well fit.0 in
      let one = evaluations_extend g blocks τ well fit.0 evaluates in
      let all = evaluations_go_on_beside (with_blocks g blocks) beside one.0 made fit.1 one.1 in
      let same : (with_blocks g blocks).graph.max ≡ g.max = ap (λ (x : Aig). x.max) (grafted_graph g (with_blocks g blocks) (blocks_grafted g blocks fit.0)) in
      let room = made.room in
      (all.0, all.1, λ v low. all.2 v (omega arith) ∙ one.2 v low)
