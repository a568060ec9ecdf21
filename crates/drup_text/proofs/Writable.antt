-- Lines whose variables are in a range of 31 bits can be written, and so can what a graph takes.
use Rattle.std.proofs.Common.{◌≡◌, ◌≢◌, ℕ, suc, ◌+◌, ◌<◌, ◌≤◌, ◌^◌, List, [], ◌∷◌, length, ap, arith}
use Rattle.std.specs.Prelude.{nat_abs, pos}
use Rattle.std.specs.List.{All}
use Rattle.std.proofs.lemmas.List.Elements.{All-cons, All-nil, All-weaker}
use Rattle.graph_core.specs.declared.bounds.TheConstants.{MOST_VARIABLES}
use Rattle.graph_core.specs.declared.literal.Lit.{Lit}
use Rattle.graph_core.specs.Graph.Extended.{Extended, without_cut}
use Rattle.graph_core.specs.Graph.{Aig, IsBuilt}
use Rattle.ripple_graft.specs.declared.block.Block.{Block}
use Rattle.ripple_graft.specs.Beside.{AreGates, AreOutputs, IsBeside, with_gate, with_gates, with_output}
use Rattle.ripple_graft.specs.declared.beside.Beside.{Beside}
use Rattle.ripple_graft.specs.Blocks.{IsBlock}
use Rattle.ripple_graft.specs.Extension.{IsKnown}
use Rattle.ripple_graft.specs.Grafts.{IsGrafted}
use Rattle.ripple_graft.proofs.GraftedGraphs.{gate_grafted, grafted_extends, grafted_graph, grafted_none, grafted_small, output_grafted, reach_is}
use Rattle.clause_core.specs.Clause.{Clause, IsClauseInRange, IsLiteral}
use Rattle.clause_core.specs.ClauseLines.{ClauseLine, clause_in}
use Rattle.drup_text.specs.WrittenLaws.{IsWritableLine}
use Rattle.drup_text.proofs.BesideSteps.{gates_graph}
use Rattle.drup_text.proofs.HeaderTexts.{known_low}
use Rattle.drup_text.proofs.OutputColumns.{outputs_few}

literals_are : (max : ℕ) (c : Clause) → max < 2 ^ 31 → IsClauseInRange max c → All IsLiteral c
literals_are max c small h = All-weaker (λ l. (l ≢ pos 0) × (nat_abs l ≤ max)) IsLiteral (λ l k. (k.0, let low = k.1 in omega arith)) c h

pub lines_are_writable : (max : ℕ) (lines : List ClauseLine) → max < 2 ^ 31 → All (λ x. IsClauseInRange max (clause_in x)) lines → All IsWritableLine lines
lines_are_writable max lines small h = All-weaker (λ x. IsClauseInRange max (clause_in x)) IsWritableLine (λ x k. literals_are max (clause_in x) small k) lines h

-- ---- blocks

abbrev pub IsWord : Lit × Lit → Type 0
IsWord p = (p.0.0 < 2 ^ 32) × (p.1.0 < 2 ^ 32)

-- the numbers of a block have 32 bits
pub record IsWritable (b : Block) : Type 0 where
  pub lo : b.cut.lo < 2 ^ 32
  pub count : length b.cut.pairs < 2 ^ 32
  pub pairs : All IsWord b.cut.pairs

pub known_word : (g : Aig) (e : Extended) (l : Lit) → IsBuilt g → IsGrafted g e → IsKnown e l → l.0 < 2 ^ 32
known_word g e l built made known =
    let low = known_low e l (grafted_extends g e built made) known in
    let small = grafted_small g e built made in
    omega arith

pub block_is_writable : (g : Aig) (e : Extended) (b : Block) → IsBuilt g → IsGrafted g e → IsBlock e b → IsWritable b
block_is_writable g e b built made one =
    let within = one.within in
    let wide = (reach_is (length b.cut.pairs) b.carry).0 in
    let few = built.few_outputs in
    let same : length e.graph.outputs ≡ length g.outputs = ap (λ (x : Aig). length x.outputs) (grafted_graph g e made) in
    record {
      lo = omega arith;
      count = omega arith;
      pairs = All-weaker (λ p. IsKnown e p.0 × IsKnown e p.1) IsWord (λ p h. (known_word g e p.0 built made h.0, known_word g e p.1 built made h.1)) b.cut.pairs one.known;
    }

-- ---- gates beside the graph, and outputs

abbrev pub IsOutputWord : ℕ × Lit → Type 0
IsOutputWord c = (c.0 < 2 ^ 32) × (c.1.0 < 2 ^ 32)

module _ (g : Aig) (built : IsBuilt g) where
  gates_are_words : (e : Extended) (pairs : List (Lit × Lit)) → IsGrafted g e → e.max + length pairs ≤ e.graph.max + MOST_VARIABLES → AreGates e pairs → All IsWord pairs × IsGrafted g (with_gates e pairs)
  gates_are_words e [] made room fit = (All-nil IsWord, made)
  gates_are_words e (p ∷ pairs) made room fit =
      let all : e.max + suc (length pairs) ≤ e.graph.max + MOST_VARIABLES = room in
      let more = gates_are_words (with_gate e p) pairs (gate_grafted g e p made fit.0 (omega (arith, all))) (omega (arith, all)) fit.1 in
      (All-cons IsWord p pairs (known_word g e p.0 built made fit.0.0, known_word g e p.1 built made fit.0.1) more.0, more.1)

  outputs_are_words : (e : Extended) (outputs : List (ℕ × Lit)) → IsGrafted g e → AreOutputs e outputs → All IsOutputWord outputs
  outputs_are_words e [] made fit = All-nil IsOutputWord
  outputs_are_words e (c ∷ outputs) made fit =
      let within = fit.0.within in
      let few = built.few_outputs in
      let same : length e.graph.outputs ≡ length g.outputs = ap (λ (x : Aig). length x.outputs) (grafted_graph g e made) in
      All-cons IsOutputWord c outputs (omega arith, known_word g e c.1 built made fit.0.known) (outputs_are_words (with_output e c) outputs (output_grafted g e c made fit.0) fit.1)

  -- their numbers have 32 bits
  pub record IsWritableBeside (b : Beside) : Type 0 where
    pub gate_count : length b.gates < 2 ^ 32
    pub output_count : length b.outputs < 2 ^ 32
    pub gates : All IsWord b.gates
    pub outputs : All IsOutputWord b.outputs

  pub beside_is_writable : (b : Beside) → IsBeside g b → IsWritableBeside b
  beside_is_writable b fits =
      let few = fits.few in
      let words = gates_are_words (without_cut g) b.gates (grafted_none g) (omega arith) fits.gates in
      let e = with_gates (without_cut g) b.gates in
      let columns = outputs_few e b.outputs fits.outputs in
      let same : length e.graph.outputs ≡ length g.outputs = ap (λ (x : Aig). length x.outputs) (gates_graph (without_cut g) b.gates) in
      let most = built.few_outputs in
      record { gate_count = omega arith; output_count = omega arith; gates = words.0; outputs = outputs_are_words e b.outputs words.1 fits.outputs }
