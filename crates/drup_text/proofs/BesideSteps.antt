-- Gates beside a graph and outputs, as they are read: the graph that they make, what passes, and the first refusal.
use Rattle.std.specs.Prelude.{◌≡◌, ◌+◌, ◌≤◌, ◌<◌, ℕ, List, [], ◌∷◌, ◌++◌, length, Ok, Err}
use Rattle.std.specs.Global.{Global}
use Rattle.std.specs.declared.vec.Vec.{Vec}
use Rattle.std.proofs.Common.{refl, sym, ap, subst, ◌∙◌, arith}
use Rattle.graph_core.specs.declared.bounds.TheConstants.{MOST_VARIABLES}
use Rattle.graph_core.specs.declared.literal.Lit.{Lit}
use Rattle.graph_core.specs.Graph.{Aig}
use Rattle.graph_core.specs.Graph.Extended.{Extended, without_cut}
use Rattle.mv_desk.specs.View.{View}
use Rattle.mv_text.specs.CertificateFiles.{FileState}
use Rattle.mv_text.specs.declared.line_fail.LineFail.{LineFail}
use Rattle.ripple_graft.specs.Beside.{AreGates, AreOutputs, IsBeside, IsOutput, with_gate, with_gates, with_output, with_outputs}
use Rattle.ripple_graft.specs.declared.beside.Beside.{Beside}
use Rattle.drup_text.specs.PassingHeaders.{PassesListing, PassesParts}
use Rattle.drup_text.specs.HeaderRefusal.{Later, LineCause, IsRefusedBeside, IsRefusedListing, nothing_later}
use Rattle.drup_text.specs.HeaderSteps.{ReadsHeaderPart, beside_part, listing_part}
use Rattle.drup_text.specs.LineTexts.{IsPairOf}
use Rattle.drup_text.specs.Listings.{gate_listing, output_listing}
use Rattle.drup_text.proofs.HeaderSteps.{part_behind, refused_behind, refused_front}
use Rattle.drup_text.proofs.ListedSteps.{listing_behind, listing_more, listing_whatever}

-- ---- the graph so far

pub gates_more_fit : (e : Extended) (pairs : List (Lit × Lit)) (p : Lit × Lit) → AreGates e pairs → IsPairOf (with_gates e pairs) p → AreGates e (pairs ++ p ∷ [])
gates_more_fit e [] p fit one = (one, tt)
gates_more_fit e (q ∷ pairs) p fit one = (fit.0, gates_more_fit (with_gate e q) pairs p fit.1 one)

pub outputs_more_fit : (e : Extended) (outputs : List (ℕ × Lit)) (c : ℕ × Lit) → AreOutputs e outputs → IsOutput (with_outputs e outputs) c → AreOutputs e (outputs ++ c ∷ [])
outputs_more_fit e [] c fit one = (one, tt)
outputs_more_fit e (d ∷ outputs) c fit one = (fit.0, outputs_more_fit (with_output e d) outputs c fit.1 one)

pub gates_max : (e : Extended) (pairs : List (Lit × Lit)) → (with_gates e pairs).max ≡ e.max + length pairs
gates_max e [] = omega arith
gates_max e (p ∷ pairs) = let more = gates_max (with_gate e p) pairs in omega (arith, more)

pub gates_graph : (e : Extended) (pairs : List (Lit × Lit)) → (with_gates e pairs).graph ≡ e.graph
gates_graph e [] = refl
gates_graph e (p ∷ pairs) = gates_graph (with_gate e p) pairs

-- there is room for one more
pub gate_room : (g : Aig) (e : Extended) (pairs : List (Lit × Lit)) → e ≡ with_gates (without_cut g) pairs → length pairs < MOST_VARIABLES → e.max < e.graph.max + MOST_VARIABLES
gate_room g e pairs is few =
    let max : e.max ≡ g.max + length pairs = ap (λ (x : Extended). x.max) is ∙ gates_max (without_cut g) pairs in
    let graph : e.graph.max ≡ g.max = ap (λ (x : Extended). x.graph.max) is ∙ ap (λ (x : Aig). x.max) (gates_graph (without_cut g) pairs) in
    omega (arith, max, graph, few)

-- ---- gates, and then outputs

module _ (g : Aig) where
  -- what is refused after them
  pub parts_behind : (later : Later) (IsLong : List ℕ → Type 0) (bytes : List ℕ) (b : Beside) (body : List ℕ) (p : ℕ × LineCause) → PassesParts g IsLong bytes b body →
      later (with_outputs (with_gates (without_cut g) b.gates) b.outputs) (2 + 1 + length b.gates + 1 + length b.outputs) body p → IsRefusedBeside later g IsLong bytes p
  parts_behind later IsLong bytes b body p h refused =
      listing_behind gate_listing IsLong (IsRefusedListing output_listing later IsLong) (without_cut g) 2 b.gates bytes h.0 p h.1
      (listing_behind output_listing IsLong later (with_gates (without_cut g) b.gates) (2 + 1 + length b.gates) b.outputs h.0 body p h.2 refused)

  -- what is refused within them
  pub beside_more : (one two : Later) → ((e : Extended) (n : ℕ) (bytes : List ℕ) (p : ℕ × LineCause) → one e n bytes p → two e n bytes p) → (IsLong : List ℕ → Type 0) (bytes : List ℕ) (p : ℕ × LineCause) →
      IsRefusedBeside one g IsLong bytes p → IsRefusedBeside two g IsLong bytes p
  beside_more one two grows IsLong bytes p h =
      listing_more gate_listing IsLong (IsRefusedListing output_listing one IsLong) (IsRefusedListing output_listing two IsLong) (listing_more output_listing IsLong one two grows) (without_cut g) 2 bytes p h

  module _ (gates : Extended × Vec (Lit × Lit) Global) (made : gates.0 ≡ with_gates (without_cut g) gates.1.items) (IsLong : List ℕ → Type 0) where
    parts_joined : (outputs : Extended × Vec (ℕ × Lit) Global) (b : Beside) → b.gates ≡ gates.1.items → b.outputs ≡ outputs.1.items → (bytes rest body : List ℕ) → (listing_part gate_listing (without_cut g)).passes IsLong bytes gates rest →
        (listing_part output_listing gates.0).passes IsLong rest outputs body → PassesParts g IsLong bytes b body
    parts_joined outputs b gates_are outputs_are bytes rest body h k = (
      rest,
      subst (λ ps. PassesListing gate_listing IsLong (without_cut g) bytes ps rest) (sym gates_are) h,
      subst (λ ps. PassesListing output_listing IsLong (with_gates (without_cut g) ps) rest b.outputs body) (sym gates_are)
          (subst (λ (e : Extended). PassesListing output_listing IsLong e rest b.outputs body) made (subst (λ cs. PassesListing output_listing IsLong gates.0 rest cs body) (sym outputs_are) k)),
    )

    outputs_refused : (number : ℕ) → number ≡ 1 → (bytes rest : List ℕ) (p : ℕ × LineCause) → (listing_part gate_listing (without_cut g)).passes IsLong bytes gates rest →
        (listing_part output_listing gates.0).refused IsLong (number + (1 + length gates.1.items) + 1) rest p → IsRefusedBeside nothing_later g IsLong bytes p
    outputs_refused number first bytes rest p h r =
        listing_behind gate_listing IsLong (IsRefusedListing output_listing nothing_later IsLong) (without_cut g) 2 gates.1.items bytes rest p h
        (subst (λ (e : Extended). IsRefusedListing output_listing nothing_later IsLong e (2 + 1 + length gates.1.items) rest p) made
        (subst (λ n. IsRefusedListing output_listing nothing_later IsLong gates.0 n rest p) (omega (arith, first)) r))

  gates_refused : (IsLong : List ℕ → Type 0) (number : ℕ) → number ≡ 1 → (bytes : List ℕ) (p : ℕ × LineCause) → (listing_part gate_listing (without_cut g)).refused IsLong (number + 1) bytes p → IsRefusedBeside nothing_later g IsLong bytes p
  gates_refused IsLong number first bytes p h =
      listing_whatever gate_listing IsLong (IsRefusedListing output_listing nothing_later IsLong) (without_cut g) 2 bytes p
      (subst (λ n. IsRefusedListing gate_listing nothing_later IsLong (without_cut g) n bytes p) (ap (λ n. n + 1) first) h)

  pub parts_read : (gates : Extended × Vec (Lit × Lit) Global) (outputs : Extended × Vec (ℕ × Lit) Global) (b : Beside) {old mid new : FileState} {before between now : View} → gates.0 ≡ with_gates (without_cut g) gates.1.items →
      b.gates ≡ gates.1.items → b.outputs ≡ outputs.1.items → mid.lines.lengths ≡ old.lines.lengths → ReadsHeaderPart (listing_part gate_listing (without_cut g)) old mid before between (Ok gates) →
      ReadsHeaderPart (listing_part output_listing gates.0) mid new between now (Ok outputs) → ReadsHeaderPart (beside_part g) old new before now (Ok b)
  parts_read gates outputs b made gates_are outputs_are lengths h k =
      part_behind (listing_part gate_listing (without_cut g)) (listing_part output_listing gates.0) (beside_part g) gates lengths h outputs b lines (λ IsLong. parts_joined gates made IsLong outputs b gates_are outputs_are) k
    where
      lines : (beside_part g).lines b ≡ (listing_part gate_listing (without_cut g)).lines gates + (listing_part output_listing gates.0).lines outputs
      lines = let one = ap length gates_are in let two = ap length outputs_are in omega (arith, one, two)

  pub outputs_not_read : (gates : Extended × Vec (Lit × Lit) Global) (f : LineFail) {old mid new : FileState} {before between now : View} → old.number ≡ 1 → gates.0 ≡ with_gates (without_cut g) gates.1.items → mid.lines.lengths ≡ old.lines.lengths →
      between.read_faults ≡ before.read_faults → ReadsHeaderPart (listing_part gate_listing (without_cut g)) old mid before between (Ok gates) → ReadsHeaderPart (listing_part output_listing gates.0) mid new between now (Err f) →
      ReadsHeaderPart (beside_part g) old new before now (Err f)
  outputs_not_read gates f {old} first made lengths stands h k =
      refused_behind (listing_part gate_listing (without_cut g)) (listing_part output_listing gates.0) (beside_part g) gates lengths h f stands (λ IsLong. outputs_refused gates made IsLong old.number first) k

  pub gates_not_read : (f : LineFail) {old new : FileState} {before now : View} → old.number ≡ 1 → ReadsHeaderPart (listing_part gate_listing (without_cut g)) old new before now (Err f) → ReadsHeaderPart (beside_part g) old new before now (Err f)
  gates_not_read f {old} first h = refused_front (listing_part gate_listing (without_cut g)) (beside_part g) f (λ IsLong. gates_refused IsLong old.number first) h

  -- they fit
  pub parts_fit : (gates : Extended × Vec (Lit × Lit) Global) (outputs : Extended × Vec (ℕ × Lit) Global) (b : Beside) → gates.0 ≡ with_gates (without_cut g) gates.1.items → b.gates ≡ gates.1.items → b.outputs ≡ outputs.1.items →
      length gates.1.items ≤ MOST_VARIABLES → AreGates (without_cut g) gates.1.items → AreOutputs gates.0 outputs.1.items → IsBeside g b
  parts_fit gates outputs b made gates_are outputs_are few fit out = record {
    few = let many = ap length gates_are in omega (arith, many, few);
    gates = subst (AreGates (without_cut g)) (sym gates_are) fit;
    outputs = subst (λ ps. AreOutputs (with_gates (without_cut g) ps) b.outputs) (sym gates_are) (subst (λ (e : Extended). AreOutputs e b.outputs) made (subst (AreOutputs gates.0) (sym outputs_are) out));
  }
