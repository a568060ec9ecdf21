-- Gates and outputs that are placed beside an extended graph one by one.
use Rattle.std.specs.Prelude.{◌≡◌, ℕ, suc, ◌+◌, ◌<◌, ◌≤◌, List, ◌∷◌, length, drop}
use Rattle.std.proofs.Common.{refl, sym, ap, ◌∙◌, subst, arith, drop-cons, drop_of_length-le, get_or, ⊎_elim}
use Rattle.graph_core.specs.declared.bounds.TheConstants.{MOST_VARIABLES}
use Rattle.graph_core.specs.declared.literal.Lit.{Lit}
use Rattle.graph_core.specs.Graph.{Aig}
use Rattle.graph_core.specs.Graph.Extended.{Extended}
use Rattle.ripple_graft.specs.Beside.{AreGates, AreOutputs, HaveRoom, IsOutput, with_gate, with_gates, with_output, with_outputs}
use Rattle.ripple_graft.specs.Grafts.{IsKnownPair}

next_of : {X : Type 0} (xs : List X) (i : ℕ) (d : X) → i < length xs → drop i xs ≡ get_or xs i d ∷ drop (i + 1) xs
next_of xs i d below = let one : suc i ≡ i + 1 = omega arith in drop-cons xs i d below ∙ ap (λ n. get_or xs i d ∷ drop n xs) one

-- so many gates are placed; what is left fits after them
pub record IsPlacing (e : Extended) (pairs : List (Lit × Lit)) (i : ℕ) (longer : Extended) : Type 0 where
  pub is : with_gates longer (drop i pairs) ≡ with_gates e pairs
  pub fit : AreGates longer (drop i pairs)
  pub graph_is : longer.graph ≡ e.graph
  pub max_is : longer.max ≡ e.max + i

pub placing_begins : (e : Extended) (pairs : List (Lit × Lit)) → AreGates e pairs → IsPlacing e pairs 0 e
placing_begins e pairs fit = record { is = refl; fit = fit; graph_is = refl; max_is = omega arith }

module _ (e : Extended) (pairs : List (Lit × Lit)) (i : ℕ) (longer : Extended) (d : Lit × Lit) (below : i < length pairs) (h : IsPlacing e pairs i longer) where
  fits : IsKnownPair longer (get_or pairs i d) × AreGates (with_gate longer (get_or pairs i d)) (drop (i + 1) pairs)
  fits = subst (AreGates longer) (next_of pairs i d below) h.fit

  pub pair_known : IsKnownPair longer (get_or pairs i d)
  pair_known = fits.0

  pub gate_room : HaveRoom e (length pairs) → longer.max < longer.graph.max + MOST_VARIABLES
  gate_room room =
      let same : longer.graph.max ≡ e.graph.max = ap (λ (g : Aig). g.max) h.graph_is in
      let here = h.max_is in
      ⊎_elim (λ (none : length pairs ≡ 0). absurd (omega arith)) (λ (some : e.max + length pairs ≤ e.graph.max + MOST_VARIABLES). omega arith) room

  pub placing_goes_on : (next : Extended) → next ≡ with_gate longer (get_or pairs i d) → IsPlacing e pairs (i + 1) next
  placing_goes_on next is = subst (IsPlacing e pairs (i + 1)) (sym is) (record {
    is = sym (ap (with_gates longer) (next_of pairs i d below)) ∙ h.is;
    fit = fits.1;
    graph_is = h.graph_is;
    max_is = omega (arith, h.max_is);
  })

pub placing_ends : (e : Extended) (pairs : List (Lit × Lit)) (i : ℕ) (longer : Extended) → length pairs ≤ i → IsPlacing e pairs i longer → longer ≡ with_gates e pairs
placing_ends e pairs i longer far h = sym (ap (with_gates longer) (drop_of_length-le pairs {i = i} far)) ∙ h.is

-- so many outputs are placed
pub record IsReplacingOutputs (e : Extended) (outputs : List (ℕ × Lit)) (i : ℕ) (longer : Extended) : Type 0 where
  pub is : with_outputs longer (drop i outputs) ≡ with_outputs e outputs
  pub fit : AreOutputs longer (drop i outputs)

pub outputs_begin : (e : Extended) (outputs : List (ℕ × Lit)) → AreOutputs e outputs → IsReplacingOutputs e outputs 0 e
outputs_begin e outputs fit = record { is = refl; fit = fit }

module _ (e : Extended) (outputs : List (ℕ × Lit)) (i : ℕ) (longer : Extended) (d : ℕ × Lit) (below : i < length outputs) (h : IsReplacingOutputs e outputs i longer) where
  output_fits : IsOutput longer (get_or outputs i d) × AreOutputs (with_output longer (get_or outputs i d)) (drop (i + 1) outputs)
  output_fits = subst (AreOutputs longer) (next_of outputs i d below) h.fit

  pub is_output : IsOutput longer (get_or outputs i d)
  is_output = output_fits.0

  pub outputs_go_on : (next : Extended) → next ≡ with_output longer (get_or outputs i d) → IsReplacingOutputs e outputs (i + 1) next
  outputs_go_on next is = subst (IsReplacingOutputs e outputs (i + 1)) (sym is) (record {
    is = sym (ap (with_outputs longer) (next_of outputs i d below)) ∙ h.is;
    fit = output_fits.1;
  })

pub outputs_end : (e : Extended) (outputs : List (ℕ × Lit)) (i : ℕ) (longer : Extended) → length outputs ≤ i → IsReplacingOutputs e outputs i longer → longer ≡ with_outputs e outputs
outputs_end e outputs i longer far h = sym (ap (with_outputs longer) (drop_of_length-le outputs {i = i} far)) ∙ h.is
