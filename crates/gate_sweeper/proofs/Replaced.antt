-- The columns that outputs beside a graph replace, and the goals of their pairs.
use Rattle.std.specs.Prelude.{◌≡◌, ℕ, suc, ◌+◌, ◌<◌, ◌≤◌, List, [], ◌∷◌, ◌++◌, map, length, drop, slice_index_or}
use Rattle.std.specs.List.{All, AllByRecursion, flat_map}
use Rattle.std.proofs.Common.{refl, sym, ap, subst, ◌∙◌, append_assoc, append-nil, drop-cons}
use Rattle.std.proofs.lemmas.List.Elements.{All-from_recursion}
use Rattle.graph_core.specs.declared.literal.Lit.{Lit}
use Rattle.graph_core.specs.Graph.{Aig}
use Rattle.graph_core.specs.Graph.Extended.{Column, Extended, without_cut}
use Rattle.graph_core.specs.Graph.Literals.{constant_false}
use Rattle.ripple_graft.specs.declared.beside.Beside.{Beside}
use Rattle.ripple_graft.specs.Beside.{AreOutputs, IsBeside, with_beside, with_gate, with_gates, with_output, with_outputs}
use Rattle.ripple_graft.specs.Blocks.{columns}
use Rattle.clause_core.specs.Clause.{Clause}
use Rattle.clause_core.specs.Likeness.{AreSameSets}
use Rattle.goal_refuter.specs.Refutations.{unmet_goals, unmet_of}
use Rattle.miter_encoder.specs.ColumnGoals.{columns_from}
use Rattle.gate_sweeper.specs.Pairs.{pairs_at}

-- the column of a new output
abbrev pub column_at : Aig → ℕ × Lit → Column
column_at g c = record { number = c.0; old = slice_index_or g.outputs c.0 constant_false; new = c.1 }

columns_none : (k : ℕ) (old : List Lit) → columns k old [] ≡ []
columns_none k [] = refl
columns_none k (o ∷ old) = refl

one_column : (g : Aig) (c : ℕ × Lit) → c.0 < length g.outputs → columns c.0 (drop c.0 g.outputs) (c.1 ∷ []) ≡ column_at g c ∷ []
one_column g c below =
    ap (λ (ls : List Lit). columns c.0 ls (c.1 ∷ [])) (drop-cons g.outputs c.0 constant_false below) ∙ ap (λ (cs : List Column). column_at g c ∷ cs) (columns_none (suc c.0) (drop (suc c.0) g.outputs))

outputs_replace : (e : Extended) (outputs : List (ℕ × Lit)) → AreOutputs e outputs → (with_outputs e outputs).replaced ≡ e.replaced ++ map (column_at e.graph) outputs
outputs_replace e [] fit = sym (append-nil e.replaced)
outputs_replace e (c ∷ outputs) fit =
    outputs_replace (with_output e c) outputs fit.1 ∙ ap (λ (cs : List Column). (e.replaced ++ cs) ++ map (column_at e.graph) outputs) (one_column e.graph c fit.0.within) ∙
    append_assoc e.replaced (column_at e.graph c ∷ []) (map (column_at e.graph) outputs)

gates_keep : (e : Extended) (pairs : List (Lit × Lit)) → ((with_gates e pairs).graph ≡ e.graph) × ((with_gates e pairs).replaced ≡ e.replaced)
gates_keep e [] = (refl, refl)
gates_keep e (p ∷ pairs) = gates_keep (with_gate e p) pairs

outputs_within : (e : Extended) (outputs : List (ℕ × Lit)) → AreOutputs e outputs → AllByRecursion (λ c. c.0 < length e.graph.outputs) outputs
outputs_within e [] fit = tt
outputs_within e (c ∷ outputs) fit = (fit.0.within, outputs_within (with_output e c) outputs fit.1)

-- the goals of columns are those of their pairs, whatever their numbers are
goals_same : (g : Aig) (k : ℕ) (outputs : List (ℕ × Lit)) → flat_map unmet_of (columns_from k (pairs_at g outputs)) ≡ flat_map unmet_of (map (column_at g) outputs)
goals_same g k [] = refl
goals_same g k (c ∷ outputs) = ap (λ cs. unmet_of (column_at g c) ++ cs) (goals_same g (k + 1) outputs)

module _ (g : Aig) (b : Beside) (is : IsBeside g b) where
  pub replaced_are : (with_beside (without_cut g) b).replaced ≡ map (column_at g) b.outputs
  replaced_are =
      let keep = gates_keep (without_cut g) b.gates in
      outputs_replace (with_gates (without_cut g) b.gates) b.outputs is.outputs ∙ ap (λ (cs : List Column). cs ++ map (column_at (with_gates (without_cut g) b.gates).graph) b.outputs) keep.1 ∙
      ap (λ (x : Aig). map (column_at x) b.outputs) keep.0

  pub columns_within : All (λ c. c.0 < length g.outputs) b.outputs
  columns_within =
      All-from_recursion (λ c. c.0 < length g.outputs) b.outputs
      (subst (λ (x : Aig). AllByRecursion (λ c. c.0 < length x.outputs) b.outputs) (gates_keep (without_cut g) b.gates).0 (outputs_within (with_gates (without_cut g) b.gates) b.outputs is.outputs))

  pub goals_are : flat_map unmet_of (columns_from 0 (pairs_at g b.outputs)) ≡ flat_map unmet_of (with_beside (without_cut g) b).replaced
  goals_are = goals_same g 0 b.outputs ∙ sym (ap (flat_map unmet_of) replaced_are)

-- the goals of the pairs are those of the extended graph
pub goals_of_pairs : (e : Extended) (b : Beside) (g : Aig) (outputs : List (ℕ × Lit)) (items pairs : List (Lit × Lit)) (goals : List Clause) → IsBeside e.graph b → e ≡ with_beside (without_cut e.graph) b → g ≡ e.graph → outputs ≡ b.outputs →
    items ≡ pairs_at g outputs → pairs ≡ items → AreSameSets goals (flat_map unmet_of (columns_from 0 pairs)) → AreSameSets goals (unmet_goals e)
goals_of_pairs e b g outputs items pairs goals is made graph_is outputs_are items_are pairs_are same =
    let pairs_is : pairs ≡ pairs_at e.graph b.outputs = pairs_are ∙ items_are ∙ ap (pairs_at g) outputs_are ∙ ap (λ (x : Aig). pairs_at x b.outputs) graph_is in
    subst (AreSameSets goals) (ap (λ (ps : List (Lit × Lit)). flat_map unmet_of (columns_from 0 ps)) pairs_is ∙ goals_are e.graph b is ∙ sym (ap unmet_goals made)) same
