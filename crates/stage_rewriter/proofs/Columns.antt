-- The replaced columns of a cut, one after the other, and their goals.
use Rattle.std.specs.Prelude.{◌≡◌, ℕ, zero, suc, ◌+◌, ◌-◌, ◌<◌, ◌≤◌, List, [], ◌∷◌, ◌++◌, length, drop, take, slice_get, slice_index_or}
use Rattle.std.specs.declared.option.Option.TheVariants.{Some}
use Rattle.std.specs.List.{flat_map}
use Rattle.std.proofs.Common.{refl, sym, ap, ap₂, subst, ◌∙◌, arith, ⊎_elim}
use Rattle.std.proofs.lemmas.List.{append-nil, length-drop, take_all, take_more}
use Rattle.std.proofs.lemmas.Grind.{flat_map-append}
use Rattle.std.proofs.lemmas.Option.{same_Some}
use Rattle.graph_core.specs.declared.literal.Lit.{Lit}
use Rattle.graph_core.specs.Graph.Extended.{Column, Extended}
use Rattle.graph_core.specs.Graph.Literals.{constant_false}
use Rattle.ripple_graft.specs.Blocks.{IsCut, columns, with_cut}
use Rattle.ripple_graft.specs.Extension.{IsExtension, new_outputs}
use Rattle.ripple_graft.specs.Ripple.{ripple_outputs}
use Rattle.ripple_graft.specs.declared.cut.Cut.{Cut}
use Rattle.ripple_graft.proofs.BlockLists.{cut_replaces, length-ripple_outputs}
use Rattle.ripple_graft.proofs.CallerLemmas.{outputs_are_new}
use Rattle.clause_core.specs.Clause.{Clause}
use Rattle.clause_core.specs.Likeness.{AreSameSets}
use Rattle.miter_encoder.specs.Encoding.{Appends}
use Rattle.miter_encoder.proofs.Appending.{appends_same}
use Rattle.goal_refuter.specs.Refutations.{unmet_goals, unmet_of}
use Rattle.goal_refuter.proofs.Lists.{take_none}

columns_long : (k : ℕ) (old new : List Lit) → length old ≤ length new → length (columns k old new) ≡ length old
columns_long k [] new h = refl
columns_long k (o ∷ old) [] h = absurd (omega arith)
columns_long k (o ∷ old) (r ∷ new) h = ap suc (columns_long (suc k) old new (omega arith))

columns_number : (k : ℕ) (old new : List Lit) (i : ℕ) (d : Column) → i < length old → length old ≤ length new → (slice_index_or (columns k old new) i d).number ≡ k + i
columns_number k [] new i d below h = absurd (omega arith)
columns_number k (o ∷ old) [] i d below h = absurd (omega arith)
columns_number k (o ∷ old) (r ∷ new) zero d below h = omega arith
columns_number k (o ∷ old) (r ∷ new) (suc i) d below h = let more = columns_number (suc k) old new i d (omega arith) (omega arith) in omega arith

module _ (e : Extended) (cut : Cut) (is_cut : IsCut e.graph cut) (is : e ≡ with_cut e.graph cut) where
  abbrev old : List Lit
  old = drop cut.lo e.graph.outputs

  abbrev new : List Lit
  new = ripple_outputs e.graph.max constant_false cut.pairs

  replaced_are : e.replaced ≡ columns cut.lo old new
  replaced_are = ap (λ (x : Extended). x.replaced) is ∙ ap (λ (x : Extended). x.replaced) (cut_replaces e.graph cut is_cut)

  enough : length old ≤ length new
  enough =
      let outs : length old ≡ length e.graph.outputs - cut.lo = length-drop cut.lo e.graph.outputs in
      let news : length new ≡ length cut.pairs + 1 = length-ripple_outputs e.graph.max constant_false cut.pairs in
      ⊎_elim (λ carry. omega arith) (λ sums. omega arith) is_cut.columns

  pub replaced_long : length e.replaced ≡ length e.graph.outputs - cut.lo
  replaced_long = ap length replaced_are ∙ columns_long cut.lo old new enough ∙ length-drop cut.lo e.graph.outputs

  number_at : (i : ℕ) (d : Column) → i < length e.replaced → (slice_index_or e.replaced i d).number ≡ cut.lo + i
  number_at i d below =
      let long : length e.replaced ≡ length old = ap length replaced_are ∙ columns_long cut.lo old new enough in
      ap (λ (cs : List Column). (slice_index_or cs i d).number) replaced_are ∙ columns_number cut.lo old new i d (omega arith) enough

  -- the goals of the columns below k
  abbrev pub goals_below : ℕ → List Clause
  goals_below k = flat_map unmet_of (take (k - cut.lo) e.replaced)

  pub goals_none : AreSameSets [] (goals_below cut.lo)
  goals_none =
      let zero_is : cut.lo - cut.lo ≡ 0 = omega arith in
      subst (λ (cs : List Column). AreSameSets [] (flat_map unmet_of cs)) (sym (ap (λ n. take n e.replaced) zero_is ∙ take_none e.replaced)) tt

  pub goals_more : (made : IsExtension e) (k : ℕ) (before after : Lit) (goals next : List Clause) → cut.lo ≤ k → k < length e.graph.outputs → slice_get e.graph.outputs k ≡ Some before →
      slice_get (new_outputs e) k ≡ Some after → AreSameSets goals (goals_below k) → Appends goals next (unmet_of (record { number = 0; old = before; new = after })) → AreSameSets next (goals_below (k + 1))
  goals_more made k before after goals next low below olds news same more =
      let i : ℕ = k - cut.lo in
      let d : Column = record { number = 0; old = before; new = after } in
      let c : Column = slice_index_or e.replaced i d in
      let long = replaced_long in
      let inside : i < length e.replaced = omega arith in
      let number : c.number ≡ k = number_at i d inside ∙ omega arith in
      let old_is : c.old ≡ before = same_Some c.old before (sym (made.replaced i d inside) ∙ ap (slice_get e.graph.outputs) number ∙ olds) in
      let new_is : c.new ≡ after = same_Some c.new after (sym (outputs_are_new.replaced e made i d inside) ∙ ap (slice_get (new_outputs e)) number ∙ news) in
      let one : unmet_of d ≡ unmet_of c = sym (ap₂ (λ x y. unmet_of (record { number = 0; old = x; new = y })) old_is new_is) in
      let up : k + 1 - cut.lo ≡ i + 1 = omega arith in
      let all : goals_below (k + 1) ≡ goals_below k ++ unmet_of d =
      ap (λ n. flat_map unmet_of (take n e.replaced)) up ∙ ap (flat_map unmet_of) (take_more e.replaced i d inside) ∙ flat_map-append unmet_of (take i e.replaced) (c ∷ []) ∙
      ap (λ (z : List Clause). goals_below k ++ z) (append-nil (unmet_of c) ∙ sym one) in
      subst (AreSameSets next) (sym all) (appends_same goals next (goals_below k) (unmet_of d) same more)

  pub goals_all : (k : ℕ) (goals : List Clause) → length e.graph.outputs ≤ k → AreSameSets goals (goals_below k) → AreSameSets goals (unmet_goals e)
  goals_all k goals end same =
      let long = replaced_long in
      subst (λ (cs : List Column). AreSameSets goals (flat_map unmet_of cs)) (take_all (k - cut.lo) e.replaced (omega arith)) same
