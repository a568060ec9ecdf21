-- Columns that are replaced: as they are kept, and as the definitions know them.
use Rattle.std.specs.Prelude.{◌≡◌, ℕ, ◌+◌, ◌<◌, ◌≤◌, ◌⊎◌, ◌↔◌, List, [], ◌∷◌, ◌++◌, length, drop, slice_get, slice_index_or}
use Rattle.std.specs.declared.option.Option.TheVariants.{Some}
use Rattle.std.specs.Option.{option_map}
use Rattle.std.specs.List.{All, Any}
use Rattle.std.proofs.Common.{refl, sym, ap, ◌∙◌, subst, arith, append-nil, get_or, drop_of_length-le}
use Rattle.std.proofs.lemmas.List.{get_or-map, get_or_default, length-map}
use Rattle.std.proofs.lemmas.Option.{slice_get-get_or}
use Rattle.graph_core.specs.declared.literal.Lit.{Lit}
use Rattle.graph_core.specs.Graph.Extended.{Column, Extended}
use Rattle.ripple_graft.specs.declared.added.Replaced.{Replaced}
use Rattle.ripple_graft.specs.Blocks.{columns}
use Rattle.ripple_graft.specs.Extension.{new_or_old, new_outputs}
use Rattle.ripple_graft.specs.Grafts.{column_in, columns_in}
use Rattle.ripple_graft.proofs.NewOutputs.{get_from}

-- ---- made one by one

-- so many are made; what is left comes after
pub record IsReplacing (before : List Column) (lo : ℕ) (old new : List Lit) (i number : ℕ) (all : List Replaced) : Type 0 where
  pub number_is : number ≡ lo + i
  pub columns_are : columns_in all ++ columns number (drop number old) (drop i new) ≡ before ++ columns lo (drop lo old) new

columns_none : (k : ℕ) (old : List Lit) → columns k old [] ≡ []
columns_none k [] = refl
columns_none k (o ∷ old) = refl

pub replacing_ends : (before : List Column) (lo : ℕ) (old new : List Lit) (i number : ℕ) (all : List Replaced) → length new ≤ i → IsReplacing before lo old new i number all →
    columns_in all ≡ before ++ columns lo (drop lo old) new
replacing_ends before lo old new i number all far h =
    sym (append-nil (columns_in all)) ∙ ap (λ xs. columns_in all ++ xs) (sym (ap (columns number (drop number old)) (drop_of_length-le new {i = i} far) ∙ columns_none number (drop number old))) ∙ h.columns_are

-- ---- looked up

pub any_in : (cs : List Replaced) (k : ℕ) → Any (λ c. c.number ≡ k) cs ↔ Any (λ c. c.number ≡ k) (columns_in cs)
any_in cs k = (
  λ a. (a.0, column_in a.1, omega (arith, length-map cs column_in, a.2), get_or-map column_in cs a.0 a.1 (column_in a.1) a.2 ∙ ap column_in a.3, a.4),
  λ a. back a.0 a.1 a.2 a.3 a.4,
)
  where
    back : (i : ℕ) (x : Column) → i < length (columns_in cs) → slice_index_or (columns_in cs) i x ≡ x → x.number ≡ k → Any (λ c. c.number ≡ k) cs
    back i x below is same =
        let low : i < length cs = omega (arith, length-map cs column_in, below) in
        let d : Replaced = record { number = 0; old = record { 0 = 0 }; new = record { 0 = 0 } } in
        (i, get_or cs i d, low, get_or_default cs i (get_or cs i d) d low, ap (λ c. c.number) (sym (get_or-map column_in cs i d x low) ∙ is) ∙ same)

pub all_in : (cs : List Replaced) (lo end : ℕ) → All (λ c. (c.number < lo) ⊎ (end ≤ c.number)) cs ↔ All (λ c. (c.number < lo) ⊎ (end ≤ c.number)) (columns_in cs)
all_in cs lo end = (
  λ h i x below.
      let low : i < length cs = omega (arith, length-map cs column_in, below) in
      let d : Replaced = record { number = 0; old = record { 0 = 0 }; new = record { 0 = 0 } } in
      subst (λ (c : Column). (c.number < lo) ⊎ (end ≤ c.number)) (sym (get_or-map column_in cs i d x low)) (h i d low),
  λ h i x below. subst (λ (c : Column). (c.number < lo) ⊎ (end ≤ c.number)) (get_or-map column_in cs i x (column_in x) below) (h i (column_in x) (omega (arith, length-map cs column_in, below))),
)

-- the column that is looked for isn't among the first ones
pub record IsBehind (cs : List Replaced) (k : ℕ) (old : Lit) (i : ℕ) : Type 0 where
  pub same : new_or_old (columns_in cs) k old ≡ new_or_old (columns_in (drop i cs)) k old

-- the output of a column, old or new
pub output_told : (e : Extended) (k : ℕ) (d new : Lit) → k < length e.graph.outputs → new ≡ new_or_old e.replaced k (slice_index_or e.graph.outputs k d) → slice_get (new_outputs e) k ≡ Some new
output_told e k d new low new_is =
    get_from e.replaced 0 e.graph.outputs k ∙ ap (option_map (new_or_old e.replaced (0 + k))) (slice_get-get_or e.graph.outputs k d low) ∙
    ap Some (ap (λ n. new_or_old e.replaced n (slice_index_or e.graph.outputs k d)) plus ∙ sym new_is)
  where
    plus : 0 + k ≡ k
    plus = omega arith
