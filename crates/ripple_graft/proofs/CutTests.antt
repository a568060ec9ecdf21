-- What is tested of a cut, and of a block, before its adder is made.
use Rattle.std.specs.Prelude.{◌≡◌, ◌↔◌, ℕ, ◌+◌, ◌<◌, ◌≤◌, ◌⊎◌, Bool, false, List, length, ◌==◌, Ok, Err}
use Rattle.std.specs.declared.result.Result.{Result}
use Rattle.std.specs.Bool.{IsTrue}
use Rattle.std.specs.List.{All, AllWithin, HoldsAt}
use Rattle.std.proofs.Common.{sym, ap, ap₂, subst, ◌∙◌, arith, get_or, below_more, eqb-true, eq-eqb, inl, inr, ⊎_elim, Fits, w32}
use Rattle.std.proofs.lemmas.List.{get_or_default}
use Rattle.graph_core.specs.declared.bounds.TheConstants.{MOST_OUTPUTS}
use Rattle.graph_core.specs.declared.literal.Lit.{Lit}
use Rattle.graph_core.specs.Graph.{Aig, IsBuilt}
use Rattle.graph_core.specs.Graph.Extended.{Extended, without_cut}
use Rattle.ripple_graft.specs.declared.fault.GraftFail.{GraftFail}
use Rattle.ripple_graft.specs.declared.fault.GraftFail.TheVariants.{Columns, Literal, Memory}
use Rattle.ripple_graft.specs.Blocks.{Block, Cut, IsBlock, IsCut, block, graft_block, with_cut}
use Rattle.ripple_graft.specs.Extension.{IsKnown}
use Rattle.ripple_graft.specs.Grafts.{HasColumnRoom, HasColumns, IsFirstUnknown, IsKnownPair}
use Rattle.ripple_graft.proofs.BlockLists.{cut_is_block}

-- ---- columns

pub no_columns : (g : Aig) (cut : Cut) (pairs : List (Lit × Lit)) (outputs : List Lit) → outputs ≡ g.outputs → pairs ≡ cut.pairs →
    (length pairs ≡ 0) ⊎ ((length pairs ≡ 0 → ⊥) × (length outputs < length pairs)) → IsTrue false ↔ HasColumns g cut
no_columns g cut pairs outputs outputs_are pairs_are fault =
    let all = ap length outputs_are in
    let few = ap length pairs_are in (
      λ t. absurd (cc),
      λ h. let some = h.some in absurd (⊎_elim (λ (a : length pairs ≡ 0). omega arith)
          (λ (b : (length pairs ≡ 0 → ⊥) × (length outputs < length pairs)). let long = b.1 in
          ⊎_elim (λ (x : cut.lo + length cut.pairs + 1 ≡ length g.outputs). omega arith) (λ (y : cut.lo + length cut.pairs ≡ length g.outputs). omega arith) h.columns) fault),
    )

pub ends_last : (g : Aig) (cut : Cut) (pairs : List (Lit × Lit)) (outputs : List Lit) → outputs ≡ g.outputs → pairs ≡ cut.pairs → (length pairs ≡ 0 → ⊥) → cut.lo + length pairs ≡ length outputs →
    IsTrue (cut.lo + length pairs == length outputs) ↔ HasColumns g cut
ends_last g cut pairs outputs outputs_are pairs_are some end =
    let all = ap length outputs_are in
    let few = ap length pairs_are in
    (λ t. record { some = omega arith; columns = inr (omega arith) }, λ h. eq-eqb _ _ end)

pub ends_before : (g : Aig) (cut : Cut) (pairs : List (Lit × Lit)) (outputs : List Lit) → outputs ≡ g.outputs → pairs ≡ cut.pairs → (length pairs ≡ 0 → ⊥) → (cut.lo + length pairs ≡ length outputs → ⊥) →
    IsTrue (cut.lo + length pairs + 1 == length outputs) ↔ HasColumns g cut
ends_before g cut pairs outputs outputs_are pairs_are some end =
    let all = ap length outputs_are in
    let few = ap length pairs_are in (
      λ t. let at = eqb-true (cut.lo + length pairs + 1) (length outputs) t in record { some = omega arith; columns = inl (omega arith) },
      λ h. eq-eqb _ _ (⊎_elim (λ (x : cut.lo + length cut.pairs + 1 ≡ length g.outputs). omega arith) (λ (y : cut.lo + length cut.pairs ≡ length g.outputs). absurd (end (omega arith))) h.columns),
    )

pub few_pairs : (g : Aig) (cut : Cut) → IsBuilt g → HasColumns g cut → length cut.pairs ≤ MOST_OUTPUTS
few_pairs g cut built h =
    let few = built.few_outputs in
    ⊎_elim (λ (x : cut.lo + length cut.pairs + 1 ≡ length g.outputs). omega arith) (λ (y : cut.lo + length cut.pairs ≡ length g.outputs). omega arith) h.columns

-- ---- pairs of known literals

pub none_before : (e : Extended) (pairs : List (Lit × Lit)) → AllWithin (IsKnownPair e) pairs 0 0
none_before e pairs k d low below = absurd (omega arith)

pub known_so_far : (e : Extended) (pairs : List (Lit × Lit)) (i : ℕ) (l m : Lit) → i < length pairs → IsKnown e (get_or pairs i (l, m)).0 → IsKnown e (get_or pairs i (l, m)).1 →
    AllWithin (IsKnownPair e) pairs 0 i → AllWithin (IsKnownPair e) pairs 0 (i + 1)
known_so_far e pairs i l m below left right h k x low k_below =
    below_more (λ n. (y : Lit × Lit) → IsKnownPair e (get_or pairs n y)) i (λ n n_below y. h n y (omega arith) n_below)
    (λ y. subst (IsKnownPair e) (get_or_default pairs i (l, m) y below) (left, right)) k k_below x

pub known_all : (e : Extended) (pairs : List (Lit × Lit)) (i : ℕ) → length pairs ≤ i → AllWithin (IsKnownPair e) pairs 0 i → All (IsKnownPair e) pairs
known_all e pairs i far h k d below = h k d (omega arith) (omega (arith, below, far))

pub left_unknown : (e : Extended) (pairs : List (Lit × Lit)) (i : ℕ) (l m : Lit) (known : Bool) → i < length pairs → known ≡ false → IsTrue known ↔ IsKnown e (get_or pairs i (l, m)).0 →
    HoldsAt (λ p. ¬ (IsKnownPair e p)) pairs i
left_unknown e pairs i l m known below not is x h =
    let t = is.1 (subst (λ p. IsKnown e p.0) (get_or_default pairs i x (l, m) below) h.0) in absurd (cc)

pub right_unknown : (e : Extended) (pairs : List (Lit × Lit)) (i : ℕ) (l m : Lit) (known : Bool) → i < length pairs → known ≡ false → IsTrue known ↔ IsKnown e (get_or pairs i (l, m)).1 →
    HoldsAt (λ p. ¬ (IsKnownPair e p)) pairs i
right_unknown e pairs i l m known below not is x h =
    let t = is.1 (subst (λ p. IsKnown e p.1) (get_or_default pairs i x (l, m) below) h.1) in absurd (cc)

pub index_fits : (i few : ℕ) → i < few → few ≤ MOST_OUTPUTS → Fits w32 i
index_fits i few below h = omega (arith, below, h)

-- ---- the cut

pub few_given : (g : Aig) (cut : Cut) (pairs : List (Lit × Lit)) → pairs ≡ cut.pairs → (HasColumns g cut → length cut.pairs ≤ MOST_OUTPUTS) → HasColumns g cut → length pairs ≤ MOST_OUTPUTS
few_given g cut pairs is few h = subst (λ ps. length ps ≤ MOST_OUTPUTS) (sym is) (few h)

pub cut_is : (g : Aig) (cut : Cut) (pairs : List (Lit × Lit)) (alone : Extended) → pairs ≡ cut.pairs → alone ≡ without_cut g → HasColumns g cut → All (IsKnownPair alone) pairs → IsCut g cut
cut_is g cut pairs alone is plain h known = record { some = h.some; columns = h.columns; known = subst (λ (e : Extended). All (IsKnownPair e) cut.pairs) plain (subst (All (IsKnownPair alone)) is known) }

-- the cut is a block of the graph alone, with this carry
pub cut_fits : (g : Aig) (cut : Cut) (alone : Extended) (carry : Bool) → IsCut g cut → alone ≡ without_cut g → carry ≡ (cut.lo + length cut.pairs + 1 == length g.outputs) → IsBlock alone (block cut carry)
cut_fits g cut alone carry h plain is = subst (λ (e : Extended). IsBlock e (block cut carry)) (sym plain) (subst (λ t. IsBlock (without_cut g) (block cut t)) (sym is) (cut_is_block g cut h))

pub cut_grafted : (g : Aig) (cut : Cut) (alone made : Extended) (carry : Bool) → alone ≡ without_cut g → carry ≡ (cut.lo + length cut.pairs + 1 == length g.outputs) → made ≡ graft_block alone (block cut carry) → made ≡ with_cut g cut
cut_grafted g cut alone made carry plain is made_is = made_is ∙ ap₂ (λ (e : Extended) t. graft_block e (block cut t)) plain is

-- no two answers of a graft are one
pub columns_no_literal : {X : Type 0} (r : Result X GraftFail) (i : ℕ) → r ≡ Err Columns → r ≡ Err (Literal i) → ⊥
columns_no_literal r i a b = absurd (cc)

pub memory_no_columns : {X : Type 0} (r : Result X GraftFail) → r ≡ Err Memory → r ≡ Err Columns → ⊥
memory_no_columns r a b = absurd (cc)

pub memory_no_literal : {X : Type 0} (r : Result X GraftFail) (i : ℕ) → r ≡ Err Memory → r ≡ Err (Literal i) → ⊥
memory_no_literal r i a b = absurd (cc)

pub made_no_fault : {X : Type 0} (r : Result X GraftFail) (x : X) (fault : GraftFail) → r ≡ Ok x → r ≡ Err fault → ⊥
made_no_fault r x fault a b = absurd (cc)

pub no_columns_told : (g : Aig) (cut : Cut) → IsTrue false ↔ HasColumns g cut → HasColumns g cut → ⊥
no_columns_told g cut is h = let t = is.1 h in absurd (cc)

pub literal_told : {X : Type 0} (g : Aig) (cut : Cut) (pairs : List (Lit × Lit)) (alone : Extended) (i j : ℕ) (r : Result X GraftFail) → pairs ≡ cut.pairs → alone ≡ without_cut g → HasColumns g cut → IsFirstUnknown alone pairs i → r ≡ Err (Literal i) → r ≡ Err (Literal j) →
    HasColumns g cut × IsFirstUnknown (without_cut g) cut.pairs j
literal_told g cut pairs alone i j r is plain h first a b =
    let same : i ≡ j = cc in
    (h, subst (λ k. IsFirstUnknown (without_cut g) cut.pairs k) same (subst (λ (e : Extended). IsFirstUnknown e cut.pairs i) plain (subst (λ ps. IsFirstUnknown alone ps i) is first)))

-- ---- a block

pub block_is : (e : Extended) (b : Block) (pairs : List (Lit × Lit)) → pairs ≡ b.cut.pairs → HasColumnRoom e b.cut.lo (length pairs) b.carry → All (IsKnownPair e) pairs → IsBlock e b
block_is e b pairs is room known =
    let h : HasColumnRoom e b.cut.lo (length b.cut.pairs) b.carry = subst (λ ps. HasColumnRoom e b.cut.lo (length ps) b.carry) is room in
    record { some = h.some; within = h.within; apart = h.apart; known = subst (All (IsKnownPair e)) is known }
