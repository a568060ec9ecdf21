-- A run of the enumeration on which the graph is right, and the first numbers on which it isn't.
use Rattle.std.specs.Prelude.{◌≡◌, ℕ, ◌+◌, ◌*◌, ◌%◌, ◌^◌, ◌<◌, ◌≤◌, Bool, true, false, List, [], ◌∷◌, ◌++◌, length, take, get_or, replicate}
use Rattle.std.specs.List.{All}
use Rattle.std.proofs.Common.{refl, sym, ap, subst, ◌∙◌, arith, inl, inr, ⊎_elim}
use Rattle.std.proofs.lemmas.Bool.{cases_lt}
use Rattle.std.proofs.lemmas.List.{get_or_append_left, get_or_push, take-append-le, take_at, length_push, length-replicate}
use Rattle.graph_core.specs.declared.numbers.Numbers.{Numbers}
use Rattle.graph_core.specs.declared.order.Order.TheVariants.{Interleaved}
use Rattle.graph_core.specs.declared.widths.Widths.{Widths}
use Rattle.graph_core.specs.declared.widths.Widths.TheVariants.{Equal, Given as OfWidths}
use Rattle.graph_core.specs.Graph.{Aig, IsDefinedOnce, evaluated}
use Rattle.graph_core.specs.Graph.Operands.{Sides, AreInRange, AreOperandsOf, AreSides, HasShapeFor, a_width, b_width, claimed, claimed_at, inputs_at, inputs_in, order_of, output_modulus, value_at_inputs}
use Rattle.graph_core.proofs.OfGraphs.CallerLemmas.{are_inputs, claimed_there, even_sides, length-inputs_at, length-operands}
use Rattle.frontier_core.specs.LeastDifference.{IsDifferenceAt, IsLeastDifferenceAt, ones_from}
use Rattle.frontier_core.proofs.CallerLemmas.{ones_injective, precedes_total}
use Rattle.operand_search.specs.Enumeration.{ones, IsEnumeratedBefore, IsEnumerated}
use Rattle.operand_search.specs.Lanes.{StandFor}
use Rattle.operand_search.specs.Runs.{IsRun, start, more, IsRightOn, IsFirstWrong}
use Rattle.operand_search.proofs.Orders.{length-ones_from, count-false, comes_before_cases}
use Rattle.operand_search.proofs.Steps.{none_before_first}

all_front : {X : Type 0} (P : X → Type 0) (xs : List X) (x : X) → All P (xs ++ x ∷ []) → All P xs
all_front P xs x h k d low = let size = length_push xs x in subst P (get_or_append_left xs (x ∷ []) d k low) (h k d (omega arith))

all_last : {X : Type 0} (P : X → Type 0) (xs : List X) (x : X) → All P (xs ++ x ∷ []) → P x
all_last P xs x h = let size = length_push xs x in subst P (get_or_push xs x x (length xs) refl) (h (length xs) x (omega arith))

-- with few ones at the start, there are few on the way
pub run_few : (s : Sides) (most : ℕ) (bits : List Bool) (xs : List Numbers) (b : Bool) (zs : List Bool) → ones bits ≤ most → IsRun s most bits xs b zs → b ≡ true → ones zs ≤ most
run_few s most bits _ _ _ few start e = few
run_few s most bits _ _ _ few (more xs x true ys zs r st step) e = step.few
run_few s most bits _ _ _ few (more xs x false ys zs r st step) e = cc

-- the run up to numbers
pub record Reaches (s : Sides) (most : ℕ) (bits : List Bool) (xs : List Numbers) (j : ℕ) (d : Numbers) : Type 0 where
  pub values : List Bool
  pub run : IsRun s most bits (take j xs) true values
  pub stand : StandFor s values (get_or xs j d)

pub run_at : (s : Sides) (most : ℕ) (bits : List Bool) (xs : List Numbers) (b : Bool) (zs : List Bool) → IsRun s most bits xs b zs → (j : ℕ) (d : Numbers) → j < length xs →
    Reaches s most bits xs j d
run_at s most bits _ _ _ start j d low = absurd (omega arith)
run_at s most bits _ _ _ (more xs x b ys zs r st step) j d low =
    ⊎_elim
    (λ lt. let here = run_at s most bits xs true ys r j d lt in
    record {
      values = here.values;
      run = subst (λ qs. IsRun s most bits qs true here.values) (sym (take-append-le j xs (x ∷ []) (omega arith))) here.run;
      stand = subst (StandFor s here.values) (sym (get_or_append_left xs (x ∷ []) d j lt)) here.stand;
    })
    (λ ge. let size = length_push xs x in
    let same : length xs ≡ j = omega arith in
    record {
      values = ys;
      run = subst (λ qs. IsRun s most bits qs true ys) (sym (take_at xs (x ∷ []) j same)) r;
      stand = subst (StandFor s ys) (sym (get_or_push xs x d j same)) st;
    })
    (cases_lt j (length xs))

module _ (g : Aig) (s : Sides) (shape : HasShapeFor s.claim.widths g) (once : IsDefinedOnce g) (of : AreOperandsOf g s) where
  whole : inputs_in s ≡ g.inputs
  whole = are_inputs g s shape of

  even : order_of s.claim ≡ Interleaved → length s.a ≡ length s.b
  even = subst (λ z. order_of z.claim ≡ Interleaved → length z.a ≡ length z.b) (sym of) (even_sides g s.claim shape)

  as_many : (x : Numbers) → length (inputs_at s x) ≡ length g.inputs
  as_many x = length-inputs_at s x ∙ ap length whole

  -- what is computed of numbers is what is claimed of them
  pub computed_is : (x : Numbers) → AreInRange s x → (n v : ℕ) → n ≡ length g.outputs → v ≡ claimed_at (2 ^ n) s x % 2 ^ n →
      v ≡ claimed (output_modulus g) s (evaluated g (inputs_at s x)) % output_modulus g
  computed_is x range n v size is = is ∙ ap (λ k. claimed_at (2 ^ k) s x % 2 ^ k) size ∙ sym (claimed_there g s whole even once x range)

  module _ (most : ℕ) where
    -- no difference was passed
    abbrev pub IsClear : Bool → List Bool → Type 0
    IsClear goes_on bits = (other : List Bool) → IsDifferenceAt g s other → IsEnumerated most goes_on bits other → ⊥

    -- where the graph is right on each of them, no difference was passed at the end
    pub run_clear : (bits : List Bool) → IsClear true bits → (xs : List Numbers) (b : Bool) (zs : List Bool) → IsRun s most bits xs b zs → All (IsRightOn g s) xs → IsClear b zs
    run_clear bits clear _ _ _ start right = clear
    run_clear bits clear _ _ _ (more xs x b ys zs r st step) right = λ other difference passed.
        let size : length other ≡ length ys = difference.size ∙ sym (ap length st.is ∙ as_many x) in
        let here : value_at_inputs g (inputs_at s x) ≡ claimed (output_modulus g) s (evaluated g (inputs_at s x)) % output_modulus g = all_last (IsRightOn g s) xs x right in
        ⊎_elim
        (λ same. difference.differs (subst (λ us. value_at_inputs g us ≡ claimed (output_modulus g) s (evaluated g us) % output_modulus g) (sym (same ∙ st.is)) here))
        (λ before. run_clear bits clear xs true ys r (all_front (IsRightOn g s) xs x right) other difference before)
        (step.passed other size passed)

    -- Numbers on which it isn't right, with no difference passed, are the least difference.
    wrong_is_least : (bits : List Bool) (x : Numbers) → IsClear true bits → StandFor s bits x → ¬ (IsRightOn g s x) → IsLeastDifferenceAt g s (inputs_at s x)
    wrong_is_least bits x clear st wrong =
        let us = inputs_at s x in
        record {
          difference = record { size = as_many x; differs = wrong };
          least = λ other difference.
              ⊎_elim
              (λ same. inl (ones_injective 0 other us (difference.size ∙ sym (as_many x)) (sym same)))
              (λ o. ⊎_elim (λ h. inr h) (λ h. absurd (clear other difference (subst (IsEnumeratedBefore other) (sym st.is) h))) o)
              (precedes_total (ones_from 0 us) (ones_from 0 other));
        }

    -- the least difference, in range and with few ones
    pub record IsFound (x : Numbers) : Type 0 where
      pub least : IsLeastDifferenceAt g s (inputs_at s x)
      pub range : AreInRange s x
      pub few : length (ones_from 0 (inputs_at s x)) ≤ most

    -- the first wrong numbers of a run
    first_is_least : (bits : List Bool) → IsClear true bits → ones bits ≤ most → (xs : List Numbers) (b : Bool) (zs : List Bool) → IsRun s most bits xs b zs → (j : ℕ) (d : Numbers) →
        IsFirstWrong g s xs j → IsFound (get_or xs j d)
    first_is_least bits clear few xs b zs run j d found =
        let there = run_at s most bits xs b zs run j d found.within in
        let low = run_few s most bits (take j xs) true there.values few there.run refl in
        record {
          least = wrong_is_least there.values (get_or xs j d) (run_clear bits clear (take j xs) true there.values there.run found.before) there.stand (found.wrong d);
          range = there.stand.range;
          few = subst (λ us. ones us ≤ most) there.stand.is low;
        }

    -- the same, as they are found
    pub found_is_least : (bits : List Bool) → IsClear true bits → ones bits ≤ most → (xs ys : List Numbers) → ys ≡ xs → (b : Bool) (zs : List Bool) → IsRun s most bits xs b zs →
        (j : ℕ) (x : Numbers) → x ≡ get_or xs j x → IsFirstWrong g s ys j → IsFound x
    found_is_least bits clear few xs ys same b zs run j x at found =
        subst IsFound (sym at) (first_is_least bits clear few xs b zs run j x (subst (λ us. IsFirstWrong g s us j) same found))

    -- at the end
    pub all_passed : (zs : List Bool) → IsClear false zs → (other : List Bool) → IsDifferenceAt g s other → most < length (ones_from 0 other)
    all_passed zs clear other difference = ⊎_elim (λ lt. lt) (λ ge. absurd (clear other difference ge)) (cases_lt most (length (ones_from 0 other)))

    -- at the start
    pub start_clear : (n : ℕ) → n ≡ length g.inputs → IsClear true (replicate n false)
    start_clear n e other difference before =
        let size : length other ≡ n = difference.size ∙ sym e in
        let zeros = count-false n in
        ⊎_elim (λ lt. absurd (omega arith)) (λ h. none_before_first other 0 n (omega (arith, h.0)) h.1)
        (comes_before_cases other (replicate n false) (size ∙ sym (length-replicate n false)) before)

pub start_few : (most n : ℕ) → ones (replicate n false) ≤ most
start_few most n = let a = length-ones_from 0 (replicate n false) in let b = count-false n in omega arith

-- there are at most 128 outputs
pub outputs_few : (g : Aig) (s : Sides) → HasShapeFor s.claim.widths g → AreOperandsOf g s → AreSides s → length g.outputs ≤ 128
outputs_few g s shape of sides =
    let wide = length-operands g s shape of in
    let narrow_a = sides.narrow_a in
    let narrow_b = sides.narrow_b in
    omega (arith, go s.claim.widths shape, wide.0, wide.1)
  where
    go : (w : Widths) → HasShapeFor w g → length g.outputs ≤ a_width w g + b_width w g
    go (Equal false) h = let few = h.outputs in omega arith
    go (Equal true) h = let few = h.outputs in omega arith
    go (OfWidths a b add) h = h.outputs
