-- The least values of the inputs at which a graph isn't what it is claimed to be.
use Rattle.std.specs.Prelude.{◌≡◌, ◌≢◌, ℕ, [], ◌∷◌, ◌%◌, ◌<◌, Bool, true, false, cond, List, map, length}
use Rattle.std.specs.List.{All}
use Rattle.std.proofs.Common.{refl, sym, ap, subst, ◌∙◌, arith, inl, inr, ⊎_elim, true≢false}
use Rattle.std.proofs.Math.Path.{fun_ext}
use Rattle.std.proofs.lemmas.Bool.{cases_Bool}
use Rattle.std.proofs.lemmas.List.{length-map}
use Rattle.std.proofs.lemmas.List.Elements.{recursion_from_All, All-contains}
use Rattle.graph_core.specs.declared.literal.Lit.{Lit}
use Rattle.graph_core.specs.declared.claim.Claim.{Claim}
use Rattle.graph_core.specs.declared.numbers.Numbers.{Numbers}
use Rattle.graph_core.specs.declared.order.Order.TheVariants.{Interleaved}
use Rattle.graph_core.specs.Graph.Literals.{variable_of}
use Rattle.graph_core.specs.Graph.Assignments.{literal}
use Rattle.graph_core.specs.Graph.{Aig, IsDefinedOnce, of_inputs, evaluated}
use Rattle.graph_core.specs.Graph.Operands.{Sides, AreInRange, HasShapeFor, claimed, claimed_at, inputs_at, inputs_in, order_of, output_modulus, sides_for}
use Rattle.algebra_core.specs.Polynomials.{value}
use Rattle.algebra_core.specs.NormalForm.{IsNormalTerm}
use Rattle.graph_core.proofs.OfGraphs.CallerLemmas.{Apart, DistinctLits, IsInput, apart_from_pairs, claimed_there, even_sides, inputs_are, length-inputs_at, numbers_there, of_inputs_again, same_numbers, sides_are_inputs}
use Rattle.frontier_core.specs.Sets.{has}
use Rattle.frontier_core.specs.LeastDifference.{AreInputs, IsDifferenceAt, IsDifference, ones_from, ones_at, ones_of, Precedes, LastFrontierGivesLeast, DifferenceIsOfNumbers, LeastDifferenceIsOne, LeastTermGivesInputs}
use Rattle.frontier_core.proofs.Everywhere.{all_has, all_of_map}
use Rattle.frontier_core.proofs.LastFrontiers.{given, last_frontier_at_inputs, error_is_none, none_is_error}
use Rattle.frontier_core.proofs.LeastTerms.{least_term_is_least}
use Rattle.frontier_core.proofs.Positions.{ones_injective, precedes_one_way}

pub last_frontier_gives_least : LastFrontierGivesLeast
last_frontier_gives_least e s added eliminated bits end least = record {
  difference = record {
    size = least.size;
    differs = λ same. least.nonzero (last_frontier_at_inputs e s added eliminated bits end least.size ∙ none_is_error e s bits same);
  };
  least = λ other d. least.least other d.size (λ none. d.differs (error_is_none e.graph s other (sym (last_frontier_at_inputs e s added eliminated other end d.size) ∙ none)));
}

-- ---- numbers

module _ (g : Aig) (k : Claim) (shape : HasShapeFor k.widths g) (once : IsDefinedOnce g) where
  abbrev sides : Sides
  sides = sides_for k g

  whole : inputs_in sides ≡ g.inputs
  whole = sides_are_inputs g k shape

  even : order_of k ≡ Interleaved → length sides.a ≡ length sides.b
  even = even_sides g k shape

  -- what is claimed of numbers is claimed of the values that stand for them
  there : (x : Numbers) → AreInRange sides x → claimed (output_modulus g) sides (evaluated g (inputs_at sides x)) % output_modulus g ≡ claimed_at (output_modulus g) sides x % output_modulus g
  there x range = claimed_there g sides whole even once x range

  -- the values that stand for numbers differ where the numbers do
  difference_of : (x : Numbers) → IsDifference g sides x → IsDifferenceAt g sides (inputs_at sides x)
  difference_of x d = record { size = length-inputs_at sides x ∙ ap length whole; differs = λ same. d.differs (same ∙ there x d.range) }

  difference_from : (x : Numbers) → AreInRange sides x → IsDifferenceAt g sides (inputs_at sides x) → IsDifference g sides x
  difference_from x range d = record { range = range; differs = λ same. d.differs (same ∙ sym (there x range)) }

pub difference_is_of_numbers : DifferenceIsOfNumbers
difference_is_of_numbers g k x shape once range = (
  λ least. record {
    difference = difference_from g k shape once x range least.difference;
    least = λ y other.
        ⊎_elim (λ same. inl (same_numbers s (even_sides g k shape) x y range other.range same)) (λ p. inr p)
        (least.least (inputs_at s y) (difference_of g k shape once y other));
  },
  λ least. record {
    difference = difference_of g k shape once x least.difference;
    least = λ bits other.
        let found = numbers_there s bits (even_sides g k shape) (other.size ∙ sym (ap length (sides_are_inputs g k shape))) in
        let y = found.0 in
        let differs : IsDifferenceAt g s (inputs_at s y) = subst (IsDifferenceAt g s) found.2 other in
        ⊎_elim (λ same. inl (found.2 ∙ ap (inputs_at s) same)) (λ p. inr (subst (λ xs. Precedes (ones_at s x) (ones_from 0 xs)) (sym found.2) p))
        (least.least y (difference_from g k shape once y found.1 differs));
  },
)
  where
    s : Sides
    s = sides_for k g

-- ---- there is one

pub least_difference_is_one : LeastDifferenceIsOne
least_difference_is_one = (
  (λ g s bits other x y.
      ⊎_elim (λ same. same)
      (λ p. ⊎_elim (λ same. sym same) (λ q. absurd (precedes_one_way (ones_from 0 bits) (ones_from 0 other) p q)) (y.least bits x.difference))
      (x.least other y.difference)),
  (λ g s x y one two.
      ⊎_elim (λ same. same)
      (λ p. ⊎_elim (λ same. sym same) (λ q. absurd (precedes_one_way (ones_at s x) (ones_at s y) p q)) (two.least x one.difference))
      (one.least y two.difference)),
)

-- ---- the least term

distinct_lits : (ls : List Lit) → Apart (map variable_of ls) → DistinctLits ls
distinct_lits [] h = tt
distinct_lits (l ∷ ls) h = (all_of_map (λ v. variable_of l ≢ v) variable_of ls h.0, distinct_lits ls h.1)

-- inputs have the values that they are given
pub given_again : (ls : List Lit) (bits : List Bool) → AreInputs ls → length bits ≡ length ls → map (literal (of_inputs ls bits)) ls ≡ bits
given_again ls bits inputs same =
    inputs_are (of_inputs ls bits) ls bits (sym same) (distinct_lits ls (apart_from_pairs (map variable_of ls) inputs.once)) (recursion_from_All IsInput ls inputs.even) (given (of_inputs ls bits) ls)

pub least_term_gives_inputs : LeastTermGivesInputs
least_term_gives_inputs m ls p t inputs normal over least =
    let σ = has t.variables in
    let bits = map (literal σ) ls in
    let size : length bits ≡ length ls = length-map ls (literal σ) in
    let law = least_term_is_least m ls p t normal over inputs.even least in
    let over_t = recursion_from_All (λ v. has (map variable_of ls) v ≡ true) t.variables (All-contains (λ s. All (λ v. has (map variable_of ls) v ≡ true) s.variables) p t over least.member) in
    let is : of_inputs ls bits ≡ σ = fun_ext (λ v. of_inputs_again σ ls v (recursion_from_All IsInput ls inputs.even) ∙ kept v (has (map variable_of ls) v) refl (λ e. all_has (λ w. has (map variable_of ls) w ≡ true) t.variables v over_t e)) in
    let above : 0 < t.coefficient = (All-contains (IsNormalTerm m) p t normal.terms least.member).1 in
    record {
      size = size;
      nonzero = λ z. let there : t.coefficient ≡ 0 = sym law.0 ∙ ap (value m p) (sym is) ∙ z in omega arith;
      least = λ other same nonzero.
          let again : map (literal (of_inputs ls other)) ls ≡ other = given_again ls other inputs same in
          ⊎_elim
          (λ e. inl (ones_injective 0 other bits (same ∙ sym size) (sym (e ∙ ap (ones_from 0) again))))
          (λ precedes. inr (subst (λ xs. Precedes (ones_of σ ls) (ones_from 0 xs)) again precedes))
          (law.1 (of_inputs ls other) nonzero);
    }
  where
    kept : (v : ℕ) (b : Bool) → has (map variable_of ls) v ≡ b → (has t.variables v ≡ true → has (map variable_of ls) v ≡ true) → cond b (has t.variables v) false ≡ has t.variables v
    kept v true e inside = refl
    kept v false e inside = sym (⊎_elim (λ h. absurd (true≢false (sym (inside h) ∙ e))) (λ f. f) (cases_Bool (has t.variables v)))
