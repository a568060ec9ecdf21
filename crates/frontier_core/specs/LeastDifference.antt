-- The least values of the inputs at which a graph isn't what it is claimed to be.
use Rattle.std.specs.Prelude.{◌≡◌, ◌≢◌, ◌↔◌, ℕ, suc, ◌%◌, ◌<◌, ◌⊎◌, Bool, true, false, List, [], ◌∷◌, ◌++◌, map, length, if◌then◌else◌}
use Rattle.std.specs.List.{All, AllPairs, Contains}
use Rattle.graph_core.specs.declared.literal.Lit.{Lit}
use Rattle.graph_core.specs.declared.claim.Claim.{Claim}
use Rattle.graph_core.specs.declared.numbers.Numbers.{Numbers}
use Rattle.graph_core.specs.Graph.Literals.{variable_of}
use Rattle.graph_core.specs.Graph.Assignments.{Assignment, literal}
use Rattle.graph_core.specs.Graph.{Aig, IsDefinedOnce, of_inputs, evaluated}
use Rattle.graph_core.specs.Graph.Operands.{Sides, sides_for, inputs_at, value_at, value_at_inputs, claimed, claimed_at, output_modulus, AreInRange, HasShapeFor}
use Rattle.algebra_core.specs.Polynomials.{Term, Polynomial, value}
use Rattle.algebra_core.specs.NormalForm.{IsNormalForm}
use Rattle.graph_core.specs.Graph.Extended.{Extended}
use Rattle.frontier_core.specs.Sets.{has}
use Rattle.frontier_core.specs.Frontier.{frontier_value}
use Rattle.frontier_core.specs.LastFrontier.{IsEnd, IsOverInputs}

-- the places of the bits that are one, from place k on
abbrev pub ones_from : ℕ → List Bool → List ℕ
ones_from k [] = []
ones_from k (b ∷ bs) = if b then k ∷ ones_from (suc k) bs else ones_from (suc k) bs

-- the lexicographic order of lists of one length
abbrev pub IsLexicographicallyBelow : List ℕ → List ℕ → Type 0
IsLexicographicallyBelow [] ys = ⊥
IsLexicographicallyBelow (x ∷ xs) [] = ⊥
IsLexicographicallyBelow (x ∷ xs) (y ∷ ys) = (x < y) ⊎ ((x ≡ y) × IsLexicographicallyBelow xs ys)

-- fewer ones, or as many at a lexicographically lesser list of positions
abbrev pub Precedes : List ℕ → List ℕ → Type 0
Precedes xs ys = (length xs < length ys) ⊎ ((length xs ≡ length ys) × IsLexicographicallyBelow xs ys)

-- ---- values of the inputs

-- values of the inputs at which the graph's value isn't what it is claimed to be
pub record IsDifferenceAt (g : Aig) (s : Sides) (bits : List Bool) : Type 0 where
  pub size : length bits ≡ length g.inputs
  pub differs : value_at_inputs g bits ≢ claimed (output_modulus g) s (evaluated g bits) % output_modulus g

-- Those with the fewest ones, ties by the lexicographically least list of input positions.
pub record IsLeastDifferenceAt (g : Aig) (s : Sides) (bits : List Bool) : Type 0 where
  pub difference : IsDifferenceAt g s bits
  pub least : (other : List Bool) → IsDifferenceAt g s other → (other ≡ bits) ⊎ Precedes (ones_from 0 bits) (ones_from 0 other)

-- The values of inputs at which a function isn't 0 with the fewest ones, ties by the lexicographically least list of positions.
pub record IsLeastNonzero (f : Assignment → ℕ) (inputs : List Lit) (bits : List Bool) : Type 0 where
  pub size : length bits ≡ length inputs
  pub nonzero : f (of_inputs inputs bits) ≢ 0
  pub least : (other : List Bool) → length other ≡ length inputs → f (of_inputs inputs other) ≢ 0 → (other ≡ bits) ⊎
      Precedes (ones_from 0 bits) (ones_from 0 other)

-- The least values at which the last frontier isn't 0 are the least difference.
abbrev pub LastFrontierGivesLeast : Type 0
LastFrontierGivesLeast = (e : Extended) (s : Sides) (added eliminated : List ℕ) (bits : List Bool) → IsEnd e s added eliminated →
    IsLeastNonzero (frontier_value e s added eliminated) e.graph.inputs bits → IsLeastDifferenceAt e.graph s bits

-- ---- numbers

-- numbers of the operands' bits on which the graph's value isn't what is claimed of them
pub record IsDifference (g : Aig) (s : Sides) (x : Numbers) : Type 0 where
  pub range : AreInRange s x
  pub differs : value_at g s x ≢ claimed_at (output_modulus g) s x % output_modulus g

-- the positions of the inputs that are one at these numbers, in order
abbrev pub ones_at : Sides → Numbers → List ℕ
ones_at s x = ones_from 0 (inputs_at s x)

-- The difference with the fewest ones, those of an addend too, ties by the lexicographically least list of input positions.
pub record IsLeastDifference (g : Aig) (s : Sides) (x : Numbers) : Type 0 where
  pub difference : IsDifference g s x
  pub least : (y : Numbers) → IsDifference g s y → (y ≡ x) ⊎ Precedes (ones_at s x) (ones_at s y)

-- The values that stand for numbers are the least difference exactly where the numbers are.
abbrev pub DifferenceIsOfNumbers : Type 0
DifferenceIsOfNumbers = (g : Aig) (k : Claim) (x : Numbers) → HasShapeFor k.widths g → IsDefinedOnce g → AreInRange (sides_for k g) x →
    (IsLeastDifferenceAt g (sides_for k g) (inputs_at (sides_for k g) x) ↔ IsLeastDifference g (sides_for k g) x)

-- There is at most one least difference.
abbrev pub LeastDifferenceIsOne : Type 0
LeastDifferenceIsOne = ((g : Aig) (s : Sides) (bits other : List Bool) → IsLeastDifferenceAt g s bits → IsLeastDifferenceAt g s other → other ≡ bits) ×
    ((g : Aig) (s : Sides) (x y : Numbers) → IsLeastDifference g s x → IsLeastDifference g s y → y ≡ x)

-- ---- terms

-- the positions of the literals that are true
abbrev pub ones_of : Assignment → List Lit → List ℕ
ones_of σ ls = ones_from 0 (map (literal σ) ls)

-- literals of inputs: even, and each of a variable of its own
pub record AreInputs (ls : List Lit) : Type 0 where
  pub even : All (λ l. (l.0 % 2 ≡ 0) × (0 < variable_of l)) ls
  pub once : AllPairs ◌≢◌ (map variable_of ls)

-- A term of a polynomial that no other one precedes, by the positions of their variables among the inputs.
pub record IsLeastTerm (ls : List Lit) (p : Polynomial) (t : Term) : Type 0 where
  pub member : Contains p t
  pub least : All (λ s. (ones_of (has t.variables) ls ≡ ones_of (has s.variables) ls) ⊎
      Precedes (ones_of (has t.variables) ls) (ones_of (has s.variables) ls)) p

-- A normal form over the inputs isn't 0 at the assignment of just a least term's variables, and 0 at each that comes before it.
abbrev pub LeastTermIsLeast : Type 0
LeastTermIsLeast = (m : ℕ) (ls : List Lit) (p : Polynomial) (t : Term) → IsNormalForm m p → IsOverInputs ls p →
    All (λ l. (l.0 % 2 ≡ 0) × (0 < variable_of l)) ls → IsLeastTerm ls p t →
    (value m p (has t.variables) ≡ t.coefficient) ×
    ((σ : Assignment) → value m p σ ≢ 0 → (ones_of (has t.variables) ls ≡ ones_of σ ls) ⊎ Precedes (ones_of (has t.variables) ls) (ones_of σ ls))

-- So its variables are the least values of the inputs at which the polynomial isn't 0.
abbrev pub LeastTermGivesInputs : Type 0
LeastTermGivesInputs = (m : ℕ) (ls : List Lit) (p : Polynomial) (t : Term) → AreInputs ls → IsNormalForm m p → IsOverInputs ls p → IsLeastTerm ls p t →
    IsLeastNonzero (value m p) ls (map (literal (has t.variables)) ls)

-- Of two lists of truth values with as many ones, the one that is true at their first difference has the lesser positions.
abbrev pub FirstDifferencePrecedes : Type 0
FirstDifferencePrecedes = (k : ℕ) (front xs ys : List Bool) → length (ones_from k (front ++ true ∷ xs)) ≡ length (ones_from k (front ++ false ∷ ys)) →
    Precedes (ones_from k (front ++ true ∷ xs)) (ones_from k (front ++ false ∷ ys))
