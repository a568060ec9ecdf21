-- Half and full adders and the ripple-carry adder of the maker add, on each evaluation.
use Rattle.std.specs.Prelude.{◌≡◌, ℕ, suc, ◌+◌, ◌*◌, ◌≤◌, Bool, true, false, not, ◌&&◌, List, [], ◌∷◌, map, length, drop}
use Rattle.std.specs.declared.option.Option.{Option}
use Rattle.std.specs.declared.option.Option.TheVariants.{None, Some}
use Rattle.std.specs.List.{AllByRecursion}
use Rattle.std.proofs.Common.{refl, ap, ap₂, ◌∙◌, arith}
use Rattle.graph_core.specs.declared.literal.Lit.{Lit}
use Rattle.graph_core.specs.declared.gate.Gate.{Gate}
use Rattle.graph_core.specs.Graph.Assignments.{Assignment, bit, variable, literal, word}
use Rattle.graph_core.specs.Graph.Literals.{plain, inverted}
use Rattle.graph_core.specs.Graph.Positions.{position, sum_after, carry_after}
use Rattle.graph_maker.specs.Builder.{Builder, with_gates, or_false}
use Rattle.graph_maker.specs.Cells.{half_gates, cell}
use Rattle.graph_maker.specs.Ripple.{first, ripple}
use Rattle.graph_core.proofs.OfGraphs.CallerLemmas.{all_split, full_adder, literal-even, literal-negated, literal-odd}

-- the assignment gives each of the gates its value
abbrev pub Computes : Assignment → List Gate → Type 0
Computes σ gates = AllByRecursion (λ x. variable σ x.v ≡ (literal σ x.left && literal σ x.right)) gates

abbrev pub Holds : Assignment → Builder → Type 0
Holds σ b = Computes σ b.gates

pub holds_split : (σ : Assignment) (b : Builder) (gates : List Gate) → Holds σ (with_gates b gates) → Holds σ b × Computes σ gates
holds_split σ b gates h = all_split (λ x. variable σ x.v ≡ (literal σ x.left && literal σ x.right)) b.gates gates h

-- the exclusive or, as the gates make it
abbrev pub half : Bool → Bool → Bool
half a b = not (a && b) && not (not a && not b)

pub half_table : (x y : Bool) → bit (half x y) + 2 * bit (x && y) ≡ bit x + bit y
half_table true true = refl
half_table true false = refl
half_table false true = refl
half_table false false = refl

-- three gates make the exclusive or
pub half_gates_are : (σ : Assignment) (v : ℕ) (x y : Lit) → Computes σ (half_gates v x y) →
    (literal σ (plain (v + 1)) ≡ (literal σ x && literal σ y)) × (literal σ (plain (v + 3)) ≡ half (literal σ x) (literal σ y))
half_gates_are σ v x y h =
    let out = λ (k : ℕ). literal-even σ (plain (v + k)) (v + k) refl in
    let not_out = λ (k : ℕ). literal-odd σ (inverted (v + k)) (v + k) refl in
    let w : variable σ (v + 2) ≡ (not (literal σ x) && not (literal σ y)) = h.1.0 ∙ ap₂ ◌&&◌ (literal-negated σ x) (literal-negated σ y) in (
      out 1 ∙ h.0,
      out 3 ∙ h.1.1.0 ∙ ap₂ ◌&&◌ (not_out 1) (not_out 2) ∙ ap₂ (λ a b. not a && not b) h.0 w,
    )

pub position_adds : (σ : Assignment) (v : ℕ) (x y c : Lit) → Computes σ (position v x y c) →
    bit (literal σ (sum_after v)) + 2 * bit (literal σ (carry_after v)) ≡ bit (literal σ x) + bit (literal σ y) + bit (literal σ c)
position_adds σ v x y c h =
    let out = λ (k : ℕ). literal-even σ (plain (v + k)) (v + k) refl in
    let not_out = λ (k : ℕ). literal-odd σ (inverted (v + k)) (v + k) refl in
    let adds = full_adder (literal σ x) (literal σ y) (literal σ c) (variable σ (v + 1)) (variable σ (v + 2)) (variable σ (v + 3)) (variable σ (v + 4)) (variable σ (v + 5)) (variable σ (v + 6)) (variable σ (v + 7))
    h.0
    (h.1.0 ∙ ap₂ ◌&&◌ (literal-negated σ x) (literal-negated σ y))
    (h.1.1.0 ∙ ap₂ ◌&&◌ (not_out 1) (not_out 2))
    (h.1.1.1.0 ∙ ap (λ a. a && literal σ c) (out 3))
    (h.1.1.1.1.0 ∙ ap₂ ◌&&◌ (not_out 3) (literal-negated σ c))
    (h.1.1.1.1.1.0 ∙ ap₂ ◌&&◌ (not_out 4) (not_out 5))
    (h.1.1.1.1.1.1.0 ∙ ap₂ ◌&&◌ (not_out 1) (not_out 4)) in
    ap₂ (λ s k. bit s + 2 * bit k) (out 6) (not_out 7) ∙ adds

pub half_adds : (σ : Assignment) (v : ℕ) (x y : Lit) → Computes σ (half_gates v x y) →
    bit (literal σ (plain (v + 3))) + 2 * bit (literal σ (plain (v + 1))) ≡ bit (literal σ x) + bit (literal σ y)
half_adds σ v x y h =
    let are = half_gates_are σ v x y h in
    ap₂ (λ p g. bit p + 2 * bit g) are.1 are.0 ∙ half_table (literal σ x) (literal σ y)

-- a cell adds what is there
pub cell_adds : (σ : Assignment) (b : Builder) (x : Option Lit) (y : Lit) (c : Option Lit) → Holds σ (cell b x y c).builder →
    Holds σ b × (bit (literal σ (cell b x y c).sum) + 2 * bit (literal σ (or_false (cell b x y c).carry)) ≡ bit (literal σ (or_false x)) + bit (literal σ y) + bit (literal σ (or_false c)))
cell_adds σ b (Some x) y (Some c) h = let s = holds_split σ b (position b.last x y c) h in (s.0, position_adds σ b.last x y c s.1)
cell_adds σ b (Some x) y None h = let s = holds_split σ b (half_gates b.last x y) h in (s.0, omega (arith, half_adds σ b.last x y s.1))
cell_adds σ b None y (Some c) h = let s = holds_split σ b (half_gates b.last y c) h in (s.0, omega (arith, half_adds σ b.last y c s.1))
cell_adds σ b None y None h = (h, omega arith)

-- the word of literals that may be absent
abbrev pub word_or : Assignment → List (Option Lit) → ℕ
word_or σ xs = word σ (map or_false xs)

pub word_or-first : (σ : Assignment) (xs : List (Option Lit)) → word_or σ xs ≡ bit (literal σ (or_false (first xs))) + 2 * word_or σ (drop 1 xs)
word_or-first σ [] = refl
word_or-first σ (x ∷ xs) = refl

pub shorter : {X : Type 0} (xs : List X) (n : ℕ) → length xs ≤ suc n → length (drop 1 xs) ≤ n
shorter [] n h = omega arith
shorter (x ∷ xs) n h = omega arith

pub ripple_row_adds : (σ : Assignment) (b : Builder) (xs : List (Option Lit)) (ys : List Lit) (c : Option Lit) → length xs ≤ length ys → Holds σ (ripple b xs ys c).builder →
    Holds σ b × (word σ (ripple b xs ys c).outputs ≡ word_or σ xs + word σ ys + bit (literal σ (or_false c)))
ripple_row_adds σ b [] [] c l h = (h, omega arith)
ripple_row_adds σ b (x ∷ xs) [] c l h = absurd (omega arith)
ripple_row_adds σ b xs (y ∷ ys) c l h =
    let a = cell b (first xs) y c in
    let rest = ripple_row_adds σ a.builder (drop 1 xs) ys a.carry (shorter xs (length ys) l) h in
    let here = cell_adds σ b (first xs) y c rest.0 in
    (here.0, omega (arith, rest.1, here.1, word_or-first σ xs))
