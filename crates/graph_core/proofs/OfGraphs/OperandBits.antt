-- The inputs of an evaluation have the values that they were given.
use Rattle.std.specs.Prelude.{◌≡◌, ◌≢◌, ℕ, zero, suc, ◌+◌, ◌*◌, ◌%◌, ◌/◌, ◌^◌, ◌<◌, Bool, true, false, not, cond, List, [], ◌∷◌, map, length, take, drop, ◌==◌, ⊤}
use Rattle.std.specs.List.{AllByRecursion}
use Rattle.std.proofs.Common.{refl, sym, ap, ap₂, ◌∙◌, arith, eq-eqb, ne_eqb, eqb-true, pow-suc}
use Rattle.std.proofs.lemmas.Bool.{eqb-false}
use Rattle.graph_core.specs.declared.literal.Lit.{Lit}
use Rattle.graph_core.specs.Graph.Literals.{variable_of}
use Rattle.graph_core.specs.Graph.Assignments.{Assignment, variable, literal, bit, word}
use Rattle.graph_core.specs.Graph.{of_inputs}
use Rattle.graph_core.specs.Graph.Operands.{evens, odds, alternate, bits_of}
use Rattle.graph_core.proofs.OfGraphs.Evaluation.{variable-pos}

-- the number of a list of bits
abbrev pub number_of : List Bool → ℕ
number_of [] = 0
number_of (b ∷ bs) = bit b + 2 * number_of bs

pub word_is : (σ : Assignment) (ls : List Lit) → word σ ls ≡ number_of (map (literal σ) ls)
word_is σ [] = refl
word_is σ (l ∷ ls) = ap (λ n. bit (literal σ l) + 2 * n) (word_is σ ls)

bit_odd : (a : ℕ) → bit (a % 2 == 1) ≡ a % 2
bit_odd a = go (a % 2 == 1) refl
  where
    go : (b : Bool) → (a % 2 == 1) ≡ b → bit b ≡ a % 2
    go true e = sym (eqb-true (a % 2) 1 e)
    go false e = let ne = eqb-false (a % 2) 1 e in omega arith

pub number_of-bits_of : (n a : ℕ) → a < 2 ^ n → number_of (bits_of n a) ≡ a
number_of-bits_of zero a h = omega arith
number_of-bits_of (suc n) a h =
    let half : a / 2 < 2 ^ n = omega (arith, pow-suc 2 n) in
    omega (arith, bit_odd a, number_of-bits_of n (a / 2) half)

pub length-bits_of : (n a : ℕ) → length (bits_of n a) ≡ n
length-bits_of zero a = refl
length-bits_of (suc n) a = ap suc (length-bits_of n (a / 2))

pub length-alternate : {X : Type 0} → (xs ys : List X) → length (alternate xs ys) ≡ length xs + length ys
length-alternate [] ys = omega arith
length-alternate (x ∷ xs) [] = omega arith
length-alternate (x ∷ xs) (y ∷ ys) = omega (arith, length-alternate xs ys)

pub evens-alternate : {X : Type 0} → (xs ys : List X) → length xs ≡ length ys → evens (alternate xs ys) ≡ xs
evens-alternate [] [] h = refl
evens-alternate [] (y ∷ ys) h = absurd (omega arith)
evens-alternate (x ∷ xs) [] h = absurd (omega arith)
evens-alternate (x ∷ xs) (y ∷ ys) h = ap (λ zs. x ∷ zs) (evens-alternate xs ys (omega arith))

pub odds-alternate : {X : Type 0} → (xs ys : List X) → length xs ≡ length ys → odds (alternate xs ys) ≡ ys
odds-alternate [] [] h = refl
odds-alternate [] (y ∷ ys) h = absurd (omega arith)
odds-alternate (x ∷ xs) [] h = absurd (omega arith)
odds-alternate (x ∷ xs) (y ∷ ys) h = ap (λ zs. y ∷ zs) (odds-alternate xs ys (omega arith))

pub map-evens : {X Y : Type 0} (f : X → Y) (xs : List X) → map f (evens xs) ≡ evens (map f xs)
map-evens f [] = refl
map-evens f (x ∷ []) = refl
map-evens f (x ∷ y ∷ xs) = ap (λ zs. f x ∷ zs) (map-evens f xs)

pub map-odds : {X Y : Type 0} (f : X → Y) (xs : List X) → map f (odds xs) ≡ odds (map f xs)
map-odds f [] = refl
map-odds f (x ∷ []) = refl
map-odds f (x ∷ y ∷ xs) = ap (λ zs. f y ∷ zs) (map-odds f xs)

pub map-take : {X Y : Type 0} (f : X → Y) (n : ℕ) (xs : List X) → map f (take n xs) ≡ take n (map f xs)
map-take f zero xs = refl
map-take f (suc n) [] = refl
map-take f (suc n) (x ∷ xs) = ap (λ zs. f x ∷ zs) (map-take f n xs)

pub map-drop : {X Y : Type 0} (f : X → Y) (n : ℕ) (xs : List X) → map f (drop n xs) ≡ drop n (map f xs)
map-drop f zero xs = refl
map-drop f (suc n) [] = refl
map-drop f (suc n) (x ∷ xs) = map-drop f n xs

-- no two literals are of one variable
abbrev pub DistinctLits : List Lit → Type 0
DistinctLits [] = ⊤
DistinctLits (l ∷ ls) = AllByRecursion (λ k. variable_of l ≢ variable_of k) ls × DistinctLits ls

-- an even literal of a variable that isn't the constant
abbrev pub IsInput : Lit → Type 0
IsInput l = (l.0 % 2 ≡ 0) × (0 < variable_of l)

pub literal-input : (σ : Assignment) (l : Lit) → IsInput l → literal σ l ≡ σ (variable_of l)
literal-input σ l h =
    ap (λ b. cond b (variable σ (variable_of l)) (not (variable σ (variable_of l)))) (eq-eqb (l.0 % 2) 0 h.0) ∙ variable-pos σ (variable_of l) h.1

-- the values of the inputs, where an assignment gives them as `of_inputs` does
pub inputs_are : (σ : Assignment) (ls : List Lit) (bits : List Bool) → length ls ≡ length bits → DistinctLits ls → AllByRecursion IsInput ls →
    AllByRecursion (λ l. σ (variable_of l) ≡ of_inputs ls bits (variable_of l)) ls → map (literal σ) ls ≡ bits
inputs_are σ [] [] e d i h = refl
inputs_are σ [] (b ∷ bits) e d i h = absurd (omega arith)
inputs_are σ (l ∷ ls) [] e d i h = absurd (omega arith)
inputs_are σ (l ∷ ls) (b ∷ bits) e d i h =
    ap₂ ◌∷◌
    (literal-input σ l i.0 ∙ h.0 ∙ ap (λ c. cond c b (of_inputs ls bits (variable_of l))) (eq-eqb (variable_of l) (variable_of l) refl))
    (inputs_are σ ls bits (omega arith) d.1 i.1 (others ls d.0 h.1))
  where
    others : (ks : List Lit) → AllByRecursion (λ k. variable_of l ≢ variable_of k) ks →
        AllByRecursion (λ k. σ (variable_of k) ≡ cond (variable_of k == variable_of l) b (of_inputs ls bits (variable_of k))) ks →
        AllByRecursion (λ k. σ (variable_of k) ≡ of_inputs ls bits (variable_of k)) ks
    others [] p q = q
    others (k ∷ ks) p q =
        (q.0 ∙ ap (λ c. cond c b (of_inputs ls bits (variable_of k))) (ne_eqb (variable_of k) (variable_of l) (λ s. p.0 (sym s))), others ks p.1 q.1)
