-- Functions that are a constant, multiples of variables and multiples of products of two inputs, modulo a number.
use Rattle.std.specs.Prelude.{◌≡◌, ◌≢◌, ℕ, suc, ◌+◌, ◌*◌, ◌-◌, ◌/◌, ◌%◌, ◌<◌, ◌≤◌, Bool, true, false, not, List, [], ◌∷◌, ◌++◌, map, length}
use Rattle.std.specs.List.{AllByRecursion}
use Rattle.std.proofs.Common.{refl, sym, ap, ◌∙◌, arith, ⊎_elim, length-append}
use Rattle.std.proofs.Math.Nat.{add-mul-mod_self_left}
use Rattle.std.proofs.lemmas.Bool.{cases_eq}
use Rattle.std.proofs.lemmas.List.{length-map}
use Rattle.graph_core.specs.declared.literal.Lit.{Lit}
use Rattle.graph_core.specs.Graph.Assignments.{Assignment, variable, literal, bit}
use Rattle.graph_core.proofs.OfGraphs.CallerLemmas.{all_join, literal-even, literal-odd, product_same, sum_same}
use Rattle.frontier_core.specs.Sizes.{linear_sum, bilinear_sum}

abbrev pub AreInputs : ℕ → List (ℕ × ℕ × ℕ) → Type 0
AreInputs b products = AllByRecursion (λ x. (x.1 ≤ b) × (x.2 ≤ b)) products

-- f is linear but for products of two variables up to b, with at most j terms beside the constant
pub record IsLinear (m b : ℕ) (f : Assignment → ℕ) (j : ℕ) : Type 0 where
  pub constant : ℕ
  pub singles : List (ℕ × ℕ)
  pub products : List (ℕ × ℕ × ℕ)
  pub inputs : AreInputs b products
  pub is : (σ : Assignment) → f σ % m ≡ (constant + linear_sum singles σ + bilinear_sum products σ) % m
  pub few : length singles + length products ≤ j

linear_sum-append : (xs ys : List (ℕ × ℕ)) (σ : Assignment) → linear_sum (xs ++ ys) σ ≡ linear_sum xs σ + linear_sum ys σ
linear_sum-append [] ys σ = omega arith
linear_sum-append (x ∷ xs) ys σ = omega (arith, linear_sum-append xs ys σ)

bilinear_sum-append : (xs ys : List (ℕ × ℕ × ℕ)) (σ : Assignment) → bilinear_sum (xs ++ ys) σ ≡ bilinear_sum xs σ + bilinear_sum ys σ
bilinear_sum-append [] ys σ = omega arith
bilinear_sum-append (x ∷ xs) ys σ = omega (arith, bilinear_sum-append xs ys σ)

abbrev times_single : ℕ → ℕ × ℕ → ℕ × ℕ
times_single c x = (c * x.0, x.1)

abbrev times_product : ℕ → ℕ × ℕ × ℕ → ℕ × ℕ × ℕ
times_product c x = (c * x.0, x.1, x.2)

linear_sum-times : (c : ℕ) (xs : List (ℕ × ℕ)) (σ : Assignment) → linear_sum (map (times_single c) xs) σ ≡ c * linear_sum xs σ
linear_sum-times c [] σ = omega arith
linear_sum-times c (x ∷ xs) σ = omega (arith, linear_sum-times c xs σ)

bilinear_sum-times : (c : ℕ) (xs : List (ℕ × ℕ × ℕ)) (σ : Assignment) → bilinear_sum (map (times_product c) xs) σ ≡ c * bilinear_sum xs σ
bilinear_sum-times c [] σ = omega arith
bilinear_sum-times c (x ∷ xs) σ = omega (arith, bilinear_sum-times c xs σ)

inputs-times : (b c : ℕ) (xs : List (ℕ × ℕ × ℕ)) → AreInputs b xs → AreInputs b (map (times_product c) xs)
inputs-times b c [] h = tt
inputs-times b c (x ∷ xs) h = (h.0, inputs-times b c xs h.1)

module _ (m b : ℕ) (pos : 0 < m) where
  pub linear_constant : (c : ℕ) → IsLinear m b (λ σ. c) 0
  linear_constant c = record { constant = c; singles = []; products = []; inputs = tt; is = λ σ. ap (λ z. z % m) (omega arith); few = omega arith }

  pub linear_same : (f g : Assignment → ℕ) (j : ℕ) → ((σ : Assignment) → g σ % m ≡ f σ % m) → IsLinear m b f j → IsLinear m b g j
  linear_same f g j h p = record { constant = p.constant; singles = p.singles; products = p.products; inputs = p.inputs; is = λ σ. h σ ∙ p.is σ; few = p.few }

  pub linear_more : (f : Assignment → ℕ) (j k : ℕ) → j ≤ k → IsLinear m b f j → IsLinear m b f k
  linear_more f j k h p = record { constant = p.constant; singles = p.singles; products = p.products; inputs = p.inputs; is = p.is; few = omega (arith, p.few) }

  pub linear_plus : (f g : Assignment → ℕ) (j k : ℕ) → IsLinear m b f j → IsLinear m b g k → IsLinear m b (λ σ. f σ + g σ) (j + k)
  linear_plus f g j k p q = record {
    constant = p.constant + q.constant;
    singles = p.singles ++ q.singles;
    products = p.products ++ q.products;
    inputs = all_join (λ x. (x.1 ≤ b) × (x.2 ≤ b)) p.products q.products p.inputs q.inputs;
    is = λ σ.
        sum_same m (f σ) (p.constant + linear_sum p.singles σ + bilinear_sum p.products σ) (g σ) (q.constant + linear_sum q.singles σ + bilinear_sum q.products σ) (p.is σ) (q.is σ) ∙
        ap (λ z. z % m) (omega (arith, linear_sum-append p.singles q.singles σ, bilinear_sum-append p.products q.products σ));
    few = omega (arith, p.few, q.few, length-append p.singles q.singles, length-append p.products q.products);
  }

  pub linear_times : (c : ℕ) (f : Assignment → ℕ) (j : ℕ) → IsLinear m b f j → IsLinear m b (λ σ. c * f σ) j
  linear_times c f j p = record {
    constant = c * p.constant;
    singles = map (times_single c) p.singles;
    products = map (times_product c) p.products;
    inputs = inputs-times b c p.products p.inputs;
    is = λ σ.
        product_same m c c (f σ) (p.constant + linear_sum p.singles σ + bilinear_sum p.products σ) refl (p.is σ) ∙
        ap (λ z. z % m) (omega (arith, linear_sum-times c p.singles σ, bilinear_sum-times c p.products σ));
    few = omega (arith, p.few, length-map p.singles (times_single c), length-map p.products (times_product c));
  }

  -- what gives h with g is h minus g
  pub linear_minus : (f g h : Assignment → ℕ) (j k : ℕ) → ((σ : Assignment) → (f σ + g σ) % m ≡ h σ % m) → IsLinear m b h j → IsLinear m b g k → IsLinear m b f (j + k)
  linear_minus f g h j k e p q =
      linear_same (λ σ. h σ + (m - 1) * g σ) f (j + k)
      (λ σ.
      let up : f σ + m * g σ ≡ (f σ + g σ) + (m - 1) * g σ = omega (arith, up_one (g σ)) in
      sym (add-mul-mod_self_left (f σ) m (g σ)) ∙ ap (λ z. z % m) up ∙ sum_same m (f σ + g σ) (h σ) ((m - 1) * g σ) ((m - 1) * g σ) (e σ) refl)
      (linear_plus h (λ σ. (m - 1) * g σ) j k p (linear_times (m - 1) g k q))
    where
      up_one : (x : ℕ) → m * x ≡ x + (m - 1) * x
      up_one x = let e : m ≡ suc (m - 1) = omega arith in ap (λ k. k * x) e ∙ omega arith

  pub linear_literal : (l : Lit) → IsLinear m b (λ σ. bit (literal σ l)) 1
  linear_literal l = ⊎_elim even odd (cases_eq (l.0 % 2) 0)
    where
      even : l.0 % 2 ≡ 0 → IsLinear m b (λ σ. bit (literal σ l)) 1
      even e = record {
        constant = 0;
        singles = (1, l.0 / 2) ∷ [];
        products = [];
        inputs = tt;
        is = λ σ. ap (λ z. z % m) (ap bit (literal-even σ l (l.0 / 2) (omega arith)) ∙ omega arith);
        few = omega arith;
      }

      negative : (x : Bool) → bit (not x) % m ≡ (1 + ((m - 1) * bit x + 0) + 0) % m
      negative true = sym (ap (λ z. z % m) (omega arith) ∙ add-mul-mod_self_left 0 m 1)
      negative false = ap (λ z. z % m) (omega arith)

      odd : l.0 % 2 ≢ 0 → IsLinear m b (λ σ. bit (literal σ l)) 1
      odd e = record {
        constant = 1;
        singles = (m - 1, l.0 / 2) ∷ [];
        products = [];
        inputs = tt;
        is = λ σ. ap (λ z. bit z % m) (literal-odd σ l (l.0 / 2) (omega arith)) ∙ negative (variable σ (l.0 / 2));
        few = omega arith;
      }

  pub linear_product : (v w : ℕ) → v ≤ b → w ≤ b → IsLinear m b (λ σ. bit (variable σ v) * bit (variable σ w)) 1
  linear_product v w h k = record {
    constant = 0;
    singles = [];
    products = (1, v, w) ∷ [];
    inputs = ((h, k), tt);
    is = λ σ. ap (λ z. z % m) (omega arith);
    few = omega arith;
  }
