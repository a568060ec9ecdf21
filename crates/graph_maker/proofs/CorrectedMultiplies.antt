-- Each corrected array multiplies signed operands.
use Rattle.std.specs.Prelude.{◌≡◌, ℕ, zero, suc, ◌+◌, ◌*◌, ◌-◌, ◌/◌, ◌%◌, ◌^◌, ◌<◌, ◌≤◌, Bool, true, false, not, ◌&&◌, List, [], ◌∷◌, length, take, drop}
use Rattle.std.proofs.Common.{refl, sym, ap, ap₂, subst, ◌∙◌, arith, pow-suc, mod-eq_of_lt, mod-lt, length-append, length-drop}
use Rattle.std.proofs.Math.Nat.{add-mul-mod_self_left, div-add-mod}
use Rattle.std.proofs.lemmas.Nat.{pow-add, pow_pos}
use Rattle.std.proofs.lemmas.List.Elements.{recursion_from_All}
use Rattle.graph_core.specs.declared.literal.Lit.{Lit}
use Rattle.graph_core.specs.declared.order.Order.TheVariants.{Separate}
use Rattle.graph_core.specs.declared.sign.Sign.TheVariants.{Signed}
use Rattle.graph_core.specs.Graph.Literals.{variable_of, plain, inverted, constant_true}
use Rattle.graph_core.specs.Graph.Assignments.{Assignment, bit, variable, literal, word}
use Rattle.graph_core.specs.Graph.{Aig}
use Rattle.graph_core.specs.Graph.Operands.{width, a_bits, b_bits, HasMultiplierShape, multiplying, sides_for, signed_word, output_modulus, MeetsClaimOnEvaluations}
use Rattle.graph_core.proofs.OfGraphs.CallerLemmas.{claim_is_done, evaluations_suffice, literal-even, literal-odd, signed_is, sum_same, top, word_below}
use Rattle.graph_core.proofs.OfAiger.CallerLemmas.{ArePlaced}
use Rattle.graph_maker.specs.declared.kind.Kind.TheVariants.{Array}
use Rattle.graph_maker.specs.declared.adder.Adder.{Adder}
use Rattle.graph_maker.specs.Builder.{Builder, no_gates, with_gates, literals_from}
use Rattle.graph_maker.specs.Ripple.{Outputs}
use Rattle.graph_maker.specs.Products.{Products, products}
use Rattle.graph_maker.specs.Made.{product_behind}
use Rattle.graph_maker.specs.Corrected.{masked_gates, inverted_from, take_away, made_corrected, IsSignedMultiplier, CorrectedMultiplies}
use Rattle.graph_maker.proofs.CellFacts.{Computes, Holds, holds_split}
use Rattle.graph_maker.proofs.AddWords.{length-add_words, words_add, words_placed}
use Rattle.graph_maker.proofs.ArrayAdds.{bit_and, length-literals_from, length-take_to, word-append, word-split}
use Rattle.graph_maker.proofs.Places.{AreUpTo, IsBuilt, IsNext, IsOutputs, more, then, up-append, up-drop, up-literals_from, up-take, with_placed}
use Rattle.graph_maker.proofs.Inverted.{length-inverted_from}
use Rattle.graph_maker.proofs.Numbered.{IsNumbered, numbered_well_formed, take-literals, drop-literals}
use Rattle.graph_maker.proofs.ProductOfWidths.{product_is, product_long, product_placed, rows_placed}

-- ---- numbers

cancel_mod : (m x y z : ℕ) → 0 < m → (x + z) % m ≡ (y + z) % m → x % m ≡ y % m
cancel_mod m x y z pos h = sym (back x) ∙ sum_same m (x + z) (y + z) (m - z % m) (m - z % m) h refl ∙ back y
  where
    back : (w : ℕ) → ((w + z) + (m - z % m)) % m ≡ w % m
    back w =
        let up : (w + z) + (m - z % m) ≡ w + m * (z / m + 1) = omega (arith, div-add-mod z m, mod-lt z pos) in
        ap (λ v. v % m) up ∙ add-mul-mod_self_left w m (z / m + 1)

-- The product of two numbers that are u * a and u * b less than x and y, up to multiples of m, which is u * u.
signed_product : (u m x y a b s t p q : ℕ) → u * u ≡ m → s + u * a ≡ x + m * p → t + u * b ≡ y + m * q → (s * t + u * (a * y + b * x)) % m ≡ (x * y) % m
signed_product u m x y a b s t p q square first second =
    let spread : s * t + (u * b) * (s + u * a) + (u * a) * (t + u * b) ≡ (s + u * a) * (t + u * b) + (u * u) * (a * b) = omega arith in
    let moved : s * t + (u * b) * (x + m * p) + (u * a) * (y + m * q) ≡ (x + m * p) * (y + m * q) + m * (a * b) =
    ap₂ (λ v w. s * t + (u * b) * v + (u * a) * w) (sym first) (sym second) ∙ spread ∙ ap₂ (λ v w. v * w + (u * u) * (a * b)) first second ∙ ap (λ z. (x + m * p) * (y + m * q) + z * (a * b)) square in
    let left : s * t + (u * b) * (x + m * p) + (u * a) * (y + m * q) ≡ (s * t + u * (a * y + b * x)) + m * (u * (b * p + a * q)) = omega arith in
    let right : (x + m * p) * (y + m * q) + m * (a * b) ≡ x * y + m * (x * q + y * p + m * (p * q) + a * b) = omega arith in
    sym (add-mul-mod_self_left (s * t + u * (a * y + b * x)) m (u * (b * p + a * q))) ∙ ap (λ z. z % m) (sym left ∙ moved ∙ right) ∙
    add-mul-mod_self_left (x * y) m (x * q + y * p + m * (p * q) + a * b)

-- What is left of a product of two halves, l and u * h, when a * y and b * x are taken away from the upper one.
corrected_number : (u m x y a b l h c d g k : ℕ) → u * u ≡ m → x * y ≡ l + u * h → c + a * y + u * g ≡ h + u → d + b * x + u * k ≡ c + u →
    ((l + u * d) + u * (a * y + b * x)) % m ≡ (x * y) % m
corrected_number u m x y a b l h c d g k square whole first second =
    let both : d + (a * y + b * x) + u * (g + k) ≡ h + u * 2 = joined (a * y) (b * x) u c d g h k first second in
    let up : (l + u * d) + u * (a * y + b * x) + (u * u) * (g + k) ≡ (l + u * h) + (u * u) * 2 = lifted u l d (a * y + b * x) (g + k) h both in
    let at : ((l + u * d) + u * (a * y + b * x)) + m * (g + k) ≡ x * y + m * 2 =
    ap (λ z. ((l + u * d) + u * (a * y + b * x)) + z * (g + k)) (sym square) ∙ up ∙ ap₂ (λ v w. v + w * 2) (sym whole) square in
    sym (add-mul-mod_self_left ((l + u * d) + u * (a * y + b * x)) m (g + k)) ∙ ap (λ z. z % m) at ∙ add-mul-mod_self_left (x * y) m 2
  where
    joined : (v w u c d g h k : ℕ) → c + v + u * g ≡ h + u → d + w + u * k ≡ c + u → d + (v + w) + u * (g + k) ≡ h + u * 2
    joined v w u c d g h k p q = omega arith

    lifted : (u l d v g h : ℕ) → d + v + u * g ≡ h + u * 2 → (l + u * d) + u * v + (u * u) * g ≡ (l + u * h) + (u * u) * 2
    lifted u l d v g h e =
        let wide : u * (d + v + u * g) ≡ u * (h + u * 2) = ap (λ z. u * z) e in
        omega arith

-- ---- the gates

masked_are : (σ : Assignment) (v : ℕ) (x : Lit) (ys : List Lit) → Computes σ (masked_gates v x ys) → word σ (literals_from (v + 1) (length ys)) ≡ bit (literal σ x) * word σ ys
masked_are σ v x [] h = omega arith
masked_are σ v x (y ∷ ys) h =
    let rest = masked_are σ (v + 1) x ys h.1 in
    let here : bit (literal σ (plain (v + 1))) ≡ bit (literal σ x) * bit (literal σ y) = ap bit (literal-even σ (plain (v + 1)) (v + 1) refl ∙ h.0) ∙ bit_and (literal σ x) (literal σ y) ∙ omega arith in
    omega (arith, rest, here)

-- the negations of literals are 2 ^ n - 1 less their word
inverted_word : (σ : Assignment) (v n : ℕ) → word σ (inverted_from v n) + word σ (literals_from v n) + 1 ≡ 2 ^ n
inverted_word σ v zero = omega arith
inverted_word σ v (suc n) =
    let one : bit (literal σ (inverted v)) + bit (literal σ (plain v)) ≡ 1 = ap₂ (λ p q. bit p + bit q) (literal-odd σ (inverted v) v refl) (literal-even σ (plain v) v refl) ∙ bit_not (variable σ v) in
    omega (arith, one, inverted_word σ (v + 1) n, pow-suc 2 n)
  where
    bit_not : (b : Bool) → bit (not b) + bit b ≡ 1
    bit_not true = refl
    bit_not false = refl

-- what is taken away, up to a multiple of 2 ^ n
pub taken_away : (σ : Assignment) (b : Builder) (xs : List Lit) (x : Lit) (ys : List Lit) → length xs ≡ length ys → Holds σ (take_away b xs x ys).builder →
    Holds σ b × ((g : ℕ) × (word σ (take_away b xs x ys).outputs + bit (literal σ x) * word σ ys + 2 ^ length ys * g ≡ word σ xs + 2 ^ length ys))
taken_away σ b xs x ys size h =
    let n = length ys in
    let c = with_gates b (masked_gates b.last x ys) in
    let zs = inverted_from (b.last + 1) n in
    let count = length-inverted_from (b.last + 1) n in
    let sum = words_add σ c xs zs constant_true (omega (arith, size, count)) h in
    let here = holds_split σ b (masked_gates b.last x ys) sum.0 in
    let gates : word σ (literals_from (b.last + 1) n) ≡ bit (literal σ x) * word σ ys = masked_are σ b.last x ys here.1 in
    let added : word σ (take_away b xs x ys).outputs + 2 ^ n * sum.1.0 ≡ word σ xs + word σ zs + 1 =
    subst (λ k. word σ (take_away b xs x ys).outputs + 2 ^ k * sum.1.0 ≡ word σ xs + word σ zs + 1) count sum.1.1 in
    (here.0, (sum.1.0, omega (arith, added, gates, inverted_word σ (b.last + 1) n)))

length-take_away : (b : Builder) (xs : List Lit) (x : Lit) (ys : List Lit) → length (take_away b xs x ys).outputs ≡ length ys
length-take_away b xs x ys =
    let zs = inverted_from (b.last + 1) (length ys) in
    length-add_words (with_gates b (masked_gates b.last x ys)) xs zs constant_true ∙ length-inverted_from (b.last + 1) (length ys)

masked_placed : (v : ℕ) (x : Lit) (ys : List Lit) (top : ℕ) → top ≤ v → variable_of x ≤ top → AreUpTo top ys → ArePlaced v (masked_gates v x ys) × (length (masked_gates v x ys) ≡ length ys)
masked_placed v x [] top l lx ly = (tt, refl)
masked_placed v x (y ∷ ys) top l lx ly =
    let rest = masked_placed (v + 1) x ys top (omega arith) lx ly.1 in
    ((omega arith, omega arith, omega (arith, ly.0), subst (λ w. ArePlaced w (masked_gates (v + 1) x ys)) (omega arith) rest.0), ap suc rest.1)

up-inverted_from : (v n top : ℕ) → v + n ≤ top + 1 → AreUpTo top (inverted_from v n)
up-inverted_from v zero top l = tt
up-inverted_from v (suc n) top l = (omega arith, up-inverted_from (v + 1) n top (omega arith))

take_away_placed : (m : ℕ) (b : Builder) (xs : List Lit) (x : Lit) (ys : List Lit) → IsBuilt m b → AreUpTo b.last xs → variable_of x ≤ b.last → AreUpTo b.last ys → IsOutputs m b (take_away b xs x ys)
take_away_placed m b xs x ys h lx low ly =
    let n = length ys in
    let c = with_gates b (masked_gates b.last x ys) in
    let zs = inverted_from (b.last + 1) n in
    let gates = masked_placed b.last x ys b.last (omega arith) low ly in
    let here = with_placed m b (masked_gates b.last x ys) h gates.0 in
    let out = words_placed m c xs zs constant_true here.built (more b.last c.last xs here.up lx) (up-inverted_from (b.last + 1) n c.last (omega (arith, gates.1))) (omega arith) in
    record { next = then m b c (take_away b xs x ys).builder here out.next; outputs = out.outputs }

-- ---- the highest bit of an operand

top_literals : (σ : Assignment) (v n : ℕ) → top σ (literals_from v (suc n)) ≡ bit (literal σ (plain (v + n)))
top_literals σ v zero =
    let e : v ≡ v + 0 = omega arith in
    ap (λ k. bit (literal σ (plain k))) e
top_literals σ v (suc n) =
    let e : v + 1 + n ≡ v + suc n = omega arith in
    top_literals σ (v + 1) n ∙ ap (λ k. bit (literal σ (plain k))) e

-- a signed operand of n bits, by its highest one
signed_literals : (m : ℕ) (σ : Assignment) (v n : ℕ) (last : Lit) → 0 < m → 0 < n → last ≡ plain (v + n - 1) →
    (p : ℕ) × (signed_word m σ (literals_from v n) + 2 ^ n * bit (literal σ last) ≡ word σ (literals_from v n) + m * p)
signed_literals m σ v zero last pos some is = absurd (omega arith)
signed_literals m σ v (suc n) last pos some is =
    let size : length (literals_from (v + 1) n) ≡ n = length-literals_from (v + 1) n in
    let e : v + n ≡ v + suc n - 1 = omega arith in
    let highest : top σ (literals_from v (suc n)) ≡ bit (literal σ last) = top_literals σ v n ∙ ap (λ l. bit (literal σ l)) (ap plain e ∙ sym is) in (
      2 ^ length (literals_from (v + 1) n) * top σ (literals_from v (suc n)),
      ap₂ (λ k t. signed_word m σ (literals_from v (suc n)) + 2 ^ suc k * t) (sym size) (sym highest) ∙ signed_is m σ (plain v) (literals_from (v + 1) n) pos,
    )

-- ---- the corrected graph

module _ (n : ℕ) (adder : Adder) (pos : 0 < n) where
  abbrev g : Aig
  g = made_corrected n adder

  abbrev as' : List Lit
  as' = literals_from 1 n

  abbrev bs : List Lit
  bs = literals_from (n + 1) n

  abbrev p : Products
  p = products (no_gates (2 * n)) as' bs

  abbrev r : Outputs
  r = product_behind (2 * n) Array n n adder

  abbrev first : Outputs
  first = take_away r.builder (drop n r.outputs) (plain n) bs

  abbrev second : Outputs
  second = take_away first.builder first.outputs (plain (2 * n)) as'

  wide : length r.outputs ≡ 2 * n
  wide = omega (arith, product_long (2 * n) Array n n adder pos pos)

  upper : length (drop n r.outputs) ≡ n
  upper = omega (arith, length-drop n r.outputs, wide)

  length-first : length first.outputs ≡ n
  length-first = length-take_away r.builder (drop n r.outputs) (plain n) bs ∙ length-literals_from (n + 1) n

  length-second : length second.outputs ≡ n
  length-second = length-take_away first.builder first.outputs (plain (2 * n)) as' ∙ length-literals_from 1 n

  lower : length (take n r.outputs) ≡ n
  lower = length-take_to n r.outputs (omega (arith, wide))

  pub full : length g.outputs ≡ 2 * n
  full = omega (arith, length-append (take n r.outputs) second.outputs, lower, length-second)

  -- ---- no fault

  placed_products : IsNext (2 * n) (no_gates (2 * n)) p.builder
  placed_products = (rows_placed (2 * n) Array n n adder pos pos (omega arith)).next

  placed_array : IsOutputs (2 * n) p.builder r
  placed_array = product_placed (2 * n) Array n n adder pos pos (omega arith)

  inputs_up : 2 * n ≤ r.builder.last
  inputs_up = omega (arith, placed_products.up, placed_array.next.up)

  placed_first : IsOutputs (2 * n) r.builder first
  placed_first =
      take_away_placed (2 * n) r.builder (drop n r.outputs) (plain n) bs placed_array.next.built (up-drop r.builder.last n r.outputs placed_array.outputs) (omega (arith, inputs_up))
      (up-literals_from (n + 1) n r.builder.last (omega (arith, inputs_up)))

  placed_second : IsOutputs (2 * n) first.builder second
  placed_second =
      take_away_placed (2 * n) first.builder first.outputs (plain (2 * n)) as' placed_first.next.built placed_first.outputs (omega (arith, inputs_up, placed_first.next.up))
      (up-literals_from 1 n first.builder.last (omega (arith, inputs_up, placed_first.next.up)))

  pub numbered : IsNumbered (2 * n) g
  numbered = record {
    inputs = refl;
    gates = placed_second.next.built.placed;
    max = placed_second.next.built.last;
    outputs = up-append second.builder.last (take n r.outputs) second.outputs
        (up-take second.builder.last n r.outputs (more r.builder.last second.builder.last r.outputs (omega (arith, placed_first.next.up, placed_second.next.up)) placed_array.outputs)) placed_second.outputs;
  }

  pub width_is : width g ≡ n
  width_is = omega (arith, length-literals_from 1 (2 * n))

  pub shape : HasMultiplierShape g
  shape = record {
    inputs = omega (arith, length-literals_from 1 (2 * n));
    some_outputs = omega (arith, full, pos);
    outputs = omega (arith, full, width_is);
  }

  a_is : a_bits Separate g ≡ as'
  a_is = ap (λ k. take k (literals_from 1 (2 * n))) width_is ∙ take-literals 1 n n (2 * n) (omega arith)

  b_is : b_bits Separate g ≡ bs
  b_is = ap (λ k. drop k (literals_from 1 (2 * n))) width_is ∙ drop-literals 1 n n (2 * n) (omega arith) ∙ ap (λ v. literals_from v n) (omega arith)

  -- ---- the product

  square : 2 ^ n * 2 ^ n ≡ 2 ^ (2 * n)
  square = sym (pow-add 2 n n) ∙ ap (λ k. 2 ^ k) (omega arith)

  module _ (σ : Assignment) (holds : Holds σ second.builder) where
    signed_product_is : word σ g.outputs % 2 ^ (2 * n) ≡ (signed_word (2 ^ (2 * n)) σ as' * signed_word (2 ^ (2 * n)) σ bs) % 2 ^ (2 * n)
    signed_product_is =
        let u = 2 ^ n in
        let m = 2 ^ (2 * n) in
        let x = word σ as' in
        let y = word σ bs in
        let a = bit (literal σ (plain n)) in
        let b = bit (literal σ (plain (2 * n))) in
        let l = word σ (take n r.outputs) in
        let h = word σ (drop n r.outputs) in
        let c = word σ first.outputs in
        let d = word σ second.outputs in
        let last = taken_away σ first.builder first.outputs (plain (2 * n)) as' (length-first ∙ sym (length-literals_from 1 n)) holds in
        let before = taken_away σ r.builder (drop n r.outputs) (plain n) bs (upper ∙ sym (length-literals_from (n + 1) n)) last.0 in
        let product = product_is (2 * n) Array n n adder pos pos σ before.0 in
        let whole : x * y ≡ l + u * h = sym product ∙ word-split σ n r.outputs (omega (arith, wide)) in
        let one : c + a * y + u * before.1.0 ≡ h + u = subst (λ k. c + a * y + 2 ^ k * before.1.0 ≡ h + 2 ^ k) (length-literals_from (n + 1) n) before.1.1 in
        let two : d + b * x + u * last.1.0 ≡ c + u = subst (λ k. d + b * x + 2 ^ k * last.1.0 ≡ c + 2 ^ k) (length-literals_from 1 n) last.1.1 in
        let out : word σ g.outputs ≡ l + u * d = word-append σ (take n r.outputs) second.outputs ∙ ap (λ k. l + 2 ^ k * d) lower in
        let made : ((l + u * d) + u * (a * y + b * x)) % m ≡ (x * y) % m = corrected_number u m x y a b l h c d before.1.0 last.1.0 square whole one two in
        let a_last : n ≡ 1 + n - 1 = omega arith in
        let b_last : 2 * n ≡ n + 1 + n - 1 = omega arith in
        let s = signed_literals m σ 1 n (plain n) (pow_pos (2 * n)) pos (ap plain a_last) in
        let t = signed_literals m σ (n + 1) n (plain (2 * n)) (pow_pos (2 * n)) pos (ap plain b_last) in
        let wanted = signed_product u m x y a b (signed_word m σ as') (signed_word m σ bs) s.0 t.0 square s.1 t.1 in
        ap (λ z. z % m) out ∙ cancel_mod m (l + u * d) (signed_word m σ as' * signed_word m σ bs) (u * (a * y + b * x)) (pow_pos (2 * n)) (made ∙ sym wanted)

  meets : MeetsClaimOnEvaluations g (sides_for (multiplying Separate Signed) g)
  meets σ evaluates =
      let holds = recursion_from_All (λ x. variable σ x.v ≡ (literal σ x.left && literal σ x.right)) g.gates evaluates in
      sym (mod-eq_of_lt (word_below σ g.outputs)) ∙ subst (λ k. word σ g.outputs % 2 ^ k ≡ (signed_word (2 ^ k) σ as' * signed_word (2 ^ k) σ bs) % 2 ^ k) (sym full) (signed_product_is σ holds) ∙
      ap₂ (λ xs ys. (signed_word (output_modulus g) σ xs * signed_word (output_modulus g) σ ys) % output_modulus g) (sym a_is) (sym b_is)

  is_multiplier : IsSignedMultiplier n g
  is_multiplier =
      let well_formed = numbered_well_formed (2 * n) g numbered in
      record {
        width = width_is;
        shape = shape;
        whole = full;
        well_formed = well_formed;
        multiplies = (claim_is_done g (multiplying Separate Signed) shape well_formed.defined_once).0
            (evaluations_suffice g (sides_for (multiplying Separate Signed) g) well_formed.defined_once well_formed.acyclic meets);
      }

pub corrected_multiplies : CorrectedMultiplies
corrected_multiplies n adder pos = is_multiplier n adder pos
