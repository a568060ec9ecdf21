-- Where the bits of the operands stand among the inputs, and the numbers that they make.
use Rattle.std.specs.Prelude.{◌≡◌, ℕ, zero, suc, ◌+◌, ◌-◌, ◌*◌, ◌/◌, ◌%◌, ◌^◌, ◌<◌, ◌≤◌, Bool, true, false, List, [], ◌∷◌, ◌++◌, take, drop, length, get_or, ◌==◌}
use Rattle.std.proofs.Common.{refl, sym, ap, ap₂, ◌∙◌, arith, pow-suc, length-drop}
use Rattle.std.proofs.Math.Nat.{pow-le-pow_right}
use mir.Val.{bool_byte}
use Rattle.std.proofs.lemmas.List.{take_more, drop_more, drop_all, length-take, get_or-take, get_or-drop, take-append-drop}
use Rattle.graph_core.specs.declared.order.Order.{Order}
use Rattle.graph_core.specs.declared.order.Order.TheVariants.{Separate, Interleaved}
use Rattle.graph_core.specs.Graph.Assignments.{bit}
use Rattle.graph_core.specs.Graph.{Aig}
use Rattle.graph_core.specs.Graph.Operands.{evens, odds, alternate, bits_of, inputs_of, width, a_bits, b_bits, a_part, b_part, a_place, b_place}
use Rattle.graph_core.proofs.OfGraphs.OperandBits.{number_of}

pub a_bits_are : (order : Order) (g : Aig) → a_bits order g ≡ a_part order (width g) g.inputs
a_bits_are Separate g = refl
a_bits_are Interleaved g = refl

pub b_bits_are : (order : Order) (g : Aig) → b_bits order g ≡ b_part order (width g) g.inputs
b_bits_are Separate g = refl
b_bits_are Interleaved g = refl

length-evens : {X : Type 0} (n : ℕ) (xs : List X) → length xs ≡ 2 * n → length (evens xs) ≡ n
length-evens n [] h = omega arith
length-evens n (x ∷ []) h = absurd (omega arith)
length-evens zero (x ∷ y ∷ xs) h = absurd (omega arith)
length-evens (suc n) (x ∷ y ∷ xs) h = ap suc (length-evens n xs (omega arith))

length-odds : {X : Type 0} (n : ℕ) (xs : List X) → length xs ≡ 2 * n → length (odds xs) ≡ n
length-odds n [] h = omega arith
length-odds n (x ∷ []) h = absurd (omega arith)
length-odds zero (x ∷ y ∷ xs) h = absurd (omega arith)
length-odds (suc n) (x ∷ y ∷ xs) h = ap suc (length-odds n xs (omega arith))

evens_at : {X : Type 0} (xs : List X) (i : ℕ) (d : X) → get_or (evens xs) i d ≡ get_or xs (2 * i) d
evens_at {X = X} xs i d = at xs i (2 * i) refl
  where
    at : (ys : List X) (j k : ℕ) → k ≡ 2 * j → get_or (evens ys) j d ≡ get_or ys k d
    at [] j k e = refl
    at (y ∷ []) zero zero e = refl
    at (y ∷ []) zero (suc k) e = absurd (omega arith)
    at (y ∷ []) (suc j) zero e = absurd (omega arith)
    at (y ∷ []) (suc j) (suc k) e = refl
    at (y ∷ z ∷ ys) zero zero e = refl
    at (y ∷ z ∷ ys) zero (suc k) e = absurd (omega arith)
    at (y ∷ z ∷ ys) (suc j) zero e = absurd (omega arith)
    at (y ∷ z ∷ ys) (suc j) (suc zero) e = absurd (omega arith)
    at (y ∷ z ∷ ys) (suc j) (suc (suc k)) e = at ys j k (omega arith)

odds_at : {X : Type 0} (xs : List X) (i : ℕ) (d : X) → get_or (odds xs) i d ≡ get_or xs (2 * i + 1) d
odds_at {X = X} xs i d = at xs i (2 * i + 1) refl
  where
    at : (ys : List X) (j k : ℕ) → k ≡ 2 * j + 1 → get_or (odds ys) j d ≡ get_or ys k d
    at [] j k e = refl
    at (y ∷ []) j zero e = absurd (omega arith)
    at (y ∷ []) j (suc k) e = refl
    at (y ∷ z ∷ ys) zero zero e = absurd (omega arith)
    at (y ∷ z ∷ ys) zero (suc zero) e = refl
    at (y ∷ z ∷ ys) zero (suc (suc k)) e = absurd (omega arith)
    at (y ∷ z ∷ ys) (suc j) zero e = absurd (omega arith)
    at (y ∷ z ∷ ys) (suc j) (suc zero) e = absurd (omega arith)
    at (y ∷ z ∷ ys) (suc j) (suc (suc k)) e = at ys j k (omega arith)

pub length-a_part : {X : Type 0} (order : Order) (n : ℕ) (xs : List X) → length xs ≡ 2 * n → length (a_part order n xs) ≡ n
length-a_part Separate n xs h = omega (arith, length-take n xs)
length-a_part Interleaved n xs h = length-evens n xs h

pub length-b_part : {X : Type 0} (order : Order) (n : ℕ) (xs : List X) → length xs ≡ 2 * n → length (b_part order n xs) ≡ n
length-b_part Separate n xs h = omega (arith, length-drop n xs)
length-b_part Interleaved n xs h = length-odds n xs h

pub a_part_at : {X : Type 0} (order : Order) (n : ℕ) (xs : List X) (i : ℕ) (d : X) → i < n → get_or (a_part order n xs) i d ≡ get_or xs (a_place order n i) d
a_part_at Separate n xs i d h = get_or-take n xs i d h
a_part_at Interleaved n xs i d h = evens_at xs i d

pub b_part_at : {X : Type 0} (order : Order) (n : ℕ) (xs : List X) (i : ℕ) (d : X) → i < n → get_or (b_part order n xs) i d ≡ get_or xs (b_place order n i) d
b_part_at Separate n xs i d h = get_or-drop n xs i d
b_part_at Interleaved n xs i d h = odds_at xs i d

pub a_place_low : (order : Order) (n i : ℕ) → i < n → a_place order n i < 2 * n
a_place_low Separate n i h = omega arith
a_place_low Interleaved n i h = omega arith

pub b_place_low : (order : Order) (n i : ℕ) → i < n → b_place order n i < 2 * n
b_place_low Separate n i h = omega arith
b_place_low Interleaved n i h = omega arith

-- one more bit is picked
pub a_picked : {X : Type 0} (order : Order) (n : ℕ) (xs : List X) (i : ℕ) (d : X) → i < n → length xs ≡ 2 * n → take (i + 1) (a_part order n xs) ≡ take i (a_part order n xs) ++ get_or xs (a_place order n i) d ∷ []
a_picked order n xs i d h e = take_more (a_part order n xs) i d (omega (arith, length-a_part order n xs e)) ∙ ap (λ x. take i (a_part order n xs) ++ x ∷ []) (a_part_at order n xs i d h)

pub b_picked : {X : Type 0} (order : Order) (n : ℕ) (xs : List X) (i : ℕ) (d : X) → i < n → length xs ≡ 2 * n → take (i + 1) (b_part order n xs) ≡ take i (b_part order n xs) ++ get_or xs (b_place order n i) d ∷ []
b_picked order n xs i d h e = take_more (b_part order n xs) i d (omega (arith, length-b_part order n xs e)) ∙ ap (λ x. take i (b_part order n xs) ++ x ∷ []) (b_part_at order n xs i d h)

-- ---- numbers

pub number_of-low : (bits : List Bool) → number_of bits < 2 ^ length bits
number_of-low [] = omega arith
number_of-low (true ∷ bits) = omega (arith, number_of-low bits, pow-suc 2 (length bits))
number_of-low (false ∷ bits) = omega (arith, number_of-low bits, pow-suc 2 (length bits))

pub bits_of-number_of : (bits : List Bool) → bits_of (length bits) (number_of bits) ≡ bits
bits_of-number_of [] = refl
bits_of-number_of (b ∷ bits) =
    ap₂ ◌∷◌ (lowest b (number_of bits)) (ap (bits_of (length bits)) (half b (number_of bits)) ∙ bits_of-number_of bits)
  where
    half : (c : Bool) (m : ℕ) → (bit c + 2 * m) / 2 ≡ m
    half true m = omega arith
    half false m = omega arith

    lowest : (c : Bool) (m : ℕ) → ((bit c + 2 * m) % 2 == 1) ≡ c
    lowest true m = let odd : (bit true + 2 * m) % 2 ≡ 1 = omega arith in ap (λ r. r == 1) odd
    lowest false m = let even : (bit false + 2 * m) % 2 ≡ 0 = omega arith in ap (λ r. r == 1) even

pub alternate-parts : {X : Type 0} (xs : List X) → alternate (evens xs) (odds xs) ≡ xs
alternate-parts [] = refl
alternate-parts (x ∷ []) = refl
alternate-parts (x ∷ y ∷ xs) = ap (λ zs. x ∷ y ∷ zs) (alternate-parts xs)

pub part_bits : (n : ℕ) (bits : List Bool) → length bits ≡ n → bits_of n (number_of bits) ≡ bits
part_bits n bits e = ap (λ k. bits_of k (number_of bits)) (sym e) ∙ bits_of-number_of bits

-- the inputs are the bits of the numbers of their parts
pub parts_are : (order : Order) (n : ℕ) (xs : List Bool) → length xs ≡ 2 * n → xs ≡ inputs_of order n (number_of (a_part order n xs)) (number_of (b_part order n xs))
parts_are Separate n xs h =
    sym (take-append-drop n xs) ∙ ap₂ ◌++◌ (sym (part_bits n (take n xs) (length-a_part Separate n xs h))) (sym (part_bits n (drop n xs) (length-b_part Separate n xs h)))
parts_are Interleaved n xs h =
    sym (alternate-parts xs) ∙ ap₂ alternate (sym (part_bits n (evens xs) (length-evens n xs h))) (sym (part_bits n (odds xs) (length-odds n xs h)))

-- one more bit below
pub number_more : (bits : List Bool) (i : ℕ) → i < length bits → number_of (drop i bits) ≡ bit (get_or bits i false) + 2 * number_of (drop (i + 1) bits)
number_more bits i h = ap number_of (drop_more bits i false h)

pub number_step : (bits : List Bool) (i a x : ℕ) → 0 < i → i ≤ length bits → a ≡ number_of (drop i bits) → x ≡ bit (get_or bits (i - 1) false) → 2 * a + x ≡ number_of (drop (i - 1) bits)
number_step bits zero a x some h e f = absurd (omega arith)
number_step bits (suc i) a x some h e f =
    let more = number_more bits i (omega arith) in
    let here : suc i - 1 ≡ i = omega arith in
    let next : i + 1 ≡ suc i = omega arith in
    let rest : number_of (drop (i + 1) bits) ≡ number_of (drop (suc i) bits) = ap (λ k. number_of (drop k bits)) next in
    let value : x ≡ bit (get_or bits i false) = f ∙ ap (λ k. bit (get_or bits k false)) here in
    omega (arith, ap (λ k. number_of (drop k bits)) here)

-- after the first bit of at most w + 1 there is room for one more
pub number_fits : (bits : List Bool) (w i : ℕ) → 0 < i → length bits ≤ w + 1 → number_of (drop i bits) < 2 ^ w
number_fits bits w i some narrow =
    let low = number_of-low (drop i bits) in
    let size = length-drop i bits in
    let short : length (drop i bits) ≤ w = omega arith in
    let pow : 2 ^ length (drop i bits) ≤ 2 ^ w = pow-le-pow_right {n = 2} (omega arith) short in
    omega arith

pub byte_is_bit : (b : Bool) → bool_byte b ≡ bit b
byte_is_bit true = refl
byte_is_bit false = refl

pub bit_low : (b : Bool) → bit b ≤ 1
bit_low true = omega arith
bit_low false = omega arith

pub no_number : (n : ℕ) (bits : List Bool) → length bits ≡ n → 0 ≡ number_of (drop n bits)
no_number n bits e = sym (ap number_of (drop_all n bits (omega arith)))
