-- The values of the inputs, operand by operand: lists in the order of the inputs, and the numbers whose bits they are.
use Rattle.std.specs.Prelude.{◌≡◌, ℕ, ◌+◌, ◌*◌, ◌^◌, ◌<◌, Bool, List, [], ◌∷◌, ◌++◌, map, length, take, drop}
use Rattle.std.proofs.Common.{refl, sym, ap, ap₂, subst, ◌∙◌, arith, length-append, length-drop, take-append-drop}
use Rattle.std.proofs.lemmas.List.{length-take}
use Rattle.graph_core.specs.declared.numbers.Numbers.{Numbers}
use Rattle.graph_core.specs.declared.order.Order.{Order}
use Rattle.graph_core.specs.declared.order.Order.TheVariants.{Separate, Interleaved}
use Rattle.graph_core.specs.Graph.Operands.{Sides, AreInRange, a_part, alternate, b_part, bits_of, evens, in_order, inputs_at, inputs_in, odds, order_of}
use Rattle.graph_core.proofs.OfGraphs.InputPlaces.{length-inputs_in}
use Rattle.graph_core.proofs.OfGraphs.Multiplies.{drop-length-append, take-length-append}
use Rattle.graph_core.proofs.OfGraphs.OperandBits.{evens-alternate, length-bits_of, number_of, number_of-bits_of, odds-alternate}
use Rattle.graph_core.proofs.OfGraphs.OperandLiterals.{length-in_order}
use Rattle.graph_core.proofs.OfGraphs.OperandPlaces.{length-a_part, length-b_part, number_of-low, part_bits, parts_are}

-- ---- lists in the order of the inputs

map-both : {X Y : Type 0} (f : X → Y) (xs ys : List X) → map f (xs ++ ys) ≡ map f xs ++ map f ys
map-both f [] ys = refl
map-both f (x ∷ xs) ys = ap (λ zs. f x ∷ zs) (map-both f xs ys)

map-alternate : {X Y : Type 0} (f : X → Y) (xs ys : List X) → map f (alternate xs ys) ≡ alternate (map f xs) (map f ys)
map-alternate f [] ys = refl
map-alternate f (x ∷ xs) [] = refl
map-alternate f (x ∷ xs) (y ∷ ys) = ap (λ zs. f x ∷ f y ∷ zs) (map-alternate f xs ys)

map-in_order : {X Y : Type 0} (f : X → Y) (order : Order) (xs ys : List X) → map f (in_order order xs ys) ≡ in_order order (map f xs) (map f ys)
map-in_order f Separate xs ys = map-both f xs ys
map-in_order f Interleaved xs ys = map-alternate f xs ys

-- the inputs' list under a map
pub map-three : {X Y : Type 0} (f : X → Y) (order : Order) (xs ys zs : List X) → map f (in_order order xs ys ++ zs) ≡ in_order order (map f xs) (map f ys) ++ map f zs
map-three f order xs ys zs = map-both f (in_order order xs ys) zs ∙ ap (λ us. us ++ map f zs) (map-in_order f order xs ys)

fronts : {X : Type 0} (xs us ys vs : List X) → length xs ≡ length us → xs ++ ys ≡ us ++ vs → (xs ≡ us) × (ys ≡ vs)
fronts xs us ys vs size e = (
  sym (take-length-append xs ys) ∙ ap (take (length xs)) e ∙ ap (λ k. take k (us ++ vs)) size ∙ take-length-append us vs,
  sym (drop-length-append xs ys) ∙ ap (drop (length xs)) e ∙ ap (λ k. drop k (us ++ vs)) size ∙ drop-length-append us vs,
)

-- lists of such lengths are in one order equal only where they are
pub in_order_apart : {X : Type 0} (order : Order) (xs ys us vs : List X) → length xs ≡ length us → length ys ≡ length vs →
    (order ≡ Interleaved → length xs ≡ length ys) → in_order order xs ys ≡ in_order order us vs → (xs ≡ us) × (ys ≡ vs)
in_order_apart Separate xs ys us vs p q even e = fronts xs us ys vs p e
in_order_apart Interleaved xs ys us vs p q even e = (
  sym (evens-alternate xs ys (even refl)) ∙ ap evens e ∙ evens-alternate us vs (sym p ∙ even refl ∙ q),
  sym (odds-alternate xs ys (even refl)) ∙ ap odds e ∙ odds-alternate us vs (sym p ∙ even refl ∙ q),
)

pub three_apart : {X : Type 0} (order : Order) (xs ys zs us vs ws : List X) → length xs ≡ length us → length ys ≡ length vs →
    (order ≡ Interleaved → length xs ≡ length ys) → in_order order xs ys ++ zs ≡ in_order order us vs ++ ws → (xs ≡ us) × (ys ≡ vs) × (zs ≡ ws)
three_apart order xs ys zs us vs ws p q even e =
    let size : length (in_order order xs ys) ≡ length (in_order order us vs) = omega (arith, length-in_order order xs ys, length-in_order order us vs) in
    let parts = fronts (in_order order xs ys) (in_order order us vs) zs ws size e in
    let both = in_order_apart order xs ys us vs p q even parts.0 in
    (both.0, both.1, parts.1)

-- ---- their numbers

pub length-first : {X : Type 0} (order : Order) (n k : ℕ) (xs : List X) → length xs ≡ n + k → (order ≡ Interleaved → n ≡ k) → length (a_part order n xs) ≡ n
length-first Separate n k xs h even = omega (arith, length-take n xs)
length-first Interleaved n k xs h even = let same = even refl in length-a_part Interleaved n xs (omega arith)

pub length-second : {X : Type 0} (order : Order) (n k : ℕ) (xs : List X) → length xs ≡ n + k → (order ≡ Interleaved → n ≡ k) → length (b_part order n xs) ≡ k
length-second Separate n k xs h even = omega (arith, length-drop n xs)
length-second Interleaved n k xs h even = let same = even refl in length-b_part Interleaved n xs (omega arith) ∙ same

-- the values are the bits of the numbers of both parts
pub both_are : (order : Order) (n k : ℕ) (xs : List Bool) → length xs ≡ n + k → (order ≡ Interleaved → n ≡ k) →
    xs ≡ in_order order (bits_of n (number_of (a_part order n xs))) (bits_of k (number_of (b_part order n xs)))
both_are Separate n k xs h even =
    sym (take-append-drop n xs) ∙
    ap₂ ◌++◌ (sym (part_bits n (take n xs) (length-first Separate n k xs h even))) (sym (part_bits k (drop n xs) (length-second Separate n k xs h even)))
both_are Interleaved n k xs h even =
    let same = even refl in
    parts_are Interleaved n xs (omega arith) ∙ ap (λ j. alternate (bits_of n (number_of (evens xs))) (bits_of j (number_of (odds xs)))) same

-- a part's number is below its power of two
pub part_low : (bits : List Bool) (n : ℕ) → length bits ≡ n → number_of bits < 2 ^ n
part_low bits n e = subst (λ k. number_of bits < 2 ^ k) e (number_of-low bits)

pub length-inputs_at : (s : Sides) (x : Numbers) → length (inputs_at s x) ≡ length (inputs_in s)
length-inputs_at s x =
    omega (
      arith,
      length-inputs_in s,
      length-append (in_order (order_of s.claim) (bits_of (length s.a) x.a) (bits_of (length s.b) x.b)) (bits_of (length s.c) x.c),
      length-in_order (order_of s.claim) (bits_of (length s.a) x.a) (bits_of (length s.b) x.b),
      length-bits_of (length s.a) x.a,
      length-bits_of (length s.b) x.b,
      length-bits_of (length s.c) x.c,
    )

-- Values of the inputs are the bits of numbers.
pub numbers_there : (s : Sides) (bits : List Bool) → (order_of s.claim ≡ Interleaved → length s.a ≡ length s.b) → length bits ≡ length (inputs_in s) →
    (x : Numbers) × AreInRange s x × (bits ≡ inputs_at s x)
numbers_there s bits even size =
    let both = length s.a + length s.b in
    let order = order_of s.claim in
    let whole : length bits ≡ both + length s.c = size ∙ length-inputs_in s in
    let front : length (take both bits) ≡ length s.a + length s.b = omega (arith, length-take both bits) in
    let back : length (drop both bits) ≡ length s.c = omega (arith, length-drop both bits) in
    let first = a_part order (length s.a) (take both bits) in
    let second = b_part order (length s.a) (take both bits) in (
      record { a = number_of first; b = number_of second; c = number_of (drop both bits) },
      record {
        a = part_low first (length s.a) (length-first order (length s.a) (length s.b) (take both bits) front even);
        b = part_low second (length s.b) (length-second order (length s.a) (length s.b) (take both bits) front even);
        c = part_low (drop both bits) (length s.c) back;
      },
      sym (take-append-drop both bits) ∙ ap₂ ◌++◌ (both_are order (length s.a) (length s.b) (take both bits) front even) (sym (part_bits (length s.c) (drop both bits) back)),
    )

numbers_same : (x y : Numbers) → y.a ≡ x.a → y.b ≡ x.b → y.c ≡ x.c → y ≡ x
numbers_same x y a b c = λ i. record { a = a i; b = b i; c = c i }

number_back : (n a b : ℕ) → a < 2 ^ n → b < 2 ^ n → bits_of n b ≡ bits_of n a → b ≡ a
number_back n a b low below e = sym (number_of-bits_of n b below) ∙ ap number_of e ∙ number_of-bits_of n a low

-- Values that stand for numbers stand for no others.
pub same_numbers : (s : Sides) → (order_of s.claim ≡ Interleaved → length s.a ≡ length s.b) → (x y : Numbers) → AreInRange s x → AreInRange s y → inputs_at s y ≡ inputs_at s x → y ≡ x
same_numbers s even x y low below e =
    let sizes : (n a b : ℕ) → length (bits_of n b) ≡ length (bits_of n a) = λ n a b. length-bits_of n b ∙ sym (length-bits_of n a) in
    let parts =
    three_apart (order_of s.claim) (bits_of (length s.a) y.a) (bits_of (length s.b) y.b) (bits_of (length s.c) y.c) (bits_of (length s.a) x.a) (bits_of (length s.b) x.b) (bits_of (length s.c) x.c)
    (sizes (length s.a) x.a y.a) (sizes (length s.b) x.b y.b) (λ o. length-bits_of (length s.a) y.a ∙ even o ∙ sym (length-bits_of (length s.b) y.b)) e in
    numbers_same x y (number_back (length s.a) x.a y.a low.a below.a parts.0) (number_back (length s.b) x.b y.b low.b below.b parts.1) (number_back (length s.c) x.c y.c low.c below.c parts.2)
