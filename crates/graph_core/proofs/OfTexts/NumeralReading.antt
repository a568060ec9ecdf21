-- What is read is spelled so, and what is spelled so is read.
use Rattle.std.specs.Prelude.{◌≡◌, ℕ, Bool, true, false, cond, ◌&&◌, List, [], ◌∷◌, ◌++◌, length, ◌==◌, nat_le, nat_lt, ⊤}
use Rattle.std.specs.declared.option.Option.{Option}
use Rattle.std.specs.declared.option.Option.TheVariants.{None, Some}
use Rattle.std.specs.List.{AllByRecursion}
use Rattle.std.proofs.Common.{refl, sym, ap, ap₂, ◌∙◌, eq-eqb, eqb-true, ltb-true, leb-true, lt-ltb, le-leb}
use Rattle.std.proofs.lemmas.Bool.{and_parts}
use Rattle.std.proofs.lemmas.List.Elements.{All-from_recursion, recursion_from_All}
use Rattle.std.proofs.lemmas.Option.{same_Some}
use Rattle.graph_core.proofs.OfTexts.Numerals.{digit_is}
use Rattle.graph_core.specs.Text.{IsDigit, IsNumeral, decimal}
use Rattle.graph_core.specs.Text.Numerals.{is_digit, digits_of, behind_digits, ◌>>=◌, number_at, behind_byte, front_at}

pub is_digit_of : (b : ℕ) → IsDigit b → is_digit b ≡ true
is_digit_of b h = ap₂ ◌&&◌ (le-leb 48 b h.0) (lt-ltb b 58 h.1)

-- the digits and what is left make up the bytes
digits_behind : (bytes : List ℕ) → bytes ≡ digits_of bytes ++ behind_digits bytes
digits_behind [] = refl
digits_behind (b ∷ bytes) =
    elim (is_digit b) as (λ c. b ∷ bytes ≡ cond c (b ∷ digits_of bytes) [] ++ cond c (behind_digits bytes) (b ∷ bytes)) [ true ↦ ap (λ xs. b ∷ xs) (digits_behind bytes) | false ↦ refl ]

digits_are : (bytes : List ℕ) → AllByRecursion IsDigit (digits_of bytes)
digits_are [] = tt
digits_are (b ∷ bytes) = go (is_digit b) refl (digits_are bytes)
  where
    go : (c : Bool) → is_digit b ≡ c → AllByRecursion IsDigit (digits_of bytes) → AllByRecursion IsDigit (cond c (b ∷ digits_of bytes) [])
    go true e rest = (digit_is b e, rest)
    go false e rest = tt

-- the bytes don't go on with a digit
abbrev pub NoDigit : List ℕ → Type 0
NoDigit [] = ⊤
NoDigit (b ∷ bytes) = is_digit b ≡ false

digits_front : (ds rest : List ℕ) → AllByRecursion IsDigit ds → NoDigit rest → (digits_of (ds ++ rest) ≡ ds) × (behind_digits (ds ++ rest) ≡ rest)
digits_front [] [] a n = (refl, refl)
digits_front [] (b ∷ rest) a n = (ap (λ c. cond c (b ∷ digits_of rest) []) n, ap (λ c. cond c (behind_digits rest) (b ∷ rest)) n)
digits_front (d ∷ ds) rest a n =
    let is = is_digit_of d a.0 in
    let more = digits_front ds rest a.1 n in
    (ap (λ c. cond c (d ∷ digits_of (ds ++ rest)) []) is ∙ ap (λ xs. d ∷ xs) more.0, ap (λ c. cond c (behind_digits (ds ++ rest)) (d ∷ (ds ++ rest))) is ∙ more.1)

-- a step that gave something
pub bind_some : {A B : Type 0} (o : Option A) (f : A → Option B) (y : B) → (o >>= f) ≡ Some y → (x : A) × (o ≡ Some x) × (f x ≡ Some y)
bind_some None f y h = absurd (cc)
bind_some (Some x) f y h = (x, refl, h)

pub cond_some : {A : Type 0} (b : Bool) (x y : A) → cond b (Some x) None ≡ Some y → (b ≡ true) × (x ≡ y)
cond_some true x y h = (refl, cc)
cond_some false x y h = absurd (cc)

pub number_takes : (d : ℕ) (bytes : List ℕ) (n : ℕ) (rest : List ℕ) → number_at d bytes ≡ Some (n, rest) → (digits : List ℕ) × IsNumeral d digits n × (bytes ≡ digits ++ rest)
number_takes d bytes n rest h =
    let found = cond_some (nat_lt 0 (length (digits_of bytes)) && nat_le (length (digits_of bytes)) d) (decimal (digits_of bytes), behind_digits bytes) (n, rest) h in
    let parts = and_parts (nat_lt 0 (length (digits_of bytes))) (nat_le (length (digits_of bytes)) d) found.0 in (
      digits_of bytes,
      record {
        some = ltb-true 0 (length (digits_of bytes)) parts.0;
        few = leb-true (length (digits_of bytes)) d parts.1;
        digits = All-from_recursion IsDigit (digits_of bytes) (digits_are bytes);
        number = sym (ap (λ p. p.0) found.1);
      },
      digits_behind bytes ∙ ap (λ xs. digits_of bytes ++ xs) (ap (λ p. p.1) found.1),
    )

pub number_again : (d : ℕ) (digits : List ℕ) (n : ℕ) (rest : List ℕ) → IsNumeral d digits n → NoDigit rest → number_at d (digits ++ rest) ≡ Some (n, rest)
number_again d digits n rest numeral stop =
    let front = digits_front digits rest (recursion_from_All IsDigit digits numeral.digits) stop in
    let test : (nat_lt 0 (length digits) && nat_le (length digits) d) ≡ true = ap₂ ◌&&◌ (lt-ltb 0 (length digits) numeral.some) (le-leb (length digits) d numeral.few) in
    ap₂ (λ xs ys. cond (nat_lt 0 (length xs) && nat_le (length xs) d) (Some (decimal xs, ys)) None) front.0 front.1 ∙
    ap (λ c. cond c (Some (decimal digits, rest)) None) test ∙
    ap (λ k. Some (k, rest)) (sym numeral.number)

pub byte_takes : (x : ℕ) (bytes rest : List ℕ) → behind_byte x bytes ≡ Some rest → bytes ≡ x ∷ rest
byte_takes x [] rest h = absurd (cc)
byte_takes x (b ∷ bytes) rest h =
    let found = cond_some (b == x) bytes rest h in
    ap₂ ◌∷◌ (eqb-true b x found.0) found.1

pub byte_again : (x : ℕ) (rest : List ℕ) → behind_byte x (x ∷ rest) ≡ Some rest
byte_again x rest = ap (λ c. cond c (Some rest) None) (eq-eqb x x refl)

pub front_takes : (xs bytes rest : List ℕ) → front_at xs bytes ≡ Some rest → bytes ≡ xs ++ rest
front_takes [] bytes rest h = same_Some bytes rest h
front_takes (x ∷ xs) bytes rest h =
    let first = bind_some (behind_byte x bytes) (front_at xs) rest h in
    byte_takes x bytes first.0 first.1 ∙ ap (λ ys. x ∷ ys) (front_takes xs first.0 rest first.2)

pub front_again : (xs rest : List ℕ) → front_at xs (xs ++ rest) ≡ Some rest
front_again [] rest = refl
front_again (x ∷ xs) rest = ap (λ o. o >>= front_at xs) (byte_again x (xs ++ rest)) ∙ front_again xs rest
