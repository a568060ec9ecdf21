-- What is read of an algebra certificate is what its text says.
use Rattle.std.specs.Prelude.{◌≡◌, ℕ, ◌<◌, ◌⊎◌, Bool, true, false, cond, ◌||◌, List, [], ◌∷◌, ◌++◌, codes, ◌==◌, nat_lt}
use Rattle.std.specs.declared.option.Option.{Option}
use Rattle.std.specs.declared.option.Option.TheVariants.{None, Some}
use Rattle.std.proofs.Common.{refl, sym, ap, ap₂, subst, ◌∙◌, append_assoc, inl, inr, ⊎_elim, eqb-true, lt-ltb, ltb-true}
use Rattle.std.proofs.lemmas.Option.{same_Some}
use Rattle.std.proofs.lemmas.List.{append-nil}
use Rattle.graph_core.specs.Text.{newline, IsNumeral}
use Rattle.graph_core.specs.Text.Numerals.{number_at, is_digit, ◌>>=◌}
use Rattle.graph_core.specs.Text.Readers.{Reader, behind_at, ended_at, then_at, choose_at, many_at, put_before}
use Rattle.graph_core.proofs.OfTexts.CallerLemmas.{Ended, IsReaderOf, BehindText, Then, Bind, AreMany, NoneOf, OneOf, Anything, reads_number, reads_as, reads_map, reads_behind, reads_ended, reads_then, reads_text, reads_bind, reads_choice, reads_many, many_next, OtherOf, one_longer, numeral_first}
use Rattle.algebra_core.specs.Polynomials.{Term, Polynomial}
use Rattle.algebra_core.specs.AlgebraLines.{Line, Sum, Product, Combination, Import, Delete, Part}
use Rattle.algebra_core.specs.Text.{AreFactors, IsTerm, AreTerms, IsPolynomial, IsPart, AreParts, IsLineText, IsCloseText, AreLineTexts, IsAlgebraText, algebra_header, first_line, sign_of}
use Rattle.algebra_core.specs.Reading.{is_star, is_minus, is_sign, is_space, factors_at, coefficient_at, product_at, term_at, first_term_at, signed_term_at, poly_at, part_at, parts_at, sum_at, multiple_at, combination_at, import_at, drop_at, second_at, algebra_line_at, close_at, at_end, algebra_at, AlgebraLineIsRead, CloseIsRead, AlgebraIsRead}

-- A polynomial ends where no digit, star or sign follows.
abbrev pub EndsPolynomial : List ℕ → Type 0
EndsPolynomial rest = NoneOf is_sign rest × (NoneOf is_star rest × NoneOf is_digit rest)

-- ---- factors

abbrev IsFactor : List ℕ → ℕ → Type 0
IsFactor = BehindText (codes "*x") (IsNumeral 10)

factor_first : (front : List ℕ) (v : ℕ) → IsFactor front v → OneOf is_star front
factor_first front v h = subst (OneOf is_star) (sym h.2) refl

star_no_digit : (rest : List ℕ) → OneOf is_star rest → NoneOf is_digit rest
star_no_digit [] h = absurd h
star_no_digit (b ∷ rest) h = ap is_digit (eqb-true b 42 h)

factors_there : (bytes : List ℕ) (vs : List ℕ) → AreMany IsFactor bytes vs → AreFactors bytes vs
factors_there bytes [] h = h
factors_there bytes (v ∷ vs) h = (h.2.0, h.1, h.2.1, factors_there h.1 vs h.3, h.4 ∙ ap (λ z. z ++ h.1) h.2.2)

factors_back : (bytes : List ℕ) (vs : List ℕ) → AreFactors bytes vs → AreMany IsFactor bytes vs
factors_back bytes [] h = h
factors_back bytes (v ∷ vs) h = (codes "*x" ++ h.0, h.1, (h.0, h.2, refl), factors_back h.1 vs h.3, h.4)

abbrev EndsFactors : List ℕ → Type 0
EndsFactors rest = NoneOf is_star rest × NoneOf is_digit rest

pub reads_factors : IsReaderOf factors_at AreFactors EndsFactors
reads_factors =
    reads_as AreFactors
    (reads_many is_star (behind_at (codes "*x") (number_at 10)) IsFactor (NoneOf is_digit) (reads_behind (codes "*x") (reads_number 10)) factor_first star_no_digit)
    factors_there factors_back

-- what follows a number before factors: a star, or what follows them
factors_joins : (front : List ℕ) (vs : List ℕ) (rest : List ℕ) → AreFactors front vs → EndsFactors rest → NoneOf is_digit (front ++ rest)
factors_joins front [] rest h ends = subst (λ z. NoneOf is_digit (z ++ rest)) (sym h) ends.1
factors_joins front (v ∷ vs) rest h ends = subst (λ z. NoneOf is_digit (z ++ rest)) (sym h.4) refl

-- ---- terms

-- a term's text, with its sign apart
abbrev IsSigned : Bool → List ℕ → Term → Type 0
IsSigned negative bytes t = (t.negative ≡ negative) × IsTerm bytes t

abbrev HasCoefficient : Bool → List ℕ → Term → Type 0
HasCoefficient negative bytes t = (t.negative ≡ negative) × ((digits rest : List ℕ) × IsNumeral 39 digits t.coefficient × AreFactors rest t.variables × (bytes ≡ digits ++ rest))

abbrev HasNone : Bool → List ℕ → Term → Type 0
HasNone negative bytes t = (t.negative ≡ negative) × (t.coefficient ≡ 1) × AreFactors (codes "*" ++ bytes) t.variables

same_term : (t : Term) (n : Bool) (c : ℕ) (vs : List ℕ) → t.negative ≡ n → t.coefficient ≡ c → t.variables ≡ vs → record { negative = n; coefficient = c; variables = vs } ≡ t
same_term t n c vs e f g =
    let term : Bool → ℕ → List ℕ → Term = λ m k ws. record { negative = m; coefficient = k; variables = ws } in
    ap (λ m. term m c vs) (sym e) ∙ ap (λ k. term t.negative k vs) (sym f) ∙ ap (λ ws. term t.negative t.coefficient ws) (sym g)

reads_coefficient : (negative : Bool) → IsReaderOf (coefficient_at negative) (HasCoefficient negative) EndsFactors
reads_coefficient negative =
    reads_map (λ x. record { negative = negative; coefficient = x.0; variables = x.1 }) (HasCoefficient negative)
    (reads_then (reads_number 39) reads_factors factors_joins)
    (λ bytes x h. (refl, h))
    (λ bytes t h. ((t.coefficient, t.variables), h.1, same_term t negative t.coefficient t.variables h.0 refl refl))

abbrev IsVariable : List ℕ → ℕ → Type 0
IsVariable = BehindText (codes "x") (IsNumeral 10)

tail_same : (a b : ℕ) (xs ys : List ℕ) → a ∷ xs ≡ b ∷ ys → xs ≡ ys
tail_same a b xs ys e = cc

reads_product : (negative : Bool) → IsReaderOf (product_at negative) (HasNone negative) EndsFactors
reads_product negative =
    reads_map (λ x. record { negative = negative; coefficient = 1; variables = x.0 ∷ x.1 }) (HasNone negative)
    (reads_then (reads_behind (codes "x") (reads_number 10)) reads_factors factors_joins)
    (λ bytes x h. (refl, refl, (h.2.0, h.1, h.2.1, h.3, ap (λ z. 42 ∷ z) (h.4 ∙ ap (λ z. z ++ h.1) h.2.2))))
    (λ bytes t h. back bytes t t.variables refl h)
  where
    back : (bytes : List ℕ) (t : Term) (vs : List ℕ) → t.variables ≡ vs → HasNone negative bytes t → (x : ℕ × List ℕ) × Then IsVariable AreFactors bytes x × (record { negative = negative; coefficient = 1; variables = x.0 ∷ x.1 } ≡ t)
    back bytes t [] e h = let f : codes "*" ++ bytes ≡ [] = subst (AreFactors (codes "*" ++ bytes)) e h.2 in absurd (cc)
    back bytes t (v ∷ vs) e h =
        let f = subst (AreFactors (codes "*" ++ bytes)) e h.2 in
        ((v, vs), (codes "x" ++ f.0, f.1, (f.0, f.2, refl), f.3, tail_same 42 42 bytes (codes "x" ++ f.0 ++ f.1) f.4), same_term t negative 1 (v ∷ vs) h.0 h.1 e)

coefficient_first : (negative : Bool) (front : List ℕ) (t : Term) → HasCoefficient negative front t → OneOf is_digit front
coefficient_first negative front t h = subst (OneOf is_digit) (sym h.1.4) (one_longer is_digit h.1.0 h.1.1 (numeral_first 39 h.1.0 t.coefficient h.1.2))

product_first : (negative : Bool) (front : List ℕ) (t : Term) → HasNone negative front t → (more : List ℕ) × (front ≡ 120 ∷ more)
product_first negative front t h = go t.variables h.2
  where
    go : (vs : List ℕ) → AreFactors (codes "*" ++ front) vs → (more : List ℕ) × (front ≡ 120 ∷ more)
    go [] f = let e : codes "*" ++ front ≡ [] = f in absurd (cc)
    go (v ∷ vs) f = (f.0 ++ f.1, tail_same 42 42 front (codes "x" ++ f.0 ++ f.1) f.4)

reads_term : (negative : Bool) → IsReaderOf (term_at negative) (IsSigned negative) EndsFactors
reads_term negative =
    reads_as (IsSigned negative)
    (reads_choice is_digit (reads_coefficient negative) (reads_product negative) (coefficient_first negative)
    (λ front t h. let f = product_first negative front t h in subst (OtherOf is_digit) (sym f.1) refl))
    (λ bytes t h. ⊎_elim (λ c. (c.0, inl c.1)) (λ n. (n.0, inr (n.1, n.2))) h)
    (λ bytes t h. ⊎_elim (λ c. inl (h.0, c)) (λ n. inr (h.0, n.0, n.1)) h.1)

-- a term begins with a digit or with x
term_first : (negative : Bool) (front : List ℕ) (t : Term) → IsSigned negative front t → OtherOf is_minus front
term_first negative front t h =
    ⊎_elim (λ c. digit_no_minus front (coefficient_first negative front t (h.0, c)))
    (λ n. let f = product_first negative front t (h.0, n.0, n.1) in subst (OtherOf is_minus) (sym f.1) refl) h.1
  where
    digit_no_minus : (bytes : List ℕ) → OneOf is_digit bytes → OtherOf is_minus bytes
    digit_no_minus [] d = absurd d
    digit_no_minus (b ∷ bytes) d = go (b == 45) refl
      where
        go : (c : Bool) → (b == 45) ≡ c → c ≡ false
        go true e = let f : is_digit 45 ≡ true = subst (λ z. is_digit z ≡ true) (eqb-true b 45 e) d in absurd (cc)
        go false e = refl

-- a term with its sign, and the first one, which has no plus
abbrev HasSign : List ℕ → Term → Type 0
HasSign bytes t = (term : List ℕ) × IsTerm term t × (bytes ≡ sign_of t.negative ++ term)

abbrev IsFirst : List ℕ → Term → Type 0
IsFirst bytes t = BehindText (codes "-") (IsSigned true) bytes t ⊎ IsSigned false bytes t

reads_first : IsReaderOf first_term_at IsFirst EndsFactors
reads_first = reads_choice is_minus (reads_behind (codes "-") (reads_term true)) (reads_term false) (λ front t h. subst (OneOf is_minus) (sym h.2) refl) (term_first false)

reads_sign : IsReaderOf signed_term_at HasSign EndsFactors
reads_sign =
    reads_as HasSign
    (reads_choice is_minus (reads_behind (codes "-") (reads_term true)) (reads_behind (codes "+") (reads_term false)) (λ front t h. subst (OneOf is_minus) (sym h.2) refl) (λ front t h. subst (OtherOf is_minus) (sym h.2) refl))
    (λ bytes t h. ⊎_elim (λ m. (m.0, m.1.1, m.2 ∙ ap (λ b. sign_of b ++ m.0) (sym m.1.0))) (λ p. (p.0, p.1.1, p.2 ∙ ap (λ b. sign_of b ++ p.0) (sym p.1.0))) h)
    (λ bytes t h. back bytes t t.negative refl h)
  where
    back : (bytes : List ℕ) (t : Term) (n : Bool) → t.negative ≡ n → HasSign bytes t → BehindText (codes "-") (IsSigned true) bytes t ⊎ BehindText (codes "+") (IsSigned false) bytes t
    back bytes t true e h = inl (h.0, (e, h.1), h.2 ∙ ap (λ b. sign_of b ++ h.0) e)
    back bytes t false e h = inr (h.0, (e, h.1), h.2 ∙ ap (λ b. sign_of b ++ h.0) e)

-- ---- polynomials

sign_first : (front : List ℕ) (t : Term) → HasSign front t → OneOf is_sign front
sign_first front t h = subst (OneOf is_sign) (sym h.2) (go t.negative)
  where
    go : (n : Bool) → OneOf is_sign (sign_of n ++ h.0)
    go true = refl
    go false = refl

sign_ends : (rest : List ℕ) → OneOf is_sign rest → EndsFactors rest
sign_ends [] h = absurd h
sign_ends (b ∷ rest) h = go (b == 43) refl h
  where
    go : (c : Bool) → (b == 43) ≡ c → (c || b == 45) ≡ true → EndsFactors (b ∷ rest)
    go true e f = subst (λ z. EndsFactors (z ∷ rest)) (sym (eqb-true b 43 e)) (refl, refl)
    go false e f = subst (λ z. EndsFactors (z ∷ rest)) (sym (eqb-true b 45 f)) (refl, refl)

terms_joins : (front : List ℕ) (ts : List Term) (rest : List ℕ) → AreMany HasSign front ts → EndsPolynomial rest → EndsFactors (front ++ rest)
terms_joins front [] rest h ends = subst (λ z. EndsFactors (z ++ rest)) (sym h) ends.1
terms_joins front (t ∷ ts) rest h ends =
    sign_ends (front ++ rest) (subst (λ z. OneOf is_sign (z ++ rest)) (sym h.4) (one_longer is_sign (h.0 ++ h.1) rest (one_longer is_sign h.0 h.1 (sign_first h.0 t h.2))))

terms_there : (bytes : List ℕ) (ts : List Term) → AreMany HasSign bytes ts → AreTerms bytes ts
terms_there bytes [] h = h
terms_there bytes (t ∷ ts) h = (h.2.0, h.1, h.2.1, terms_there h.1 ts h.3, h.4 ∙ ap (λ z. z ++ h.1) h.2.2)

terms_back : (bytes : List ℕ) (ts : List Term) → AreTerms bytes ts → AreMany HasSign bytes ts
terms_back bytes [] h = h
terms_back bytes (t ∷ ts) h = (sign_of t.negative ++ h.0, h.1, (h.0, h.2, refl), terms_back h.1 ts h.3, h.4)

poly_there : (bytes : List ℕ) (t : Term) (ts : List Term) → Then IsFirst (AreMany HasSign) bytes (t, ts) → IsPolynomial bytes (t ∷ ts)
poly_there bytes t ts h = ⊎_elim minus plus h.2
  where
    terms : AreTerms h.1 ts
    terms = terms_there h.1 ts h.3

    minus : BehindText (codes "-") (IsSigned true) h.0 t → IsPolynomial bytes (t ∷ ts)
    minus m = subst (λ c. AreTerms (cond c bytes (codes "+" ++ bytes)) (t ∷ ts)) (sym m.1.0)
        (m.0, h.1, m.1.1, terms, h.4 ∙ ap (λ z. z ++ h.1) m.2 ∙ ap (λ b. sign_of b ++ m.0 ++ h.1) (sym m.1.0))

    plus : IsSigned false h.0 t → IsPolynomial bytes (t ∷ ts)
    plus p = subst (λ c. AreTerms (cond c bytes (codes "+" ++ bytes)) (t ∷ ts)) (sym p.0)
        (h.0, h.1, p.1, terms, ap (λ z. 43 ∷ z) h.4 ∙ ap (λ b. sign_of b ++ h.0 ++ h.1) (sym p.0))

poly_back : (bytes : List ℕ) (t : Term) (ts : List Term) → IsPolynomial bytes (t ∷ ts) → Then IsFirst (AreMany HasSign) bytes (t, ts)
poly_back bytes t ts h = go t.negative refl
  where
    go : (n : Bool) → t.negative ≡ n → Then IsFirst (AreMany HasSign) bytes (t, ts)
    go true e =
        let f = subst (λ c. AreTerms (cond c bytes (codes "+" ++ bytes)) (t ∷ ts)) e h in
        (codes "-" ++ f.0, f.1, inl (f.0, (e, f.2), refl), terms_back f.1 ts f.3, f.4 ∙ ap (λ b. sign_of b ++ f.0 ++ f.1) e)
    go false e =
        let f = subst (λ c. AreTerms (cond c bytes (codes "+" ++ bytes)) (t ∷ ts)) e h in
        (f.0, f.1, inr (e, f.2), terms_back f.1 ts f.3, tail_same 43 43 bytes (f.0 ++ f.1) (f.4 ∙ ap (λ b. sign_of b ++ f.0 ++ f.1) e))

pub reads_poly : IsReaderOf poly_at IsPolynomial EndsPolynomial
reads_poly =
    reads_map (λ x. x.0 ∷ x.1) IsPolynomial
    (reads_then reads_first (reads_many is_sign signed_term_at HasSign EndsFactors reads_sign sign_first sign_ends) terms_joins)
    (λ bytes x h. poly_there bytes x.0 x.1 h)
    back
  where
    back : (bytes : List ℕ) (p : Polynomial) → IsPolynomial bytes p → (x : Term × List Term) × Then IsFirst (AreMany HasSign) bytes x × (x.0 ∷ x.1 ≡ p)
    back bytes [] h = absurd h
    back bytes (t ∷ ts) h = ((t, ts), poly_back bytes t ts h, refl)

-- ---- lines

-- a numeral ends at a text
abbrev Field : List ℕ → List ℕ → ℕ → Type 0
Field text = Ended (IsNumeral 15) text

pub reads_part : IsReaderOf part_at IsPart Anything
reads_part =
    reads_map (λ x. record { id = x.0; factor = x.1 }) IsPart
    (reads_then (reads_ended (codes " * (") (reads_number 15) (λ rest. refl)) (reads_ended (codes ")") reads_poly (λ rest. (refl, (refl, refl)))) (λ front y rest is f. tt))
    (λ bytes x h. (h.2.0, h.3.0, h.2.1, h.3.1, h.4 ∙ ap₂ ◌++◌ h.2.2 h.3.2 ∙ sym (append_assoc (h.2.0 ++ codes " * (") h.3.0 (codes ")"))))
    (λ bytes y h. ((y.id, y.factor), (h.0 ++ codes " * (", h.1 ++ codes ")", (h.0, h.2, refl), (h.1, h.3, refl), h.4 ∙ append_assoc (h.0 ++ codes " * (") h.1 (codes ")")), refl))

abbrev IsLaterPart : List ℕ → Part → Type 0
IsLaterPart = BehindText (codes " + ") IsPart

parts_there : (bytes : List ℕ) (part : Part) (parts : List Part) → Then IsPart (AreMany IsLaterPart) bytes (part, parts) → AreParts bytes (part ∷ parts)
parts_there bytes part [] h = subst (λ z. IsPart z part) (sym (h.4 ∙ ap (λ z. h.0 ++ z) h.3 ∙ append-nil h.0)) h.2
parts_there bytes part (next ∷ parts) h = (
  h.0,
  h.3.2.0 ++ h.3.1,
  h.2,
  parts_there (h.3.2.0 ++ h.3.1) next parts (h.3.2.0, h.3.1, h.3.2.1, h.3.3, refl),
  h.4 ∙ ap (λ z. h.0 ++ z) (h.3.4 ∙ ap (λ z. z ++ h.3.1) h.3.2.2) ∙ sym (append_assoc h.0 (codes " + ") (h.3.2.0 ++ h.3.1)),
)

parts_back : (bytes : List ℕ) (part : Part) (parts : List Part) → AreParts bytes (part ∷ parts) → Then IsPart (AreMany IsLaterPart) bytes (part, parts)
parts_back bytes part [] h = (bytes, [], h, refl, sym (append-nil bytes))
parts_back bytes part (next ∷ parts) h =
    let more = parts_back h.1 next parts h.3 in
    (h.0, codes " + " ++ h.1, h.2, (codes " + " ++ more.0, more.1, (more.0, more.2, refl), more.3, ap (λ z. codes " + " ++ z) more.4), h.4 ∙ append_assoc h.0 (codes " + ") h.1)

later_first : (front : List ℕ) (part : Part) → IsLaterPart front part → OneOf is_space front
later_first front part h = subst (OneOf is_space) (sym h.2) refl

pub reads_parts : IsReaderOf parts_at AreParts (λ rest. NoneOf is_space rest × Anything rest)
reads_parts =
    reads_map (λ x. x.0 ∷ x.1) AreParts
    (reads_then reads_part (reads_many is_space (behind_at (codes " + ") part_at) IsLaterPart Anything (reads_behind (codes " + ") reads_part) later_first (λ rest h. tt)) (λ front y rest is f. tt))
    (λ bytes x h. parts_there bytes x.0 x.1 h)
    back
  where
    back : (bytes : List ℕ) (parts : List Part) → AreParts bytes parts → (x : Part × List Part) × Then IsPart (AreMany IsLaterPart) bytes x × (x.0 ∷ x.1 ≡ parts)
    back bytes [] h = absurd h
    back bytes (part ∷ parts) h = ((part, parts), parts_back bytes part parts h, refl)

-- what stands after the new id in a line of each kind
abbrev IsSum : ℕ → List ℕ → Line → Type 0
IsSum id bytes x = (i j : ℕ) × (p : Polynomial) × (x ≡ Sum id i j p) × ((left right poly : List ℕ) × IsNumeral 15 left i × IsNumeral 15 right j × IsPolynomial poly p ×
    (bytes ≡ codes "+ " ++ left ++ codes ", " ++ right ++ codes ", " ++ poly ++ codes ";"))

three_fields : (before a comma b c semi : List ℕ) → before ++ ((a ++ comma) ++ ((b ++ comma) ++ (c ++ semi))) ≡ before ++ a ++ comma ++ b ++ comma ++ c ++ semi
three_fields before a comma b c semi = simp append_assoc

two_fields : (before a comma c semi : List ℕ) → before ++ ((a ++ comma) ++ (c ++ semi)) ≡ before ++ a ++ comma ++ c ++ semi
two_fields before a comma c semi = simp append_assoc

ends_comma : (rest : List ℕ) → EndsPolynomial (codes ", " ++ rest)
ends_comma rest = (refl, (refl, refl))

ends_semicolon : (rest : List ℕ) → EndsPolynomial (codes ";" ++ rest)
ends_semicolon rest = (refl, (refl, refl))

reads_sum : (id : ℕ) → IsReaderOf (sum_at id) (IsSum id) Anything
reads_sum id =
    reads_map (λ x. Sum id x.0 x.1.0 x.1.1) (IsSum id)
    (reads_behind (codes "+ ") (reads_then (reads_ended (codes ", ") (reads_number 15) (λ rest. refl))
    (reads_then (reads_ended (codes ", ") (reads_number 15) (λ rest. refl)) (reads_ended (codes ";") reads_poly ends_semicolon) (λ front y rest is f. tt)) (λ front y rest is f. tt)))
    (λ bytes x h. there bytes x.0 x.1.0 x.1.1 h)
    (λ bytes y h. (
      (h.0, (h.1, h.2)),
      (
        _,
        (h.4.0 ++ codes ", ", (h.4.1 ++ codes ", ") ++ (h.4.2 ++ codes ";"), (h.4.0, h.4.3, refl), (h.4.1 ++ codes ", ", h.4.2 ++ codes ";", (h.4.1, h.4.4, refl), (h.4.2, h.4.5, refl), refl), refl),
        h.4.6 ∙ sym (three_fields (codes "+ ") h.4.0 (codes ", ") h.4.1 h.4.2 (codes ";")),
      ),
      sym h.3,
    ))
  where
    there : (bytes : List ℕ) (i j : ℕ) (p : Polynomial) → BehindText (codes "+ ") (Then (Field (codes ", ")) (Then (Field (codes ", ")) (Ended IsPolynomial (codes ";")))) bytes (i, (j, p)) → IsSum id bytes (Sum id i j p)
    there bytes i j p h = (
      i,
      j,
      p,
      refl,
      (
        h.1.2.0,
        h.1.3.2.0,
        h.1.3.3.0,
        h.1.2.1,
        h.1.3.2.1,
        h.1.3.3.1,
        h.2 ∙ ap (λ z. codes "+ " ++ z) (h.1.4 ∙ ap₂ ◌++◌ h.1.2.2 (h.1.3.4 ∙ ap₂ ◌++◌ h.1.3.2.2 h.1.3.3.2)) ∙ three_fields (codes "+ ") h.1.2.0 (codes ", ") h.1.3.2.0 h.1.3.3.0 (codes ";"),
      ),
    )

abbrev IsMultiple : ℕ → List ℕ → Line → Type 0
IsMultiple id bytes x = (i : ℕ) × (q p : Polynomial) × (x ≡ Product id i q p) × ((left factor poly : List ℕ) × IsNumeral 15 left i × IsPolynomial factor q × IsPolynomial poly p ×
    (bytes ≡ codes "* " ++ left ++ codes ", " ++ factor ++ codes ", " ++ poly ++ codes ";"))

reads_multiple : (id : ℕ) → IsReaderOf (multiple_at id) (IsMultiple id) Anything
reads_multiple id =
    reads_map (λ x. Product id x.0 x.1.0 x.1.1) (IsMultiple id)
    (reads_behind (codes "* ") (reads_then (reads_ended (codes ", ") (reads_number 15) (λ rest. refl))
    (reads_then (reads_ended (codes ", ") reads_poly ends_comma) (reads_ended (codes ";") reads_poly ends_semicolon) (λ front y rest is f. tt)) (λ front y rest is f. tt)))
    (λ bytes x h. there bytes x.0 x.1.0 x.1.1 h)
    (λ bytes y h. (
      (h.0, (h.1, h.2)),
      (
        _,
        (h.4.0 ++ codes ", ", (h.4.1 ++ codes ", ") ++ (h.4.2 ++ codes ";"), (h.4.0, h.4.3, refl), (h.4.1 ++ codes ", ", h.4.2 ++ codes ";", (h.4.1, h.4.4, refl), (h.4.2, h.4.5, refl), refl), refl),
        h.4.6 ∙ sym (three_fields (codes "* ") h.4.0 (codes ", ") h.4.1 h.4.2 (codes ";")),
      ),
      sym h.3,
    ))
  where
    there : (bytes : List ℕ) (i : ℕ) (q p : Polynomial) → BehindText (codes "* ") (Then (Field (codes ", ")) (Then (Ended IsPolynomial (codes ", ")) (Ended IsPolynomial (codes ";")))) bytes (i, (q, p)) → IsMultiple id bytes (Product id i q p)
    there bytes i q p h = (
      i,
      q,
      p,
      refl,
      (
        h.1.2.0,
        h.1.3.2.0,
        h.1.3.3.0,
        h.1.2.1,
        h.1.3.2.1,
        h.1.3.3.1,
        h.2 ∙ ap (λ z. codes "* " ++ z) (h.1.4 ∙ ap₂ ◌++◌ h.1.2.2 (h.1.3.4 ∙ ap₂ ◌++◌ h.1.3.2.2 h.1.3.3.2)) ∙ three_fields (codes "* ") h.1.2.0 (codes ", ") h.1.3.2.0 h.1.3.3.0 (codes ";"),
      ),
    )

abbrev IsCombination : ℕ → List ℕ → Line → Type 0
IsCombination id bytes x = (parts : List Part) × (p : Polynomial) × (x ≡ Combination id parts p) × ((sum poly : List ℕ) × AreParts sum parts × IsPolynomial poly p ×
    (bytes ≡ codes "% " ++ sum ++ codes ", " ++ poly ++ codes ";"))

reads_combination : (id : ℕ) → IsReaderOf (combination_at id) (IsCombination id) Anything
reads_combination id =
    reads_map (λ x. Combination id x.0 x.1) (IsCombination id)
    (reads_behind (codes "% ") (reads_then (reads_ended (codes ", ") reads_parts (λ rest. (refl, tt))) (reads_ended (codes ";") reads_poly ends_semicolon) (λ front y rest is f. tt)))
    (λ bytes x h. there bytes x.0 x.1 h)
    (λ bytes y h. ((h.0, h.1), (_, (h.3.0 ++ codes ", ", h.3.1 ++ codes ";", (h.3.0, h.3.2, refl), (h.3.1, h.3.3, refl), refl), h.3.4 ∙ sym (two_fields (codes "% ") h.3.0 (codes ", ") h.3.1 (codes ";"))), sym h.2))
  where
    there : (bytes : List ℕ) (parts : List Part) (p : Polynomial) → BehindText (codes "% ") (Then (Ended AreParts (codes ", ")) (Ended IsPolynomial (codes ";"))) bytes (parts, p) → IsCombination id bytes (Combination id parts p)
    there bytes parts p h = (
      parts,
      p,
      refl,
      (
        h.1.2.0,
        h.1.3.0,
        h.1.2.1,
        h.1.3.1,
        h.2 ∙ ap (λ z. codes "% " ++ z) (h.1.4 ∙ ap₂ ◌++◌ h.1.2.2 h.1.3.2) ∙ two_fields (codes "% ") h.1.2.0 (codes ", ") h.1.3.0 (codes ";"),
      ),
    )

abbrev IsImport : ℕ → List ℕ → Line → Type 0
IsImport id bytes x = (number : ℕ) × (p : Polynomial) × (x ≡ Import id number p) × ((digits poly : List ℕ) × IsNumeral 15 digits number × IsPolynomial poly p ×
    (bytes ≡ codes "c " ++ digits ++ codes ", " ++ poly ++ codes ";"))

reads_import : (id : ℕ) → IsReaderOf (import_at id) (IsImport id) Anything
reads_import id =
    reads_map (λ x. Import id x.0 x.1) (IsImport id)
    (reads_behind (codes "c ") (reads_then (reads_ended (codes ", ") (reads_number 15) (λ rest. refl)) (reads_ended (codes ";") reads_poly ends_semicolon) (λ front y rest is f. tt)))
    (λ bytes x h. there bytes x.0 x.1 h)
    (λ bytes y h. ((h.0, h.1), (_, (h.3.0 ++ codes ", ", h.3.1 ++ codes ";", (h.3.0, h.3.2, refl), (h.3.1, h.3.3, refl), refl), h.3.4 ∙ sym (two_fields (codes "c ") h.3.0 (codes ", ") h.3.1 (codes ";"))), sym h.2))
  where
    there : (bytes : List ℕ) (number : ℕ) (p : Polynomial) → BehindText (codes "c ") (Then (Field (codes ", ")) (Ended IsPolynomial (codes ";"))) bytes (number, p) → IsImport id bytes (Import id number p)
    there bytes number p h = (
      number,
      p,
      refl,
      (
        h.1.2.0,
        h.1.3.0,
        h.1.2.1,
        h.1.3.1,
        h.2 ∙ ap (λ z. codes "c " ++ z) (h.1.4 ∙ ap₂ ◌++◌ h.1.2.2 h.1.3.2) ∙ two_fields (codes "c ") h.1.2.0 (codes ", ") h.1.3.0 (codes ";"),
      ),
    )

-- what only versions above 1 have
abbrev InSecond : {A : Type 0} → ℕ → (List ℕ → A → Type 0) → List ℕ → A → Type 0
InSecond version Is bytes x = (1 < version) × Is bytes x

reads_second : {A : Type 0} {item : Reader A} {Is : List ℕ → A → Type 0} (version : ℕ) → IsReaderOf item Is Anything → IsReaderOf (second_at version item) (InSecond version Is) Anything
reads_second {A} {item} {Is} version r = record { takes = λ bytes x rest h. takes bytes x rest (nat_lt 1 version) refl h; again = again }
  where
    takes : (bytes : List ℕ) (x : A) (rest : List ℕ) (b : Bool) → nat_lt 1 version ≡ b → cond b (item bytes) None ≡ Some (x, rest) → (front : List ℕ) × InSecond version Is front x × (bytes ≡ front ++ rest)
    takes bytes x rest true e h = let t = r.takes bytes x rest h in (t.0, (ltb-true 1 version e, t.1), t.2)
    takes bytes x rest false e h = absurd (cc)

    again : (front : List ℕ) (x : A) (rest : List ℕ) → InSecond version Is front x → Anything rest → second_at version item (front ++ rest) ≡ Some (x, rest)
    again front x rest h any = ap (λ b. cond b (item (front ++ rest)) None) (lt-ltb 1 version h.0) ∙ r.again front x rest h.1 any

abbrev IsDrop : ℕ → List ℕ → Line → Type 0
IsDrop id bytes x = (x ≡ Delete id) × (bytes ≡ codes "d;")

reads_drop : (id : ℕ) → IsReaderOf (drop_at id) (IsDrop id) Anything
reads_drop id = reads_text (codes "d;") (Delete id)

abbrev IsKind : ℕ → ℕ → List ℕ → Line → Type 0
IsKind version id bytes x = IsSum id bytes x ⊎ (IsMultiple id bytes x ⊎ (IsCombination id bytes x ⊎ (InSecond version (IsImport id) bytes x ⊎ IsDrop id bytes x)))

-- a text that begins with a byte
first_of_text : (test : ℕ → Bool) (b : ℕ) (more bytes : List ℕ) → test b ≡ true → bytes ≡ b ∷ more → OneOf test bytes
first_of_text test b more bytes h e = subst (OneOf test) (sym e) h

other_of_text : (test : ℕ → Bool) (b : ℕ) (more bytes : List ℕ) → test b ≡ false → bytes ≡ b ∷ more → OtherOf test bytes
other_of_text test b more bytes h e = subst (OtherOf test) (sym e) h

reads_kind : (version id : ℕ) → IsReaderOf (choose_at (λ b. b == 43) (sum_at id) (choose_at (λ b. b == 42) (multiple_at id) (choose_at (λ b. b == 37) (combination_at id)
    (choose_at (λ b. b == 99) (second_at version (import_at id)) (drop_at id))))) (IsKind version id) Anything
reads_kind version id =
    reads_choice (λ b. b == 43) (reads_sum id)
    (reads_choice (λ b. b == 42) (reads_multiple id)
    (reads_choice (λ b. b == 37) (reads_combination id)
    (reads_choice (λ b. b == 99) (reads_second version (reads_import id)) (reads_drop id) (λ front x h. first_of_text (λ b. b == 99) 99 _ front refl h.1.3.4) (λ front x h. other_of_text (λ b. b == 99) 100 _ front refl h.1))
    (λ front x h. first_of_text (λ b. b == 37) 37 _ front refl h.3.4) (λ front x h. import_or_drop (λ b. b == 37) refl refl front x h))
    (λ front x h. first_of_text (λ b. b == 42) 42 _ front refl h.4.6)
    (λ front x h. ⊎_elim (λ c. other_of_text (λ b. b == 42) 37 _ front refl c.3.4) (λ d. import_or_drop (λ b. b == 42) refl refl front x d) h))
    (λ front x h. first_of_text (λ b. b == 43) 43 _ front refl h.4.6)
    (λ front x h. ⊎_elim (λ m. other_of_text (λ b. b == 43) 42 _ front refl m.4.6)
    (λ r. ⊎_elim (λ c. other_of_text (λ b. b == 43) 37 _ front refl c.3.4) (λ d. import_or_drop (λ b. b == 43) refl refl front x d) r) h)
  where
    import_or_drop : (test : ℕ → Bool) → test 99 ≡ false → test 100 ≡ false → (front : List ℕ) (x : Line) → InSecond version (IsImport id) front x ⊎ IsDrop id front x → OtherOf test front
    import_or_drop test c d front x h = ⊎_elim (λ i. other_of_text test 99 _ front c i.1.3.4) (λ z. other_of_text test 100 _ front d z.1) h

-- the new id with a space, and the rest by its kind
abbrev IsIdAndKind : ℕ → List ℕ → Line → Type 0
IsIdAndKind version = Bind (Field (codes " ")) (IsKind version)

line_there : (version : ℕ) (bytes : List ℕ) (x : Line) → IsIdAndKind version bytes x → IsLineText version bytes x
line_there version bytes x h =
    ⊎_elim (λ s. subst (IsLineText version bytes) (sym s.3) (h.1.2.0, s.4.0, s.4.1, s.4.2, h.1.2.1, s.4.3, s.4.4, s.4.5, join s.4.6 ∙ sum_text h.1.2.0 s.4.0 s.4.1 s.4.2))
    (λ r. ⊎_elim (λ m. subst (IsLineText version bytes) (sym m.3) (h.1.2.0, m.4.0, m.4.1, m.4.2, h.1.2.1, m.4.3, m.4.4, m.4.5, join m.4.6 ∙ multiple_text h.1.2.0 m.4.0 m.4.1 m.4.2))
    (λ q. ⊎_elim (λ c. subst (IsLineText version bytes) (sym c.2) (h.1.2.0, c.3.0, c.3.1, h.1.2.1, c.3.2, c.3.3, join c.3.4 ∙ combination_text h.1.2.0 c.3.0 c.3.1))
    (λ t. ⊎_elim (λ i. subst (IsLineText version bytes) (sym i.1.2) (i.0, (h.1.2.0, i.1.3.0, i.1.3.1, h.1.2.1, i.1.3.2, i.1.3.3, join i.1.3.4 ∙ import_text h.1.2.0 i.1.3.0 i.1.3.1)))
    (λ d. subst (IsLineText version bytes) (sym d.0) (h.1.2.0, h.1.2.1, join d.1 ∙ append_assoc h.1.2.0 (codes " ") (codes "d;"))) t) q) r) h.1.3
  where
    join : {text : List ℕ} → h.1.1 ≡ text → bytes ≡ h.1.2.0 ++ codes " " ++ text
    join e = h.1.4 ∙ ap₂ ◌++◌ h.1.2.2 e

    sum_text : (new left right poly : List ℕ) → new ++ codes " " ++ (codes "+ " ++ left ++ codes ", " ++ right ++ codes ", " ++ poly ++ codes ";") ≡ new ++ codes " + " ++ left ++ codes ", " ++ right ++ codes ", " ++ poly ++ codes ";"
    sum_text new left right poly = simp append_assoc

    multiple_text : (new left right poly : List ℕ) → new ++ codes " " ++ (codes "* " ++ left ++ codes ", " ++ right ++ codes ", " ++ poly ++ codes ";") ≡ new ++ codes " * " ++ left ++ codes ", " ++ right ++ codes ", " ++ poly ++ codes ";"
    multiple_text new left right poly = simp append_assoc

    combination_text : (new sum poly : List ℕ) → new ++ codes " " ++ (codes "% " ++ sum ++ codes ", " ++ poly ++ codes ";") ≡ new ++ codes " % " ++ sum ++ codes ", " ++ poly ++ codes ";"
    combination_text new sum poly = simp append_assoc

    import_text : (new digits poly : List ℕ) → new ++ codes " " ++ (codes "c " ++ digits ++ codes ", " ++ poly ++ codes ";") ≡ new ++ codes " c " ++ digits ++ codes ", " ++ poly ++ codes ";"
    import_text new digits poly = simp append_assoc

line_back : (version : ℕ) (bytes : List ℕ) (x : Line) → IsLineText version bytes x → IsIdAndKind version bytes x
line_back version bytes (Sum id i j p) h =
    (id, (h.0 ++ codes " ", codes "+ " ++ h.1 ++ codes ", " ++ h.2 ++ codes ", " ++ h.3 ++ codes ";", (h.0, h.4, refl), inl (i, j, p, refl, (h.1, h.2, h.3, h.5, h.6, h.7, refl)), h.8 ∙ simp append_assoc))
line_back version bytes (Product id i q p) h =
    (id, (h.0 ++ codes " ", codes "* " ++ h.1 ++ codes ", " ++ h.2 ++ codes ", " ++ h.3 ++ codes ";", (h.0, h.4, refl), inr (inl (i, q, p, refl, (h.1, h.2, h.3, h.5, h.6, h.7, refl))), h.8 ∙ simp append_assoc))
line_back version bytes (Combination id parts p) h =
    (id, (h.0 ++ codes " ", codes "% " ++ h.1 ++ codes ", " ++ h.2 ++ codes ";", (h.0, h.3, refl), inr (inr (inl (parts, p, refl, (h.1, h.2, h.4, h.5, refl)))), h.6 ∙ simp append_assoc))
line_back version bytes (Import id number p) h =
    (id, (h.1.0 ++ codes " ", codes "c " ++ h.1.1 ++ codes ", " ++ h.1.2 ++ codes ";", (h.1.0, h.1.3, refl), inr (inr (inr (inl (h.0, (number, p, refl, (h.1.1, h.1.2, h.1.4, h.1.5, refl)))))), h.1.6 ∙ simp append_assoc))
line_back version bytes (Delete id) h = (id, (h.0 ++ codes " ", codes "d;", (h.0, h.1, refl), inr (inr (inr (inr (refl, refl)))), h.2 ∙ sym (append_assoc h.0 (codes " ") (codes "d;"))))

pub reads_line : (version : ℕ) → IsReaderOf (algebra_line_at version) (IsLineText version) Anything
unfolding algebra_line_at
reads_line version = reads_as (IsLineText version) (reads_bind (reads_ended (codes " ") (reads_number 15) (λ rest. refl)) (reads_kind version)) (line_there version) (line_back version)

pub reads_close : IsReaderOf close_at IsCloseText Anything
reads_close =
    reads_as IsCloseText (reads_behind (codes "q ") (reads_ended (codes ";") (reads_number 15) (λ rest. refl)))
    (λ bytes id h. (h.1.0, h.1.1, h.2 ∙ ap (λ z. codes "q " ++ z) h.1.2 ∙ sym (append_assoc (codes "q ") h.1.0 (codes ";"))))
    (λ bytes id h. (h.0 ++ codes ";", (h.0, h.1, refl), h.2 ∙ append_assoc (codes "q ") h.0 (codes ";")))

-- a reader that whatever follows doesn't disturb
exactly : {A : Type 0} {item : Reader A} {Is : List ℕ → A → Type 0} → IsReaderOf item Is Anything → (bytes : List ℕ) (x : A) (rest : List ℕ) → (front : List ℕ) × Is front x × (bytes ≡ front ++ rest) → item bytes ≡ Some (x, rest)
exactly {A} {item} r bytes x rest h = ap item h.2 ∙ r.again h.0 x rest h.1 tt

pub algebra_line_is_read : AlgebraLineIsRead
algebra_line_is_read version bytes x rest = ((reads_line version).takes bytes x rest, exactly (reads_line version) bytes x rest)

pub close_is_read : CloseIsRead
close_is_read bytes id rest = (reads_close.takes bytes id rest, exactly reads_close bytes id rest)

-- ---- the whole text

abbrev IsEndedLine : ℕ → List ℕ → Line → Type 0
IsEndedLine version = Ended (IsLineText version) (newline ∷ [])

-- a line begins with a digit
pub line_first : (version : ℕ) (front : List ℕ) (x : Line) → IsLineText version front x → OneOf is_digit front
line_first version front (Sum id i j p) h = subst (OneOf is_digit) (sym h.8) (one_longer is_digit _ _ (one_longer is_digit _ _ (one_longer is_digit _ _ (one_longer is_digit _ _ (one_longer is_digit _ _ (one_longer is_digit _ _ (one_longer is_digit _ _ (numeral_first 15 h.0 id h.4))))))))
line_first version front (Product id i q p) h = subst (OneOf is_digit) (sym h.8) (one_longer is_digit _ _ (one_longer is_digit _ _ (one_longer is_digit _ _ (one_longer is_digit _ _ (one_longer is_digit _ _ (one_longer is_digit _ _ (one_longer is_digit _ _ (numeral_first 15 h.0 id h.4))))))))
line_first version front (Combination id parts p) h = subst (OneOf is_digit) (sym h.6) (one_longer is_digit _ _ (one_longer is_digit _ _ (one_longer is_digit _ _ (one_longer is_digit _ _ (one_longer is_digit _ _ (numeral_first 15 h.0 id h.3))))))
line_first version front (Import id number p) h = subst (OneOf is_digit) (sym h.1.6) (one_longer is_digit _ _ (one_longer is_digit _ _ (one_longer is_digit _ _ (one_longer is_digit _ _ (one_longer is_digit _ _ (numeral_first 15 h.1.0 id h.1.3))))))
line_first version front (Delete id) h = subst (OneOf is_digit) (sym h.2) (one_longer is_digit _ _ (numeral_first 15 h.0 id h.1))

pub reads_lines : (version : ℕ) → IsReaderOf (many_at is_digit (ended_at (algebra_line_at version) (newline ∷ []))) (AreMany (IsEndedLine version)) (λ rest. NoneOf is_digit rest × Anything rest)
reads_lines version =
    reads_many is_digit (ended_at (algebra_line_at version) (newline ∷ [])) (IsEndedLine version) Anything (reads_ended (newline ∷ []) (reads_line version) (λ rest. tt))
    (λ front x h. subst (OneOf is_digit) (sym h.2) (one_longer is_digit h.0 (newline ∷ []) (line_first version h.0 x h.1))) (λ rest h. tt)

lines_there : (version : ℕ) (bytes after : List ℕ) (xs : List Line) (front : List ℕ) → AreMany (IsEndedLine version) front xs → bytes ≡ front ++ after → AreLineTexts version bytes xs after
lines_there version bytes after [] front h e = e ∙ ap (λ z. z ++ after) h
lines_there version bytes after (x ∷ xs) front h e =
    (h.2.0, h.1 ++ after, h.2.1, lines_there version (h.1 ++ after) after xs h.1 h.3 refl, e ∙ ap (λ z. z ++ after) (h.4 ∙ ap (λ z. z ++ h.1) h.2.2) ∙ append_assoc (h.2.0 ++ newline ∷ []) h.1 after ∙ append_assoc h.2.0 (newline ∷ []) (h.1 ++ after))

lines_back : (version : ℕ) (bytes after : List ℕ) (xs : List Line) → AreLineTexts version bytes xs after → (front : List ℕ) × AreMany (IsEndedLine version) front xs × (bytes ≡ front ++ after)
lines_back version bytes after [] h = ([], refl, h)
lines_back version bytes after (x ∷ xs) h =
    let more = lines_back version h.1 after xs h.3 in (
      (h.0 ++ newline ∷ []) ++ more.0,
      (h.0 ++ newline ∷ [], more.0, (h.0, h.2, refl), more.1, refl),
      h.4 ∙ ap (λ z. h.0 ++ newline ∷ z) more.2 ∙ sym (append_assoc h.0 (newline ∷ []) (more.0 ++ after)) ∙ sym (append_assoc (h.0 ++ newline ∷ []) more.0 after),
    )

abbrev IsText : ℕ → List ℕ → List Line × ℕ → Type 0
IsText version = BehindText (algebra_header version) (Then (AreMany (IsEndedLine version)) (Ended IsCloseText (newline ∷ [])))

reads_text_all : (version : ℕ) → IsReaderOf (behind_at (algebra_header version) (then_at (many_at is_digit (ended_at (algebra_line_at version) (newline ∷ []))) (ended_at close_at (newline ∷ [])))) (IsText version) Anything
reads_text_all version =
    reads_behind (algebra_header version) (reads_then (reads_lines version) (reads_ended (newline ∷ []) reads_close (λ rest. tt)) (λ front y rest h any.
    (subst (λ z. NoneOf is_digit (z ++ rest)) (sym (h.2 ∙ ap (λ z. z ++ newline ∷ []) h.1.2)) refl, tt)))

pub end_takes : {A : Type 0} (o : Option (A × List ℕ)) (x : A) → at_end o ≡ Some x → o ≡ Some (x, [])
end_takes None x h = absurd (cc)
end_takes (Some (y, [])) x h = ap (λ z. Some (z, [])) (same_Some y x h)
end_takes (Some (y, b ∷ bytes)) x h = absurd (cc)

pub algebra_is_read : AlgebraIsRead
algebra_is_read version bytes lines closing = (there, back)
  where
    there : algebra_at version bytes ≡ Some (lines, closing) → IsAlgebraText version bytes lines closing
    there h =
        let t = (reads_text_all version).takes bytes (lines, closing) [] (end_takes _ (lines, closing) h) in
        let s = t.1 in
        let e = bytes_are t.0 s.0 t.2 s.2 in
        (s.0, s.1.1, s.1.3.1.0, s.1.3.1.1, lines_there version s.0 s.1.1 lines s.1.0 s.1.2 s.1.4, s.1.3.2 ∙ ap (λ z. z ++ newline ∷ []) s.1.3.1.2, e)
      where
        bytes_are : (front rest : List ℕ) → bytes ≡ front ++ [] → front ≡ (first_line version ++ newline ∷ []) ++ rest → bytes ≡ first_line version ++ newline ∷ rest
        bytes_are front rest e f = e ∙ append-nil front ∙ f ∙ append_assoc (first_line version) (newline ∷ []) rest

    back : IsAlgebraText version bytes lines closing → algebra_at version bytes ≡ Some (lines, closing)
    back h =
        let body = lines_back version h.0 h.1 lines h.4 in
        let is : IsText version bytes (lines, closing) =
        (h.0, (body.0, h.1, body.1, (codes "q " ++ h.2 ++ codes ";", (h.2, h.3, refl), h.5), body.2), h.6 ∙ sym (append_assoc (first_line version) (newline ∷ []) h.0)) in
        ap at_end (exactly (reads_text_all version) bytes (lines, closing) [] (bytes, is, sym (append-nil bytes)))

-- ---- one turn of each loop that reads

pub factors_next : (b : ℕ) (bytes : List ℕ) → factors_at (b ∷ bytes) ≡ cond (is_star b) (behind_at (codes "*x") (number_at 10) (b ∷ bytes) >>= (λ x. put_before x.0 (factors_at x.1))) (Some ([], b ∷ bytes))
factors_next = many_next is_star (behind_at (codes "*x") (number_at 10)) IsFactor (NoneOf is_digit) (reads_behind (codes "*x") (reads_number 10)) factor_first star_no_digit

pub terms_next : (b : ℕ) (bytes : List ℕ) → many_at is_sign signed_term_at (b ∷ bytes) ≡ cond (is_sign b) (signed_term_at (b ∷ bytes) >>= (λ x. put_before x.0 (many_at is_sign signed_term_at x.1))) (Some ([], b ∷ bytes))
terms_next = many_next is_sign signed_term_at HasSign EndsFactors reads_sign sign_first sign_ends

pub parts_next : (b : ℕ) (bytes : List ℕ) → many_at is_space (behind_at (codes " + ") part_at) (b ∷ bytes) ≡
    cond (is_space b) (behind_at (codes " + ") part_at (b ∷ bytes) >>= (λ x. put_before x.0 (many_at is_space (behind_at (codes " + ") part_at) x.1))) (Some ([], b ∷ bytes))
parts_next = many_next is_space (behind_at (codes " + ") part_at) IsLaterPart Anything (reads_behind (codes " + ") reads_part) later_first (λ rest h. tt)
