-- Numerals: what is read is one, and one is read.
use Rattle.std.specs.Prelude.{◌≡◌, ℕ, zero, suc, ◌+◌, ◌*◌, ◌-◌, ◌<◌, ◌≤◌, Bool, true, false, cond, ◌&&◌, List, [], ◌∷◌, ◌++◌, length, ◌==◌, nat_le, nat_lt, Result, Ok, Err}
use Rattle.std.specs.List.{AllByRecursion, fold}
use Rattle.std.proofs.Common.{refl, sym, ap, ap₂, subst, ◌∙◌, arith, eq-eqb, eqb-true, ltb-true, leb-true, lt-ltb, le-leb, ⊎_elim}
use Rattle.std.proofs.lemmas.Bool.{and_parts, ltb-false}
use Rattle.std.proofs.lemmas.List.Elements.{All-from_recursion, recursion_from_All}
use Rattle.graph_core.specs.Text.{IsDigit, IsNumeral, space}
use Rattle.graph_core.specs.Aiger.Reading.{Stop, Wrong, ◌>>=◌, Go, Done, No, Bad, advance, scan, from_start, Digits, Before, Behind, judged, ended, digit_step, numeral_at, field_at, number_below}
use Rattle.graph_core.proofs.OfTexts.Steady.{bind_ok, bind_err, same_Ok, started_wrong, started_ok}
use Rattle.graph_core.specs.Text.Numerals.{is_digit}

pub digit_is : (b : ℕ) → is_digit b ≡ true → IsDigit b
digit_is b h = let parts = and_parts (nat_le 48 b) (nat_lt b 58) h in (leb-true 48 b parts.0, ltb-true b 58 parts.1)

pub is_digit_of : (b : ℕ) → IsDigit b → is_digit b ≡ true
is_digit_of b h = ap₂ ◌&&◌ (le-leb 48 b h.0) (lt-ltb b 58 h.1)

-- the number with one more digit, and with more digits
abbrev pub with_digit : ℕ → ℕ → ℕ
with_digit n b = 10 * n + (b - 48)

abbrev pub with_digits : ℕ → List ℕ → ℕ
with_digits n digits = fold (λ m b. 10 * m + (b - 48)) n digits

module _ (ends fits : ℕ → Bool) where
  abbrev reads : Digits → List ℕ → Result ((ℕ × ℕ) × List ℕ) Stop
  reads s bytes = scan (digit_step ends fits) s bytes

  -- digits and the byte that ends them
  pub record HasDigits (k n : ℕ) (bytes : List ℕ) (m e : ℕ) (rest : List ℕ) : Type 0 where
    pub digits : List ℕ
    pub all : AllByRecursion IsDigit digits
    pub few : length digits ≤ k
    pub number : m ≡ with_digits n digits
    pub fit : fits m ≡ true
    pub stop : ends e ≡ true
    pub is : bytes ≡ digits ++ e ∷ rest

  last_takes : (k n b m e : ℕ) (bytes rest : List ℕ) → fits n ≡ true → (x : Bool) → ends b ≡ x →
      advance (λ t. reads t bytes) b bytes (cond x (Done (n, b)) No) ≡ Ok ((m, e), rest) → HasDigits k n (b ∷ bytes) m e rest
  last_takes k n b m e bytes rest fit true q h =
      let all = same_Ok ((n, b), bytes) ((m, e), rest) h in
      let P : ((ℕ × ℕ) × List ℕ) → Type 0 = λ p. HasDigits k n (b ∷ bytes) p.0.0 p.0.1 p.1 in
      subst P all (record { digits = []; all = tt; few = omega arith; number = refl; fit = fit; stop = q; is = refl })
  last_takes k n b m e bytes rest fit false q h = absurd (cc)

  one_longer : (k n b m e : ℕ) (bytes rest : List ℕ) → is_digit b ≡ true → HasDigits k (with_digit n b) bytes m e rest → HasDigits (suc k) n (b ∷ bytes) m e rest
  one_longer k n b m e bytes rest d r =
      let few = r.few in
      record { digits = b ∷ r.digits; all = (digit_is b d, r.all); few = omega arith; number = r.number; fit = r.fit; stop = r.stop; is = ap (λ ys. b ∷ ys) r.is }

  pub behind_takes : (bytes : List ℕ) (k n m e : ℕ) (rest : List ℕ) → fits n ≡ true → reads (Behind k n) bytes ≡ Ok ((m, e), rest) → HasDigits k n bytes m e rest
  behind_takes [] k n m e rest fit h = absurd (cc)
  behind_takes (b ∷ bytes) zero n m e rest fit h = last_takes 0 n b m e bytes rest fit (ends b) refl h
  behind_takes (b ∷ bytes) (suc k) n m e rest fit h = go (is_digit b) refl (fits (with_digit n b)) refl h (λ f g. behind_takes bytes k (with_digit n b) m e rest f g)
    where
      go : (c : Bool) → is_digit b ≡ c → (d : Bool) → fits (with_digit n b) ≡ d →
          advance (λ t. reads t bytes) b bytes (cond c (cond d (Go (Behind k (with_digit n b))) Bad) (ended ends n b)) ≡ Ok ((m, e), rest) →
          (fits (with_digit n b) ≡ true → reads (Behind k (with_digit n b)) bytes ≡ Ok ((m, e), rest) → HasDigits k (with_digit n b) bytes m e rest) → HasDigits (suc k) n (b ∷ bytes) m e rest
      go true p true q f more = one_longer k n b m e bytes rest p (more q f)
      go true p false q f more = absurd (cc)
      go false p d q f more = last_takes (suc k) n b m e bytes rest fit (ends b) refl f

  -- digits that make the number too large
  pub record HasTooMany (k n : ℕ) (bytes : List ℕ) : Type 0 where
    pub digits : List ℕ
    pub more : List ℕ
    pub some : 0 < length digits
    pub all : AllByRecursion IsDigit digits
    pub few : length digits ≤ k
    pub unfit : fits (with_digits n digits) ≡ false
    pub is : bytes ≡ digits ++ more

  last_not_wrong : (n b : ℕ) (bytes here : List ℕ) (x : Bool) → advance (λ t. reads t bytes) b bytes (cond x (Done (n, b)) No) ≡ Err (Wrong here) → ⊥
  last_not_wrong n b bytes here true h = cc
  last_not_wrong n b bytes here false h = cc

  wrong_longer : (k n b : ℕ) (bytes : List ℕ) → is_digit b ≡ true → HasTooMany k (with_digit n b) bytes → HasTooMany (suc k) n (b ∷ bytes)
  wrong_longer k n b bytes d r =
      let few = r.few in
      record { digits = b ∷ r.digits; more = r.more; some = omega arith; all = (digit_is b d, r.all); few = omega arith; unfit = r.unfit; is = ap (λ ys. b ∷ ys) r.is }

  pub behind_wrong : (bytes : List ℕ) (k n : ℕ) (here : List ℕ) → reads (Behind k n) bytes ≡ Err (Wrong here) → HasTooMany k n bytes
  behind_wrong [] k n here h = absurd (cc)
  behind_wrong (b ∷ bytes) zero n here h = absurd (last_not_wrong n b bytes here (ends b) h)
  behind_wrong (b ∷ bytes) (suc k) n here h = go (is_digit b) refl (fits (with_digit n b)) refl h (λ g. behind_wrong bytes k (with_digit n b) here g)
    where
      go : (c : Bool) → is_digit b ≡ c → (d : Bool) → fits (with_digit n b) ≡ d →
          advance (λ t. reads t bytes) b bytes (cond c (cond d (Go (Behind k (with_digit n b))) Bad) (ended ends n b)) ≡ Err (Wrong here) →
          (reads (Behind k (with_digit n b)) bytes ≡ Err (Wrong here) → HasTooMany k (with_digit n b) bytes) → HasTooMany (suc k) n (b ∷ bytes)
      go true p true q f more = wrong_longer k n b bytes p (more f)
      go true p false q f more = record { digits = b ∷ []; more = bytes; some = omega arith; all = (digit_is b p, tt); few = omega arith; unfit = q; is = refl }
      go false p d q f more = absurd (last_not_wrong n b bytes here (ends b) f)

  -- a number with too large a front is too large
  module _ (closed : (n b : ℕ) → fits (with_digit n b) ≡ true → fits n ≡ true) where
    fits_front : (digits : List ℕ) (n : ℕ) → fits (with_digits n digits) ≡ true → fits n ≡ true
    fits_front [] n h = h
    fits_front (b ∷ digits) n h = closed n b (fits_front digits (with_digit n b) h)

    pub behind_again : (digits : List ℕ) (k n e : ℕ) (rest : List ℕ) → AllByRecursion IsDigit digits → length digits ≤ k → fits (with_digits n digits) ≡ true → ends e ≡ true → is_digit e ≡ false →
        reads (Behind k n) (digits ++ e ∷ rest) ≡ Ok ((with_digits n digits, e), rest)
    behind_again [] zero n e rest all few fit stop other = ap (λ x. advance (λ t. reads t rest) e rest (cond x (Done (n, e)) No)) stop
    behind_again [] (suc k) n e rest all few fit stop other =
        ap (λ c. advance (λ t. reads t rest) e rest (cond c (judged fits k (with_digit n e)) (ended ends n e))) other ∙
        ap (λ x. advance (λ t. reads t rest) e rest (cond x (Done (n, e)) No)) stop
    behind_again (b ∷ digits) zero n e rest all few fit stop other = absurd (omega arith)
    behind_again (b ∷ digits) (suc k) n e rest all few fit stop other =
        let ys : List ℕ = digits ++ e ∷ rest in
        ap (λ c. advance (λ t. reads t (digits ++ e ∷ rest)) b (digits ++ e ∷ rest) (cond c (judged fits k (with_digit n b)) (ended ends n b))) (is_digit_of b all.0) ∙
        ap (λ d. advance (λ t. reads t (digits ++ e ∷ rest)) b (digits ++ e ∷ rest) (cond d (Go (Behind k (with_digit n b))) Bad)) (fits_front digits (with_digit n b) fit) ∙
        behind_again digits k (with_digit n b) e rest all.1 (omega arith) fit stop other

    pub wrong_again : (digits : List ℕ) (k n : ℕ) (more : List ℕ) → AllByRecursion IsDigit digits → length digits ≤ k → fits n ≡ true → fits (with_digits n digits) ≡ false →
        (here : List ℕ) × (reads (Behind k n) (digits ++ more) ≡ Err (Wrong here))
    wrong_again [] k n more all few fit unfit = let both = sym fit ∙ unfit in absurd (cc)
    wrong_again (b ∷ digits) zero n more all few fit unfit = absurd (omega arith)
    wrong_again (b ∷ digits) (suc k) n more all few fit unfit = go (fits (with_digit n b)) refl (λ f. wrong_again digits k (with_digit n b) more all.1 (omega arith) f unfit)
      where
        is : reads (Behind (suc k) n) (b ∷ (digits ++ more)) ≡ advance (λ t. reads t (digits ++ more)) b (digits ++ more) (judged fits k (with_digit n b))
        is = ap (λ c. advance (λ t. reads t (digits ++ more)) b (digits ++ more) (cond c (judged fits k (with_digit n b)) (ended ends n b))) (is_digit_of b all.0)

        go : (d : Bool) → fits (with_digit n b) ≡ d → (fits (with_digit n b) ≡ true → (here : List ℕ) × (reads (Behind k (with_digit n b)) (digits ++ more) ≡ Err (Wrong here))) →
            (here : List ℕ) × (reads (Behind (suc k) n) (b ∷ (digits ++ more)) ≡ Err (Wrong here))
        go true q later =
            let r = later q in
            (r.0, is ∙ ap (λ d. advance (λ t. reads t (digits ++ more)) b (digits ++ more) (cond d (Go (Behind k (with_digit n b))) Bad)) q ∙ r.1)
        go false q later = (b ∷ (digits ++ more), is ∙ ap (λ d. advance (λ t. reads t (digits ++ more)) b (digits ++ more) (cond d (Go (Behind k (with_digit n b))) Bad)) q)

  -- ---- from the first digit on

  pub numeral_takes : (bytes : List ℕ) (m e : ℕ) (rest : List ℕ) → reads Before bytes ≡ Ok ((m, e), rest) → (digits : List ℕ) × IsNumeral 10 digits m × (fits m ≡ true) × (ends e ≡ true) × (bytes ≡ digits ++ e ∷ rest)
  numeral_takes [] m e rest h = absurd (cc)
  numeral_takes (b ∷ bytes) m e rest h = go (is_digit b) refl (fits (with_digit 0 b)) refl h
    where
      go : (c : Bool) → is_digit b ≡ c → (d : Bool) → fits (with_digit 0 b) ≡ d →
          advance (λ t. reads t bytes) b bytes (cond c (cond d (Go (Behind 9 (with_digit 0 b))) Bad) No) ≡ Ok ((m, e), rest) →
          (digits : List ℕ) × IsNumeral 10 digits m × (fits m ≡ true) × (ends e ≡ true) × (b ∷ bytes ≡ digits ++ e ∷ rest)
      go true p true q f =
          let r = behind_takes bytes 9 (with_digit 0 b) m e rest q f in
          let few = r.few in (
            b ∷ r.digits,
            record { some = omega arith; few = omega arith; digits = All-from_recursion IsDigit (b ∷ r.digits) (digit_is b p, r.all); number = r.number },
            r.fit,
            r.stop,
            ap (λ ys. b ∷ ys) r.is,
          )
      go true p false q f = absurd (cc)
      go false p d q f = absurd (cc)

  pub numeral_wrong : (bytes here : List ℕ) → reads Before bytes ≡ Err (Wrong here) → (digits more : List ℕ) × (n : ℕ) × IsNumeral 10 digits n × (fits n ≡ false) × (bytes ≡ digits ++ more)
  numeral_wrong [] here h = absurd (cc)
  numeral_wrong (b ∷ bytes) here h = go (is_digit b) refl (fits (with_digit 0 b)) refl h
    where
      go : (c : Bool) → is_digit b ≡ c → (d : Bool) → fits (with_digit 0 b) ≡ d →
          advance (λ t. reads t bytes) b bytes (cond c (cond d (Go (Behind 9 (with_digit 0 b))) Bad) No) ≡ Err (Wrong here) →
          (digits more : List ℕ) × (n : ℕ) × IsNumeral 10 digits n × (fits n ≡ false) × (b ∷ bytes ≡ digits ++ more)
      go true p true q f =
          let r = behind_wrong bytes 9 (with_digit 0 b) here f in
          let few = r.few in (
            b ∷ r.digits,
            r.more,
            with_digits (with_digit 0 b) r.digits,
            record { some = omega arith; few = omega arith; digits = All-from_recursion IsDigit (b ∷ r.digits) (digit_is b p, r.all); number = refl },
            r.unfit,
            ap (λ ys. b ∷ ys) r.is,
          )
      go true p false q f = (b ∷ [], bytes, with_digit 0 b, record { some = omega arith; few = omega arith; digits = All-from_recursion IsDigit (b ∷ []) (digit_is b p, tt); number = refl }, q, refl)
      go false p d q f = absurd (cc)

  module _ (closed : (n b : ℕ) → fits (with_digit n b) ≡ true → fits n ≡ true) where
    before : (b : ℕ) (bytes : List ℕ) → IsDigit b → reads Before (b ∷ bytes) ≡ advance (λ t. reads t bytes) b bytes (judged fits 9 (with_digit 0 b))
    before b bytes d = ap (λ c. advance (λ t. reads t bytes) b bytes (cond c (judged fits 9 (with_digit 0 b)) No)) (is_digit_of b d)

    pub numeral_again : (digits : List ℕ) (n e : ℕ) (rest : List ℕ) → IsNumeral 10 digits n → fits n ≡ true → ends e ≡ true → is_digit e ≡ false → reads Before (digits ++ e ∷ rest) ≡ Ok ((n, e), rest)
    numeral_again [] n e rest numeral fit stop other = absurd (omega (arith, numeral.some))
    numeral_again (b ∷ digits) n e rest numeral fit stop other =
        let all = recursion_from_All IsDigit (b ∷ digits) numeral.digits in
        let fit_all : fits (with_digits (with_digit 0 b) digits) ≡ true = subst (λ m. fits m ≡ true) numeral.number fit in
        before b (digits ++ e ∷ rest) all.0 ∙
        ap (λ d. advance (λ t. reads t (digits ++ e ∷ rest)) b (digits ++ e ∷ rest) (cond d (Go (Behind 9 (with_digit 0 b))) Bad)) (fits_front closed digits (with_digit 0 b) fit_all) ∙
        behind_again closed digits 9 (with_digit 0 b) e rest all.1 (omega (arith, numeral.few)) fit_all stop other ∙
        ap (λ m. Ok ((m, e), rest)) (sym numeral.number)

    pub unfit_again : (digits : List ℕ) (n : ℕ) (more : List ℕ) → IsNumeral 10 digits n → fits n ≡ false → (here : List ℕ) × (reads Before (digits ++ more) ≡ Err (Wrong here))
    unfit_again [] n more numeral unfit = absurd (omega (arith, numeral.some))
    unfit_again (b ∷ digits) n more numeral unfit = go (fits (with_digit 0 b)) refl
      where
        all : AllByRecursion IsDigit (b ∷ digits)
        all = recursion_from_All IsDigit (b ∷ digits) numeral.digits

        step : (d : Bool) → fits (with_digit 0 b) ≡ d → reads Before (b ∷ (digits ++ more)) ≡ advance (λ t. reads t (digits ++ more)) b (digits ++ more) (cond d (Go (Behind 9 (with_digit 0 b))) Bad)
        step d q = before b (digits ++ more) all.0 ∙ ap (λ x. advance (λ t. reads t (digits ++ more)) b (digits ++ more) (cond x (Go (Behind 9 (with_digit 0 b))) Bad)) q

        go : (d : Bool) → fits (with_digit 0 b) ≡ d → (here : List ℕ) × (reads Before (b ∷ (digits ++ more)) ≡ Err (Wrong here))
        go true q =
            let r = wrong_again closed digits 9 (with_digit 0 b) more all.1 (omega (arith, numeral.few)) q (subst (λ m. fits m ≡ false) numeral.number unfit) in
            (r.0, step true q ∙ r.1)
        go false q = (b ∷ (digits ++ more), step false q)

-- ---- fields

pub field_takes : (x : ℕ) (bytes : List ℕ) (n : ℕ) (rest : List ℕ) → field_at x bytes ≡ Ok (n, rest) → (digits : List ℕ) × IsNumeral 10 digits n × (bytes ≡ digits ++ x ∷ rest)
field_takes x bytes n rest h =
    let o = bind_ok (numeral_at (λ b. b == x) bytes) (λ m. Ok (m.0.0, m.1)) (n, rest) h in
    let t = numeral_takes (λ b. b == x) (λ m. true) bytes o.0.0.0 o.0.0.1 o.0.1 o.1 in
    let e = same_Ok (o.0.0.0, o.0.1) (n, rest) o.2 in
    (t.0, subst (IsNumeral 10 t.0) (ap (λ p. p.0) e) t.1, t.4 ∙ ap₂ (λ b ys. t.0 ++ b ∷ ys) (eqb-true o.0.0.1 x t.3) (ap (λ p. p.1) e))

pub field_again : (x : ℕ) (digits : List ℕ) (n : ℕ) (rest : List ℕ) → is_digit x ≡ false → IsNumeral 10 digits n → field_at x (digits ++ x ∷ rest) ≡ Ok (n, rest)
field_again x digits n rest other numeral =
    ap (λ o. o >>= λ m. Ok (m.0.0, m.1)) (numeral_again (λ b. b == x) (λ m. true) (λ m b h. refl) digits n x rest numeral refl (eq-eqb x x refl) other)

pub numeral_not_wrong : (ends : ℕ → Bool) (bytes here : List ℕ) → numeral_at ends bytes ≡ Err (Wrong here) → ⊥
numeral_not_wrong ends bytes here h = let w = numeral_wrong ends (λ n. true) bytes here h in let f = w.4 in cc

pub field_not_wrong : (x : ℕ) (bytes here : List ℕ) → field_at x bytes ≡ Err (Wrong here) → ⊥
field_not_wrong x bytes here h =
    ⊎_elim (numeral_not_wrong (λ b. b == x) bytes here) (λ o. let f = o.2 in cc) (bind_err (numeral_at (λ b. b == x) bytes) (λ m. Ok (m.0.0, m.1)) (Wrong here) h)

-- ---- numbers below a bound

pub not_below : (n bound : ℕ) → bound ≤ n → nat_lt n bound ≡ false
not_below n bound h = go (nat_lt n bound) refl
  where
    go : (c : Bool) → nat_lt n bound ≡ c → nat_lt n bound ≡ false
    go true e = let less = ltb-true n bound e in absurd (omega arith)
    go false e = e

below_closed : (bound n b : ℕ) → nat_lt (with_digit n b) bound ≡ true → nat_lt n bound ≡ true
below_closed bound n b h = lt-ltb n bound (omega (arith, ltb-true (with_digit n b) bound h))

pub below_takes : (bound : ℕ) (bytes : List ℕ) (n : ℕ) (rest : List ℕ) → number_below bound bytes ≡ Ok (n, rest) → (digits : List ℕ) × IsNumeral 10 digits n × (n < bound) × (bytes ≡ digits ++ space ∷ rest)
below_takes bound bytes n rest h =
    let R : Result ((ℕ × ℕ) × List ℕ) Stop = scan (digit_step (λ b. b == space) (λ m. nat_lt m bound)) Before bytes in
    let o = bind_ok (from_start bytes R) (λ m. Ok (m.0.0, m.1)) (n, rest) h in
    let t = numeral_takes (λ b. b == space) (λ m. nat_lt m bound) bytes o.0.0.0 o.0.0.1 o.0.1 (started_ok bytes R o.0 o.1) in
    let e = same_Ok (o.0.0.0, o.0.1) (n, rest) o.2 in (
      t.0,
      subst (IsNumeral 10 t.0) (ap (λ p. p.0) e) t.1,
      subst (λ m. m < bound) (ap (λ p. p.0) e) (ltb-true o.0.0.0 bound t.2),
      t.4 ∙ ap₂ (λ b ys. t.0 ++ b ∷ ys) (eqb-true o.0.0.1 space t.3) (ap (λ p. p.1) e),
    )

pub below_again : (bound : ℕ) (digits : List ℕ) (n : ℕ) (rest : List ℕ) → IsNumeral 10 digits n → n < bound → number_below bound (digits ++ space ∷ rest) ≡ Ok (n, rest)
below_again bound digits n rest numeral less =
    ap (λ o. from_start (digits ++ space ∷ rest) o >>= λ m. Ok (m.0.0, m.1)) (numeral_again (λ b. b == space) (λ m. nat_lt m bound) (below_closed bound) digits n space rest numeral (lt-ltb n bound less) refl refl)

pub below_wrong : (bound : ℕ) (bytes here : List ℕ) → number_below bound bytes ≡ Err (Wrong here) → (bytes ≡ here) × ((digits more : List ℕ) × (n : ℕ) × IsNumeral 10 digits n × (bound ≤ n) × (bytes ≡ digits ++ more))
below_wrong bound bytes here h = ⊎_elim early (λ o. let f = o.2 in absurd (cc)) (bind_err (from_start bytes R) (λ m. Ok (m.0.0, m.1)) (Wrong here) h)
  where
    R : Result ((ℕ × ℕ) × List ℕ) Stop
    R = scan (digit_step (λ b. b == space) (λ m. nat_lt m bound)) Before bytes

    early : from_start bytes R ≡ Err (Wrong here) → (bytes ≡ here) × ((digits more : List ℕ) × (n : ℕ) × IsNumeral 10 digits n × (bound ≤ n) × (bytes ≡ digits ++ more))
    early e =
        let w = started_wrong bytes R here e in
        let t = numeral_wrong (λ b. b == space) (λ m. nat_lt m bound) bytes w.1.0 w.1.1 in
        (w.0, (t.0, t.1, t.2, t.3, not_less t.2 t.4, t.5))
      where
        not_less : (n : ℕ) → nat_lt n bound ≡ false → bound ≤ n
        not_less n e = ltb-false n bound e

pub below_wrong_again : (bound : ℕ) (digits : List ℕ) (n : ℕ) (more : List ℕ) → IsNumeral 10 digits n → bound ≤ n → number_below bound (digits ++ more) ≡ Err (Wrong (digits ++ more))
below_wrong_again bound digits n more numeral high =
    let w = unfit_again (λ b. b == space) (λ m. nat_lt m bound) (below_closed bound) digits n more numeral (not_below n bound high) in
    ap (λ o. from_start (digits ++ more) o >>= λ m. Ok (m.0.0, m.1)) w.1
