-- Lines of numbers and the header: what is read is one, and one is read.
use Rattle.std.specs.Prelude.{◌≡◌, ℕ, zero, suc, ◌<◌, ◌≤◌, Bool, true, false, cond, ◌||◌, List, [], ◌∷◌, ◌++◌, length, ◌==◌, Option, Some, None, Result, Ok, Err}
use Rattle.std.specs.List.{AllByRecursion}
use Rattle.std.proofs.Common.{refl, sym, ap, ap₂, subst, ◌∙◌, arith, append_assoc, eqb-true, ⊎_elim}
use Rattle.std.proofs.lemmas.Option.{same_Some}
use Rattle.graph_core.specs.Text.{IsNumeral, IsLine, AreLines, space, newline}
use Rattle.graph_core.specs.Aiger.{Form, Ascii, Binary}
use Rattle.graph_core.specs.Aiger.Refusal.{letters, IsHeaderText}
use Rattle.graph_core.specs.Aiger.Reading.{Stop, Wrong, ◌>>=◌, advance, scan, done_if, byte_where, the_byte, byte_at, numeral_at, field_at, line_at, lines_at, behind_number, one_less, numbers_at, form_of, header_at}
use Rattle.graph_core.proofs.OfTexts.Steady.{bind_ok, bind_err, same_Ok}
use Rattle.graph_core.proofs.OfTexts.Numerals.{numeral_takes, numeral_again, numeral_not_wrong, field_takes, field_again, field_not_wrong}

-- a line of k + 1 numbers at the front
abbrev pub TakesLine : ℕ → List ℕ → List ℕ → List ℕ → Type 0
TakesLine k bytes ns rest = (line : List ℕ) × IsLine line ns × (length ns ≡ suc k) × (bytes ≡ line ++ rest)

longer_line : (k n : ℕ) (bytes digits middle ns rest : List ℕ) → IsNumeral 10 digits n → bytes ≡ digits ++ space ∷ middle → TakesLine k middle ns rest → TakesLine (suc k) bytes (n ∷ ns) rest
longer_line k n bytes digits middle [] rest numeral is more = absurd (more.1)
longer_line k n bytes digits middle (m ∷ ns) rest numeral is more = (
  digits ++ space ∷ more.0,
  (digits, more.0, numeral, more.1, refl),
  ap suc more.2,
  is ∙ ap (λ ys. digits ++ space ∷ ys) more.3 ∙ sym (append_assoc digits (space ∷ more.0) rest),
)

pub line_takes : (k : ℕ) (bytes ns rest : List ℕ) → line_at k bytes ≡ Ok (ns, rest) → TakesLine k bytes ns rest
line_takes zero bytes ns rest h =
    let first = bind_ok (field_at newline bytes) (λ n. Ok (n.0 ∷ [], n.1)) (ns, rest) h in
    let field = field_takes newline bytes first.0.0 first.0.1 first.1 in
    let same = same_Ok (first.0.0 ∷ [], first.0.1) (ns, rest) first.2 in
    let P : (List ℕ × List ℕ) → Type 0 = λ p. TakesLine 0 bytes p.0 p.1 in
    subst P same (field.0 ++ newline ∷ [], (field.0, field.1, refl), refl, field.2 ∙ sym (append_assoc field.0 (newline ∷ []) first.0.1))
line_takes (suc k) bytes ns rest h =
    let first = bind_ok (field_at space bytes) (λ n. line_at k n.1 >>= (λ ms. Ok (n.0 ∷ ms.0, ms.1))) (ns, rest) h in
    let second = bind_ok (line_at k first.0.1) (λ ms. Ok (first.0.0 ∷ ms.0, ms.1)) (ns, rest) first.2 in
    let field = field_takes space bytes first.0.0 first.0.1 first.1 in
    let more = line_takes k first.0.1 second.0.0 second.0.1 second.1 in
    let same = same_Ok (first.0.0 ∷ second.0.0, second.0.1) (ns, rest) second.2 in
    let P : (List ℕ × List ℕ) → Type 0 = λ p. TakesLine (suc k) bytes p.0 p.1 in
    subst P same (longer_line k first.0.0 bytes field.0 first.0.1 second.0.0 second.0.1 field.1 field.2 more)

pub line_again : (k : ℕ) (line ns rest : List ℕ) → IsLine line ns → length ns ≡ suc k → line_at k (line ++ rest) ≡ Ok (ns, rest)
line_again k line [] rest h e = absurd h
line_again zero line (n ∷ []) rest h e =
    ap (λ bytes. field_at newline bytes >>= (λ m. Ok (m.0 ∷ [], m.1))) (ap (λ l. l ++ rest) h.2 ∙ append_assoc h.0 (newline ∷ []) rest) ∙
    ap (λ o. o >>= (λ m. Ok (m.0 ∷ [], m.1))) (field_again newline h.0 n rest refl h.1)
line_again (suc k) line (n ∷ []) rest h e = absurd (omega arith)
line_again zero line (n ∷ m ∷ ns) rest h e = absurd (omega arith)
line_again (suc k) line (n ∷ m ∷ ns) rest h e =
    ap (λ bytes. field_at space bytes >>= (λ x. line_at k x.1 >>= (λ ms. Ok (x.0 ∷ ms.0, ms.1)))) (ap (λ l. l ++ rest) h.4 ∙ append_assoc h.0 (space ∷ h.1) rest) ∙
    ap (λ o. o >>= (λ x. line_at k x.1 >>= (λ ms. Ok (x.0 ∷ ms.0, ms.1)))) (field_again space h.0 n (h.1 ++ rest) refl h.2) ∙
    ap (λ o. o >>= (λ ms. Ok (n ∷ ms.0, ms.1))) (line_again k h.1 (m ∷ ns) rest h.3 (omega arith))

pub line_not_wrong : (k : ℕ) (bytes here : List ℕ) → line_at k bytes ≡ Err (Wrong here) → ⊥
line_not_wrong zero bytes here h =
    ⊎_elim (field_not_wrong newline bytes here) (λ o. let f = o.2 in cc) (bind_err (field_at newline bytes) (λ n. Ok (n.0 ∷ [], n.1)) (Wrong here) h)
line_not_wrong (suc k) bytes here h =
    ⊎_elim (field_not_wrong space bytes here)
    (λ o. ⊎_elim (line_not_wrong k o.0.1 here) (λ p. let f = p.2 in cc) (bind_err (line_at k o.0.1) (λ ns. Ok (o.0.0 ∷ ns.0, ns.1)) (Wrong here) o.2))
    (bind_err (field_at space bytes) (λ n. line_at k n.1 >>= λ ns. Ok (n.0 ∷ ns.0, ns.1)) (Wrong here) h)

-- each line has k + 1 numbers
abbrev pub Have : ℕ → List (List ℕ) → Type 0
Have k lines = AllByRecursion (λ ns. length ns ≡ suc k) lines

pub lines_takes : (k n : ℕ) (bytes : List ℕ) (lines : List (List ℕ)) (rest : List ℕ) → lines_at k n bytes ≡ Ok (lines, rest) → AreLines bytes lines rest × (length lines ≡ n) × Have k lines
lines_takes k zero bytes lines rest h =
    let same = same_Ok ([], bytes) (lines, rest) h in
    let P : (List (List ℕ) × List ℕ) → Type 0 = λ p. AreLines bytes p.0 p.1 × (length p.0 ≡ 0) × Have k p.0 in
    subst P same (refl, refl, tt)
lines_takes k (suc n) bytes lines rest h =
    let first = bind_ok (line_at k bytes) (λ l. lines_at k n l.1 >>= (λ ls. Ok (l.0 ∷ ls.0, ls.1))) (lines, rest) h in
    let second = bind_ok (lines_at k n first.0.1) (λ ls. Ok (first.0.0 ∷ ls.0, ls.1)) (lines, rest) first.2 in
    let line = line_takes k bytes first.0.0 first.0.1 first.1 in
    let more = lines_takes k n first.0.1 second.0.0 second.0.1 second.1 in
    let same = same_Ok (first.0.0 ∷ second.0.0, second.0.1) (lines, rest) second.2 in
    let P : (List (List ℕ) × List ℕ) → Type 0 = λ p. AreLines bytes p.0 p.1 × (length p.0 ≡ suc n) × Have k p.0 in
    subst P same ((line.0, first.0.1, line.1, more.0, line.3), ap suc more.1, (line.2, more.2))

pub lines_again : (k : ℕ) (bytes : List ℕ) (lines : List (List ℕ)) (rest : List ℕ) → AreLines bytes lines rest → Have k lines → lines_at k (length lines) bytes ≡ Ok (lines, rest)
lines_again k bytes [] rest h a = ap (λ b. Ok ([], b)) h
lines_again k bytes (ns ∷ lines) rest h a =
    ap (λ b. line_at k b >>= (λ l. lines_at k (length lines) l.1 >>= (λ ls. Ok (l.0 ∷ ls.0, ls.1)))) h.4 ∙
    ap (λ o. o >>= (λ l. lines_at k (length lines) l.1 >>= (λ ls. Ok (l.0 ∷ ls.0, ls.1)))) (line_again k h.0 ns h.1 h.2 a.0) ∙
    ap (λ o. o >>= (λ ls. Ok (ns ∷ ls.0, ls.1))) (lines_again k h.1 lines rest h.3 a.1)

pub lines_not_wrong : (k n : ℕ) (bytes here : List ℕ) → lines_at k n bytes ≡ Err (Wrong here) → ⊥
lines_not_wrong k zero bytes here h = cc
lines_not_wrong k (suc n) bytes here h =
    ⊎_elim (line_not_wrong k bytes here)
    (λ o. ⊎_elim (lines_not_wrong k n o.0.1 here) (λ p. let f = p.2 in cc) (bind_err (lines_at k n o.0.1) (λ ls. Ok (o.0.0 ∷ ls.0, ls.1)) (Wrong here) o.2))
    (bind_err (line_at k bytes) (λ l. lines_at k n l.1 >>= λ ls. Ok (l.0 ∷ ls.0, ls.1)) (Wrong here) h)

-- ---- the header's numbers

abbrev TakesNumbers : ℕ → ℕ → List ℕ → List ℕ → List ℕ → Type 0
TakesNumbers need more bytes ns rest = (line : List ℕ) × IsLine line ns × (need < length ns) × (length ns ≤ suc more) × (bytes ≡ line ++ rest)

behind_newline : (need more e : ℕ) → behind_number need (suc more) e ≡ true → (e == newline) ≡ true → need ≡ 0
behind_newline zero more e h q = refl
behind_newline (suc need) more e h q = let a = eqb-true e space h in let b = eqb-true e newline q in absurd (omega arith)

behind_space : (need more e : ℕ) → behind_number need (suc more) e ≡ true → (e == newline) ≡ false → e ≡ space
behind_space zero more e h q = go (e == newline) q h
  where
    go : (c : Bool) → c ≡ false → (c || (e == space)) ≡ true → e ≡ space
    go true f k = absurd (cc)
    go false f k = eqb-true e space k
behind_space (suc need) more e h q = eqb-true e space h

numbers_longer : (need more n : ℕ) (bytes digits middle ns rest : List ℕ) → IsNumeral 10 digits n → bytes ≡ digits ++ space ∷ middle → TakesNumbers (one_less need) more middle ns rest → TakesNumbers need (suc more) bytes (n ∷ ns) rest
numbers_longer need more n bytes digits middle [] rest numeral is t = absurd (t.1)
numbers_longer need more n bytes digits middle (m ∷ ns) rest numeral is t =
    let few = t.3 in (
      digits ++ space ∷ t.0,
      (digits, t.0, numeral, t.1, refl),
      enough need t.2,
      omega arith,
      is ∙ ap (λ ys. digits ++ space ∷ ys) t.4 ∙ sym (append_assoc digits (space ∷ t.0) rest),
    )
  where
    enough : (k : ℕ) → one_less k < suc (length ns) → k < suc (suc (length ns))
    enough zero h = omega arith
    enough (suc k) h = omega arith

one_newline : (bytes digits : List ℕ) (n : ℕ) (middle : List ℕ) → IsNumeral 10 digits n → bytes ≡ digits ++ newline ∷ middle → (line : List ℕ) × IsLine line (n ∷ []) × (bytes ≡ line ++ middle)
one_newline bytes digits n middle numeral is = (digits ++ newline ∷ [], (digits, numeral, refl), is ∙ sym (append_assoc digits (newline ∷ []) middle))

lower : (need more : ℕ) → need ≤ suc more → one_less need ≤ more
lower zero more h = omega arith
lower (suc need) more h = omega arith

abbrev behind_first : ℕ → ℕ → (ℕ × ℕ) × List ℕ → Result (List ℕ × List ℕ) Stop
behind_first need more x = cond (x.0.1 == newline) (Ok (x.0.0 ∷ [], x.1)) (numbers_at (one_less need) more x.1 >>= λ ms. Ok (x.0.0 ∷ ms.0, ms.1))

pub numbers_takes : (need more : ℕ) (bytes ns rest : List ℕ) → need ≤ more → numbers_at need more bytes ≡ Ok (ns, rest) → TakesNumbers need more bytes ns rest
numbers_takes need zero bytes ns rest few h =
    let first = bind_ok (field_at newline bytes) (λ n. Ok (n.0 ∷ [], n.1)) (ns, rest) h in
    let field = field_takes newline bytes first.0.0 first.0.1 first.1 in
    let same = same_Ok (first.0.0 ∷ [], first.0.1) (ns, rest) first.2 in
    let line = one_newline bytes field.0 first.0.0 first.0.1 field.1 field.2 in
    let P : (List ℕ × List ℕ) → Type 0 = λ p. TakesNumbers need 0 bytes p.0 p.1 in
    subst P same (line.0, line.1, omega arith, omega arith, line.2)
numbers_takes need (suc more) bytes ns rest few h = go (e == newline) refl first.2 (λ ms left. numbers_takes (one_less need) more mid ms left (lower need more few))
  where
    first : (x : (ℕ × ℕ) × List ℕ) × (numeral_at (behind_number need (suc more)) bytes ≡ Ok x) ×
        (behind_first need more x ≡ Ok (ns, rest))
    first = bind_ok (numeral_at (behind_number need (suc more)) bytes) (behind_first need more) (ns, rest) h

    n : ℕ
    n = first.0.0.0

    e : ℕ
    e = first.0.0.1

    mid : List ℕ
    mid = first.0.1

    t : (digits : List ℕ) × IsNumeral 10 digits n × (true ≡ true) × (behind_number need (suc more) e ≡ true) × (bytes ≡ digits ++ e ∷ mid)
    t = numeral_takes (behind_number need (suc more)) (λ m. true) bytes n e mid first.1

    go : (c : Bool) → (e == newline) ≡ c → cond {A = Result (List ℕ × List ℕ) Stop} c (Ok (n ∷ [], mid)) (numbers_at (one_less need) more mid >>= λ ms. Ok (n ∷ ms.0, ms.1)) ≡ Ok (ns, rest) →
        ((ms left : List ℕ) → numbers_at (one_less need) more mid ≡ Ok (ms, left) → TakesNumbers (one_less need) more mid ms left) → TakesNumbers need (suc more) bytes ns rest
    go true q f deeper =
        let line = one_newline bytes t.0 n mid t.1 (t.4 ∙ ap (λ y. t.0 ++ y ∷ mid) (eqb-true e newline q)) in
        let none = behind_newline need more e t.3 q in
        let P : (List ℕ × List ℕ) → Type 0 = λ p. TakesNumbers need (suc more) bytes p.0 p.1 in
        subst P (same_Ok (n ∷ [], mid) (ns, rest) f) (line.0, line.1, omega arith, omega arith, line.2)
    go false q f deeper =
        let second = bind_ok (numbers_at (one_less need) more mid) (λ ms. Ok (n ∷ ms.0, ms.1)) (ns, rest) f in
        let later = deeper second.0.0 second.0.1 second.1 in
        let P : (List ℕ × List ℕ) → Type 0 = λ p. TakesNumbers need (suc more) bytes p.0 p.1 in
        subst P (same_Ok (n ∷ second.0.0, second.0.1) (ns, rest) second.2)
        (numbers_longer need more n bytes t.0 mid second.0.0 second.0.1 t.1 (t.4 ∙ ap (λ y. t.0 ++ y ∷ mid) (behind_space need more e t.3 q)) later)

space_may : (need more : ℕ) → behind_number need (suc more) space ≡ true
space_may zero more = refl
space_may (suc need) more = refl

newline_may : (need more : ℕ) → need ≡ 0 → behind_number need (suc more) newline ≡ true
newline_may zero more h = refl
newline_may (suc need) more h = absurd (omega arith)

pub numbers_again : (need more : ℕ) (line ns rest : List ℕ) → IsLine line ns → need < length ns → length ns ≤ suc more → numbers_at need more (line ++ rest) ≡ Ok (ns, rest)
numbers_again need more line [] rest h some few = absurd h
numbers_again need zero line (n ∷ []) rest h some few =
    ap (λ bytes. field_at newline bytes >>= (λ m. Ok (m.0 ∷ [], m.1))) (ap (λ l. l ++ rest) h.2 ∙ append_assoc h.0 (newline ∷ []) rest) ∙
    ap (λ o. o >>= (λ m. Ok (m.0 ∷ [], m.1))) (field_again newline h.0 n rest refl h.1)
numbers_again need zero line (n ∷ m ∷ ns) rest h some few = absurd (omega arith)
numbers_again need (suc more) line (n ∷ []) rest h some few =
    ap (λ bytes. numeral_at (behind_number need (suc more)) bytes >>= behind_first need more) (ap (λ l. l ++ rest) h.2 ∙ append_assoc h.0 (newline ∷ []) rest) ∙
    ap (λ o. o >>= behind_first need more) (numeral_again (behind_number need (suc more)) (λ m. true) (λ m b e. refl) h.0 n newline rest h.1 refl (newline_may need more (omega arith)) refl)
numbers_again need (suc more) line (n ∷ m ∷ ns) rest h some few =
    ap (λ bytes. numeral_at (behind_number need (suc more)) bytes >>= behind_first need more) (ap (λ l. l ++ rest) h.4 ∙ append_assoc h.0 (space ∷ h.1) rest) ∙
    ap (λ o. o >>= behind_first need more) (numeral_again (behind_number need (suc more)) (λ m. true) (λ m b e. refl) h.0 n space (h.1 ++ rest) h.2 refl (space_may need more) refl) ∙
    ap (λ o. o >>= λ ms. Ok (n ∷ ms.0, ms.1)) (numbers_again (one_less need) more h.1 (m ∷ ns) rest h.3 (enough need some) (omega arith))
  where
    enough : (k : ℕ) → k < suc (suc (length ns)) → one_less k < suc (length ns)
    enough zero e = omega arith
    enough (suc k) e = omega arith

pub numbers_not_wrong : (need more : ℕ) (bytes here : List ℕ) → numbers_at need more bytes ≡ Err (Wrong here) → ⊥
numbers_not_wrong need zero bytes here h =
    ⊎_elim (field_not_wrong newline bytes here) (λ o. let f = o.2 in cc) (bind_err (field_at newline bytes) (λ n. Ok (n.0 ∷ [], n.1)) (Wrong here) h)
numbers_not_wrong need (suc more) bytes here h =
    ⊎_elim (numeral_not_wrong (behind_number need (suc more)) bytes here) (λ o. go o.0 (o.0.0.1 == newline) o.2 (numbers_not_wrong (one_less need) more o.0.1 here))
    (bind_err (numeral_at (behind_number need (suc more)) bytes) (behind_first need more) (Wrong here) h)
  where
    go : (x : (ℕ × ℕ) × List ℕ) (c : Bool) → cond {A = Result (List ℕ × List ℕ) Stop} c (Ok (x.0.0 ∷ [], x.1)) (numbers_at (one_less need) more x.1 >>= λ ms. Ok (x.0.0 ∷ ms.0, ms.1)) ≡ Err (Wrong here) → (numbers_at (one_less need) more x.1 ≡ Err (Wrong here) → ⊥) → ⊥
    go x true e more_not = cc
    go x false e more_not = ⊎_elim more_not (λ p. let f = p.2 in cc) (bind_err (numbers_at (one_less need) more x.1) (λ ms. Ok (x.0.0 ∷ ms.0, ms.1)) (Wrong here) e)

-- ---- single bytes and the header

pub where_takes : {A : Type 0} (meaning : ℕ → Option A) (bytes : List ℕ) (a : A) (rest : List ℕ) → byte_where meaning bytes ≡ Ok (a, rest) → (b : ℕ) × (meaning b ≡ Some a) × (bytes ≡ b ∷ rest)
where_takes meaning [] a rest h = absurd (cc)
where_takes {A} meaning (b ∷ bytes) a rest h = go (meaning b) refl h
  where
    go : (o : Option A) → meaning b ≡ o → advance {S = Unit {0}} (λ t. scan (λ s x. done_if (meaning x)) t bytes) b bytes (done_if o) ≡ Ok (a, rest) → (x : ℕ) × (meaning x ≡ Some a) × (b ∷ bytes ≡ x ∷ rest)
    go None e f = absurd (cc)
    go (Some y) e f = let same = same_Ok (y, bytes) (a, rest) f in (b, e ∙ ap (λ p. Some p.0) same, ap (λ p. b ∷ p.1) same)

pub where_again : {A : Type 0} (meaning : ℕ → Option A) (b : ℕ) (a : A) (rest : List ℕ) → meaning b ≡ Some a → byte_where meaning (b ∷ rest) ≡ Ok (a, rest)
where_again {A} meaning b a rest e = ap (λ o. advance {S = Unit {0}} (λ t. scan (λ s x. done_if (meaning x)) t rest) b rest (done_if o)) e

pub where_not_wrong : {A : Type 0} (meaning : ℕ → Option A) (bytes here : List ℕ) → byte_where meaning bytes ≡ Err (Wrong here) → ⊥
where_not_wrong meaning [] here h = cc
where_not_wrong {A} meaning (b ∷ bytes) here h = go (meaning b) h
  where
    go : (o : Option A) → advance {S = Unit {0}} (λ t. scan (λ s x. done_if (meaning x)) t bytes) b bytes (done_if o) ≡ Err (Wrong here) → ⊥
    go None f = cc
    go (Some y) f = cc

byte_takes : (x : ℕ) (bytes : List ℕ) (u : Unit {0}) (rest : List ℕ) → byte_at x bytes ≡ Ok (u, rest) → bytes ≡ x ∷ rest
byte_takes x bytes u rest h = let t = where_takes (the_byte x) bytes u rest h in t.2 ∙ ap (λ b. b ∷ rest) (is t.0 (t.0 == x) refl t.1)
  where
    is : (b : ℕ) (c : Bool) → (b == x) ≡ c → cond c (Some tt) None ≡ Some u → b ≡ x
    is b true e f = eqb-true b x e
    is b false e f = absurd (cc)

form_letters : (form : Form) (b : ℕ) → form_of b ≡ Some form → 97 ∷ b ∷ 103 ∷ 32 ∷ [] ≡ letters form
form_letters form b h = go (b == 97) refl (b == 105) refl h
  where
    go : (c : Bool) → (b == 97) ≡ c → (d : Bool) → (b == 105) ≡ d → cond c (Some Ascii) (cond d (Some Binary) None) ≡ Some form → 97 ∷ b ∷ 103 ∷ 32 ∷ [] ≡ letters form
    go true e d f q = ap₂ (λ x y. 97 ∷ x ∷ y) (eqb-true b 97 e) (refl {a = 103 ∷ 32 ∷ []}) ∙ ap letters (same_Some Ascii form q)
    go false e true f q = ap₂ (λ x y. 97 ∷ x ∷ y) (eqb-true b 105 f) (refl {a = 103 ∷ 32 ∷ []}) ∙ ap letters (same_Some Binary form q)
    go false e false f q = absurd (cc)

-- the header that is read
abbrev pub TakesHeader : List ℕ → Form → List ℕ → List ℕ → Type 0
TakesHeader bytes form numbers rest = (front : List ℕ) × IsHeaderText front form numbers × (bytes ≡ front ++ rest)

pub header_takes : (bytes : List ℕ) (form : Form) (numbers rest : List ℕ) → header_at bytes ≡ Ok ((form, numbers), rest) → TakesHeader bytes form numbers rest
unfolding header_at
header_takes bytes form numbers rest h =
    let a = bind_ok (byte_at 97 bytes) (λ a. byte_where form_of a.1 >>= λ f. (byte_at 103 f.1 >>= λ g. (byte_at space g.1 >>= λ s. (numbers_at 4 8 s.1 >>= λ n. Ok ((f.0, n.0), n.1))))) ((form, numbers), rest) h in
    let f = bind_ok (byte_where form_of a.0.1) (λ f. byte_at 103 f.1 >>= λ g. (byte_at space g.1 >>= λ s. (numbers_at 4 8 s.1 >>= λ n. Ok ((f.0, n.0), n.1)))) ((form, numbers), rest) a.2 in
    let g = bind_ok (byte_at 103 f.0.1) (λ g. byte_at space g.1 >>= λ s. (numbers_at 4 8 s.1 >>= λ n. Ok ((f.0.0, n.0), n.1))) ((form, numbers), rest) f.2 in
    let s = bind_ok (byte_at space g.0.1) (λ s. numbers_at 4 8 s.1 >>= λ n. Ok ((f.0.0, n.0), n.1)) ((form, numbers), rest) g.2 in
    let n = bind_ok (numbers_at 4 8 s.0.1) (λ n. Ok ((f.0.0, n.0), n.1)) ((form, numbers), rest) s.2 in
    let b = where_takes form_of a.0.1 f.0.0 f.0.1 f.1 in
    let first : bytes ≡ 97 ∷ b.0 ∷ 103 ∷ 32 ∷ s.0.1 =
    byte_takes 97 bytes a.0.0 a.0.1 a.1 ∙ ap (λ ys. 97 ∷ ys) (b.2 ∙ ap (λ ys. b.0 ∷ ys) (byte_takes 103 f.0.1 g.0.0 g.0.1 g.1 ∙ ap (λ ys. 103 ∷ ys) (byte_takes space g.0.1 s.0.0 s.0.1 s.1))) in
    header_from bytes f.0.0 b.0 s.0.1 n.0.0 n.0.1 form numbers rest b.1 first (numbers_takes 4 8 s.0.1 n.0.0 n.0.1 (omega arith) n.1) (same_Ok ((f.0.0, n.0.0), n.0.1) ((form, numbers), rest) n.2)
  where
    header_from : (bytes : List ℕ) (f : Form) (b : ℕ) (text ns left : List ℕ) (form : Form) (numbers rest : List ℕ) → form_of b ≡ Some f → bytes ≡ 97 ∷ b ∷ 103 ∷ 32 ∷ text → TakesNumbers 4 8 text ns left →
        ◌≡◌ {A = (Form × List ℕ) × List ℕ} ((f, ns), left) ((form, numbers), rest) → TakesHeader bytes form numbers rest
    header_from bytes f b text ns left form numbers rest e first t same =
        let P : ((Form × List ℕ) × List ℕ) → Type 0 = λ p. TakesHeader bytes p.0.0 p.0.1 p.1 in
        let many = t.2 in
        subst P same (
          letters f ++ t.0,
          (t.0, t.1, omega arith, t.3, refl),
          first ∙ ap (λ ys. (97 ∷ b ∷ 103 ∷ 32 ∷ []) ++ ys) t.4 ∙ ap (λ ys. ys ++ (t.0 ++ left)) (form_letters f b e) ∙ sym (append_assoc (letters f) t.0 left),
        )

behind_letters : (f : Form) (text : List ℕ) → header_at (letters f ++ text) ≡ (numbers_at 4 8 text >>= λ n. Ok ((f, n.0), n.1))
unfolding header_at
behind_letters Ascii text = refl
behind_letters Binary text = refl

pub header_again : (front : List ℕ) (form : Form) (numbers rest : List ℕ) → IsHeaderText front form numbers → header_at (front ++ rest) ≡ Ok ((form, numbers), rest)
header_again front form numbers rest h =
    ap header_at (ap (λ ys. ys ++ rest) h.4 ∙ append_assoc (letters form) h.0 rest) ∙ behind_letters form (h.0 ++ rest) ∙
    ap (λ o. o >>= λ n. Ok ((form, n.0), n.1)) (numbers_again 4 8 h.0 numbers rest h.1 h.2 h.3)

pub header_not_wrong : (bytes here : List ℕ) → header_at bytes ≡ Err (Wrong here) → ⊥
unfolding header_at
header_not_wrong bytes here h =
    ⊎_elim (where_not_wrong (the_byte 97) bytes here)
    (λ a. ⊎_elim (where_not_wrong form_of a.0.1 here)
    (λ f. ⊎_elim (where_not_wrong (the_byte 103) f.0.1 here)
    (λ g. ⊎_elim (where_not_wrong (the_byte space) g.0.1 here)
    (λ s. ⊎_elim (numbers_not_wrong 4 8 s.0.1 here) (λ n. let e = n.2 in cc)
    (bind_err (numbers_at 4 8 s.0.1) (λ n. Ok ((f.0.0, n.0), n.1)) (Wrong here) s.2))
    (bind_err (byte_at space g.0.1) (λ s. numbers_at 4 8 s.1 >>= λ n. Ok ((f.0.0, n.0), n.1)) (Wrong here) g.2))
    (bind_err (byte_at 103 f.0.1) (λ g. byte_at space g.1 >>= λ s. (numbers_at 4 8 s.1 >>= λ n. Ok ((f.0.0, n.0), n.1))) (Wrong here) f.2))
    (bind_err (byte_where form_of a.0.1) (λ f. byte_at 103 f.1 >>= λ g. (byte_at space g.1 >>= λ s. (numbers_at 4 8 s.1 >>= λ n. Ok ((f.0, n.0), n.1)))) (Wrong here) a.2))
    (bind_err (byte_at 97 bytes) (λ a. byte_where form_of a.1 >>= λ f. (byte_at 103 f.1 >>= λ g. (byte_at space g.1 >>= λ s. (numbers_at 4 8 s.1 >>= λ n. Ok ((f.0, n.0), n.1))))) (Wrong here) h)
