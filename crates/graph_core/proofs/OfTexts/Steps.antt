-- Reading byte by byte, for loops of code: what one byte does, and where nothing is left.
use Rattle.std.specs.Prelude.{◌≡◌, ℕ, zero, suc, ◌+◌, ◌*◌, ◌-◌, ◌<◌, ◌≤◌, List, [], ◌∷◌, ◌++◌, map, drop, length, get_or, Result, Ok, Err}
use Rattle.std.proofs.Common.{refl, sym, ap, subst, ◌∙◌, arith, drop-cons, append_assoc}
use Rattle.graph_core.specs.Aiger.Reading.{Stop, ◌>>=◌, line_at, lines_at, lit, lit_of, gate_of, field_at, literals_at, triple_at, triples_at, ascii_at}
use Rattle.graph_core.specs.Aiger.{Counts, Listing}
use Rattle.graph_core.specs.Aiger.Refusal.{shown, shown_gate, shown_lists}
use Rattle.graph_core.specs.Text.{space, newline}
use Rattle.graph_core.specs.declared.literal.Lit.{Lit}

-- the byte at a place, and the bytes after it
pub next_byte : (bytes : List ℕ) (at : ℕ) → at < length bytes → drop at bytes ≡ get_or bytes at 0 ∷ drop (at + 1) bytes
next_byte bytes at h = let e : suc at ≡ at + 1 = omega arith in drop-cons bytes at 0 h ∙ ap (λ n. get_or bytes at 0 ∷ drop n bytes) e

-- ---- a numeral's number stays below 10 ^ 10

-- room for so many more digits, also if each is 9
abbrev pub IsRoom : ℕ → ℕ → Type 0
IsRoom zero v = v < 10000000000
IsRoom (suc k) v = IsRoom k (10 * v + 9)

room_less : (k v w : ℕ) → v ≤ w → IsRoom k w → IsRoom k v
room_less zero v w l h = omega arith
room_less (suc k) v w l h = room_less k (10 * v + 9) (10 * w + 9) (omega arith) h

pub room_fits : (k v : ℕ) → IsRoom k v → v < 10000000000
room_fits zero v h = h
room_fits (suc k) v h = let more = room_fits k (10 * v + 9) h in omega arith

pub room_digit : (k v d : ℕ) → 0 < k → d ≤ 9 → IsRoom k v → IsRoom (k - 1) (10 * v + d)
room_digit zero v d some l h = absurd (omega arith)
room_digit (suc k) v d some l h =
    let e : k ≡ suc k - 1 = omega arith in
    subst (λ j. IsRoom j (10 * v + d)) e (room_less k (10 * v + d) (10 * v + 9) (omega arith) h)

-- ---- lines and gates one after the other, where those that are read are pushed after the others

abbrev pub with_front : {A : Type 0} → List A → List A × List ℕ → Result (List A × List ℕ) Stop
with_front done r = Ok (done ++ r.0, r.1)

pushed : {A : Type 0} (done : List A) (a : A) (o : Result (List A × List ℕ) Stop) → ((o >>= λ r. Ok (a ∷ r.0, r.1)) >>= with_front done) ≡ (o >>= with_front (done ++ a ∷ []))
pushed done a (Ok r) = ap (λ xs. Ok (xs, r.1)) (sym (append_assoc done (a ∷ []) r.0))
pushed done a (Err e) = refl

pub front_nil : {A : Type 0} (o : Result (List A × List ℕ) Stop) → o ≡ (o >>= with_front [])
front_nil (Ok r) = refl
front_nil (Err e) = refl

-- ---- levels for code that finds them in any order

-- ---- literals of 32 bits

same_rest : {A B C : Type 0} (o : Result A Stop) (f : A → Result B Stop) (g : B → Result C Stop) → ((o >>= f) >>= g) ≡ (o >>= λ x. f x >>= g)
same_rest (Ok x) f g = refl
same_rest (Err e) f g = refl

after_same : {A B : Type 0} (o : Result A Stop) (f g : A → Result B Stop) → ((x : A) → f x ≡ g x) → (o >>= f) ≡ (o >>= g)
after_same (Ok x) f g h = h x
after_same (Err e) f g h = refl

pub literals_are : (n : ℕ) (bytes : List ℕ) → literals_at n bytes ≡ (lines_at 0 n bytes >>= λ r. Ok (map shown (map lit_of r.0), r.1))
literals_are zero bytes = refl
literals_are (suc n) bytes =
    after_same (field_at newline bytes) (λ x. literals_at n x.1 >>= λ ls. Ok (shown (lit x.0) ∷ ls.0, ls.1))
    (λ x. (lines_at 0 n x.1 >>= λ ls. Ok ((x.0 ∷ []) ∷ ls.0, ls.1)) >>= λ r. Ok (map shown (map lit_of r.0), r.1))
    (λ x. ap (λ o. o >>= λ ls. Ok (shown (lit x.0) ∷ ls.0, ls.1)) (literals_are n x.1) ∙
    same_rest (lines_at 0 n x.1) (λ r. Ok (map shown (map lit_of r.0), r.1)) (λ ls. Ok (shown (lit x.0) ∷ ls.0, ls.1)) ∙
    sym (same_rest (lines_at 0 n x.1) (λ ls. Ok ((x.0 ∷ []) ∷ ls.0, ls.1)) (λ r. Ok (map shown (map lit_of r.0), r.1)))) ∙
    sym (same_rest (field_at newline bytes) (λ x. lines_at 0 n x.1 >>= λ ls. Ok ((x.0 ∷ []) ∷ ls.0, ls.1)) (λ r. Ok (map shown (map lit_of r.0), r.1))) ∙
    ap (λ o. o >>= λ r. Ok (map shown (map lit_of r.0), r.1)) (sym (same_rest (field_at newline bytes) (λ x. Ok (x.0 ∷ [], x.1)) (λ l. lines_at 0 n l.1 >>= λ ls. Ok (l.0 ∷ ls.0, ls.1))))

pub literals_push : (n : ℕ) (bytes : List ℕ) (done : List Lit) (x : ℕ) (rest : List ℕ) → field_at newline bytes ≡ Ok (x, rest) → (literals_at (suc n) bytes >>= with_front done) ≡ (literals_at n rest >>= with_front (done ++ shown (lit x) ∷ []))
literals_push n bytes done x rest e = ap (λ o. (o >>= λ y. (literals_at n y.1 >>= λ ls. Ok (shown (lit y.0) ∷ ls.0, ls.1))) >>= with_front done) e ∙ pushed done (shown (lit x)) (literals_at n rest)

pub literals_fail : (n : ℕ) (bytes : List ℕ) (done : List Lit) (e : Stop) → field_at newline bytes ≡ Err e → (literals_at (suc n) bytes >>= with_front done) ≡ Err e
literals_fail n bytes done e f = ap (λ o. (o >>= λ y. (literals_at n y.1 >>= λ ls. Ok (shown (lit y.0) ∷ ls.0, ls.1))) >>= with_front done) f

pub triples_push : (n : ℕ) (bytes : List ℕ) (done : List (Lit × Lit × Lit)) (t : Lit × Lit × Lit) (rest : List ℕ) → triple_at bytes ≡ Ok (t, rest) → (triples_at (suc n) bytes >>= with_front done) ≡ (triples_at n rest >>= with_front (done ++ t ∷ []))
triples_push n bytes done t rest e = ap (λ o. (o >>= λ u. (triples_at n u.1 >>= λ ts. Ok (u.0 ∷ ts.0, ts.1))) >>= with_front done) e ∙ pushed done t (triples_at n rest)

pub triples_fail : (n : ℕ) (bytes : List ℕ) (done : List (Lit × Lit × Lit)) (e : Stop) → triple_at bytes ≡ Err e → (triples_at (suc n) bytes >>= with_front done) ≡ Err e
triples_fail n bytes done e f = ap (λ o. (o >>= λ u. (triples_at n u.1 >>= λ ts. Ok (u.0 ∷ ts.0, ts.1))) >>= with_front done) f

abbrev shown_triples : List (List ℕ) × List ℕ → Result (List (Lit × Lit × Lit) × List ℕ) Stop
shown_triples r = Ok (map shown_gate (map gate_of r.0), r.1)

abbrev last : ℕ × List ℕ → Result (List ℕ × List ℕ) Stop
last z = Ok (z.0 ∷ [], z.1)

abbrev before : ℕ × List ℕ → List ℕ × List ℕ → Result (List ℕ × List ℕ) Stop
before x ns = Ok (x.0 ∷ ns.0, ns.1)

-- a gate's line, read number by number
triple_line : {B : Type 0} (bytes : List ℕ) (f : List ℕ × List ℕ → Result B Stop) →
    (line_at 2 bytes >>= f) ≡ (field_at space bytes >>= λ x. (field_at space x.1 >>= λ y. (field_at newline y.1 >>= λ z. f (x.0 ∷ y.0 ∷ z.0 ∷ [], z.1))))
triple_line bytes f = one (field_at space bytes)
  where
    three : (x : ℕ × List ℕ) (y : ℕ × List ℕ) (o : Result (ℕ × List ℕ) Stop) → ((((o >>= last) >>= before y) >>= before x) >>= f) ≡ (o >>= λ z. f (x.0 ∷ y.0 ∷ z.0 ∷ [], z.1))
    three x y (Ok z) = refl
    three x y (Err e) = refl

    two : (x : ℕ × List ℕ) (o : Result (ℕ × List ℕ) Stop) → (((o >>= λ y. ((field_at newline y.1 >>= last) >>= before y)) >>= before x) >>= f) ≡ (o >>= λ y. (field_at newline y.1 >>= λ z. f (x.0 ∷ y.0 ∷ z.0 ∷ [], z.1)))
    two x (Ok y) = three x y (field_at newline y.1)
    two x (Err e) = refl

    one : (o : Result (ℕ × List ℕ) Stop) → ((o >>= λ x. ((field_at space x.1 >>= λ y. ((field_at newline y.1 >>= last) >>= before y)) >>= before x)) >>= f) ≡
        (o >>= λ x. (field_at space x.1 >>= λ y. (field_at newline y.1 >>= λ z. f (x.0 ∷ y.0 ∷ z.0 ∷ [], z.1))))
    one (Ok x) = two x (field_at space x.1)
    one (Err e) = refl

abbrev as_shown : ℕ × List ℕ → ℕ × List ℕ → ℕ × List ℕ → Result ((Lit × Lit × Lit) × List ℕ) Stop
as_shown x y z = Ok ((shown (lit x.0), shown (lit y.0), shown (lit z.0)), z.1)

triple_shown : {B : Type 0} (bytes : List ℕ) (f : (Lit × Lit × Lit) × List ℕ → Result B Stop) →
    (triple_at bytes >>= f) ≡ (field_at space bytes >>= λ x. (field_at space x.1 >>= λ y. (field_at newline y.1 >>= λ z. f ((shown (lit x.0), shown (lit y.0), shown (lit z.0)), z.1))))
triple_shown bytes f = one (field_at space bytes)
  where
    three : (x : ℕ × List ℕ) (y : ℕ × List ℕ) (o : Result (ℕ × List ℕ) Stop) → ((o >>= as_shown x y) >>= f) ≡ (o >>= λ z. f ((shown (lit x.0), shown (lit y.0), shown (lit z.0)), z.1))
    three x y (Ok z) = refl
    three x y (Err e) = refl

    two : (x : ℕ × List ℕ) (o : Result (ℕ × List ℕ) Stop) → ((o >>= λ y. (field_at newline y.1 >>= as_shown x y)) >>= f) ≡ (o >>= λ y. (field_at newline y.1 >>= λ z. f ((shown (lit x.0), shown (lit y.0), shown (lit z.0)), z.1)))
    two x (Ok y) = three x y (field_at newline y.1)
    two x (Err e) = refl

    one : (o : Result (ℕ × List ℕ) Stop) → ((o >>= λ x. (field_at space x.1 >>= λ y. (field_at newline y.1 >>= as_shown x y))) >>= f) ≡
        (o >>= λ x. (field_at space x.1 >>= λ y. (field_at newline y.1 >>= λ z. f ((shown (lit x.0), shown (lit y.0), shown (lit z.0)), z.1))))
    one (Ok x) = two x (field_at space x.1)
    one (Err e) = refl

pub triples_are : (n : ℕ) (bytes : List ℕ) → triples_at n bytes ≡ (lines_at 2 n bytes >>= shown_triples)
triples_are zero bytes = refl
triples_are (suc n) bytes =
    triple_shown bytes (λ t. triples_at n t.1 >>= λ ts. Ok (t.0 ∷ ts.0, ts.1)) ∙
    after_same (field_at space bytes) _ _ (λ x. after_same (field_at space x.1) _ _ (λ y. after_same (field_at newline y.1) _ _ (λ z. rest x.0 y.0 z.0 z.1 (triples_are n z.1)))) ∙
    sym (triple_line bytes (λ l. (lines_at 2 n l.1 >>= λ ls. Ok (l.0 ∷ ls.0, ls.1)) >>= shown_triples)) ∙
    sym (same_rest (line_at 2 bytes) (λ l. lines_at 2 n l.1 >>= λ ls. Ok (l.0 ∷ ls.0, ls.1)) shown_triples)
  where
    more : (a b c : ℕ) (o : Result (List (List ℕ) × List ℕ) Stop) → ((o >>= shown_triples) >>= λ ts. Ok ((shown (lit a), shown (lit b), shown (lit c)) ∷ ts.0, ts.1)) ≡ ((o >>= λ ls. Ok ((a ∷ b ∷ c ∷ []) ∷ ls.0, ls.1)) >>= shown_triples)
    more a b c (Ok r) = refl
    more a b c (Err e) = refl

    rest : (a b c : ℕ) (left : List ℕ) → triples_at n left ≡ (lines_at 2 n left >>= shown_triples) → (triples_at n left >>= λ ts. Ok ((shown (lit a), shown (lit b), shown (lit c)) ∷ ts.0, ts.1)) ≡ ((lines_at 2 n left >>= λ ls. Ok ((a ∷ b ∷ c ∷ []) ∷ ls.0, ls.1)) >>= shown_triples)
    rest a b c left e = ap (λ o. o >>= λ ts. Ok ((shown (lit a), shown (lit b), shown (lit c)) ∷ ts.0, ts.1)) e ∙ more a b c (lines_at 2 n left)

-- The lists of an ascii body, read with literals of 32 bits.
abbrev pub shown_body : Listing × List ℕ → Result (Listing × List ℕ) Stop
shown_body g = Ok (shown_lists g.0, g.1)

abbrev lines_shown : List (List ℕ) × List ℕ → Result (List Lit × List ℕ) Stop
lines_shown r = Ok (map shown (map lit_of r.0), r.1)

abbrev shown_listing : Counts → List Lit → List Lit → List (Lit × Lit × Lit) × List ℕ → Result (Listing × List ℕ) Stop
shown_listing c ins outs t = Ok (record { max = c.max; inputs = ins; outputs = outs; gates = t.0 }, t.1)

abbrev listed : Counts → List (List ℕ) → List (List ℕ) → List (List ℕ) × List ℕ → Result (Listing × List ℕ) Stop
listed c ins outs t = Ok (record { max = c.max; inputs = map lit_of ins; outputs = map lit_of outs; gates = map gate_of t.0 }, t.1)

module _ (c : Counts) where
  third : (i o : List (List ℕ)) (t : Result (List (List ℕ) × List ℕ) Stop) → ((t >>= listed c i o) >>= shown_body) ≡ ((t >>= shown_triples) >>= shown_listing c (map shown (map lit_of i)) (map shown (map lit_of o)))
  third i o (Ok t) = refl
  third i o (Err e) = refl

  second : (i : List (List ℕ)) (o : Result (List (List ℕ) × List ℕ) Stop) →
      ((o >>= λ p. (lines_at 2 c.gates p.1 >>= listed c i p.0)) >>= shown_body) ≡ ((o >>= lines_shown) >>= λ p. (triples_at c.gates p.1 >>= shown_listing c (map shown (map lit_of i)) p.0))
  second i (Ok p) = third i p.0 (lines_at 2 c.gates p.1) ∙ ap (λ t. t >>= shown_listing c (map shown (map lit_of i)) (map shown (map lit_of p.0))) (sym (triples_are c.gates p.1))
  second i (Err e) = refl

  first : (o : Result (List (List ℕ) × List ℕ) Stop) →
      ((o >>= λ i. (lines_at 0 c.outputs i.1 >>= λ p. (lines_at 2 c.gates p.1 >>= listed c i.0 p.0))) >>= shown_body) ≡
      ((o >>= lines_shown) >>= λ i. (literals_at c.outputs i.1 >>= λ p. (triples_at c.gates p.1 >>= shown_listing c i.0 p.0)))
  first (Ok i) =
      second i.0 (lines_at 0 c.outputs i.1) ∙ ap (λ o. o >>= λ p. (triples_at c.gates p.1 >>= shown_listing c (map shown (map lit_of i.0)) p.0)) (sym (literals_are c.outputs i.1))
  first (Err e) = refl

  pub ascii_shown : (bytes : List ℕ) → (ascii_at c bytes >>= shown_body) ≡ (literals_at c.inputs bytes >>= λ i. (literals_at c.outputs i.1 >>= λ p. (triples_at c.gates p.1 >>= shown_listing c i.0 p.0)))
  unfolding ascii_at
  ascii_shown bytes =
      first (lines_at 0 c.inputs bytes) ∙ ap (λ o. o >>= λ i. (literals_at c.outputs i.1 >>= λ p. (triples_at c.gates p.1 >>= shown_listing c i.0 p.0))) (sym (literals_are c.inputs bytes))

-- ---- one byte of a number in groups of seven bits
