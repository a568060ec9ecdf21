-- Readers that are put together read what is put together.
use Rattle.std.specs.Prelude.{◌≡◌, ℕ, zero, suc, ◌+◌, ◌<◌, ◌≤◌, ◌⊎◌, Bool, true, false, cond, List, [], ◌∷◌, ◌++◌, length}
use Rattle.std.specs.declared.option.Option.{Option}
use Rattle.std.specs.declared.option.Option.TheVariants.{None, Some}
use Rattle.std.proofs.Common.{refl, sym, ap, subst, ◌∙◌, arith, append_assoc, length-append, inl, inr, ⊎_elim}
use Rattle.std.proofs.lemmas.Option.{same_Some}
use Rattle.std.proofs.lemmas.List.Elements.{recursion_from_All}
use Rattle.graph_core.specs.Text.Numerals.{◌>>=◌, front_at, number_at, is_digit}
use Rattle.graph_core.specs.Text.{IsNumeral, IsDigit}
use Rattle.graph_core.specs.Text.Readers.{Reader, map_at, behind_at, ended_at, then_at, text_at, bind_at, choose_at, many_in, many_at, put_before}
use Rattle.graph_core.proofs.Words.{Ended, BehindText, Then, Bind, AreMany, NoneOf, OneOf, IsReaderOf, Anything}
use Rattle.graph_core.proofs.OfTexts.NumeralReading.{bind_some, front_takes, front_again, is_digit_of, number_takes, number_again, NoDigit}

-- no digit, as the readers say it
no_digit : (rest : List ℕ) → NoneOf is_digit rest → NoDigit rest
no_digit [] h = tt
no_digit (b ∷ rest) h = h

pub reads_number : (d : ℕ) → IsReaderOf (number_at d) (IsNumeral d) (NoneOf is_digit)
reads_number d = record {
  takes = number_takes d;
  again = λ front x rest is stop. number_again d front x rest is (no_digit rest stop);
}

-- the same reader for texts of another name
pub reads_as : {A : Type 0} {item : Reader A} {Is : List ℕ → A → Type 0} {Follows : List ℕ → Type 0} (Other : List ℕ → A → Type 0) → IsReaderOf item Is Follows →
    ((bytes : List ℕ) (x : A) → Is bytes x → Other bytes x) → ((bytes : List ℕ) (x : A) → Other bytes x → Is bytes x) → IsReaderOf item Other Follows
reads_as Other r there back = record {
  takes = λ bytes x rest h. let t = r.takes bytes x rest h in (t.0, there t.0 x t.1, t.2);
  again = λ front x rest is follows. r.again front x rest (back front x is) follows;
}

-- and for fewer texts after it
pub reads_before : {A : Type 0} {item : Reader A} {Is : List ℕ → A → Type 0} {Follows : List ℕ → Type 0} (Fewer : List ℕ → Type 0) → IsReaderOf item Is Follows →
    ((rest : List ℕ) → Fewer rest → Follows rest) → IsReaderOf item Is Fewer
reads_before Fewer r fewer = record {
  takes = r.takes;
  again = λ front x rest is follows. r.again front x rest is (fewer rest follows);
}

pub reads_map : {A B : Type 0} {item : Reader A} {Is : List ℕ → A → Type 0} {Follows : List ℕ → Type 0} (f : A → B) (Other : List ℕ → B → Type 0) → IsReaderOf item Is Follows →
    ((bytes : List ℕ) (x : A) → Is bytes x → Other bytes (f x)) → ((bytes : List ℕ) (y : B) → Other bytes y → (x : A) × Is bytes x × (f x ≡ y)) → IsReaderOf (map_at f item) Other Follows
reads_map {A} {B} {item} {Is} {Follows} f Other r there back = record { takes = takes; again = again }
  where
    takes : (bytes : List ℕ) (y : B) (rest : List ℕ) → map_at f item bytes ≡ Some (y, rest) → (front : List ℕ) × Other front y × (bytes ≡ front ++ rest)
    takes bytes y rest h =
        let first = bind_some (item bytes) (λ x. Some (f x.0, x.1)) (y, rest) h in
        let t = r.takes bytes first.0.0 first.0.1 first.1 in
        let same = same_Some (f first.0.0, first.0.1) (y, rest) first.2 in
        (t.0, subst (Other t.0) (ap (λ p. p.0) same) (there t.0 first.0.0 t.1), t.2 ∙ ap (λ z. t.0 ++ z) (ap (λ p. p.1) same))

    again : (front : List ℕ) (y : B) (rest : List ℕ) → Other front y → Follows rest → map_at f item (front ++ rest) ≡ Some (y, rest)
    again front y rest is follows =
        let b = back front y is in
        ap (λ o. o >>= (λ x. Some (f x.0, x.1))) (r.again front b.0 rest b.1 follows) ∙ ap (λ z. Some (z, rest)) b.2

pub reads_behind : {A : Type 0} {item : Reader A} {Is : List ℕ → A → Type 0} {Follows : List ℕ → Type 0} (text : List ℕ) → IsReaderOf item Is Follows → IsReaderOf (behind_at text item) (BehindText text Is) Follows
reads_behind {A} {item} {Is} {Follows} text r = record {
  takes = λ bytes x rest h. let first = bind_some (front_at text bytes) item (x, rest) h in
      let t = r.takes first.0 x rest first.2 in
      (text ++ t.0, (t.0, t.1, refl), front_takes text bytes first.0 first.1 ∙ ap (λ z. text ++ z) t.2 ∙ sym (append_assoc text t.0 rest));
  again = λ front x rest is follows. ap (behind_at text item) (ap (λ z. z ++ rest) is.2 ∙ append_assoc text is.0 rest) ∙
      ap (λ o. o >>= item) (front_again text (is.0 ++ rest)) ∙ r.again is.0 x rest is.1 follows;
}

pub reads_ended : {A : Type 0} {item : Reader A} {Is : List ℕ → A → Type 0} {Follows : List ℕ → Type 0} (text : List ℕ) → IsReaderOf item Is Follows → ((rest : List ℕ) → Follows (text ++ rest)) →
    IsReaderOf (ended_at item text) (Ended Is text) Anything
reads_ended {A} {item} {Is} {Follows} text r follows = record {
  takes = λ bytes x rest h. let first = bind_some (item bytes) (λ y. front_at text y.1 >>= (λ left. Some (y.0, left))) (x, rest) h in
      let second = bind_some (front_at text first.0.1) (λ left. Some (first.0.0, left)) (x, rest) first.2 in
      let t = r.takes bytes first.0.0 first.0.1 first.1 in
      let same = same_Some (first.0.0, second.0) (x, rest) second.2 in (
        t.0 ++ text,
        (t.0, subst (Is t.0) (ap (λ p. p.0) same) t.1, refl),
        t.2 ∙ ap (λ z. t.0 ++ z) (front_takes text first.0.1 second.0 second.1 ∙ ap (λ z. text ++ z) (ap (λ p. p.1) same)) ∙ sym (append_assoc t.0 text rest),
      );
  again = λ front x rest is any. ap (ended_at item text) (ap (λ z. z ++ rest) is.2 ∙ append_assoc is.0 text rest) ∙
      ap (λ o. o >>= (λ y. front_at text y.1 >>= (λ left. Some (y.0, left)))) (r.again is.0 x (text ++ rest) is.1 (follows rest)) ∙
      ap (λ o. o >>= (λ left. Some (x, left))) (front_again text rest);
}

pub reads_then : {A B : Type 0} {one : Reader A} {two : Reader B} {One : List ℕ → A → Type 0} {Two : List ℕ → B → Type 0} {First Follows : List ℕ → Type 0} → IsReaderOf one One First → IsReaderOf two Two Follows →
    ((front : List ℕ) (y : B) (rest : List ℕ) → Two front y → Follows rest → First (front ++ rest)) → IsReaderOf (then_at one two) (Then One Two) Follows
reads_then {A} {B} {one} {two} {One} {Two} {First} {Follows} r s joins = record { takes = takes; again = again }
  where
    takes : (bytes : List ℕ) (x : A × B) (rest : List ℕ) → then_at one two bytes ≡ Some (x, rest) → (front : List ℕ) × Then One Two front x × (bytes ≡ front ++ rest)
    takes bytes x rest h =
        let first = bind_some (one bytes) (λ y. two y.1 >>= (λ z. Some ((y.0, z.0), z.1))) (x, rest) h in
        let second = bind_some (two first.0.1) (λ z. Some ((first.0.0, z.0), z.1)) (x, rest) first.2 in
        let t = r.takes bytes first.0.0 first.0.1 first.1 in
        let u = s.takes first.0.1 second.0.0 second.0.1 second.1 in
        let same = same_Some ((first.0.0, second.0.0), second.0.1) (x, rest) second.2 in (
          t.0 ++ u.0,
          subst (Then One Two (t.0 ++ u.0)) (ap (λ p. p.0) same) (t.0, u.0, t.1, u.1, refl),
          t.2 ∙ ap (λ z. t.0 ++ z) (u.2 ∙ ap (λ z. u.0 ++ z) (ap (λ p. p.1) same)) ∙ sym (append_assoc t.0 u.0 rest),
        )

    again : (front : List ℕ) (x : A × B) (rest : List ℕ) → Then One Two front x → Follows rest → then_at one two (front ++ rest) ≡ Some (x, rest)
    again front x rest is follows =
        ap (then_at one two) (ap (λ z. z ++ rest) is.4 ∙ append_assoc is.0 is.1 rest) ∙
        ap (λ o. o >>= (λ y. two y.1 >>= (λ z. Some ((y.0, z.0), z.1)))) (r.again is.0 x.0 (is.1 ++ rest) is.2 (joins is.1 x.1 rest is.3 follows)) ∙
        ap (λ o. o >>= (λ z. Some ((x.0, z.0), z.1))) (s.again is.1 x.1 rest is.3 follows)

pub reads_text : {A : Type 0} (text : List ℕ) (x : A) → IsReaderOf (text_at text x) (λ bytes y. (y ≡ x) × (bytes ≡ text)) Anything
reads_text {A} text x = record {
  takes = λ bytes y rest h. let first = bind_some (front_at text bytes) (λ left. Some (x, left)) (y, rest) h in
      let same = same_Some (x, first.0) (y, rest) first.2 in
      (text, (sym (ap (λ p. p.0) same), refl), front_takes text bytes first.0 first.1 ∙ ap (λ z. text ++ z) (ap (λ p. p.1) same));
  again = λ front y rest is any. ap (λ z. text_at text x (z ++ rest)) is.1 ∙ ap (λ o. o >>= (λ left. Some (x, left))) (front_again text rest) ∙ ap (λ z. Some (z, rest)) (sym is.0);
}

pub reads_bind : {A B : Type 0} {one : Reader A} {two : A → Reader B} {One : List ℕ → A → Type 0} {Two : A → List ℕ → B → Type 0} {Follows : List ℕ → Type 0} → IsReaderOf one One Anything → ((x : A) → IsReaderOf (two x) (Two x) Follows) →
    IsReaderOf (bind_at one two) (Bind One Two) Follows
reads_bind {A} {B} {one} {two} {One} {Two} {Follows} r s = record { takes = takes; again = again }
  where
    takes : (bytes : List ℕ) (y : B) (rest : List ℕ) → bind_at one two bytes ≡ Some (y, rest) → (front : List ℕ) × Bind One Two front y × (bytes ≡ front ++ rest)
    takes bytes y rest h =
        let first = bind_some (one bytes) (λ x. two x.0 x.1) (y, rest) h in
        let t = r.takes bytes first.0.0 first.0.1 first.1 in
        let u = (s first.0.0).takes first.0.1 y rest first.2 in
        (t.0 ++ u.0, (first.0.0, (t.0, u.0, t.1, u.1, refl)), t.2 ∙ ap (λ z. t.0 ++ z) u.2 ∙ sym (append_assoc t.0 u.0 rest))

    again : (front : List ℕ) (y : B) (rest : List ℕ) → Bind One Two front y → Follows rest → bind_at one two (front ++ rest) ≡ Some (y, rest)
    again front y rest is follows =
        ap (bind_at one two) (ap (λ z. z ++ rest) is.1.4 ∙ append_assoc is.1.0 is.1.1 rest) ∙
        ap (λ o. o >>= (λ x. two x.0 x.1)) (r.again is.1.0 is.0 (is.1.1 ++ rest) is.1.2 tt) ∙ (s is.0).again is.1.1 y rest is.1.3 follows

-- what begins with a byte of a test goes on so
pub one_longer : (test : ℕ → Bool) (bytes rest : List ℕ) → OneOf test bytes → OneOf test (bytes ++ rest)
one_longer test [] rest h = absurd h
one_longer test (b ∷ bytes) rest h = h

-- a text that isn't empty, whose first byte isn't of the test
abbrev pub OtherOf : (ℕ → Bool) → List ℕ → Type 0
OtherOf test [] = ⊥
OtherOf test (b ∷ bytes) = test b ≡ false

pub reads_choice : {A : Type 0} {one two : Reader A} {One Two : List ℕ → A → Type 0} {Follows : List ℕ → Type 0} (test : ℕ → Bool) → IsReaderOf one One Follows → IsReaderOf two Two Follows →
    ((front : List ℕ) (x : A) → One front x → OneOf test front) → ((front : List ℕ) (x : A) → Two front x → OtherOf test front) → IsReaderOf (choose_at test one two) (λ bytes x. One bytes x ⊎ Two bytes x) Follows
reads_choice {A} {one} {two} {One} {Two} {Follows} test r s is_one is_two = record { takes = takes; again = again }
  where
    takes : (bytes : List ℕ) (x : A) (rest : List ℕ) → choose_at test one two bytes ≡ Some (x, rest) → (front : List ℕ) × (One front x ⊎ Two front x) × (bytes ≡ front ++ rest)
    takes [] x rest h = absurd (cc)
    takes (b ∷ bytes) x rest h = go (test b) h
      where
        go : (c : Bool) → cond c (one (b ∷ bytes)) (two (b ∷ bytes)) ≡ Some (x, rest) → (front : List ℕ) × (One front x ⊎ Two front x) × (b ∷ bytes ≡ front ++ rest)
        go true e = let t = r.takes (b ∷ bytes) x rest e in (t.0, inl t.1, t.2)
        go false e = let t = s.takes (b ∷ bytes) x rest e in (t.0, inr t.1, t.2)

    first : (front rest : List ℕ) → OneOf test front → choose_at test one two (front ++ rest) ≡ one (front ++ rest)
    first [] rest h = absurd h
    first (b ∷ front) rest h = ap (λ c. cond c (one (b ∷ (front ++ rest))) (two (b ∷ (front ++ rest)))) h

    second : (front rest : List ℕ) → OtherOf test front → choose_at test one two (front ++ rest) ≡ two (front ++ rest)
    second [] rest h = absurd h
    second (b ∷ front) rest h = ap (λ c. cond c (one (b ∷ (front ++ rest))) (two (b ∷ (front ++ rest)))) h

    again : (front : List ℕ) (x : A) (rest : List ℕ) → One front x ⊎ Two front x → Follows rest → choose_at test one two (front ++ rest) ≡ Some (x, rest)
    again front x rest is follows =
        ⊎_elim (λ o. first front rest (is_one front x o) ∙ r.again front x rest o follows) (λ t. second front rest (is_two front x t) ∙ s.again front x rest t follows) is

-- ---- items

put_some : {A : Type 0} (x : A) (o : Option (List A × List ℕ)) (xs : List A) (rest : List ℕ) → put_before x o ≡ Some (xs, rest) → (ys : List A) × (o ≡ Some (ys, rest)) × (x ∷ ys ≡ xs)
put_some x None xs rest h = absurd (cc)
put_some {A} x (Some ys) xs rest h = let same = same_Some {A = List A × List ℕ} (x ∷ ys.0, ys.1) (xs, rest) h in (ys.0, ap (λ r. Some (ys.0, r)) (ap (λ p. p.1) same), ap (λ p. p.0) same)

module _ {A : Type 0} (begins : ℕ → Bool) (item : Reader A) (Is : List ℕ → A → Type 0) (Follows : List ℕ → Type 0) (r : IsReaderOf item Is Follows) (starts : (front : List ℕ) (x : A) → Is front x → OneOf begins front)
    (next : (rest : List ℕ) → OneOf begins rest → Follows rest) where
  abbrev Taken : List ℕ → List A → List ℕ → Type 0
  Taken bytes xs rest = (front : List ℕ) × AreMany Is front xs × (bytes ≡ front ++ rest)

  many_takes : (most : ℕ) (bytes : List ℕ) (xs : List A) (rest : List ℕ) → many_in most begins item bytes ≡ Some (xs, rest) → Taken bytes xs rest
  many_takes zero bytes xs rest h = let same = same_Some ([], bytes) (xs, rest) h in subst (λ p. Taken bytes p.0 p.1) same ([], refl, refl)
  many_takes (suc most) [] xs rest h = let same = same_Some ([], []) (xs, rest) h in subst (λ p. Taken [] p.0 p.1) same ([], refl, refl)
  many_takes (suc most) (b ∷ bytes) xs rest h = go (begins b) h (λ left ys end. many_takes most left ys end)
    where
      more : (x : A) (left : List ℕ) → item (b ∷ bytes) ≡ Some (x, left) → (ys : List A) (end : List ℕ) → Taken left ys end → Taken (b ∷ bytes) (x ∷ ys) end
      more x left e ys end t = let u = r.takes (b ∷ bytes) x left e in (u.0 ++ t.0, (u.0, t.0, u.1, t.1, refl), u.2 ∙ ap (λ z. u.0 ++ z) t.2 ∙ sym (append_assoc u.0 t.0 end))

      go : (c : Bool) → cond c (item (b ∷ bytes) >>= (λ x. put_before x.0 (many_in most begins item x.1))) (Some ([], b ∷ bytes)) ≡ Some (xs, rest) →
          ((left : List ℕ) (ys : List A) (end : List ℕ) → many_in most begins item left ≡ Some (ys, end) → Taken left ys end) → Taken (b ∷ bytes) xs rest
      go true e later =
          let first = bind_some (item (b ∷ bytes)) (λ x. put_before x.0 (many_in most begins item x.1)) (xs, rest) e in
          let second = put_some first.0.0 (many_in most begins item first.0.1) xs rest first.2 in
          subst (λ p. Taken (b ∷ bytes) p rest) second.2 (more first.0.0 first.0.1 first.1 second.0 rest (later first.0.1 second.0 rest second.1))
      go false e later = let same = same_Some ([], b ∷ bytes) (xs, rest) e in subst (λ p. Taken (b ∷ bytes) p.0 p.1) same ([], refl, refl)

  none_more : (most : ℕ) (rest : List ℕ) → NoneOf begins rest → many_in most begins item rest ≡ Some ([], rest)
  none_more zero rest h = refl
  none_more (suc most) [] h = refl
  none_more (suc most) (b ∷ rest) h = ap (λ c. cond c (item (b ∷ rest) >>= (λ x. put_before x.0 (many_in most begins item x.1))) (Some ([], b ∷ rest))) h

  -- one item, and then the others
  one_more : (most : ℕ) (bytes rest : List ℕ) (x : A) → OneOf begins bytes → item bytes ≡ Some (x, rest) → many_in (suc most) begins item bytes ≡ put_before x (many_in most begins item rest)
  one_more most [] rest x h e = absurd h
  one_more most (b ∷ bytes) rest x h e =
      ap (λ c. cond c (item (b ∷ bytes) >>= (λ y. put_before y.0 (many_in most begins item y.1))) (Some ([], b ∷ bytes))) h ∙
      ap (λ o. o >>= (λ y. put_before y.0 (many_in most begins item y.1))) e

  -- what follows an item: another one, or what follows all of them
  follows : (xs : List A) (front rest : List ℕ) → AreMany Is front xs → Follows rest → Follows (front ++ rest)
  follows [] front rest is f = subst (λ z. Follows (z ++ rest)) (sym is) f
  follows (x ∷ xs) front rest is f =
      next (front ++ rest) (subst (λ z. OneOf begins (z ++ rest)) (sym is.4) (one_longer begins (is.0 ++ is.1) rest (one_longer begins is.0 is.1 (starts is.0 x is.2))))

  not_empty : (bytes : List ℕ) → OneOf begins bytes → 0 < length bytes
  not_empty [] h = absurd h
  not_empty (b ∷ bytes) h = omega arith

  many_again : (most : ℕ) (xs : List A) (front rest : List ℕ) → AreMany Is front xs → length front ≤ most → NoneOf begins rest → Follows rest → many_in most begins item (front ++ rest) ≡ Some (xs, rest)
  many_again most [] front rest is few stop f = ap (λ z. many_in most begins item (z ++ rest)) is ∙ none_more most rest stop
  many_again most (x ∷ xs) front rest is few stop f = go most (omega (arith, some, long, few)) (λ k h. many_again k xs is.1 rest is.3 h stop f)
    where
      some : 0 < length is.0
      some = not_empty is.0 (starts is.0 x is.2)

      long : length front ≡ length is.0 + length is.1
      long = ap length is.4 ∙ length-append is.0 is.1

      split : front ++ rest ≡ is.0 ++ (is.1 ++ rest)
      split = ap (λ z. z ++ rest) is.4 ∙ append_assoc is.0 is.1 rest

      go : (k : ℕ) → length is.1 < k → ((j : ℕ) → length is.1 ≤ j → many_in j begins item (is.1 ++ rest) ≡ Some (xs, rest)) → many_in k begins item (front ++ rest) ≡ Some (x ∷ xs, rest)
      go zero h later = absurd (omega arith)
      go (suc k) h later =
          ap (many_in (suc k) begins item) split ∙
          one_more k (is.0 ++ (is.1 ++ rest)) (is.1 ++ rest) x (one_longer begins is.0 (is.1 ++ rest) (starts is.0 x is.2)) (r.again is.0 x (is.1 ++ rest) is.2 (follows xs is.1 rest is.3 f)) ∙
          ap (put_before x) (later k (omega arith))

  -- Items are read as long as one begins.
  pub reads_many : IsReaderOf (many_at begins item) (AreMany Is) (λ rest. NoneOf begins rest × Follows rest)
  unfolding many_at
  reads_many = record {
    takes = λ bytes xs rest h. many_takes (length bytes) bytes xs rest h;
    again = λ front xs rest is h. many_again (length (front ++ rest)) xs front rest is (omega (arith, length-append front rest)) h.0 h.1;
  }

  -- an item is at least one byte
  shorter : (bytes : List ℕ) (x : A) (rest : List ℕ) → item bytes ≡ Some (x, rest) → length rest < length bytes
  shorter bytes x rest e =
      let t = r.takes bytes x rest e in
      omega (arith, not_empty t.0 (starts t.0 x t.1), ap length t.2 ∙ length-append t.0 rest)

  -- as many as there are bytes is enough
  enough : (j k : ℕ) (bytes : List ℕ) → length bytes ≤ j → length bytes ≤ k → many_in j begins item bytes ≡ many_in k begins item bytes
  enough zero zero bytes h i = refl
  enough zero (suc k) [] h i = refl
  enough zero (suc k) (b ∷ bytes) h i = absurd (omega arith)
  enough (suc j) zero [] h i = refl
  enough (suc j) zero (b ∷ bytes) h i = absurd (omega arith)
  enough (suc j) (suc k) [] h i = refl
  enough (suc j) (suc k) (b ∷ bytes) h i = ap (λ o. cond (begins b) o (Some ([], b ∷ bytes))) (go (item (b ∷ bytes)) refl (λ rest l. enough j k rest (omega arith) (omega arith)))
    where
      go : (o : Option (A × List ℕ)) → item (b ∷ bytes) ≡ o → ((rest : List ℕ) → length rest < length (b ∷ bytes) → many_in j begins item rest ≡ many_in k begins item rest) →
          (o >>= (λ x. put_before x.0 (many_in j begins item x.1))) ≡ (o >>= (λ x. put_before x.0 (many_in k begins item x.1)))
      go None e later = refl
      go (Some x) e later = ap (put_before x.0) (later x.1 (shorter (b ∷ bytes) x.0 x.1 e))

  -- one step of a loop that reads items
  pub many_next : (b : ℕ) (bytes : List ℕ) → many_at begins item (b ∷ bytes) ≡
      cond (begins b) (item (b ∷ bytes) >>= (λ x. put_before x.0 (many_at begins item x.1))) (Some ([], b ∷ bytes))
  unfolding many_at
  many_next b bytes = ap (λ o. cond (begins b) o (Some ([], b ∷ bytes))) (go (item (b ∷ bytes)) refl)
    where
      go : (o : Option (A × List ℕ)) → item (b ∷ bytes) ≡ o →
          (o >>= (λ x. put_before x.0 (many_in (length bytes) begins item x.1))) ≡ (o >>= (λ x. put_before x.0 (many_in (length x.1) begins item x.1)))
      go None e = refl
      go (Some x) e = ap (put_before x.0) (enough (length bytes) (length x.1) x.1 (let h = shorter (b ∷ bytes) x.0 x.1 e in omega arith) (omega arith))

-- a numeral begins with a digit
pub numeral_first : (d : ℕ) (digits : List ℕ) (n : ℕ) → IsNumeral d digits n → OneOf is_digit digits
numeral_first d [] n h = let some : 0 < 0 = h.some in absurd (omega arith)
numeral_first d (b ∷ digits) n h = is_digit_of b (recursion_from_All IsDigit (b ∷ digits) h.digits).0
