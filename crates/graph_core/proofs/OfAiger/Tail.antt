-- What follows the gates, and the whole rest after a header: where reading ends, and that the number of bytes to come is no matter.
use Rattle.std.specs.Prelude.{◌≡◌, ℕ, zero, suc, ◌<◌, ◌≤◌, Bool, true, false, cond, ◌⊎◌, List, [], ◌∷◌, ◌++◌, length, ◌==◌, Result, Ok, Err}
use Rattle.std.proofs.Common.{refl, sym, ap, subst, ◌∙◌, arith, append_assoc, length-append, inl, inr, ⊎_elim, eqb-true}
use Rattle.graph_core.specs.Aiger.{Form, Counts, Listing}
use Rattle.graph_core.specs.Aiger.Reading.{Stop, Stops, Wrong, ◌>>=◌, body_at, symbol_at, tail_at, rest_at}
use Rattle.graph_core.proofs.OfTexts.Steady.{Outcome, Sound, both_sound, bind_err}
use Rattle.graph_core.proofs.OfAiger.Readers.{symbol_steady, body_steady}

-- neither at the end nor at a comment
abbrev pub GoesOn : List ℕ → Type 0
GoesOn [] = ⊥
GoesOn (b ∷ bytes) = (b == 99) ≡ false

module _ (c : Counts) where
  symbol_at-nil : symbol_at c [] ≡ Err (Stops [])
  unfolding symbol_at
  symbol_at-nil = refl

  symbol_at-comment : (b : ℕ) (bytes : List ℕ) → (b == 99) ≡ true → symbol_at c (b ∷ bytes) ≡ Err (Stops (b ∷ bytes))
  unfolding symbol_at
  symbol_at-comment b bytes e = let same = eqb-true b 99 e in rw same refl

  -- what is no refusal of a symbol's first byte begins with another one
  goes_on : (bytes : List ℕ) → (symbol_at c bytes ≡ Err (Stops bytes) → ⊥) → GoesOn bytes
  goes_on [] n = n symbol_at-nil
  goes_on (b ∷ bytes) n = go (b == 99) refl
    where
      go : (d : Bool) → (b == 99) ≡ d → (b == 99) ≡ false
      go true e = absurd (n (symbol_at-comment b bytes e))
      go false e = e

  ok_goes_on : (bytes : List ℕ) (x : Unit {0} × List ℕ) → symbol_at c bytes ≡ Ok x → GoesOn bytes
  ok_goes_on bytes x e = goes_on bytes (λ f. let both = sym e ∙ f in absurd (cc))

  wrong_goes_on : (bytes here : List ℕ) → symbol_at c bytes ≡ Err (Wrong here) → GoesOn bytes
  wrong_goes_on bytes here e = goes_on bytes (λ f. let both = sym e ∙ f in absurd (cc))

  shrinks : (bytes : List ℕ) (s : Unit {0}) (rest : List ℕ) → symbol_at c bytes ≡ Ok (s, rest) → length rest < length bytes
  shrinks bytes s rest h =
      let t = (symbol_steady c).takes bytes s rest h in
      go t.front (t.again []) t.is
    where
      go : (front : List ℕ) → symbol_at c (front ++ []) ≡ Ok (s, []) → bytes ≡ front ++ rest → length rest < length bytes
      go [] e is = let both = sym symbol_at-nil ∙ e in absurd (cc)
      go (f ∷ fs) e is = omega (arith, ap length is, length-append fs rest)

  module _ (g : Listing) where
    -- the tail reads a symbol line, and then on
    by_symbol : (bytes : List ℕ) (j : ℕ) → length bytes ≤ suc j → GoesOn bytes → tail_at c g (suc j) bytes ≡ (symbol_at c bytes >>= λ s. tail_at c g j s.1)
    by_symbol [] j few on = absurd on
    by_symbol (b ∷ bytes) j few on = ap (λ d. cond d (Ok g) (symbol_at c (b ∷ bytes) >>= λ s. tail_at c g j s.1)) on

    -- the answer, however many bytes are allowed for
    abbrev pub Ends : List ℕ → Result Listing Stop → Type 0
    Ends bytes r = (j : ℕ) → length bytes ≤ j → tail_at c g j bytes ≡ r

    pub ends_nil : Ends [] (Ok g)
    ends_nil j few = refl

    pub ends_wrong : (bytes here : List ℕ) → symbol_at c bytes ≡ Err (Wrong here) → Ends bytes (Err (Wrong here))
    ends_wrong bytes here e zero few = go bytes few (wrong_goes_on bytes here e)
      where
        go : (ys : List ℕ) → length ys ≤ 0 → GoesOn ys → tail_at c g 0 ys ≡ Err (Wrong here)
        go [] l on = absurd on
        go (y ∷ ys) l on = absurd (omega arith)
    ends_wrong bytes here e (suc j) few = by_symbol bytes j few (wrong_goes_on bytes here e) ∙ ap (λ o. o >>= λ s. tail_at c g j s.1) e

    ends_stops : (bytes rest : List ℕ) → GoesOn bytes → symbol_at c bytes ≡ Err (Stops rest) → Ends bytes (Err (Stops rest))
    ends_stops bytes rest on e zero few = go bytes few on
      where
        go : (ys : List ℕ) → length ys ≤ 0 → GoesOn ys → tail_at c g 0 ys ≡ Err (Stops rest)
        go [] l on = absurd on
        go (y ∷ ys) l on = absurd (omega arith)
    ends_stops bytes rest on e (suc j) few = by_symbol bytes j few on ∙ ap (λ o. o >>= λ s. tail_at c g j s.1) e

    pub ends_behind : (bytes : List ℕ) (s : Unit {0}) (rest : List ℕ) (r : Result Listing Stop) → symbol_at c bytes ≡ Ok (s, rest) → Ends rest r → Ends bytes r
    ends_behind bytes s rest r e more zero few = absurd (omega (arith, shrinks bytes s rest e))
    ends_behind bytes s rest r e more (suc j) few =
        by_symbol bytes j few (ok_goes_on bytes (s, rest) e) ∙ ap (λ o. o >>= λ t. tail_at c g j t.1) e ∙ more j (omega (arith, shrinks bytes s rest e))

    -- a number out of range
    record Misfit (bytes here : List ℕ) : Type 0 where
      front : List ℕ
      number : List ℕ
      after : List ℕ
      is : bytes ≡ front ++ (number ++ after)
      here_is : here ≡ number ++ after
      again : (more : List ℕ) → Ends (front ++ (number ++ more)) (Err (Wrong (number ++ more)))

    tail_misfit : (k : ℕ) (bytes here : List ℕ) → tail_at c g k bytes ≡ Err (Wrong here) → Misfit bytes here
    tail_misfit k [] here h = absurd (cc)
    tail_misfit zero (b ∷ bytes) here h = absurd (cc)
    tail_misfit (suc k) (b ∷ bytes) here h = go (b == 99) refl h (λ rest. tail_misfit k rest here)
      where
        go : (d : Bool) → (b == 99) ≡ d → cond d (Ok g) (symbol_at c (b ∷ bytes) >>= λ s. tail_at c g k s.1) ≡ Err (Wrong here) →
            ((rest : List ℕ) → tail_at c g k rest ≡ Err (Wrong here) → Misfit rest here) → Misfit (b ∷ bytes) here
        go true e f more = absurd (cc)
        go false e f more = ⊎_elim early late (bind_err (symbol_at c (b ∷ bytes)) (λ s. tail_at c g k s.1) (Wrong here) f)
          where
            early : symbol_at c (b ∷ bytes) ≡ Err (Wrong here) → Misfit (b ∷ bytes) here
            early q =
                let r = (symbol_steady c).sound.misfit (b ∷ bytes) here q in
                record { front = r.front; number = r.number; after = r.after; is = r.is; here_is = r.here_is; again = λ m. ends_wrong (r.front ++ (r.number ++ m)) (r.number ++ m) (r.again m) }

            late : ((x : Unit {0} × List ℕ) × (symbol_at c (b ∷ bytes) ≡ Ok x) × (tail_at c g k x.1 ≡ Err (Wrong here))) → Misfit (b ∷ bytes) here
            late o =
                let t = (symbol_steady c).takes (b ∷ bytes) o.0.0 o.0.1 o.1 in
                let r = more o.0.1 o.2 in
                record {
                  front = t.front ++ r.front;
                  number = r.number;
                  after = r.after;
                  is = t.is ∙ ap (λ ys. t.front ++ ys) r.is ∙ sym (append_assoc t.front r.front (r.number ++ r.after));
                  here_is = r.here_is;
                  again = λ m. subst (λ ys. Ends ys (Err (Wrong (r.number ++ m)))) (sym (append_assoc t.front r.front (r.number ++ m)))
                      (ends_behind (t.front ++ (r.front ++ (r.number ++ m))) o.0.0 (r.front ++ (r.number ++ m)) (Err (Wrong (r.number ++ m))) (t.again (r.front ++ (r.number ++ m))) (r.again m));
                }

    abbrev EndsWell : List ℕ → Type 0
    EndsWell bytes = Ends bytes (Ok g) ⊎ ((here : List ℕ) × Ends bytes (Err (Wrong here)))

    -- what can be gone on with, but not by the next byte
    record Stuck (bytes rest : List ℕ) : Type 0 where
      front : List ℕ
      is : bytes ≡ front ++ rest
      open_end : (more : List ℕ) × EndsWell (front ++ more)
      blocked : (b : ℕ) (tail : List ℕ) → rest ≡ b ∷ tail → (more : List ℕ) → Ends (front ++ b ∷ more) (Err (Stops (b ∷ more)))

    -- the first byte stays where a list is cut after it
    first_stays : (b d : ℕ) (bytes front tail more : List ℕ) → (b == 99) ≡ false → b ∷ bytes ≡ front ++ d ∷ tail → GoesOn (front ++ d ∷ more)
    first_stays b d bytes [] tail more e is = let same : b ≡ d = cc in subst (λ y. (y == 99) ≡ false) same e
    first_stays b d bytes (f ∷ front) tail more e is = let same : b ≡ f = cc in subst (λ y. (y == 99) ≡ false) same e

    tail_stuck : (k : ℕ) (bytes rest : List ℕ) → length bytes ≤ k → tail_at c g k bytes ≡ Err (Stops rest) → Stuck bytes rest
    tail_stuck k [] rest few h = absurd (cc)
    tail_stuck zero (b ∷ bytes) rest few h = absurd (omega arith)
    tail_stuck (suc k) (b ∷ bytes) rest few h = go (b == 99) refl h (λ ys. tail_stuck k ys rest)
      where
        go : (d : Bool) → (b == 99) ≡ d → cond d (Ok g) (symbol_at c (b ∷ bytes) >>= λ s. tail_at c g k s.1) ≡ Err (Stops rest) →
            ((ys : List ℕ) → length ys ≤ k → tail_at c g k ys ≡ Err (Stops rest) → Stuck ys rest) → Stuck (b ∷ bytes) rest
        go true e f more = absurd (cc)
        go false e f more = ⊎_elim early late (bind_err (symbol_at c (b ∷ bytes)) (λ s. tail_at c g k s.1) (Stops rest) f)
          where
            well : (bytes : List ℕ) → Outcome (λ x. x.1 ≡ []) (symbol_at c) bytes → EndsWell bytes
            well ys (inl o) = inl (ends_behind ys o.0.0 o.0.1 (Ok g) o.2 (subst (λ zs. Ends zs (Ok g)) (sym o.1) ends_nil))
            well ys (inr o) = inr (o.0, ends_wrong ys o.0 o.1)

            early : symbol_at c (b ∷ bytes) ≡ Err (Stops rest) → Stuck (b ∷ bytes) rest
            early q =
                let r = (symbol_steady c).sound.stuck (b ∷ bytes) rest q in
                record {
                  front = r.front;
                  is = r.is;
                  open_end = (r.open_end.0, well (r.front ++ r.open_end.0) r.open_end.1);
                  blocked = λ d tail p m. ends_stops (r.front ++ d ∷ m) (d ∷ m) (first_stays b d bytes r.front tail m e (r.is ∙ ap (λ ys. r.front ++ ys) p)) (r.blocked d tail p m);
                }

            well_behind : (front ys : List ℕ) (s : Unit {0}) → symbol_at c (front ++ ys) ≡ Ok (s, ys) → EndsWell ys → EndsWell (front ++ ys)
            well_behind front ys s e (inl o) = inl (ends_behind (front ++ ys) s ys (Ok g) e o)
            well_behind front ys s e (inr o) = inr (o.0, ends_behind (front ++ ys) s ys (Err (Wrong o.0)) e o.1)

            late : ((x : Unit {0} × List ℕ) × (symbol_at c (b ∷ bytes) ≡ Ok x) × (tail_at c g k x.1 ≡ Err (Stops rest))) → Stuck (b ∷ bytes) rest
            late o =
                let t = (symbol_steady c).takes (b ∷ bytes) o.0.0 o.0.1 o.1 in
                let r = more o.0.1 (omega (arith, shrinks (b ∷ bytes) o.0.0 o.0.1 o.1)) o.2 in
                record {
                  front = t.front ++ r.front;
                  is = t.is ∙ ap (λ ys. t.front ++ ys) r.is ∙ sym (append_assoc t.front r.front rest);
                  open_end = (r.open_end.0, subst EndsWell (sym (append_assoc t.front r.front r.open_end.0)) (well_behind t.front (r.front ++ r.open_end.0) o.0.0 (t.again (r.front ++ r.open_end.0)) r.open_end.1));
                  blocked = λ d tail p m. subst (λ ys. Ends ys (Err (Stops (d ∷ m)))) (sym (append_assoc t.front r.front (d ∷ m)))
                      (ends_behind (t.front ++ (r.front ++ d ∷ m)) o.0.0 (r.front ++ d ∷ m) (Err (Stops (d ∷ m))) (t.again (r.front ++ d ∷ m)) (r.blocked d tail p m));
                }

    abbrev pub Any : Listing → Type 0
    Any x = Unit {0}

    tail_outcome : (bytes : List ℕ) → EndsWell bytes → Outcome Any (λ ys. tail_at c g (length ys) ys) bytes
    tail_outcome bytes (inl o) = inl (g, tt, o (length bytes) (omega arith))
    tail_outcome bytes (inr o) = inr (o.0, o.1 (length bytes) (omega arith))

    pub tail_sound : Sound Any (λ bytes. tail_at c g (length bytes) bytes)
    tail_sound = record {
      misfit = λ bytes here h.
          let r = tail_misfit (length bytes) bytes here h in
          record { front = r.front; number = r.number; after = r.after; is = r.is; here_is = r.here_is; again = λ m. r.again m (length (r.front ++ (r.number ++ m))) (omega arith) };
      stuck = λ bytes rest h.
          let r = tail_stuck (length bytes) bytes rest (omega arith) h in
          record { front = r.front; is = r.is; open_end = (r.open_end.0, tail_outcome (r.front ++ r.open_end.0) r.open_end.1); blocked = λ b tail q m. r.blocked b tail q m (length (r.front ++ b ∷ m)) (omega arith) };
      ends = ([], tail_outcome [] (inl ends_nil));
    }

abbrev pub Some_listing : Listing → Type 0
Some_listing x = Unit {0}

pub rest_sound : (form : Form) (c : Counts) → Sound Some_listing (rest_at form c)
unfolding rest_at
rest_sound form c = both_sound Some_listing (body_at form c) (λ g bytes. tail_at c g (length bytes) bytes) (body_steady form c) (λ g. tail_sound c g)
