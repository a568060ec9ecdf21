-- Readers whose answer at a byte does not depend on the bytes after it.
use Rattle.std.specs.Prelude.{◌≡◌, ℕ, Bool, true, false, cond, ◌⊎◌, List, [], ◌∷◌, ◌++◌, Result, Ok, Err}
use Rattle.std.proofs.Common.{refl, sym, ap, subst, ◌∙◌, append_assoc, append-nil, inl, inr, ⊎_elim}
use Rattle.graph_core.specs.Aiger.Reading.{Stop, Stops, Wrong, ◌>>=◌, Next, Go, Done, No, Bad, advance, scan, from_start}

pub same_Ok : {A E : Type 0} (x y : A) → ◌≡◌ {A = Result A E} (Ok x) (Ok y) → x ≡ y
same_Ok {A} {E} x y h = ap out h
  where
    out : Result A E → A
    out (Ok z) = z
    out (Err e) = x

pub same_Err : {A E : Type 0} (x y : E) → ◌≡◌ {A = Result A E} (Err x) (Err y) → x ≡ y
same_Err {A} {E} x y h = ap out h
  where
    out : Result A E → E
    out (Ok z) = x
    out (Err e) = e

-- a step that gave something, and one that failed
pub bind_ok : {A B : Type 0} (o : Result A Stop) (f : A → Result B Stop) (y : B) → (o >>= f) ≡ Ok y → (x : A) × (o ≡ Ok x) × (f x ≡ Ok y)
bind_ok (Ok x) f y h = (x, refl, h)
bind_ok (Err e) f y h = absurd (cc)

pub bind_err : {A B : Type 0} (o : Result A Stop) (f : A → Result B Stop) (e : Stop) → (o >>= f) ≡ Err e → (o ≡ Err e) ⊎ ((x : A) × (o ≡ Ok x) × (f x ≡ Err e))
bind_err (Ok x) f e h = inr (x, refl, h)
bind_err (Err d) f e h = inl (ap Err (same_Err d e h))

-- the reader ends the bytes: with a value of which P holds, or with a number out of range
abbrev pub Outcome : {B : Type 0} → (B → Type 0) → (List ℕ → Result B Stop) → List ℕ → Type 0
Outcome {B} P R bytes = ((x : B) × P x × (R bytes ≡ Ok x)) ⊎ ((here : List ℕ) × (R bytes ≡ Err (Wrong here)))

-- what was read, whatever comes after it
pub record IsTaken {A : Type 0} (R : List ℕ → Result (A × List ℕ) Stop) (bytes : List ℕ) (a : A) (rest : List ℕ) : Type 0 where
  pub front : List ℕ
  pub is : bytes ≡ front ++ rest
  pub again : (more : List ℕ) → R (front ++ more) ≡ Ok (a, more)

-- a number out of range, whatever comes after it
pub record IsMisfit {B : Type 0} (R : List ℕ → Result B Stop) (bytes here : List ℕ) : Type 0 where
  pub front : List ℕ
  pub number : List ℕ
  pub after : List ℕ
  pub is : bytes ≡ front ++ (number ++ after)
  pub here_is : here ≡ number ++ after
  pub again : (more : List ℕ) → R (front ++ (number ++ more)) ≡ Err (Wrong (number ++ more))

-- what was read can be gone on with, but not by the next byte
pub record IsStuck {B : Type 0} (P : B → Type 0) (R : List ℕ → Result B Stop) (bytes rest : List ℕ) : Type 0 where
  pub front : List ℕ
  pub is : bytes ≡ front ++ rest
  pub open_end : (more : List ℕ) × Outcome P R (front ++ more)
  pub blocked : (b : ℕ) (tail : List ℕ) → rest ≡ b ∷ tail → (more : List ℕ) → R (front ++ b ∷ more) ≡ Err (Stops (b ∷ more))

pub record Sound {B : Type 0} (P : B → Type 0) (R : List ℕ → Result B Stop) : Type 0 where
  pub misfit : (bytes here : List ℕ) → R bytes ≡ Err (Wrong here) → IsMisfit R bytes here
  pub stuck : (bytes rest : List ℕ) → R bytes ≡ Err (Stops rest) → IsStuck P R bytes rest
  pub ends : (more : List ℕ) × Outcome P R more

abbrev pub Whole : {A : Type 0} → A × List ℕ → Type 0
Whole x = x.1 ≡ []

pub record Steady {A : Type 0} (R : List ℕ → Result (A × List ℕ) Stop) : Type 0 where
  pub takes : (bytes : List ℕ) (a : A) (rest : List ℕ) → R bytes ≡ Ok (a, rest) → IsTaken R bytes a rest
  pub sound : Sound Whole R

-- ---- one byte after the other

module _ {S A : Type 0} (step : S → ℕ → Next S A) where
  one_more : (s t : S) (b : ℕ) (bytes : List ℕ) → step s b ≡ Go t → scan step s (b ∷ bytes) ≡ scan step t bytes
  one_more s t b bytes e = ap (advance (λ u. scan step u bytes) b bytes) e

  scan_takes : (bytes : List ℕ) (s : S) (a : A) (rest : List ℕ) → scan step s bytes ≡ Ok (a, rest) → IsTaken (scan step s) bytes a rest
  scan_takes [] s a rest h = absurd (cc)
  scan_takes (b ∷ bytes) s a rest h = go (step s b) refl h (λ t. scan_takes bytes t a rest)
    where
      go : (n : Next S A) → step s b ≡ n → advance (λ t. scan step t bytes) b bytes n ≡ Ok (a, rest) →
          ((t : S) → scan step t bytes ≡ Ok (a, rest) → IsTaken (scan step t) bytes a rest) → IsTaken (scan step s) (b ∷ bytes) a rest
      go (Go t) e f more =
          let r = more t f in
          record { front = b ∷ r.front; is = ap (λ ys. b ∷ ys) r.is; again = λ m. one_more s t b (r.front ++ m) e ∙ r.again m }
      go (Done x) e f more =
          let both = same_Ok (x, bytes) (a, rest) f in
          let left : bytes ≡ rest = ap (λ p. p.1) both in
          let same : x ≡ a = ap (λ p. p.0) both in
          record { front = b ∷ []; is = ap (λ ys. b ∷ ys) left; again = λ m. ap (advance (λ u. scan step u m) b m) e ∙ ap (λ y. Ok (y, m)) same }
      go No e f more = absurd (cc)
      go Bad e f more = absurd (cc)

  scan_misfit : (bytes : List ℕ) (s : S) (here : List ℕ) → scan step s bytes ≡ Err (Wrong here) → IsMisfit (scan step s) bytes here
  scan_misfit [] s here h = absurd (cc)
  scan_misfit (b ∷ bytes) s here h = go (step s b) refl h (λ t. scan_misfit bytes t here)
    where
      go : (n : Next S A) → step s b ≡ n → advance (λ t. scan step t bytes) b bytes n ≡ Err (Wrong here) →
          ((t : S) → scan step t bytes ≡ Err (Wrong here) → IsMisfit (scan step t) bytes here) → IsMisfit (scan step s) (b ∷ bytes) here
      go (Go t) e f more =
          let r = more t f in
          record { front = b ∷ r.front; number = r.number; after = r.after; is = ap (λ ys. b ∷ ys) r.is; here_is = r.here_is; again = λ m. one_more s t b (r.front ++ (r.number ++ m)) e ∙ r.again m }
      go (Done x) e f more = absurd (cc)
      go No e f more = absurd (cc)
      go Bad e f more =
          let left : b ∷ bytes ≡ here = cc in
          record { front = []; number = b ∷ []; after = bytes; is = refl; here_is = sym left; again = λ m. ap (advance (λ u. scan step u m) b m) e }

  module _ (ends : (s : S) → (more : List ℕ) × Outcome Whole (scan step s) more) where
    scan_stuck : (bytes : List ℕ) (s : S) (rest : List ℕ) → scan step s bytes ≡ Err (Stops rest) → IsStuck Whole (scan step s) bytes rest
    scan_stuck [] s rest h =
        let left : [] ≡ rest = cc in
        record { front = []; is = left; open_end = ends s; blocked = λ b tail e m. absurd (cc) }
    scan_stuck (b ∷ bytes) s rest h = go (step s b) refl h (λ t. scan_stuck bytes t rest)
      where
        go : (n : Next S A) → step s b ≡ n → advance (λ t. scan step t bytes) b bytes n ≡ Err (Stops rest) →
            ((t : S) → scan step t bytes ≡ Err (Stops rest) → IsStuck Whole (scan step t) bytes rest) → IsStuck Whole (scan step s) (b ∷ bytes) rest
        go (Go t) e f more =
            let r = more t f in
            let P : Result (A × List ℕ) Stop → Type 0 = λ o. ((x : A × List ℕ) × Whole x × (o ≡ Ok x)) ⊎ ((here : List ℕ) × (o ≡ Err (Wrong here))) in
            record {
              front = b ∷ r.front;
              is = ap (λ ys. b ∷ ys) r.is;
              open_end = (r.open_end.0, subst P (sym (one_more s t b (r.front ++ r.open_end.0) e)) r.open_end.1);
              blocked = λ c tail q m. one_more s t b (r.front ++ c ∷ m) e ∙ r.blocked c tail q m;
            }
        go (Done x) e f more = absurd (cc)
        go No e f more =
            let left : b ∷ bytes ≡ rest = cc in
            record {
              front = [];
              is = left;
              open_end = ends s;
              blocked = λ c tail q m. let same : b ≡ c = cc in subst (λ y. scan step s (y ∷ m) ≡ Err (Stops (y ∷ m))) same (ap (advance (λ u. scan step u m) b m) e);
            }
        go Bad e f more = absurd (cc)

    pub scan_steady : (s : S) → Steady (scan step s)
    scan_steady s = record {
      takes = λ bytes a rest. scan_takes bytes s a rest;
      sound = record { misfit = λ bytes here. scan_misfit bytes s here; stuck = λ bytes rest. scan_stuck bytes s rest; ends = ends s };
    }

-- ---- one reader after the other

abbrev pub both : {A B : Type 0} → (List ℕ → Result (A × List ℕ) Stop) → (A → List ℕ → Result B Stop) → List ℕ → Result B Stop
both R F bytes = R bytes >>= λ x. F x.0 x.1

module _ {A B : Type 0} (P : B → Type 0) (R : List ℕ → Result (A × List ℕ) Stop) (F : A → List ℕ → Result B Stop) where
  -- the first reader's text, and then the second one's
  behind : (front more bytes : List ℕ) (a : A) → ((m : List ℕ) → R (front ++ m) ≡ Ok (a, m)) → bytes ≡ front ++ more → both R F bytes ≡ F a more
  behind front more bytes a again is = ap (both R F) is ∙ ap (λ o. o >>= λ x. F x.0 x.1) (again more)

  outcome_behind : (front more bytes : List ℕ) (a : A) → ((m : List ℕ) → R (front ++ m) ≡ Ok (a, m)) → bytes ≡ front ++ more → Outcome P (F a) more → Outcome P (both R F) bytes
  outcome_behind front more bytes a again is o =
      let Q : Result B Stop → Type 0 = λ r. ((x : B) × P x × (r ≡ Ok x)) ⊎ ((here : List ℕ) × (r ≡ Err (Wrong here))) in
      subst Q (sym (behind front more bytes a again is)) o

  module _ (first : Steady R) (second : (a : A) → Sound P (F a)) where
    -- an outcome of the first reader, and then one of the second
    outcome_then : (bytes : List ℕ) → Outcome Whole R bytes → (more : List ℕ) × Outcome P (both R F) (bytes ++ more)
    outcome_then bytes (inl o) =
        let t = first.takes bytes o.0.0 o.0.1 o.2 in
        let next = (second o.0.0).ends in
        let is : bytes ≡ t.front = t.is ∙ ap (λ ys. t.front ++ ys) o.1 ∙ append-nil t.front in
        (next.0, outcome_behind t.front next.0 (bytes ++ next.0) o.0.0 t.again (ap (λ ys. ys ++ next.0) is) next.1)
    outcome_then bytes (inr o) = ([], inr (o.0, ap (both R F) (append-nil bytes) ∙ ap (λ r. r >>= λ x. F x.0 x.1) o.1))

    both_misfit : (bytes here : List ℕ) → both R F bytes ≡ Err (Wrong here) → IsMisfit (both R F) bytes here
    both_misfit bytes here h = ⊎_elim early late (bind_err (R bytes) (λ x. F x.0 x.1) (Wrong here) h)
      where
        early : R bytes ≡ Err (Wrong here) → IsMisfit (both R F) bytes here
        early e =
            let r = first.sound.misfit bytes here e in
            record { front = r.front; number = r.number; after = r.after; is = r.is; here_is = r.here_is; again = λ m. ap (λ o. o >>= λ x. F x.0 x.1) (r.again m) }

        late : ((x : A × List ℕ) × (R bytes ≡ Ok x) × (F x.0 x.1 ≡ Err (Wrong here))) → IsMisfit (both R F) bytes here
        late o =
            let t = first.takes bytes o.0.0 o.0.1 o.1 in
            let r = (second o.0.0).misfit o.0.1 here o.2 in
            record {
              front = t.front ++ r.front;
              number = r.number;
              after = r.after;
              is = t.is ∙ ap (λ ys. t.front ++ ys) r.is ∙ sym (append_assoc t.front r.front (r.number ++ r.after));
              here_is = r.here_is;
              again = λ m. behind t.front (r.front ++ (r.number ++ m)) ((t.front ++ r.front) ++ (r.number ++ m)) o.0.0 t.again (append_assoc t.front r.front (r.number ++ m)) ∙ r.again m;
            }

    both_stuck : (bytes rest : List ℕ) → both R F bytes ≡ Err (Stops rest) → IsStuck P (both R F) bytes rest
    both_stuck bytes rest h = ⊎_elim early late (bind_err (R bytes) (λ x. F x.0 x.1) (Stops rest) h)
      where
        early : R bytes ≡ Err (Stops rest) → IsStuck P (both R F) bytes rest
        early e =
            let r = first.sound.stuck bytes rest e in
            let o = outcome_then (r.front ++ r.open_end.0) r.open_end.1 in
            record {
              front = r.front;
              is = r.is;
              open_end = (r.open_end.0 ++ o.0, subst (Outcome P (both R F)) (append_assoc r.front r.open_end.0 o.0) o.1);
              blocked = λ b tail q m. ap (λ y. y >>= λ x. F x.0 x.1) (r.blocked b tail q m);
            }

        late : ((x : A × List ℕ) × (R bytes ≡ Ok x) × (F x.0 x.1 ≡ Err (Stops rest))) → IsStuck P (both R F) bytes rest
        late o =
            let t = first.takes bytes o.0.0 o.0.1 o.1 in
            let r = (second o.0.0).stuck o.0.1 rest o.2 in
            record {
              front = t.front ++ r.front;
              is = t.is ∙ ap (λ ys. t.front ++ ys) r.is ∙ sym (append_assoc t.front r.front rest);
              open_end = (r.open_end.0, outcome_behind t.front (r.front ++ r.open_end.0) ((t.front ++ r.front) ++ r.open_end.0) o.0.0 t.again (append_assoc t.front r.front r.open_end.0) r.open_end.1);
              blocked = λ b tail q m. behind t.front (r.front ++ b ∷ m) ((t.front ++ r.front) ++ b ∷ m) o.0.0 t.again (append_assoc t.front r.front (b ∷ m)) ∙ r.blocked b tail q m;
            }

    pub both_sound : Sound P (both R F)
    both_sound = record {
      misfit = both_misfit;
      stuck = both_stuck;
      ends = let o = outcome_then first.sound.ends.0 first.sound.ends.1 in (first.sound.ends.0 ++ o.0, o.1);
    }

pub both_steady : {A B : Type 0} (R : List ℕ → Result (A × List ℕ) Stop) (F : A → List ℕ → Result (B × List ℕ) Stop) → Steady R → ((a : A) → Steady (F a)) → Steady (both R F)
both_steady {A} {B} R F first second = record { takes = takes; sound = both_sound Whole R F first (λ a. (second a).sound) }
  where
    takes : (bytes : List ℕ) (b : B) (rest : List ℕ) → both R F bytes ≡ Ok (b, rest) → IsTaken (both R F) bytes b rest
    takes bytes b rest h =
        let o = bind_ok (R bytes) (λ x. F x.0 x.1) (b, rest) h in
        let t = first.takes bytes o.0.0 o.0.1 o.1 in
        let u = (second o.0.0).takes o.0.1 b rest o.2 in
        record {
          front = t.front ++ u.front;
          is = t.is ∙ ap (λ ys. t.front ++ ys) u.is ∙ sym (append_assoc t.front u.front rest);
          again = λ m. behind Whole R F t.front (u.front ++ m) ((t.front ++ u.front) ++ m) o.0.0 t.again (append_assoc t.front u.front m) ∙ u.again m;
        }

-- a value and no byte
abbrev pub pure : {A : Type 0} → A → List ℕ → Result (A × List ℕ) Stop
pure a bytes = Ok (a, bytes)

pub pure_steady : {A : Type 0} (a : A) → Steady (pure a)
pure_steady {A} a = record { takes = takes; sound = record { misfit = λ bytes here h. absurd (cc); stuck = λ bytes rest h. absurd (cc); ends = ([], inl ((a, []), refl, refl)) } }
  where
    takes : (bytes : List ℕ) (b : A) (rest : List ℕ) → pure a bytes ≡ Ok (b, rest) → IsTaken (pure a) bytes b rest
    takes bytes b rest h =
        let e = same_Ok (a, bytes) (b, rest) h in
        record { front = []; is = ap (λ p. p.1) e; again = λ m. ap (λ y. Ok (y, m)) (ap (λ p. p.0) e) }

pub if_steady : {A : Type 0} (c : Bool) (R S : List ℕ → Result (A × List ℕ) Stop) → Steady R → Steady S → Steady (λ bytes. cond c (R bytes) (S bytes))
if_steady true R S r s = r
if_steady false R S r s = s

-- ---- a number that is refused at its first byte

pub started_ok : {A : Type 0} (bytes : List ℕ) (o : Result (A × List ℕ) Stop) (x : A × List ℕ) → from_start bytes o ≡ Ok x → o ≡ Ok x
started_ok bytes (Ok y) x h = h
started_ok bytes (Err (Stops rest)) x h = absurd (cc)
started_ok bytes (Err (Wrong rest)) x h = absurd (cc)

pub started_stuck : {A : Type 0} (bytes : List ℕ) (o : Result (A × List ℕ) Stop) (rest : List ℕ) → from_start bytes o ≡ Err (Stops rest) → o ≡ Err (Stops rest)
started_stuck bytes (Ok y) rest h = absurd (cc)
started_stuck bytes (Err (Stops r)) rest h = h
started_stuck bytes (Err (Wrong r)) rest h = absurd (cc)

pub started_wrong : {A : Type 0} (bytes : List ℕ) (o : Result (A × List ℕ) Stop) (here : List ℕ) → from_start bytes o ≡ Err (Wrong here) → (bytes ≡ here) × ((r : List ℕ) × (o ≡ Err (Wrong r)))
started_wrong bytes (Ok y) here h = absurd (cc)
started_wrong bytes (Err (Stops r)) here h = absurd (cc)
started_wrong bytes (Err (Wrong r)) here h = (cc, (r, refl))

module _ {A : Type 0} (R : List ℕ → Result (A × List ℕ) Stop) (steady : Steady R) where
  abbrev started : List ℕ → Result (A × List ℕ) Stop
  started bytes = from_start bytes (R bytes)

  started_outcome : (bytes : List ℕ) → Outcome Whole R bytes → Outcome Whole started bytes
  started_outcome bytes (inl o) = inl (o.0, o.1, ap (from_start bytes) o.2)
  started_outcome bytes (inr o) = inr (bytes, ap (from_start bytes) o.1)

  started_takes : (bytes : List ℕ) (a : A) (rest : List ℕ) → started bytes ≡ Ok (a, rest) → IsTaken started bytes a rest
  started_takes bytes a rest h =
      let t = steady.takes bytes a rest (started_ok bytes (R bytes) (a, rest) h) in
      record { front = t.front; is = t.is; again = λ m. ap (from_start (t.front ++ m)) (t.again m) }

  started_misfit : (bytes here : List ℕ) → started bytes ≡ Err (Wrong here) → IsMisfit started bytes here
  started_misfit bytes here h =
      let w = started_wrong bytes (R bytes) here h in
      let r = steady.sound.misfit bytes w.1.0 w.1.1 in
      record {
        front = [];
        number = r.front ++ r.number;
        after = r.after;
        is = r.is ∙ sym (append_assoc r.front r.number r.after);
        here_is = sym w.0 ∙ r.is ∙ sym (append_assoc r.front r.number r.after);
        again = λ m. ap (λ ys. from_start ((r.front ++ r.number) ++ m) (R ys)) (append_assoc r.front r.number m) ∙ ap (from_start ((r.front ++ r.number) ++ m)) (r.again m);
      }

  pub started_steady : Steady (λ bytes. from_start bytes (R bytes))
  started_steady = record {
    takes = started_takes;
    sound = record {
      misfit = started_misfit;
      stuck = λ bytes rest h.
          let r = steady.sound.stuck bytes rest (started_stuck bytes (R bytes) rest h) in
          record { front = r.front; is = r.is; open_end = (r.open_end.0, started_outcome (r.front ++ r.open_end.0) r.open_end.1); blocked = λ b tail q m. ap (from_start (r.front ++ b ∷ m)) (r.blocked b tail q m) };
      ends = (steady.sound.ends.0, started_outcome steady.sound.ends.0 steady.sound.ends.1);
    };
  }
