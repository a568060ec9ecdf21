-- The live clauses of a list by places, as one is added or removed.
use Rattle.std.specs.Prelude.{◌≡◌, ℕ, zero, suc, List, [], ◌∷◌, ◌++◌, ◌<◌, length, take, drop, slice_index, slice_set}
use Rattle.std.specs.declared.option.Option.{Option}
use Rattle.std.specs.declared.option.Option.TheVariants.{None, Some}
use Rattle.std.specs.List.{Contains}
use Rattle.std.proofs.Common.{refl, sym, ap, ap₂, subst, ◌∙◌, arith}
use Rattle.clause_core.specs.Clause.{Clause, SameSet}
use Rattle.clause_core.specs.ClauseLines.{Removes}
use Rattle.clause_core.proofs.CallerLemmas.{contains_here, contains_there}
use Rattle.unit_prop.specs.Standing.{clause_at, live_of}
use Rattle.drup_checker.specs.Checking.{LosesOne, Numbered, numbered_of}

pub live_of-append : (xs : List (Option Clause)) (c : Clause) → live_of (xs ++ Some c ∷ []) ≡ live_of xs ++ c ∷ []
live_of-append [] c = refl
live_of-append (None ∷ xs) c = live_of-append xs c
live_of-append (Some d ∷ xs) c = ap (λ (ys : List Clause). d ∷ ys) (live_of-append xs c)

-- those of one place more
pub live_more : (xs : List (Option Clause)) (n : ℕ) (o : Option Clause) → n < length xs → clause_at xs n ≡ o → live_of (take (suc n) xs) ≡ live_of (take n xs) ++ live_of (o ∷ [])
live_more [] n o h e = absurd (omega arith)
live_more (x ∷ xs) zero o h e = subst (λ (y : Option Clause). live_of (x ∷ []) ≡ live_of (y ∷ [])) e refl
live_more (None ∷ xs) (suc n) o h e = live_more xs n o (omega arith) e
live_more (Some c ∷ xs) (suc n) o h e = ap (λ (ys : List Clause). c ∷ ys) (live_more xs n o (omega arith) e)

-- ---- removal

-- one at a place is removed
pub removes_at : (xs : List (Option Clause)) (place : ℕ) (d c : Clause) → clause_at xs place ≡ Some d → SameSet d c → Removes (live_of xs) c (live_of (slice_set xs place None))
removes_at [] place d c is same = absurd (cc)
removes_at (None ∷ xs) zero d c is same = absurd (cc)
removes_at (Some e ∷ xs) zero d c is same = let f : e ≡ d = cc in ([], live_of xs, e, subst (λ x. SameSet x c) (sym f) same, refl, refl)
removes_at (None ∷ xs) (suc place) d c is same = removes_at xs place d c is same
removes_at (Some e ∷ xs) (suc place) d c is same =
    let r = removes_at xs place d c is same in
    (e ∷ r.0, r.1, r.2, r.3, ap (λ (ys : List Clause). e ∷ ys) r.4, ap (λ (ys : List Clause). e ∷ ys) r.5)

-- ---- the clauses with their numbers

pub numbered_of-append : (xs : List (Option Clause)) (ns : List ℕ) (c : Clause) (n : ℕ) → length ns ≡ length xs → numbered_of (xs ++ Some c ∷ []) (ns ++ n ∷ []) ≡ numbered_of xs ns ++ record { clause = c; number = n } ∷ []
numbered_of-append [] [] c n e = refl
numbered_of-append [] (m ∷ ns) c n e = absurd (omega arith)
numbered_of-append (x ∷ xs) [] c n e = absurd (omega arith)
numbered_of-append (None ∷ xs) (m ∷ ns) c n e = numbered_of-append xs ns c n (omega arith)
numbered_of-append (Some d ∷ xs) (m ∷ ns) c n e = ap (λ (ys : List Numbered). record { clause = d; number = m } ∷ ys) (numbered_of-append xs ns c n (omega arith))

-- those of one place more
pub numbered_more : (xs : List (Option Clause)) (ns : List ℕ) (n : ℕ) (o : Option Clause) (m : ℕ) → length ns ≡ length xs → n < length xs → clause_at xs n ≡ o → slice_index ns n ≡ m →
    numbered_of (take (suc n) xs) (take (suc n) ns) ≡ numbered_of (take n xs) (take n ns) ++ numbered_of (o ∷ []) (m ∷ [])
numbered_more [] ns n o m even h e f = absurd (omega arith)
numbered_more (x ∷ xs) [] n o m even h e f = absurd (omega arith)
numbered_more (x ∷ xs) (k ∷ ns) zero o m even h e f = ap₂ (λ (y : Option Clause) (q : ℕ). numbered_of (y ∷ []) (q ∷ [])) e f
numbered_more (None ∷ xs) (k ∷ ns) (suc n) o m even h e f = numbered_more xs ns n o m (omega arith) (omega arith) e f
numbered_more (Some c ∷ xs) (k ∷ ns) (suc n) o m even h e f = ap (λ (ys : List Numbered). record { clause = c; number = k } ∷ ys) (numbered_more xs ns n o m (omega arith) (omega arith) e f)

-- one at a place is lost
pub loses_at : (xs : List (Option Clause)) (ns : List ℕ) (place : ℕ) (d c : Clause) → length ns ≡ length xs → clause_at xs place ≡ Some d → SameSet d c → LosesOne c (numbered_of xs ns) (numbered_of (slice_set xs place None) ns)
loses_at [] ns place d c even is same = absurd (cc)
loses_at (x ∷ xs) [] place d c even is same = absurd (omega arith)
loses_at (None ∷ xs) (n ∷ ns) zero d c even is same = absurd (cc)
loses_at (Some e ∷ xs) (n ∷ ns) zero d c even is same = let f : e ≡ d = cc in ([], numbered_of xs ns, record { clause = e; number = n }, subst (λ x. SameSet x c) (sym f) same, refl, refl)
loses_at (None ∷ xs) (n ∷ ns) (suc place) d c even is same = loses_at xs ns place d c (omega arith) is same
loses_at (Some e ∷ xs) (n ∷ ns) (suc place) d c even is same =
    let r = loses_at xs ns place d c (omega arith) is same in
    let first : Numbered = record { clause = e; number = n } in
    (first ∷ r.0, r.1, r.2, r.3, ap (λ (ys : List Numbered). first ∷ ys) r.4, ap (λ (ys : List Numbered). first ∷ ys) r.5)

-- a live one of a place, with the place's number
pub numbered_has : (xs : List (Option Clause)) (ns : List ℕ) (place : ℕ) (c : Clause) → length ns ≡ length xs → clause_at xs place ≡ Some c → Contains (numbered_of xs ns) (record { clause = c; number = slice_index ns place })
numbered_has [] ns place c even is = absurd (cc)
numbered_has (x ∷ xs) [] place c even is = absurd (omega arith)
numbered_has (None ∷ xs) (n ∷ ns) zero c even is = absurd (cc)
numbered_has (Some d ∷ xs) (n ∷ ns) zero c even is =
    let f : d ≡ c = cc in
    subst (λ (x : Clause). Contains (record { clause = d; number = n } ∷ numbered_of xs ns) (record { clause = x; number = n })) f (contains_here (record { clause = d; number = n }) (numbered_of xs ns))
numbered_has (None ∷ xs) (n ∷ ns) (suc place) c even is = numbered_has xs ns place c (omega arith) is
numbered_has (Some d ∷ xs) (n ∷ ns) (suc place) c even is =
    contains_there (record { clause = d; number = n }) (numbered_of xs ns) (record { clause = c; number = slice_index ns place }) (numbered_has xs ns place c (omega arith) is)

-- what a list holds after a write of all its places
pub written : {X : Type 0} (len : ℕ) (new old : List X) → len ≡ length old → length new ≡ length old → take len (new ++ drop (length new) old) ≡ new
written len [] [] e f = ap (λ n. take n []) e
written len [] (y ∷ old) e f = absurd (omega arith)
written len (x ∷ new) [] e f = absurd (omega arith)
written len (x ∷ new) (y ∷ old) e f = ap (λ n. take n (x ∷ (new ++ drop (length new) old))) e ∙ ap (λ (ys : List _). x ∷ ys) (written (length old) new old refl (omega arith))
