-- Lists of files, and the first file of a name.
use Rattle.std.proofs.Common.{◌≡◌, ◌≢◌, ℕ, ◌+◌, ◌<◌, ◌≤◌, Bool, true, false, cond, List, [], ◌∷◌, ◌++◌, length, map, set, get_or, take, drop, find, slice_get, nat_lt, not, eqb, Some, None, Option, option_map, refl, sym, ap, inl, inr, ◌⊎◌, ◌∙◌, arith}
use Rattle.std.proofs.lemmas.Bool.{eq-eqb, ltb-false, ne_eqb}
use Rattle.std.proofs.lemmas.Bool.Decides.{eqb_tells}
use Rattle.std.proofs.lemmas.List.{drop-drop, get_or-map, map-set, get_or-set_other, get_or-set_same, length-take-le, take-append-drop, take-append-le, take-take}
use Rattle.std.proofs.lemmas.List.Folds.{find_at, find-append, find-set, find_past, position_or_len-set, position_or_len_push}
use Rattle.std.proofs.lemmas.List.Quantifiers.{position-Some}
use Rattle.std.proofs.lemmas.List.Sums.{prefix_len-le-length}
use Rattle.std.proofs.lemmas.Option.{slice_get-get_or, slice_get_past}
use Rattle.std.proofs.lemmas.Slice.Eq.{bytes_eq-Decides}
use Rattle.std.proofs.Math.ListN.{get_or-append, length-append, length-map, length-set}
use Rattle.std.proofs.Math.Seq.{get_or-append_seam, map-set_same}
use Rattle.std.specs.List.{position, position_or_len}
use Rattle.std.specs.Option.{option_or}
use Rattle.std.specs.Prelude.{Result, Ok, Err, OnErr}
use Rattle.std.specs.Str.{bytes_eq}
use Rattle.mv_desk.specs.Files.{File, IsFirst, file_at, file_of, files_from, held_at, is_named}
use Rattle.std.specs.declared.alloc.Global.{Global}
use Rattle.std.specs.declared.string.String.{String}
use Rattle.std.specs.declared.vec.Vec.{Vec}

position_or_len-map : {X Y : Type 0} (p : Y → Bool) (f : X → Y) (xs : List X) → position_or_len p (map f xs) ≡ position_or_len (λ x. p (f x)) xs
position_or_len-map p f [] = refl
position_or_len-map p f (x ∷ xs) = ap (λ n. cond (not (p (f x))) (1 + n) 0) (position_or_len-map p f xs)

-- the first place at which a mapped list passes is that at which the list does
pub position-map : {X Y : Type 0} (p : Y → Bool) (f : X → Y) (xs : List X) → position p (map f xs) ≡ position (λ x. p (f x)) xs
position-map p f xs = rw (length-map, position_or_len-map p f xs) refl

-- where no element passes, the first place is after the last
not_found : {X : Type 0} (p : X → Bool) (xs : List X) → position p xs ≡ None → length xs ≤ position_or_len p xs
not_found p xs none = outside (nat_lt (position_or_len p xs) (length xs)) refl none
  where
    outside : (b : Bool) → nat_lt (position_or_len p xs) (length xs) ≡ b → cond b (Some (position_or_len p xs)) None ≡ None → length xs ≤ position_or_len p xs
    outside true t h = cc
    outside false t h = ltb-false (position_or_len p xs) (length xs) t

-- a fact that holds in any case holds at an error
pub on_err : {T E : Type 0} (result : Result T E) (P : Type 0) → P → OnErr result P
on_err (Ok value) P fact = tt
on_err (Err error) P fact = fact

-- the pair at a place, as a file
pub file_at-files_of : (pairs : List (String Global × Vec ℕ Global)) (i : ℕ) (pair : String Global × Vec ℕ Global) → i < length (files_from pairs) →
    pair ≡ get_or pairs i pair
    → file_at (files_from pairs) i ≡ file_of pair
file_at-files_of pairs i pair below is =
    let within : i < length pairs = rw length-map at below in
    get_or-map file_of pairs i pair ([], []) within ∙ ap file_of (sym is)

-- a pair is put as another file
pub files_of-set : (pairs : List (String Global × Vec ℕ Global)) (i : ℕ) (pair : String Global × Vec ℕ Global) (file : File) → file_of pair ≡ file
    → files_from (set pairs i pair) ≡ set (files_from pairs) i file
files_of-set pairs i pair file is = map-set file_of pairs i pair ∙ ap (set (files_from pairs) i) is

-- a pair is put that is the file that was there
pub files_of-set_same : (pairs : List (String Global × Vec ℕ Global)) (i : ℕ) (old pair : String Global × Vec ℕ Global) → old ≡ get_or pairs i old →
    file_of pair ≡ file_of old
    → files_from (set pairs i pair) ≡ files_from pairs
files_of-set_same pairs i old pair is same = map-set_same file_of pairs i pair old (same ∙ ap file_of is)

-- where a name is found, there is the first file of it
pub first_found : (fs : List File) (name : List ℕ) (i : ℕ) → position (is_named name) fs ≡ Some i → IsFirst fs i × ((file_at fs i).0 ≡ name)
first_found fs name i e =
    let found = position-Some (is_named name) fs i ([], []) e in
    let same : (file_at fs i).0 ≡ name = (bytes_eq-Decides _ _).0 found.1 in
    (record { within = found.0; first = rw same (at_place (nat_lt (position_or_len (is_named name) fs) (length fs)) e) }, same)
  where
    at_place : (b : Bool) → cond b (Some (position_or_len (is_named name) fs)) None ≡ Some i → i ≡ position_or_len (is_named name) fs
    at_place true h = cc
    at_place false h = cc

-- its bytes are those under its name
pub held_first : (fs : List File) (i : ℕ) → IsFirst fs i → held_at fs (file_at fs i).0 ≡ Some (file_at fs i).1
held_first fs i one =
    let at : find (is_named (file_at fs i).0) fs ≡ Some (file_at fs i) =
    find_at (is_named (file_at fs i).0) fs ∙ (ap (slice_get fs) (sym one.first) ∙ slice_get-get_or fs i ([], []) one.within) in
    rw at refl

-- where a name is found, it is held, with the bytes of the file that is found
pub held_found : (fs : List File) (name : List ℕ) (i : ℕ) → position (is_named name) fs ≡ Some i → held_at fs name ≡ Some (file_at fs i).1
held_found fs name i found = let one = first_found fs name i found in rw one.1 at (held_first fs i one.0)

-- where it isn't, it isn't held
pub held_missing : (fs : List File) (name : List ℕ) → position (is_named name) fs ≡ None → held_at fs name ≡ None
held_missing fs name none =
    ap (option_map (λ (file : File). file.1)) (find_at (is_named name) fs ∙
    slice_get_past fs (position_or_len (is_named name) fs) (not_found (is_named name) fs none))

pub set_names : (fs : List File) (i j : ℕ) (g : File) → i < length fs → g.0 ≡ (file_at fs i).0 → (file_at (set fs i g) j).0 ≡ (file_at fs j).0
set_names fs i j g below same = by_test (eqb_tells j i)
  where
    by_test : ((eqb j i ≡ true) × (j ≡ i)) ⊎ ((eqb j i ≡ false) × (j ≢ i)) → (file_at (set fs i g) j).0 ≡ (file_at fs j).0
    by_test (inl (test, at)) = rw (at, get_or-set_same fs i g ([], []) below) same
    by_test (inr (test, other)) = ap (λ (f : File). f.0) (get_or-set_other fs i j g ([], []) other)

pub first_set : (fs : List File) (i j : ℕ) (g : File) → i < length fs → g.0 ≡ (file_at fs i).0 → IsFirst fs j → IsFirst (set fs i g) j
first_set fs i j g below same one =
    let name = set_names fs i j g below same in
    let stays = position_or_len-set (is_named (file_at fs j).0) fs i g ([], []) (ap (λ (n : List ℕ). bytes_eq n (file_at fs j).0) same) in
    record { within = rw length-set one.within; first = rw name (one.first ∙ sym stays) }

pub held_set_same : (fs : List File) (i : ℕ) (g : File) → IsFirst fs i → g.0 ≡ (file_at fs i).0 → held_at (set fs i g) g.0 ≡ Some g.1
held_set_same fs i g one same =
    let at : i ≡ position_or_len (is_named g.0) fs = rw same one.first in
    let found : find (is_named g.0) (set fs i g) ≡ Some g = find-set (is_named g.0) fs i g at one.within ((bytes_eq-Decides g.0 g.0).1 refl) in
    rw found refl

not_named : (n m : List ℕ) → n ≢ m → bytes_eq m n ≡ false
not_named n m other = by_test (bytes_eq m n) refl
  where
    by_test : (b : Bool) → bytes_eq m n ≡ b → bytes_eq m n ≡ false
    by_test true e = absurd (other (sym ((bytes_eq-Decides m n).0 e)))
    by_test false e = e

pub held_set_other : (fs : List File) (i : ℕ) (g : File) (n : List ℕ) → g.0 ≡ (file_at fs i).0 → n ≢ g.0 → held_at (set fs i g) n ≡ held_at fs n
held_set_other fs i g n same other =
    ap (option_map (λ f. f.1)) (find_past (is_named n) fs i g ([], []) (rw (← same) (not_named n g.0 other)) (not_named n g.0 other))

pub file_push : (fs : List File) (j : ℕ) (g : File) → j < length fs → file_at (fs ++ g ∷ []) j ≡ file_at fs j
file_push fs j g below = get_or-append fs (g ∷ []) ([], []) j below

pub first_push : (fs : List File) (j : ℕ) (g : File) → IsFirst fs j → IsFirst (fs ++ g ∷ []) j
first_push fs j g one =
    let file = file_push fs j g one.within in
    let len : length (fs ++ g ∷ []) ≡ length fs + 1 = length-append fs (g ∷ []) in
    let p = is_named (file_at fs j).0 in
    let before : position_or_len p fs ≢ length fs = λ e. absurd (omega (arith, one.first, e, one.within)) in
    let at : position_or_len p (fs ++ g ∷ []) ≡ position_or_len p fs =
    position_or_len_push p fs g ∙ rw (ne_eqb (position_or_len p fs) (length fs) before) refl in
    record { within = omega (arith, len, one.within); first = rw file (one.first ∙ sym at) }

pub held_push_other : (fs : List File) (g : File) (n : List ℕ) → n ≢ g.0 → held_at (fs ++ g ∷ []) n ≡ held_at fs n
held_push_other fs g n other = ap (option_map (λ f. f.1)) (find-append (is_named n) fs (g ∷ []) ∙ (rw (not_named n g.0 other) (nothing (find (is_named n) fs))))
  where
    nothing : (o : Option File) → option_or o None ≡ o
    nothing None = refl
    nothing (Some f) = refl

-- where no file has the name, the new one is the first
pub first_new : (fs : List File) (g : File) → position (is_named g.0) fs ≡ None → IsFirst (fs ++ g ∷ []) (length fs)
first_new fs g e =
    let p = is_named g.0 in
    let file : file_at (fs ++ g ∷ []) (length fs) ≡ g = get_or-append_seam fs g [] ([], []) in
    let len : length (fs ++ g ∷ []) ≡ length fs + 1 = length-append fs (g ∷ []) in
    let past : length fs ≤ position_or_len p fs = not_found p fs e in
    let most : position_or_len p fs ≤ length fs = prefix_len-le-length (λ f. not (p f)) fs in
    let at_end : position_or_len p fs ≡ length fs = omega (arith, past, most) in
    let here : p g ≡ true = (bytes_eq-Decides g.0 g.0).1 refl in
    let at : position_or_len p (fs ++ g ∷ []) ≡ length fs + 0 = position_or_len_push p fs g ∙ rw (at_end, eq-eqb (length fs) (length fs) refl, here) refl in
    record { within = omega (arith, len); first = rw file (omega (arith, at)) }

pub held_new : (fs : List File) (g : File) → position (is_named g.0) fs ≡ None → held_at (fs ++ g ∷ []) g.0 ≡ Some g.1
held_new fs g e =
    let one = first_new fs g e in
    let file : file_at (fs ++ g ∷ []) (length fs) ≡ g = get_or-append_seam fs g [] ([], []) in
    rw file at (held_first (fs ++ g ∷ []) (length fs) one)

-- taken and dropped at one place
pub given : (xs ys piece : List ℕ) (i n : ℕ) → ys ≡ take n (drop i xs) → n ≤ length (drop i xs) → drop i xs ≡ take n (ys ++ piece) ++ drop (i + n) xs
given xs ys piece i n e below =
    let len : length (take n (drop i xs)) ≡ n = length-take-le n (drop i xs) below in
    let front : take n (take n (drop i xs) ++ piece) ≡ take n (drop i xs) =
    take-append-le n (take n (drop i xs)) piece (omega (arith, len)) ∙ take-take n n (drop i xs) (omega arith) in
    rw (e, front, ← drop-drop n i xs) (sym (take-append-drop n (drop i xs)))
