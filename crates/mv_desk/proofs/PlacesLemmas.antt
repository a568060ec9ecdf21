-- Slots and their places.
use Rattle.std.proofs.Common.{◌≡◌, ◌≢◌, ℕ, ◌<◌, List, [], ◌∷◌, ◌++◌, length, set, drop, Some, None, refl, subst, ap}
use Rattle.std.proofs.lemmas.List.{get_or-set_other}
use Rattle.std.specs.List.{position}
use Rattle.mv_desk.proofs.FilesLemmas.{file_push, first_new, first_push, first_set, set_names}
use Rattle.mv_desk.specs.Calls.{AreApart}
use Rattle.mv_desk.specs.Files.{File, file_at, is_named}
use Rattle.mv_desk.specs.Memory.{AllFit, StandsAtFirst, left_at, name_of, place_at, with_place}
use Rattle.mv_desk.specs.declared.memory.bytes.Bytes.{Bytes}
use Rattle.mv_desk.specs.declared.memory.place.Place.{Place}
use Rattle.mv_desk.specs.declared.memory.place.Place.TheVariants as place
use Rattle.mv_desk.specs.declared.memory.places.Places.{Places}
use Rattle.mv_desk.specs.declared.slot.Slot.{Slot}
use Rattle.mv_desk.specs.declared.slot.Slot.TheVariants.{Graph, Other, Clauses, Algebra, Report}

-- a place that was put stands in its slot
pub put_same : (p : Places) (s : Slot) (q : Place) → place_at (with_place p s q) s ≡ q
put_same p Graph q = refl
put_same p Other q = refl
put_same p Clauses q = refl
put_same p Algebra q = refl
put_same p Report q = refl

-- and each other slot keeps its own
pub put_other : (p : Places) (s t : Slot) (q : Place) → t ≢ s → place_at (with_place p s q) t ≡ place_at p t
put_other p Graph Graph q h = absurd (h refl)
put_other p Graph Other q h = refl
put_other p Graph Clauses q h = refl
put_other p Graph Algebra q h = refl
put_other p Graph Report q h = refl
put_other p Other Graph q h = refl
put_other p Other Other q h = absurd (h refl)
put_other p Other Clauses q h = refl
put_other p Other Algebra q h = refl
put_other p Other Report q h = refl
put_other p Clauses Graph q h = refl
put_other p Clauses Other q h = refl
put_other p Clauses Clauses q h = absurd (h refl)
put_other p Clauses Algebra q h = refl
put_other p Clauses Report q h = refl
put_other p Algebra Graph q h = refl
put_other p Algebra Other q h = refl
put_other p Algebra Clauses q h = refl
put_other p Algebra Algebra q h = absurd (h refl)
put_other p Algebra Report q h = refl
put_other p Report Graph q h = refl
put_other p Report Other q h = refl
put_other p Report Clauses q h = refl
put_other p Report Algebra q h = refl
put_other p Report Report q h = absurd (h refl)

pub put_twice : (p : Places) (s : Slot) (q r : Place) → with_place (with_place p s q) s r ≡ with_place p s r
put_twice p Graph q r = refl
put_twice p Other q r = refl
put_twice p Clauses q r = refl
put_twice p Algebra q r = refl
put_twice p Report q r = refl

pub put_back : (p : Places) (s : Slot) → with_place p s (place_at p s) ≡ p
put_back p Graph = refl
put_back p Other = refl
put_back p Clauses = refl
put_back p Algebra = refl
put_back p Report = refl

pub fit_put : (fs : List File) (p : Places) (s : Slot) (q : Place) → AllFit fs p → StandsAtFirst fs q → AllFit fs (with_place p s q)
fit_put fs p Graph q all one = λ t. elim t as (λ k. StandsAtFirst fs (place_at (with_place p Graph q) k)) [
  | Graph ↦ one
  | Other ↦ all Other
  | Clauses ↦ all Clauses
  | Algebra ↦ all Algebra
  | Report ↦ all Report
]
fit_put fs p Other q all one = λ t. elim t as (λ k. StandsAtFirst fs (place_at (with_place p Other q) k)) [
  | Graph ↦ all Graph
  | Other ↦ one
  | Clauses ↦ all Clauses
  | Algebra ↦ all Algebra
  | Report ↦ all Report
]
fit_put fs p Clauses q all one = λ t. elim t as (λ k. StandsAtFirst fs (place_at (with_place p Clauses q) k))
    [ Graph ↦ all Graph | Other ↦ all Other | Clauses ↦ one | Algebra ↦ all Algebra | Report ↦ all Report ]
fit_put fs p Algebra q all one = λ t. elim t as (λ k. StandsAtFirst fs (place_at (with_place p Algebra q) k))
    [ Graph ↦ all Graph | Other ↦ all Other | Clauses ↦ all Clauses | Algebra ↦ one | Report ↦ all Report ]
fit_put fs p Report q all one = λ t. elim t as (λ k. StandsAtFirst fs (place_at (with_place p Report q) k))
    [ Graph ↦ all Graph | Other ↦ all Other | Clauses ↦ all Clauses | Algebra ↦ all Algebra | Report ↦ one ]

-- a slot keeps a file that is the first of its name
pub fit_at : (fs : List File) (p : Places) (s : Slot) (q : Place) → AllFit fs p → place_at p s ≡ q → StandsAtFirst fs q
fit_at fs p s q all e = subst (StandsAtFirst fs) e (all s)

pub fits_set : (fs : List File) (i : ℕ) (g : File) (q : Place) → i < length fs → g.0 ≡ (file_at fs i).0 → StandsAtFirst fs q → StandsAtFirst (set fs i g) q
fits_set fs i g (place.Reading file at) below same one = first_set fs i file g below same one
fits_set fs i g (place.Writing file written) below same one = first_set fs i file g below same one
fits_set fs i g place.Closed below same one = one
fits_set fs i g place.Absent below same one = one
fits_set fs i g (place.Printing written) below same one = one

pub name_set : (fs : List File) (i : ℕ) (g : File) (q : Place) → i < length fs → g.0 ≡ (file_at fs i).0 → name_of (set fs i g) q ≡ name_of fs q
name_set fs i g (place.Reading file at) below same = ap (λ (n : List ℕ). Some (Some n)) (set_names fs i file g below same)
name_set fs i g (place.Writing file written) below same = ap (λ (n : List ℕ). Some (Some n)) (set_names fs i file g below same)
name_set fs i g place.Closed below same = refl
name_set fs i g place.Absent below same = refl
name_set fs i g (place.Printing written) below same = refl

pub left_set : (fs : List File) (i : ℕ) (g : File) (q : Place) → i < length fs → g.0 ≡ (file_at fs i).0 → AreApart (Some (Some g.0)) (name_of fs q) →
    left_at (set fs i g) q ≡ left_at fs q
left_set fs i g (place.Reading file at) below same other =
    ap (λ (f : File). drop at f.1) (get_or-set_other fs i file g ([], []) (λ e. other (rw e same)))
left_set fs i g (place.Writing file written) below same other = refl
left_set fs i g place.Closed below same other = refl
left_set fs i g place.Absent below same other = refl
left_set fs i g (place.Printing written) below same other = refl

pub fits_push : (fs : List File) (g : File) (q : Place) → StandsAtFirst fs q → StandsAtFirst (fs ++ g ∷ []) q
fits_push fs g (place.Reading file at) one = first_push fs file g one
fits_push fs g (place.Writing file written) one = first_push fs file g one
fits_push fs g place.Closed one = one
fits_push fs g place.Absent one = one
fits_push fs g (place.Printing written) one = one

pub name_push : (fs : List File) (g : File) (q : Place) → StandsAtFirst fs q → name_of (fs ++ g ∷ []) q ≡ name_of fs q
name_push fs g (place.Reading file at) one = ap (λ (f : File). Some (Some f.0)) (file_push fs file g one.within)
name_push fs g (place.Writing file written) one = ap (λ (f : File). Some (Some f.0)) (file_push fs file g one.within)
name_push fs g place.Closed one = refl
name_push fs g place.Absent one = refl
name_push fs g (place.Printing written) one = refl

pub left_push : (fs : List File) (g : File) (q : Place) → StandsAtFirst fs q → left_at (fs ++ g ∷ []) q ≡ left_at fs q
left_push fs g (place.Reading file at) one = ap (λ (f : File). drop at f.1) (file_push fs file g one.within)
left_push fs g (place.Writing file written) one = refl
left_push fs g place.Closed one = refl
left_push fs g place.Absent one = refl
left_push fs g (place.Printing written) one = refl

pub all_fit_set : (fs : List File) (p : Places) (s : Slot) (q : Place) (i : ℕ) (g : File) → AllFit fs p → StandsAtFirst fs q → i < length fs → g.0 ≡ (file_at fs i).0
    → AllFit (set fs i g) (with_place p s q)
all_fit_set fs p s q i g all one below same = fit_put (set fs i g) p s q (λ t. fits_set fs i g (place_at p t) below same (all t))
    (fits_set fs i g q below same one)

pub all_fit_push : (fs : List File) (p : Places) (s : Slot) (written : Bytes) (g : File) → AllFit fs p → position (is_named g.0) fs ≡ None
    → AllFit (fs ++ g ∷ []) (with_place p s (place.Writing (length fs) written))
all_fit_push fs p s written g all none = fit_put (fs ++ g ∷ []) p s (place.Writing (length fs) written) (λ t. fits_push fs g (place_at p t) (all t))
    (first_new fs g none)
