-- What the calls on files in memory do to what a desk tells.
use Rattle.std.proofs.Common.{◌≡◌, ◌≢◌, ℕ, ◌<◌, true, false, List, [], ◌∷◌, ◌++◌, length, set, Some, None, Option, refl, subst, sym, ap, ◌∙◌}
use Rattle.std.proofs.lemmas.Bool.{false≢true}
use Rattle.std.proofs.Math.Seq.{get_or-append_seam}
use Rattle.std.specs.List.{position}
use Rattle.std.specs.Prelude.{Result, Ok, Err, OnOk, OnErr, is_some}
use Rattle.mv_desk.proofs.FilesLemmas.{first_found, held_first, held_new, held_push_other, held_set_other, held_set_same, set_names}
use Rattle.mv_desk.proofs.PlacesLemmas.{all_fit_set, fit_at, fit_put, left_push, left_set, name_push, name_set, put_back, put_other, put_same}
use Rattle.mv_desk.specs.Calls.{Becomes, Creates, Opens, OtherStays, WritesTo}
use Rattle.mv_desk.specs.Files.{File, IsFirst, file_at, held_at, is_named}
use Rattle.mv_desk.specs.Memory.{AllFit, WritesInto, is_read, is_written, left_at, memory_view, name_of, place_at, with_place, written_of}
use Rattle.mv_desk.specs.View.{SlotStays}
use Rattle.mv_desk.specs.declared.counts.Counts.{Counts}
use Rattle.mv_desk.specs.declared.memory.bytes.Bytes.{Bytes}
use Rattle.mv_desk.specs.declared.memory.place.Place.{Place}
use Rattle.mv_desk.specs.declared.memory.place.Place.TheVariants as place
use Rattle.mv_desk.specs.declared.memory.places.Places.{Places}
use Rattle.mv_desk.specs.declared.slot.Slot.{Slot}

-- the same files and places
abbrev pub Same : List File → Places → List File → Places → Type 0
Same gs q fs p = let new : List File × Places = (gs, q) in new ≡ (fs, p)

becomes : {A : Type 0} (old new : Option A) (value : A) → new ≡ Some value → Becomes old new value
becomes None new value is = rw is refl
becomes (Some before) new value is = is

-- a slot that keeps its place, over the same files
pub stays : (fs : List File) (p : Places) (s t : Slot) (q : Place) (counts counts' : Counts) → t ≢ s
    → SlotStays t (memory_view fs p counts) (memory_view fs (with_place p s q) counts')
stays fs p s t q counts counts' other =
    let e = put_other p s t q other in
    record {
      mode = record { reads = ap is_read e; writes = ap is_written e; name = ap (name_of fs) e };
      left = ap (λ (x : Place). Some (left_at fs x)) e;
      written = ap (λ (x : Place). Some (written_of x)) e;
    }

pub opens : (fs : List File) (p : Places) (s : Slot) (name : List ℕ) (i : ℕ) (counts counts' : Counts) → position (is_named name) fs ≡ Some i
    → Opens s name (memory_view fs p counts) (memory_view fs (with_place p s (place.Reading i 0)) counts')
opens fs p s name i counts counts' found =
    let one = first_found fs name i found in
    let here = put_same p s (place.Reading i 0) in
    let held : held_at fs name ≡ Some (file_at fs i).1 = rw one.1 at (held_first fs i one.0) in
    record {
      left = rw (held, here) refl;
      reads = rw here refl;
      writes = rw here refl;
      name = rw here (ap Some one.1);
      named = λ _ _. rw here refl;
      others = λ t other. stays fs p s t (place.Reading i 0) counts counts' other;
      held = λ n. refl;
    }

-- another slot, where one file was changed under its name
other_set : (fs : List File) (p : Places) (s t : Slot) (q : Place) (i : ℕ) (g : File) (counts : Counts) → i < length fs → g.0 ≡ (file_at fs i).0 → t ≢ s
    → OtherStays (Some (Some g.0)) t (memory_view fs p counts) (memory_view (set fs i g) (with_place p s q) counts)
other_set fs p s t q i g counts below same other =
    let e = put_other p s t q other in
    record {
      mode = record { reads = ap is_read e; writes = ap is_written e; name = ap (name_of (set fs i g)) e ∙ name_set fs i g (place_at p t) below same };
      written = ap (λ (x : Place). Some (written_of x)) e;
      left = λ apart. ap (λ (x : Place). Some (left_at (set fs i g) x)) e ∙ ap Some (left_set fs i g (place_at p t) below same apart);
    }

pub creates_set : (fs : List File) (p : Places) (s : Slot) (name : List ℕ) (written : Bytes) (i : ℕ) (g : File) (counts : Counts)
    → position (is_named name) fs ≡ Some i → g.0 ≡ (file_at fs i).0 → g.1 ≡ [] → written ≡ []
    → Creates s name (memory_view fs p counts) (memory_view (set fs i g) (with_place p s (place.Writing i written)) counts)
creates_set fs p s name written i g counts found same empty none =
    let one = first_found fs name i found in
    let named : g.0 ≡ name = same ∙ one.1 in
    let here = put_same p s (place.Writing i written) in
    let held : held_at (set fs i g) name ≡ Some [] = rw (← named) (held_set_same fs i g one.0 same ∙ ap Some empty) in
    record {
      reads = rw here refl;
      writes = rw here refl;
      name = becomes (name_of fs (place_at p s)) _ _ (rw here (ap (λ (n : List ℕ). Some (Some n)) (set_names fs i i g one.0.within same ∙ one.1)));
      written = rw here (ap Some none);
      bytes = ap Some held;
      others = λ t other. subst (λ (n : List ℕ). OtherStays (Some (Some n)) t (memory_view fs p counts)
          (memory_view (set fs i g) (with_place p s (place.Writing i written)) counts)) named
          (other_set fs p s t (place.Writing i written) i g counts one.0.within same other);
      held = λ n other. ap Some (held_set_other fs i g n same (λ e. other (e ∙ named)));
    }

pub creates_push : (fs : List File) (p : Places) (s : Slot) (name : List ℕ) (written : Bytes) (g : File) (counts : Counts)
    → AllFit fs p → position (is_named name) fs ≡ None → g.0 ≡ name → g.1 ≡ [] → written ≡ []
    → Creates s name (memory_view fs p counts) (memory_view (fs ++ g ∷ []) (with_place p s (place.Writing (length fs) written)) counts)
creates_push fs p s name written g counts fit none_named named empty none =
    let missing : position (is_named g.0) fs ≡ None = rw named none_named in
    let here = put_same p s (place.Writing (length fs) written) in
    let file : file_at (fs ++ g ∷ []) (length fs) ≡ g = get_or-append_seam fs g [] ([], []) in
    let held : held_at (fs ++ g ∷ []) name ≡ Some [] = rw (← named) (held_new fs g missing ∙ ap Some empty) in
    record {
      reads = rw here refl;
      writes = rw here refl;
      name = becomes (name_of fs (place_at p s)) _ _ (rw (here, file) (ap (λ (n : List ℕ). Some (Some n)) named));
      written = rw here (ap Some none);
      bytes = ap Some held;
      others = λ t other.
          let e = put_other p s t (place.Writing (length fs) written) other in
          record {
            mode = record { reads = ap is_read e; writes = ap is_written e; name = ap (name_of (fs ++ g ∷ [])) e ∙ name_push fs g (place_at p t) (fit t) };
            written = ap (λ (x : Place). Some (written_of x)) e;
            left = λ _. ap (λ (x : Place). Some (left_at (fs ++ g ∷ []) x)) e ∙ ap Some (left_push fs g (place_at p t) (fit t));
          };
      held = λ n other. ap Some (held_push_other fs g n (λ e. other (e ∙ named)));
    }

pub writes_file : (fs : List File) (p : Places) (s : Slot) (piece : List ℕ) (i : ℕ) (written : Bytes) (counts : Counts) → IsFirst fs i →
    place_at p s ≡ place.Writing i written
    → WritesTo s piece (memory_view fs p counts) (memory_view (set fs i ((file_at fs i).0, (file_at fs i).1 ++ piece))
    (with_place p s (place.Writing i (written ++ piece))) counts)
writes_file fs p s piece i written counts one was =
    let g : File = ((file_at fs i).0, (file_at fs i).1 ++ piece) in
    let here = put_same p s (place.Writing i (written ++ piece)) in
    let before = held_first fs i one in
    let after = held_set_same fs i g one refl in
    record {
      mode = record {
        reads = rw (here, was) refl;
        writes = rw (here, was) refl;
        name = rw (here, was) (ap (λ (n : List ℕ). Some (Some n)) (set_names fs i i g one.within refl));
      };
      written = rw (here, was) refl;
      bytes = rw (was, before, after) refl;
      others = λ t other. rw was (other_set fs p s t (place.Writing i (written ++ piece)) i g counts one.within refl other);
      held = λ n apart. let other = rw was at apart in ap Some (held_set_other fs i g n refl (λ e. other (sym e)));
    }

pub writes_printed : (fs : List File) (p : Places) (s : Slot) (piece : List ℕ) (written : Bytes) (counts : Counts) → place_at p s ≡ place.Printing written
    → WritesTo s piece (memory_view fs p counts) (memory_view fs (with_place p s (place.Printing (written ++ piece))) counts)
writes_printed fs p s piece written counts was =
    let here = put_same p s (place.Printing (written ++ piece)) in
    record {
      mode = record { reads = rw (here, was) refl; writes = rw (here, was) refl; name = rw (here, was) refl };
      written = rw (here, was) refl;
      bytes = rw was tt;
      others = λ t other. let one = stays fs p s t (place.Printing (written ++ piece)) counts counts other in
          record { mode = one.mode; written = one.written; left = λ _. one.left };
      held = λ n other. refl;
    }

-- what a write into a place leaves
pub wrote : (fs : List File) (p : Places) (s : Slot) (piece : List ℕ) (was : Place) (gs : List File) (q : Place) → AllFit fs p →
    place_at p s ≡ was → is_written was ≡ true
    → WritesInto piece fs was gs q
    → AllFit gs (with_place p s q) × ((counts : Counts) → WritesTo s piece (memory_view fs p counts) (memory_view gs (with_place p s q) counts))
wrote fs p s piece (place.Writing i written) gs q all was writes (files, new) =
    let one = fit_at fs p s (place.Writing i written) all was in
    rw (files, new) (
      all_fit_set fs p s (place.Writing i (written ++ piece)) i ((file_at fs i).0, (file_at fs i).1 ++ piece) all one one.within refl,
      λ counts. writes_file fs p s piece i written counts one was,
    )
wrote fs p s piece (place.Printing written) gs q all was writes (files, new) =
    rw (files, new) (fit_put fs p s (place.Printing (written ++ piece)) all tt, λ counts. writes_printed fs p s piece written counts was)
wrote fs p s piece place.Closed gs q all was writes into = absurd (false≢true writes)
wrote fs p s piece place.Absent gs q all was writes into = absurd (false≢true writes)
wrote fs p s piece (place.Reading i at) gs q all was writes into = absurd (false≢true writes)

-- what a write into a place leaves, also where it failed
pub appended : {E : Type 0} (result : Result (Unit {0}) E) (fs : List File) (p : Places) (s : Slot) (piece : List ℕ) (was : Place) (gs : List File) (q : Place)
    → AllFit fs p → place_at p s ≡ was → is_written was ≡ true
    → OnOk result (WritesInto piece fs was gs q) → OnErr result (gs ≡ fs) → OnErr result (q ≡ was)
    → AllFit gs (with_place p s q)
    × OnOk result ((counts : Counts) → WritesTo s piece (memory_view fs p counts) (memory_view gs (with_place p s q) counts))
    × OnErr result (Same gs (with_place p s q) fs p)
appended (Ok done) fs p s piece was gs q all at writes into none none' = let did = wrote fs p s piece was gs q all at writes into in (did.0, did.1, tt)
appended (Err error) fs p s piece was gs q all at writes into files place =
    let back : with_place p s q ≡ p = ap (with_place p s) (place ∙ sym at) ∙ put_back p s in
    (rw (files, back) all, tt, rw (files, back) refl)

-- a name that isn't held opens as an empty file
pub opens_empty : (fs : List File) (p : Places) (s : Slot) (name : List ℕ) (counts counts' : Counts) → is_some (held_at fs name) ≡ false
    → Opens s name (memory_view fs p counts) (memory_view fs (with_place p s place.Absent) counts')
opens_empty fs p s name counts counts' none = by_held (held_at fs name) refl
  where
    by_held : (held : Option (List ℕ)) → held_at fs name ≡ held → Opens s name (memory_view fs p counts) (memory_view fs (with_place p s place.Absent) counts')
    by_held (Some bytes) is = absurd (false≢true (sym none ∙ ap is_some is))
    by_held None is =
        let here = put_same p s place.Absent in
        record {
          left = rw (is, here) refl;
          reads = rw here refl;
          writes = rw here refl;
          name = rw here tt;
          named = λ held _. cc (held.1, is);
          others = λ t other. stays fs p s t place.Absent counts counts' other;
          held = λ n. refl;
        }
