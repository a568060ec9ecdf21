-- What a desk in memory tells, and what it holds once a pair of certificates was written to it.
use Rattle.std.proofs.Common.{◌≡◌, ◌≢◌, ℕ, ◌-◌, ◌^◌, ◌<◌, ◌≤◌, ◌==◌, Bool, true, false, cond, List, [], ◌∷◌, length, Option, Some, None, refl, sym, ap, subst, ◌∙◌, arith, inl, inr}
use Rattle.std.specs.Prelude.{IsSome, get_or, unwrap_or}
use Rattle.std.proofs.lemmas.List.{length-append}
use Rattle.graph_core.specs.Text.{newline}
use Rattle.graph_core.specs.Text.JudgedLines.{IsLineStart, IsWithin, front_line}
use Rattle.command_core.specs.Written.{ReadsGraph, WritesFile, WritesPair}
use Rattle.mv_desk.specs.Calls.{Becomes}
use Rattle.mv_desk.specs.Files.{File}
use Rattle.mv_desk.specs.HonestDesk.{held_of, view_of}
use Rattle.mv_desk.specs.Memory.{is_written, name_of, place_at}
use Rattle.mv_desk.specs.View.{View, bytes_under}
use Rattle.mv_desk.specs.declared.memory.honest_desk.HonestDesk.{HonestDesk}
use Rattle.mv_desk.specs.declared.memory.place.Place.{Place}
use Rattle.mv_desk.specs.declared.memory.place.Place.TheVariants as place
use Rattle.mv_desk.specs.declared.slot.Slot.{Slot}
use Rattle.mv_desk.specs.declared.slot.Slot.TheVariants as slot
use Rattle.mv_text.specs.LineReading.{lengths_of}
use Rattle.verdict_program.specs.Trial.{no_limits, trial_files}
use Rattle.command_core.proofs.CallerLemmas.{no_other_changed, text_is_held}
use Rattle.verdict_program.proofs.Told.{none_told}

-- ---- what it tells

-- each file, and the name of each slot that is open for writing
pub record TellsFiles (view : View) : Type 0 where
  pub held : (name : List ℕ) → IsSome (view.held name)
  pub named : (at : Slot) → view.writes at ≡ true → IsSome (view.name at)

place_is_named : (files : List File) (p : Place) → is_written p ≡ true → IsSome (name_of files p)
place_is_named files (place.Reading file at) w = refl
place_is_named files place.Closed w = refl
place_is_named files (place.Printing written) w = refl
place_is_named files (place.Writing file written) w = refl
place_is_named files place.Absent w = cc

pub honest_tells : (d : HonestDesk) → TellsFiles (view_of d)
unfolding view_of
honest_tells d = record { held = λ name. refl; named = λ at w. place_is_named d.shelf.0 (place_at d.shelf.1 at) w }

honest_bytes : (d : HonestDesk) (name : List ℕ) → bytes_under (view_of d) name ≡ Some (unwrap_or (held_of d name) [])
unfolding view_of
honest_bytes d name = refl

-- ---- lengths

pub honest_length : (d : HonestDesk) (given name text : List ℕ) (count : ℕ) → given ≡ name → bytes_under (view_of d) name ≡ Some text →
    count ≡ length (unwrap_or (held_of d given) []) → count < 2 ^ 64 → length text ≤ 2 ^ 64 - 1
honest_length d given name text count same_name told counted short =
    let same : unwrap_or (held_of d name) [] ≡ text = ap (λ file. unwrap_or file []) (sym (honest_bytes d name) ∙ told) in
    let at = ap (λ n. length (unwrap_or (held_of d n) [])) same_name in
    omega (arith, ap length same, at, counted, short)

front_is_short : (left : List ℕ) → length (front_line left) ≤ length left
front_is_short [] = omega arith
front_is_short (b ∷ bytes) = go (b == newline) (front_is_short bytes)
  where
    go : (ends : Bool) → length (front_line bytes) ≤ length bytes → length (cond ends [] (b ∷ front_line bytes)) ≤ length (b ∷ bytes)
    go true short = omega arith
    go false short = omega (arith, short)

left_is_short : (bytes left : List ℕ) → IsLineStart bytes left → length left ≤ length bytes
left_is_short bytes left (inl same) = omega (arith, ap length same)
left_is_short bytes left (inr h) = omega (arith, ap length h.1, length-append h.0 (newline ∷ left))

-- neither a file in memory nor a line of it is too long
pub within_no_limits : (bytes : List ℕ) → length bytes ≤ 2 ^ 64 - 1 → IsWithin (lengths_of no_limits) bytes
within_no_limits bytes short = record {
  file = short;
  lines = λ left start. omega (arith, front_is_short left, left_is_short bytes left start, short);
}

-- ---- one file

becomes_told : {A : Type 0} (old new : Option A) (value : A) → IsSome new → Becomes old new value → new ≡ Some value
becomes_told {A = A} None None value told h = absurd (none_told A told)
becomes_told None (Some x) value told h = ap Some h
becomes_told (Some before) new value told h = h

module _ (at : Slot) (name text : List ℕ) (a b : View) (w : WritesFile at name text a b) (named : IsSome (b.name at)) where
  created_name : w.created.name at ≡ Some (Some name)
  created_name = becomes_told (a.name at) (w.created.name at) (Some name) (subst IsSome w.writes.mode.name named) w.creates.name

  pub file_is_held : IsSome (a.held name) → b.held name ≡ Some (Some text)
  file_is_held = text_is_held at name text a b w created_name

  others_are_held : (other : List ℕ) → name ≢ other → b.held other ≡ a.held other
  others_are_held = no_other_changed at name text a b w created_name

-- a file that was written is open for writing, and another slot is open as it was
pub is_written_to : (at : Slot) (name text : List ℕ) (a b : View) → WritesFile at name text a b → b.writes at ≡ true
is_written_to at name text a b w = w.writes.mode.writes ∙ w.creates.writes

-- ---- the pair

clauses_no_algebra : slot.Clauses ≢ slot.Algebra
clauses_no_algebra e = cc

graph_no_clauses : trial_files.graph ≢ trial_files.clauses
graph_no_clauses e = cc

graph_no_algebra : trial_files.graph ≢ trial_files.algebra
graph_no_algebra e = cc

clauses_no_algebra_file : trial_files.clauses ≢ trial_files.algebra
clauses_no_algebra_file e = let first : 99 ≡ 97 = ap (λ (xs : List ℕ). get_or xs 0 0) e in omega (arith, first)

module _ (clauses text : List ℕ) (a r c : View) (told : (name : List ℕ) → IsSome (a.held name)) (tells : TellsFiles c) (reads : ReadsGraph a r) (w : WritesPair trial_files clauses text r c) where
  algebra_named : IsSome (c.name slot.Algebra)
  algebra_named = tells.named slot.Algebra (is_written_to slot.Algebra trial_files.algebra text w.between c w.algebra_file)

  clauses_named : IsSome (w.between.name slot.Clauses)
  clauses_named =
      let written = w.algebra_file.writes.others slot.Clauses clauses_no_algebra in
      let created = w.algebra_file.creates.others slot.Clauses clauses_no_algebra in
      let opened = written.mode.writes ∙ created.mode.writes ∙ is_written_to slot.Clauses trial_files.clauses clauses r w.between w.clause_file in
      subst IsSome (written.mode.name ∙ created.mode.name) (tells.named slot.Clauses opened)

  first : (name : List ℕ) → trial_files.clauses ≢ name → w.between.held name ≡ a.held name
  first name apart = others_are_held slot.Clauses trial_files.clauses clauses r w.between w.clause_file clauses_named name apart ∙ reads.inspects.held name

  second : (name : List ℕ) → trial_files.algebra ≢ name → c.held name ≡ w.between.held name
  second name apart = others_are_held slot.Algebra trial_files.algebra text w.between c w.algebra_file algebra_named name apart

  pub graph_stays : c.held trial_files.graph ≡ a.held trial_files.graph
  graph_stays = second trial_files.graph (λ e. graph_no_algebra (sym e)) ∙ first trial_files.graph (λ e. graph_no_clauses (sym e))

  pub clauses_are_held : c.held trial_files.clauses ≡ Some (Some clauses)
  clauses_are_held =
      second trial_files.clauses (λ e. clauses_no_algebra_file (sym e)) ∙
      file_is_held slot.Clauses trial_files.clauses clauses r w.between w.clause_file clauses_named (subst IsSome (sym (reads.inspects.held trial_files.clauses)) (told trial_files.clauses))

  pub algebra_is_held : c.held trial_files.algebra ≡ Some (Some text)
  algebra_is_held =
      file_is_held slot.Algebra trial_files.algebra text w.between c w.algebra_file algebra_named
      (subst IsSome (sym (first trial_files.algebra clauses_no_algebra_file)) (told trial_files.algebra))
