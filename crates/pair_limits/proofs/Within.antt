-- A text is within the limits where there is room for it.
use Rattle.std.specs.Prelude.{◌≡◌, ◌≤◌, ◌+◌, ◌-◌, ◌==◌, ◌||◌, ◌&&◌, ◌⊎◌, ℕ, not, cond, Bool, true, false, List, [], ◌∷◌, ◌++◌, length, if◌then◌else◌}
use Rattle.std.proofs.Common.{refl, sym, ap, subst, ◌∙◌, arith, eqb-true, length-append, true≢false, inl, inr, ⊎_elim}
use Rattle.std.proofs.lemmas.Bool.{eqb-false}
use Rattle.graph_core.specs.Text.{newline}
use Rattle.graph_core.specs.Text.JudgedLines.{IsLineStart, IsWithin, Lengths, front_line}
use Rattle.pair_limits.specs.declared.room.Room.{Room}
use Rattle.pair_limits.specs.Rooms.{Takes, TellsWhether, behind, passed, whole_room}

-- There is room for the text, for its first line, and for each line after a line feed.
record Fits (r : Room) (text : List ℕ) : Type 0 where
  file : length text ≤ r.file
  line : length (front_line text) ≤ r.line
  lines : (before left : List ℕ) → text ≡ before ++ newline ∷ left → length (front_line left) ≤ r.most

-- after a byte, by what is known of the room and of the byte
abbrev next : Room → Bool → Bool → Bool → Room
next r full last starts = if full || (last && not starts) then passed r else record {
  file = r.file - 1;
  line = if starts then r.most else r.line - 1;
  most = r.most;
  over = r.over;
}

-- ---- one byte

module _ (r : Room) (b : ℕ) (bytes : List ℕ) (h : Fits r (b ∷ bytes)) where
  not_full : r.file ≡ 0 → ⊥
  not_full e = let some = h.file in omega (arith, e)

  not_last : (b == newline) ≡ false → r.line ≡ 0 → ⊥
  not_last other e =
      let some : length (b ∷ front_line bytes) ≤ r.line = subst (λ c. length (cond c [] (b ∷ front_line bytes)) ≤ r.line) other h.line in
      omega (arith, e)

  later : (before left : List ℕ) → bytes ≡ before ++ newline ∷ left → length (front_line left) ≤ r.most
  later before left e = h.lines (b ∷ before) left (ap (λ xs. b ∷ xs) e)

  fits_behind_newline : (b == newline) ≡ true → Fits (next r false false true) bytes
  fits_behind_newline starts = record {
    file = let some = h.file in omega arith;
    line = h.lines [] bytes (ap (λ x. x ∷ bytes) (eqb-true b newline starts));
    lines = later;
  }

  fits_behind_other : (b == newline) ≡ false → Fits (next r false false false) bytes
  fits_behind_other other = record {
    file = let some = h.file in omega arith;
    line = let some : length (b ∷ front_line bytes) ≤ r.line = subst (λ c. length (cond c [] (b ∷ front_line bytes)) ≤ r.line) other h.line in omega arith;
    lines = later;
  }

-- ---- room is left after a text that fits

fitting_stays : (r : Room) (text : List ℕ) → Fits r text → (behind r text).over ≡ r.over
unfolding behind
fitting_stays r [] h = refl
fitting_stays r (b ∷ bytes) h = go (λ s k. fitting_stays s bytes k) (r.file == 0) (r.line == 0) (b == newline) refl refl refl
  where
    go : ((s : Room) → Fits s bytes → (behind s bytes).over ≡ s.over) → (full last starts : Bool) → (r.file == 0) ≡ full → (r.line == 0) ≡ last → (b == newline) ≡ starts → (behind (next r full last starts) bytes).over ≡ r.over
    go later true last starts f l s = absurd (not_full r b bytes h (eqb-true r.file 0 f))
    go later false true false f l s = absurd (not_last r b bytes h s (eqb-true r.line 0 l))
    go later false true true f l s = later (next r false false true) (fits_behind_newline r b bytes h s)
    go later false false true f l s = later (next r false false true) (fits_behind_newline r b bytes h s)
    go later false false false f l s = later (next r false false false) (fits_behind_other r b bytes h s)

-- ---- a text fits where room is left after it

over_stays : (r : Room) (text : List ℕ) → r.over ≡ true → (behind r text).over ≡ true
unfolding behind
over_stays r [] e = e
over_stays r (b ∷ bytes) e = go (λ s k. over_stays s bytes k) (r.file == 0) (r.line == 0) (b == newline)
  where
    go : ((s : Room) → s.over ≡ true → (behind s bytes).over ≡ true) → (full last starts : Bool) → (behind (next r full last starts) bytes).over ≡ true
    go later true last starts = later (passed r) refl
    go later false true false = later (passed r) refl
    go later false true true = later (next r false false true) e
    go later false false true = later (next r false false true) e
    go later false false false = later (next r false false false) e

module _ (r : Room) (b : ℕ) (bytes : List ℕ) where
  fits_newline : (b == newline) ≡ true → (r.file ≡ 0 → ⊥) → Fits (next r false false true) bytes → Fits r (b ∷ bytes)
  fits_newline starts some h = record {
    file = let few = h.file in omega (arith, some);
    line = subst (λ c. length (cond c [] (b ∷ front_line bytes)) ≤ r.line) (sym starts) (omega arith);
    lines = lines;
  }
    where
      lines : (before left : List ℕ) → b ∷ bytes ≡ before ++ newline ∷ left → length (front_line left) ≤ r.most
      lines [] left e = let same : bytes ≡ left = cc in subst (λ xs. length (front_line xs) ≤ r.most) same h.line
      lines (x ∷ before) left e = let same : bytes ≡ before ++ newline ∷ left = cc in h.lines before left same

  fits_other : (b == newline) ≡ false → (r.file ≡ 0 → ⊥) → (r.line ≡ 0 → ⊥) → Fits (next r false false false) bytes → Fits r (b ∷ bytes)
  fits_other other some more h = record {
    file = let few = h.file in omega (arith, some);
    line = subst (λ c. length (cond c [] (b ∷ front_line bytes)) ≤ r.line) (sym other) (let few = h.line in omega (arith, more));
    lines = lines;
  }
    where
      lines : (before left : List ℕ) → b ∷ bytes ≡ before ++ newline ∷ left → length (front_line left) ≤ r.most
      lines [] left e = let same : b ≡ newline = cc in absurd (eqb-false b newline other same)
      lines (x ∷ before) left e = let same : bytes ≡ before ++ newline ∷ left = cc in h.lines before left same

fits_from : (r : Room) (text : List ℕ) → (behind r text).over ≡ false → Fits r text
unfolding behind
fits_from r [] e = record { file = omega arith; line = omega arith; lines = λ before left e. nothing_there before left e }
  where
    nothing_there : (before left : List ℕ) → [] ≡ before ++ newline ∷ left → length (front_line left) ≤ r.most
    nothing_there [] left e = cc
    nothing_there (x ∷ before) left e = cc
fits_from r (b ∷ bytes) e = go (λ s k. fits_from s bytes k) (r.file == 0) (r.line == 0) (b == newline) refl refl refl e
  where
    go : ((s : Room) → (behind s bytes).over ≡ false → Fits s bytes) → (full last starts : Bool) → (r.file == 0) ≡ full → (r.line == 0) ≡ last → (b == newline) ≡ starts → (behind (next r full last starts) bytes).over ≡ false → Fits r (b ∷ bytes)
    go later true last starts f l s e = absurd (true≢false (sym (over_stays (passed r) bytes refl) ∙ e))
    go later false true false f l s e = absurd (true≢false (sym (over_stays (passed r) bytes refl) ∙ e))
    go later false true true f l s e = fits_newline r b bytes s (eqb-false r.file 0 f) (later (next r false false true) e)
    go later false false true f l s e = fits_newline r b bytes s (eqb-false r.file 0 f) (later (next r false false true) e)
    go later false false false f l s e = fits_other r b bytes s (eqb-false r.file 0 f) (eqb-false r.line 0 l) (later (next r false false false) e)

-- ---- the limits

module _ (lengths : Lengths) (text : List ℕ) where
  within_fits : IsWithin lengths text → Fits (whole_room lengths) text
  within_fits h = record { file = h.file; line = h.lines text (inl refl); lines = λ before left e. h.lines left (inr (before, e)) }

  fits_within : Fits (whole_room lengths) text → IsWithin lengths text
  fits_within h = record {
    file = h.file;
    lines = λ left start. ⊎_elim (λ e. subst (λ xs. length (front_line xs) ≤ lengths.line) e h.line) (λ b. h.lines b.0 left b.1) start;
  }

  -- whether there was room says whether the text is within them
  pub room_tells : (r : Room) → Takes text (whole_room lengths) r → TellsWhether (not r.over) (IsWithin lengths text)
  room_tells r is = go r.over refl
    where
      go : (over : Bool) → r.over ≡ over → TellsWhether (not over) (IsWithin lengths text)
      go false e = fits_within (fits_from (whole_room lengths) text (ap (λ x. x.over) (sym is.left) ∙ e))
      go true e = λ h. true≢false (sym e ∙ ap (λ x. x.over) is.left ∙ fitting_stays (whole_room lengths) text (within_fits h))

-- ---- a line more

front_short : (piece rest : List ℕ) → length (front_line (piece ++ newline ∷ rest)) ≤ length piece
front_short [] rest = omega arith
front_short (b ∷ piece) rest = go (front_short piece rest) (b == newline)
  where
    go : length (front_line (piece ++ newline ∷ rest)) ≤ length piece → (starts : Bool) → length (cond starts [] (b ∷ front_line (piece ++ newline ∷ rest))) ≤ length (b ∷ piece)
    go h true = omega arith
    go h false = omega (arith, h)

-- What is left behind a line feed of a line and a rest is short there, or it is a line's start of the rest.
start_there : (piece rest before left : List ℕ) → piece ++ newline ∷ rest ≡ before ++ newline ∷ left → (length (front_line left) ≤ length piece) ⊎ IsLineStart rest left
start_there [] rest [] left e = let same : rest ≡ left = cc in inr (inl same)
start_there [] rest (x ∷ before) left e = let same : rest ≡ before ++ newline ∷ left = cc in inr (inr (before, same))
start_there (b ∷ piece) rest [] left e =
    let same : piece ++ newline ∷ rest ≡ left = cc in
    inl (subst (λ xs. length (front_line xs) ≤ length (b ∷ piece)) same (let short = front_short piece rest in omega (arith, short)))
start_there (b ∷ piece) rest (x ∷ before) left e =
    let same : piece ++ newline ∷ rest ≡ before ++ newline ∷ left = cc in
    ⊎_elim (λ short. inl (omega (arith, short))) (λ start. inr start) (start_there piece rest before left same)

-- A rest with a line before it is within limits that have room for that line.
pub line_more : (line before after : ℕ) (piece rest : List ℕ) → length piece ≤ line → length piece + 1 + after ≤ before →
    IsWithin (record { file = after; line = line }) rest → IsWithin (record { file = before; line = line }) (piece ++ newline ∷ rest)
line_more line before after piece rest short room h = record {
  file = let few = h.file in omega (arith, length-append piece (newline ∷ rest), few, room);
  lines = λ left start. ⊎_elim
      (λ e. subst (λ xs. length (front_line xs) ≤ line) e (let few = front_short piece rest in omega (arith, few, short)))
      (λ b. ⊎_elim (λ few. omega (arith, few, short)) (λ start. h.lines left start) (start_there piece rest b.0 left b.1))
      start;
}

pub nothing_within : (line : ℕ) → IsWithin (record { file = 0; line = line }) []
nothing_within line = record { file = omega arith; lines = λ left start. ⊎_elim (λ e. subst (λ xs. length (front_line xs) ≤ line) e (omega arith)) (λ b. absurd (nothing_there b.0 left b.1)) start }
  where
    nothing_there : (before left : List ℕ) → [] ≡ before ++ newline ∷ left → ⊥
    nothing_there [] left e = cc
    nothing_there (x ∷ before) left e = cc
