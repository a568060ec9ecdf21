-- The parts of a header, one after the other: what passes, and the first refusal.
use Rattle.std.specs.Prelude.{◌≡◌, ◌+◌, ◌<◌, ℕ, zero, suc, false, List, [], ◌∷◌, ◌++◌, length, IfErr, IfOk, IfSome, Result, Ok, Err}
use Rattle.std.specs.Global.{Global}
use Rattle.std.specs.Result.{result_err}
use Rattle.std.specs.declared.option.Option.{Option}
use Rattle.std.specs.declared.option.Option.TheVariants.{None, Some}
use Rattle.std.specs.declared.vec.Vec.{Vec}
use Rattle.std.proofs.Common.{refl, sym, ap, subst, ◌∙◌, arith, inl, inr, length-append, ⊎_elim}
use Rattle.graph_core.specs.declared.literal.Lit.{Lit}
use Rattle.graph_core.specs.Graph.Extended.{Extended}
use Rattle.graph_core.specs.Text.JudgedLines.{BeginsWith, Behind, IsTooLong}
use Rattle.graph_core.proofs.OfTexts.CallerLemmas.{HasNoNewline, behind_map}
use Rattle.mv_desk.specs.Calls.{Reads}
use Rattle.mv_desk.specs.View.{View}
use Rattle.mv_desk.proofs.CallerLemmas.{KeepsTelling-trans, ReadsOnly-trans}
use Rattle.mv_desk.specs.declared.slot.Slot.TheVariants.{Clauses}
use Rattle.mv_text.specs.declared.line_fail.LineFail.{LineFail}
use Rattle.mv_text.specs.declared.line_fail.LineFail.TheVariants as fail
use Rattle.mv_text.specs.CertificateFiles.{BeginsOutOfRange, BeginsWithNone, FileState, GivesNeeded, IsLineRefusal, KeepsFile, ReadsNeeded, SaysNothing, TakesText, left_of_file, settled}
use Rattle.mv_text.specs.LineReading.{IsLongAhead, Lines}
use Rattle.mv_text.proofs.CallerLemmas.{needed_fault_read, needed_not_read, needed_read, told, told_from}
use Rattle.drup_text.specs.ClauseTexts.{IsPairLine}
use Rattle.drup_text.specs.PassingHeaders.{IsCause}
use Rattle.drup_text.specs.HeaderRefusal.{LineCause, IsPairStep, IsRefusedBehindPairs, IsRefusedPair, IsRefusedPairs, nothing_later}
use Rattle.drup_text.specs.HeaderRefusal as cause
use Rattle.drup_text.specs.HeaderSteps.{HeaderPart, IsLongIn, ReadsHeaderPart, TakesHeaderPart, line_part, pairs_part}
use Rattle.drup_text.specs.LineTexts.{IsPairOf}

-- ---- a line

-- why a line isn't given is a first refusal in its own line
line_cause : {X : Type 0} (IsText : List ℕ → X → Type 0) (InRange : X → Type 0) (lines : Lines) (left : Option (List ℕ)) (before now n : ℕ) (f : LineFail) →
    IsLineRefusal IsText InRange lines left before now f → IsCause (λ bytes. (line_part IsText InRange).refused (IsLongIn lines bytes) n bytes) left before now n f
line_cause IsText InRange lines left before now n fail.Text h =
    told_from left (λ bytes. ¬ (IsLongAhead lines bytes) × BeginsWithNone IsText bytes) (λ bytes. (line_part IsText InRange).refused (IsLongIn lines bytes) n bytes (n, cause.Text)) (λ bytes e t. inr (t.0, inl (t.1, refl))) h
line_cause IsText InRange lines left before now n fail.Range h =
    told_from left (λ bytes. ¬ (IsLongAhead lines bytes) × BeginsOutOfRange IsText InRange bytes) (λ bytes. (line_part IsText InRange).refused (IsLongIn lines bytes) n bytes (n, cause.Range)) (λ bytes e t. inr (t.0, inr (t.1, refl))) h
line_cause IsText InRange lines left before now n fail.Fault h = h
line_cause IsText InRange lines left before now n fail.TooLong h =
    told_from left (IsLongAhead lines) (λ bytes. (line_part IsText InRange).refused (IsLongIn lines bytes) n bytes (n, cause.TooLong)) (λ bytes e t. inl (t, refl)) h
line_cause IsText InRange lines left before now n fail.Memory h = tt

module _ {X : Type 0} (IsText : List ℕ → X → Type 0) (InRange : X → Type 0) (none : (line : List ℕ) (x : X) → IsText line x → HasNoNewline line) where
  abbrev IsSaid : List ℕ → X → Type 0
  IsSaid bytes x = IsText bytes x × InRange x

  line_is_part : (old new : FileState) (before now : View) (r : Result X LineFail) → ReadsNeeded IsText InRange IsSaid Clauses old new before now r → ReadsHeaderPart (line_part IsText InRange) old new before now r
  line_is_part old new before now (Ok x) h = record {
    value = told_from (left_of_file Clauses old before) (λ left. TakesText IsSaid old.lines new.lines left (left_of_file Clauses new now) x) (λ left. TakesHeaderPart (line_part IsText InRange) old.lines new.lines left (left_of_file Clauses new now) x)
        (λ left e t. record { body = t.rest; passes = (t.short, (t.begins.0, t.begins.1.0, t.begins.2), t.begins.1.1); left_is = t.left_is; taken = t.taken }) h.line;
    refused = tt;
    number = h.number;
    ended = h.ended;
  }
  line_is_part old new before now (Err f) h = record {
    value = tt;
    refused = subst (λ n. IsCause (λ bytes. (line_part IsText InRange).refused (IsLongIn old.lines bytes) (old.number + 1) bytes) (left_of_file Clauses old before) before.read_faults now.read_faults n f) (sym h.number)
        (line_cause IsText InRange old.lines (left_of_file Clauses old before) before.read_faults now.read_faults (old.number + 1) f h.refused);
    number = tt;
    ended = tt;
  }

  -- what was read of the line that was given, or why none was given
  pub line_answered : {old new : FileState} {before now : View} (v : Vec ℕ Global) (r : Result X LineFail) → GivesNeeded Clauses old new before now (Ok v) → IfOk r (IsSaid v.items) → IfErr r (SaysNothing IsText InRange v.items) →
      ReadsHeaderPart (line_part IsText InRange) old (settled new (result_err r)) before now r
  line_answered {old} {new} {before} {now} v (Ok x) gives is refused = line_is_part old (settled new None) before now (Ok x) (needed_read IsText InRange IsSaid none v x gives is)
  line_answered {old} {new} {before} {now} v (Err f) gives is refused = line_is_part old (settled new (Some f)) before now (Err f) (needed_not_read IsText InRange IsSaid none v f gives refused)

  pub line_missed : {old new : FileState} {before now : View} (f : LineFail) → GivesNeeded Clauses old new before now (Err f) → ReadsHeaderPart (line_part IsText InRange) old new before now (Err f)
  line_missed {old} {new} {before} {now} f gives = line_is_part old new before now (Err f) (needed_fault_read IsText InRange IsSaid none f gives)

-- ---- parts one after the other

-- a first refusal after what passes
pub cause_behind : (Refused Later : List ℕ → ℕ × LineCause → Type 0) (left after : Option (List ℕ)) (first mid last n : ℕ) (f : LineFail) → mid ≡ first →
    IfSome left (λ bytes. (rest : List ℕ) × (after ≡ Some rest) × ((p : ℕ × LineCause) → Later rest p → Refused bytes p)) → IsCause Later after mid last n f → IsCause Refused left first last n f
cause_behind Refused Later left after first mid last n f same passes h = go f h
  where
    at : (p : ℕ × LineCause) → IfSome after (λ rest. Later rest p) → IfSome left (λ bytes. Refused bytes p)
    at p later = told_from left (λ bytes. (rest : List ℕ) × (after ≡ Some rest) × ((q : ℕ × LineCause) → Later rest q → Refused bytes q)) (λ bytes. Refused bytes p)
        (λ bytes e t. t.2 p (subst (λ o. IfSome o (λ rest. Later rest p)) t.1 later)) passes

    go : (f : LineFail) → IsCause Later after mid last n f → IsCause Refused left first last n f
    go fail.Text k = at (n, cause.Text) k
    go fail.Range k = at (n, cause.Range) k
    go fail.Fault k = rw (sym same) k
    go fail.TooLong k = at (n, cause.TooLong) k
    go fail.Memory k = tt

-- what holds of lengths and of a whole length
pub over_all : (P : (List ℕ → Type 0) → Type 0) (old mid : Lines) (bytes rest : List ℕ) → mid.lengths ≡ old.lengths → mid.taken + length rest ≡ old.taken + length bytes → P (IsLongIn mid rest) → P (IsLongIn old bytes)
over_all P old mid bytes rest lengths taken h = subst (λ k. P (IsTooLong k (old.taken + length bytes))) lengths (subst (λ n. P (IsTooLong mid.lengths n)) taken h)

module _ {X Y Z : Type 0} (one : HeaderPart X) (two : HeaderPart Y) (both : HeaderPart Z) {old mid new : FileState} {before between now : View} (x : X) (lengths : mid.lines.lengths ≡ old.lines.lengths)
    (first : ReadsHeaderPart one old mid before between (Ok x)) where
  -- both pass
  pub part_behind : (y : Y) (z : Z) → both.lines z ≡ one.lines x + two.lines y →
      ((IsLong : List ℕ → Type 0) (bytes rest body : List ℕ) → one.passes IsLong bytes x rest → two.passes IsLong rest y body → both.passes IsLong bytes z body) →
      ReadsHeaderPart two mid new between now (Ok y) → ReadsHeaderPart both old new before now (Ok z)
  part_behind y z many join second =
      let n : mid.number ≡ old.number + one.lines x = first.number in
      let k : new.number ≡ mid.number + two.lines y = second.number in
      record {
        value = told_from (left_of_file Clauses old before) (λ left. TakesHeaderPart one old.lines mid.lines left (left_of_file Clauses mid between) x) (λ left. TakesHeaderPart both old.lines new.lines left (left_of_file Clauses new now) z) (λ bytes e t.
            let p = subst (λ o. IfSome o (λ rest. TakesHeaderPart two mid.lines new.lines rest (left_of_file Clauses new now) y)) t.left_is second.value in
            record {
              body = p.body;
              passes = join (IsLongIn old.lines bytes) bytes t.body p.body t.passes (over_all (λ IsLong. two.passes IsLong t.body y p.body) old.lines mid.lines bytes t.body lengths t.taken p.passes);
              left_is = p.left_is;
              taken = p.taken ∙ t.taken;
            }) first.value;
        refused = tt;
        number = omega (arith, n, k, many);
        ended = second.ended;
      }

  -- the second is refused
  pub refused_behind : (f : LineFail) → between.read_faults ≡ before.read_faults →
      ((IsLong : List ℕ → Type 0) (bytes rest : List ℕ) (p : ℕ × LineCause) → one.passes IsLong bytes x rest → two.refused IsLong (old.number + one.lines x + 1) rest p → both.refused IsLong (old.number + 1) bytes p) →
      ReadsHeaderPart two mid new between now (Err f) → ReadsHeaderPart both old new before now (Err f)
  refused_behind f stands join second = record {
    value = tt;
    refused = cause_behind (λ bytes. both.refused (IsLongIn old.lines bytes) (old.number + 1) bytes) (λ bytes. two.refused (IsLongIn mid.lines bytes) (mid.number + 1) bytes) (left_of_file Clauses old before) (left_of_file Clauses mid between)
        before.read_faults between.read_faults now.read_faults new.number f stands
        (told_from (left_of_file Clauses old before) (λ left. TakesHeaderPart one old.lines mid.lines left (left_of_file Clauses mid between) x)
        (λ bytes. (rest : List ℕ) × (left_of_file Clauses mid between ≡ Some rest) × ((p : ℕ × LineCause) → two.refused (IsLongIn mid.lines rest) (mid.number + 1) rest p → both.refused (IsLongIn old.lines bytes) (old.number + 1) bytes p))
        (λ bytes e t. (
          t.body,
          t.left_is,
          λ p r. join (IsLongIn old.lines bytes) bytes t.body p t.passes (over_all (λ IsLong. two.refused IsLong (old.number + one.lines x + 1) t.body p) old.lines mid.lines bytes t.body lengths t.taken
              (subst (λ n. two.refused (IsLongIn mid.lines t.body) (n + 1) t.body p) first.number r)),
        )) first.value)
        second.refused;
    number = tt;
    ended = tt;
  }

-- a part is refused where its front is
pub refused_front : {X Z : Type 0} (one : HeaderPart X) (both : HeaderPart Z) {old new : FileState} {before now : View} (f : LineFail) →
    ((IsLong : List ℕ → Type 0) (bytes : List ℕ) (p : ℕ × LineCause) → one.refused IsLong (old.number + 1) bytes p → both.refused IsLong (old.number + 1) bytes p) → ReadsHeaderPart one old new before now (Err f) → ReadsHeaderPart both old new before now (Err f)
refused_front one both {old} {new} {before} {now} f join h = record { value = tt; refused = go f h.refused; number = tt; ended = tt }
  where
    at : (p : ℕ × LineCause) → IfSome (left_of_file Clauses old before) (λ bytes. one.refused (IsLongIn old.lines bytes) (old.number + 1) bytes p) →
        IfSome (left_of_file Clauses old before) (λ bytes. both.refused (IsLongIn old.lines bytes) (old.number + 1) bytes p)
    at p k = told_from (left_of_file Clauses old before) (λ bytes. one.refused (IsLongIn old.lines bytes) (old.number + 1) bytes p) (λ bytes. both.refused (IsLongIn old.lines bytes) (old.number + 1) bytes p)
        (λ bytes e t. join (IsLongIn old.lines bytes) bytes p t) k

    go : (f : LineFail) → IsCause (λ bytes. one.refused (IsLongIn old.lines bytes) (old.number + 1) bytes) (left_of_file Clauses old before) before.read_faults now.read_faults new.number f →
        IsCause (λ bytes. both.refused (IsLongIn old.lines bytes) (old.number + 1) bytes) (left_of_file Clauses old before) before.read_faults now.read_faults new.number f
    go fail.Text k = at (new.number, cause.Text) k
    go fail.Range k = at (new.number, cause.Range) k
    go fail.Fault k = k
    go fail.TooLong k = at (new.number, cause.TooLong) k
    go fail.Memory k = tt

-- out of memory
pub memory_short : {X : Type 0} (part : HeaderPart X) {old new : FileState} {before now : View} (f : LineFail) → f ≡ fail.Memory → ReadsHeaderPart part old new before now (Err f)
memory_short part {old} {new} {before} {now} f is =
    subst (λ e. ReadsHeaderPart part old new before now (Err e)) (sym is) (record { value = tt; refused = tt; number = tt; ended = tt })

-- what is read of a part is read of another one
pub same_part : {X Z : Type 0} (one : HeaderPart X) (both : HeaderPart Z) {old new : FileState} {before now : View} (x : X) (z : Z) → both.lines z ≡ one.lines x →
    ((IsLong : List ℕ → Type 0) (bytes body : List ℕ) → one.passes IsLong bytes x body → both.passes IsLong bytes z body) → ReadsHeaderPart one old new before now (Ok x) → ReadsHeaderPart both old new before now (Ok z)
same_part one both {old} {new} {before} {now} x z many join h = record {
  value = told_from (left_of_file Clauses old before) (λ left. TakesHeaderPart one old.lines new.lines left (left_of_file Clauses new now) x) (λ left. TakesHeaderPart both old.lines new.lines left (left_of_file Clauses new now) z)
      (λ bytes e t. record { body = t.body; passes = join (IsLongIn old.lines bytes) bytes t.body t.passes; left_is = t.left_is; taken = t.taken }) h.value;
  refused = tt;
  number = h.number ∙ ap (λ n. old.number + n) (sym many);
  ended = h.ended;
}

-- a file that is settled read the same
pub part_settled : {X : Type 0} (part : HeaderPart X) {old mid : FileState} {before now : View} (failed : Option LineFail) (x : X) → ReadsHeaderPart part old mid before now (Ok x) → ReadsHeaderPart part old (settled mid failed) before now (Ok x)
part_settled part failed x h = record { value = h.value; refused = tt; number = h.number; ended = h.ended }

-- ---- what stays

pub keeps_on : {X Y : Type 0} {old mid new : FileState} (x : X) (r : Result Y LineFail) → KeepsFile old mid (Ok x) → KeepsFile mid new r → KeepsFile old new r
keeps_on x r h k = record { version = k.version ∙ h.version; lengths = k.lengths ∙ h.lengths; failed = k.failed; piece = k.piece }

pub keeps_settled : {X Y : Type 0} {old mid : FileState} (x : X) (r : Result Y LineFail) → KeepsFile old mid (Ok x) → KeepsFile old (settled mid (result_err r)) r
keeps_settled x r h = record { version = h.version; lengths = h.lengths; failed = refl; piece = h.piece }

pub reads_both : {X Y Z : Type 0} (a b c : View) (x : X) (y : Y) (z : Z) → Reads {E = LineFail} Clauses a b (Ok x) → Reads {E = LineFail} Clauses b c (Ok y) → Reads {E = LineFail} Clauses a c (Ok z)
reads_both a b c x y z h k = record { only = ReadsOnly-trans Clauses a b c h.only k.only; stands = k.stands ∙ h.stands; tells = KeepsTelling-trans a b c h.tells k.tells }

-- nothing was read yet
pub nothing_yet : {X : Type 0} (part : HeaderPart X) (file : FileState) (view : View) (x : X) → part.lines x ≡ 0 → ((IsLong : List ℕ → Type 0) (bytes : List ℕ) → part.passes IsLong bytes x bytes) → file.ended ≡ false → ReadsHeaderPart part file file view view (Ok x)
nothing_yet part file view x none start going = record {
  value = told (left_of_file Clauses file view) (λ left. TakesHeaderPart part file.lines file.lines left (left_of_file Clauses file view) x)
      (λ bytes e. record { body = bytes; passes = start (IsLongIn file.lines bytes) bytes; left_is = e; taken = refl });
  refused = tt;
  number = omega (arith, none);
  ended = going;
}

-- ---- pairs

-- where so many of the pairs that are to come passed
abbrev pub pairs_so_far : Extended → ℕ → HeaderPart (Vec (Lit × Lit) Global)
pairs_so_far e count = record {
  passes = λ IsLong bytes pairs rest. Behind IsPairLine (IsPairStep e) IsLong (λ n left. (n + length pairs.items ≡ count) × (left ≡ rest)) pairs.items count bytes;
  refused = λ IsLong number bytes p. ⊥;
  lines = λ pairs. length pairs.items;
}

pub no_pairs : (e : Extended) (count : ℕ) (none : Vec (Lit × Lit) Global) → none.items ≡ [] → (IsLong : List ℕ → Type 0) (bytes : List ℕ) → (pairs_so_far e count).passes IsLong bytes none bytes
no_pairs e count none is IsLong bytes = subst (λ ps. Behind IsPairLine (IsPairStep e) IsLong (λ n left. (n + length ps ≡ count) × (left ≡ bytes)) ps count bytes) (sym is) (omega arith, refl)

module _ {State Line : Type 0} (IsText : List ℕ → Line → Type 0) (Step : State → Line → State → Type 0) (IsLong : List ℕ → Type 0) (F G : State → List ℕ → Type 0) (x : Line)
    (on : (s : State) (left : List ℕ) → F s left → (rest : List ℕ) × (next : State) × ¬ (IsLong left) × BeginsWith IsText left x rest × Step s x next × G next rest) where
  behind_on : (xs : List Line) (s : State) (bytes : List ℕ) → Behind IsText Step IsLong F xs s bytes → Behind IsText Step IsLong G (xs ++ x ∷ []) s bytes
  behind_on [] s bytes h = on s bytes h
  behind_on (y ∷ xs) s bytes h = (h.0, h.1, h.2, h.3, h.4, behind_on xs h.1 h.0 h.5)

module _ (e : Extended) (count : ℕ) (IsLong : List ℕ → Type 0) (bytes rest : List ℕ) (pairs : Vec (Lit × Lit) Global) (early : length pairs.items < count) (so_far : (pairs_so_far e count).passes IsLong bytes pairs rest) where
  -- one more passes
  pub pair_on : (longer : Vec (Lit × Lit) Global) (p : Lit × Lit) (body : List ℕ) → longer.items ≡ pairs.items ++ p ∷ [] → (line_part IsPairLine (IsPairOf e)).passes IsLong rest p body → (pairs_so_far e count).passes IsLong bytes longer body
  pair_on longer p body made here =
      let many : length longer.items ≡ length pairs.items + 1 = ap length made ∙ length-append pairs.items (p ∷ []) in
      subst (λ ps. Behind IsPairLine (IsPairStep e) IsLong (λ n left. (n + length longer.items ≡ count) × (left ≡ body)) ps count bytes) (sym made)
      (behind_on IsPairLine (IsPairStep e) IsLong (λ n left. (n + length pairs.items ≡ count) × (left ≡ rest)) (λ n left. (n + length longer.items ≡ count) × (left ≡ body)) p (λ n left f. step n left many f.0 f.1) pairs.items count bytes so_far)
    where
      step : (n : ℕ) (left : List ℕ) → length longer.items ≡ length pairs.items + 1 → n + length pairs.items ≡ count → left ≡ rest →
          (more : List ℕ) × (next : ℕ) × ¬ (IsLong left) × BeginsWith IsPairLine left p more × IsPairStep e n p next × ((next + length longer.items ≡ count) × (more ≡ body))
      step zero left many n same = absurd (omega (arith, n, early))
      step (suc m) left many n same = (
        body,
        m,
        λ long. here.0 (subst IsLong same long),
        (here.1.0, here.1.1, same ∙ here.1.2),
        (here.2, refl),
        (omega (arith, n, many), refl),
      )

  -- one more is refused
  pub pair_refused : (made : List (Lit × Lit) → Extended) (first : ℕ) (p : ℕ × LineCause) → (line_part IsPairLine (IsPairOf e)).refused IsLong (first + length pairs.items + 1) rest p → IsRefusedPairs nothing_later made e IsLong (first + 1) count bytes p
  pair_refused made first p refused = (
    pairs.items,
    behind_map IsPairLine (IsPairStep e) IsLong (λ n left. (n + length pairs.items ≡ count) × (left ≡ rest)) (λ n left. IsRefusedBehindPairs nothing_later made e IsLong (first + 1) pairs.items n left p) (λ n left f. step n left f.0 f.1) pairs.items count bytes so_far,
  )
    where
      number : first + length pairs.items + 1 ≡ first + 1 + length pairs.items
      number = omega arith

      here : (line_part IsPairLine (IsPairOf e)).refused IsLong (first + 1 + length pairs.items) rest p
      here = subst (λ n. (line_part IsPairLine (IsPairOf e)).refused IsLong n rest p) number refused

      there : (c : LineCause) → IsRefusedPair e IsLong rest c → p ≡ (first + 1 + length pairs.items, c) → (c : LineCause) × IsRefusedPair e IsLong rest c × (p ≡ (first + 1 + length pairs.items, c))
      there c r is = (c, r, is)

      cause_of : (c : LineCause) × IsRefusedPair e IsLong rest c × (p ≡ (first + 1 + length pairs.items, c))
      cause_of = ⊎_elim (λ long. there cause.TooLong (inl (long.0, refl)) long.1)
          (λ short. ⊎_elim (λ none. there cause.Text (inr (short.0, inl (none.0, refl))) none.1)
          (λ out. let o = out.0 in there cause.Range (inr (short.0, inr (o.0, o.1, o.2, inl (o.3, refl)))) out.1) short.1) here

      step : (n : ℕ) (left : List ℕ) → n + length pairs.items ≡ count → left ≡ rest → IsRefusedBehindPairs nothing_later made e IsLong (first + 1) pairs.items n left p
      step zero left n same = absurd (omega (arith, n, early))
      step (suc m) left n same = subst (λ z. (c : LineCause) × IsRefusedPair e IsLong z c × (p ≡ (first + 1 + length pairs.items, c))) (sym same) cause_of

-- all passed
pub pairs_all : (e : Extended) (count : ℕ) (pairs : Vec (Lit × Lit) Global) → length pairs.items ≡ count → (IsLong : List ℕ → Type 0) (bytes body : List ℕ) → (pairs_so_far e count).passes IsLong bytes pairs body → (pairs_part e count).passes IsLong bytes pairs body
pairs_all e count pairs many IsLong bytes body h =
    behind_map IsPairLine (IsPairStep e) IsLong (λ n left. (n + length pairs.items ≡ count) × (left ≡ body)) (λ n left. (n ≡ 0) × (left ≡ body)) (λ n left f. (omega (arith, many, f.0), f.1)) pairs.items count bytes h
