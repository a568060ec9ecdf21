-- How far a clause file is judged: one line more, its end, and each line at which it is refused.
use Rattle.std.specs.Prelude.{◌≡◌, ◌≢◌, ℕ, suc, ◌+◌, ◌<◌, ◌≤◌, ◌^◌, List, [], ◌∷◌, ◌++◌, length, IfSome}
use Rattle.std.specs.declared.option.Option.{Option}
use Rattle.std.specs.declared.option.Option.TheVariants.{None, Some}
use Rattle.std.proofs.Common.{refl, sym, ap, subst, ◌∙◌, arith, inl, inr, ⊎_elim, length-append}
use Rattle.graph_core.specs.Graph.Extended.{Extended}
use Rattle.graph_core.specs.Text.JudgedLines.{BeginsWith, Behind}
use Rattle.graph_core.specs.Text.{newline}
use Rattle.graph_core.proofs.OfTexts.CallerLemmas.{behind_map}
use Rattle.clause_core.specs.Clause.{Clause}
use Rattle.clause_core.specs.ClauseLines.{ClauseLine, IsGoalRefusal}
use Rattle.clause_core.specs.GateClauses.{gate_clauses}
use Rattle.clause_core.specs.Likeness.{HaveSameCopies}
use Rattle.clause_core.specs.declared.line.Line.TheVariants.{Add, Delete}
use Rattle.clause_core.proofs.CallerLemmas.{same_flip}
use Rattle.drup_checker.specs.Checking.{Checking, IsLeastUnshown}
use Rattle.drup_checker.specs.Steps.{HasAdded, HasShown}
use Rattle.drup_checker.proofs.JudgedGoals.{goals_are_judged}
use Rattle.drup_checker.proofs.StepLaws.{added_are_right, marks_are_right, steps_are_lawful}
use Rattle.drup_text.specs.ClauseTexts.{IsClauseLine}
use Rattle.mv_text.specs.CertificateFiles.{BeginsOutOfRange, BeginsWithNone, FileState, IsAtEnd, IsNextRefusal, TakesText}
use Rattle.drup_text.specs.HeaderRefusal.{LineCause, NoSuchClause, NotImplied, Range, Text, TooLong}
use Rattle.drup_text.specs.LineTexts.{IsClauseLineInRange, IsSameClauseLine}
use Rattle.drup_text.proofs.CallerLemmas.{long_of, none_clause_line, short_of}
use Rattle.drup_text.specs.HeaderSteps.{IsLongIn}
use Rattle.miter_encoder.specs.ColumnGoals.{AreGoalsOf}
use Rattle.command_core.specs.declared.stop.Stop.TheVariants as stop
use Rattle.mv_desk.specs.View.{View}
use Rattle.mv_desk.specs.declared.slot.Slot.TheVariants as slot
use Rattle.mv_text.specs.declared.line_fail.LineFail.{LineFail}
use Rattle.mv_text.specs.declared.line_fail.LineFail.TheVariants as text
use Rattle.mv_text.specs.LineReading.{IsLongAhead}
use Rattle.clause_judge.specs.declared.fail.ClauseFail.{ClauseFail}
use Rattle.clause_judge.specs.declared.fail.ClauseFail.TheVariants as fail
use Rattle.clause_judge.specs.ClauseBody.{Ends, HasPassed, IsPassedTo, IsRestFail, IsShownWith, PassTo, StandsAt}
use Rattle.clause_judge.specs.ClauseLines.{answer_of_line, IsGoalFail, IsRuleFail, IsTextFail, NextLine, TakesClauseLine}
use Rattle.clause_judge.specs.LineRefusals.{IsClauseStep, IsRefusedClause, IsRefusedLines, IsRefusedNextClause}
use Rattle.clause_judge.specs.Taking.{HasTaken, TakeClauses}
use Rattle.clause_judge.proofs.LineEnds.{within_behind}
use Rattle.clause_judge.proofs.Told.{rose_before, told_more, told_of}

-- ---- one line more at the end

take_more : (e : Extended) (live : List Clause) (xs : List ClauseLine) (mid : List Clause) (x : ClauseLine) (last : List Clause) → TakeClauses e live xs mid → IsClauseStep e mid x last → TakeClauses e live (xs ++ x ∷ []) last
take_more e live [] mid x last h step = (last, subst (λ (z : List Clause). IsClauseStep e z x last) h step, refl)
take_more e live (y ∷ xs) mid x last h step = (h.0, h.1, take_more e h.0 xs mid x last h.2 step)

module _ (e : Extended) (IsLong : List ℕ → Type 0) where
  pass_more : (xs : List ClauseLine) (live : List Clause) (rest : List ℕ) (x : ClauseLine) (next : List Clause) (more : List ℕ) (s : List Clause) (bytes : List ℕ) → PassTo e IsLong xs live rest s bytes →
      ¬ (IsLong rest) → BeginsWith IsClauseLine rest x more → IsClauseStep e live x next → PassTo e IsLong (xs ++ x ∷ []) next more s bytes
  pass_more [] live rest x next more s bytes h short begins step =
      (more, next, subst (λ z. ¬ (IsLong z)) (sym h.1) short, subst (λ z. BeginsWith IsClauseLine z x more) (sym h.1) begins, subst (λ (z : List Clause). IsClauseStep e z x next) (sym h.0) step, (refl, refl))
  pass_more (y ∷ xs) live rest x next more s bytes h short begins step =
      (h.0, h.1, h.2, h.3, h.4, pass_more xs live rest x next more h.1 h.0 h.5 short begins step)

  pass_map : (F : List Clause → List ℕ → Type 0) (xs : List ClauseLine) (live : List Clause) (rest : List ℕ) (s : List Clause) (bytes : List ℕ) → PassTo e IsLong xs live rest s bytes → F live rest →
      Behind IsClauseLine (IsClauseStep e) IsLong F xs s bytes
  pass_map F xs live rest s bytes h there =
      behind_map IsClauseLine (IsClauseStep e) IsLong (λ t left. (t ≡ live) × (left ≡ rest)) F (λ t left same. subst (λ (z : List Clause). F z left) (sym same.0) (subst (F live) (sym same.1) there)) xs s bytes h

-- ---- a line has bytes

longer : (left line rest : List ℕ) → left ≡ line ++ newline ∷ rest → length left ≡ length line + suc (length rest)
longer left line rest is = ap length is ∙ length-append line (newline ∷ rest)

empty_is_no_line : (x : ClauseLine) → IsClauseLine [] x → ⊥
empty_is_no_line (Add []) h = absurd (cc)
empty_is_no_line (Add (l ∷ ls)) h = absurd (omega (arith, simp length-append at (ap length h.4)))
empty_is_no_line (Delete c) h = absurd (cc)

line_has_bytes : (line : List ℕ) (x : ClauseLine) → IsClauseLine line x → 1 ≤ length line
line_has_bytes [] x h = absurd (empty_is_no_line x h)
line_has_bytes (b ∷ line) x h = omega arith

-- ---- how far

module _ (e : Extended) (start : FileState) (body : Option (List ℕ)) where
  -- no line is taken yet
  pub begins : StandsAt e start body [] (gate_clauses e.gates) start body
  begins = record { lengths = refl; number = omega arith; passed = go body }
    where
      go : (o : Option (List ℕ)) → IfSome o (IsPassedTo e start.lines [] (gate_clauses e.gates) start.lines o)
      go None = tt
      go (Some bytes) = record { rest = bytes; left_is = refl; count = refl; turns = omega arith; room = λ below. absurd (omega (arith, below)); passed = (refl, refl) }

  module _ (xs : List ClauseLine) (live : List Clause) (file : FileState) (left : Option (List ℕ)) (stands : StandsAt e start body xs live file left) where
    -- what is shown where a line stands is so of the body
    refused_lines : (n : ℕ) (c : LineCause) (P : List ℕ → Type 0) → n ≡ start.number + 1 + length xs → IfSome left P →
        ((bytes : List ℕ) (p : IsPassedTo e start.lines xs live file.lines left bytes) → P p.rest → IsRefusedNextClause e (IsLongIn start.lines bytes) live p.rest c) →
        IfSome body (λ bytes. IsRefusedLines (IsLongIn start.lines bytes) e (start.number + 1) bytes (n, c))
    refused_lines n c P same h there = told_more body (IsPassedTo e start.lines xs live file.lines left) (λ bytes. IsRefusedLines (IsLongIn start.lines bytes) e (start.number + 1) bytes (n, c)) (λ bytes p. (
      xs,
      c,
      pass_map e (IsLongIn start.lines bytes) (λ s rest. IsRefusedNextClause e (IsLongIn start.lines bytes) s rest c) xs live p.rest (gate_clauses e.gates) bytes p.passed (there bytes p (told_of left p.rest P p.left_is h)),
      ap (λ (m : ℕ). (m, c)) same,
    )) stands.passed

    short_here : (bytes : List ℕ) (p : IsPassedTo e start.lines xs live file.lines left bytes) → ¬ (IsLongAhead file.lines p.rest) → ¬ (IsLongIn start.lines bytes p.rest)
    short_here bytes p short = short_of start.lines.lengths (start.lines.taken + length bytes) file.lines p.rest stands.lengths p.count short

    long_here : (bytes : List ℕ) (p : IsPassedTo e start.lines xs live file.lines left bytes) → IsLongAhead file.lines p.rest → IsLongIn start.lines bytes p.rest
    long_here bytes p long = long_of start.lines.lengths (start.lines.taken + length bytes) file.lines p.rest stands.lengths p.count long

    abbrev Fails : View → View → ClauseFail → Type 0
    Fails first now answer = IsRestFail (start.number + 1) e start.lines body first now answer

    -- ---- a line isn't read

    pub text_fails : (n : ℕ) (first before now : View) (answer : ClauseFail) → n ≡ start.number + 1 + length xs → first.read_faults ≤ before.read_faults → IsTextFail n e.max file.lines left before now answer → Fails first now answer
    text_fails n first before now answer same later h = subst (λ (a : ClauseFail). Fails first now a) (sym h.2) (go h.0 h.1)
      where
        go : (why : LineFail) → IsNextRefusal IsClauseLine (IsClauseLineInRange e.max) file.lines left before.read_faults now.read_faults why → Fails first now (answer_of_line n why)
        go text.Text k =
            refused_lines n Text (λ bytes. ¬ (IsLongAhead file.lines bytes) × (bytes ≢ []) × BeginsWithNone IsClauseLine bytes) same k (λ bytes p r. inr (short_here bytes p r.0, inl (r.2, r.1, refl)))
        go text.Range k =
            refused_lines n Range (λ bytes. ¬ (IsLongAhead file.lines bytes) × BeginsOutOfRange IsClauseLine (IsClauseLineInRange e.max) bytes) same k
            (λ bytes p r. inr (short_here bytes p r.0, inr (r.1.0, r.1.1, r.1.2, inl (r.1.3, refl))))
        go text.Fault k = rose_before first.read_faults before.read_faults now.read_faults later k
        go text.TooLong k = (
          refl,
          told_more body (λ bytes. IsRefusedLines (IsLongIn start.lines bytes) e (start.number + 1) bytes (n, TooLong)) (λ bytes. (m : ℕ) × IsRefusedLines (IsLongIn start.lines bytes) e (start.number + 1) bytes (m, TooLong))
              (λ bytes r. (n, r)) (refused_lines n TooLong (IsLongAhead file.lines) same k (λ bytes p r. inl (long_here bytes p r, refl))),
        )
        go text.Memory k = tt

    -- ---- the end

    pub ends : IfSome left (IsAtEnd file.lines) → IfSome body (HasPassed e start.lines xs)
    ends h = told_more body (IsPassedTo e start.lines xs live file.lines left) (HasPassed e start.lines xs) (λ bytes p.
        let end = told_of left p.rest (IsAtEnd file.lines) p.left_is h in
        pass_map e (IsLongIn start.lines bytes) (Ends (IsLongIn start.lines bytes)) xs live p.rest (gate_clauses e.gates) bytes p.passed (short_here bytes p end.short, end.none)) stands.passed

    -- a reader within its limit doesn't read so many lines
    pub too_many : (first now : View) → 2 ^ 63 ≤ length xs → start.lines.lengths.file < 2 ^ 64 → Fails first now (fail.Stopped (stop.TooLong slot.Clauses))
    too_many first now many limit = (
      refl,
      told_more body (IsPassedTo e start.lines xs live file.lines left) (λ bytes. (m : ℕ) × IsRefusedLines (IsLongIn start.lines bytes) e (start.number + 1) bytes (m, TooLong))
          (λ bytes p. let room = p.room in let turns = p.turns in absurd (omega (arith, many, limit, turns, p.room (omega (arith, many))))) stands.passed,
    )

    -- ---- a line was read

    module _ (k : Checking) (taken : HasTaken e xs live k) (new : FileState) (behind : Option (List ℕ)) (line : ClauseLine) (next : NextLine e.max file new left behind line) where
      -- what the checker does is a step of the definitions
      abbrev Steps : ClauseLine → Checking → Type 0
      Steps x k' = (last : List Clause) × IsClauseStep e live x last × HaveSameCopies k'.live last × HasShown k' (xs ++ x ∷ []) × HasAdded k' (xs ++ x ∷ [])

      step_of : (x y : ClauseLine) → IsSameClauseLine x y → IsClauseLineInRange e.max x → (k' : Checking) → TakesClauseLine y k k' → Steps x k'
      step_of (Add d) (Add c) same range k' h =
          let flip = same_flip d c same in
          let r = steps_are_lawful.adds c d k k' live taken.alike flip h in
          (d ∷ live, (range, (r.0, refl)), r.1, marks_are_right.adds c d k k' xs taken.shown flip h, added_are_right.adds c d k k' xs taken.added flip h)
      step_of (Add d) (Delete c) same range k' h = absurd same
      step_of (Delete d) (Add c) same range k' h = absurd same
      step_of (Delete d) (Delete c) same range k' h =
          let r = steps_are_lawful.deletes c d k k' live taken.alike (same_flip d c same) h in
          (r.0, (range, r.1), r.2, marks_are_right.deletes c d k k' xs taken.shown h, added_are_right.deletes c d k k' xs taken.added h)

      -- the checker took it
      pub step : (k' : Checking) → TakesClauseLine line k k' → new.lines.lengths ≡ file.lines.lengths →
          (last : List Clause) × HasTaken e (xs ++ next.text ∷ []) last k' × StandsAt e start body (xs ++ next.text ∷ []) last new behind
      step k' h lengths =
          let s = step_of next.text line next.same next.in_range k' h in
          let more : length (xs ++ next.text ∷ []) ≡ length xs + 1 = length-append xs (next.text ∷ []) in (
            s.0,
            record { lawful = take_more e (gate_clauses e.gates) xs live next.text s.0 taken.lawful s.1; alike = s.2; shown = s.3; added = s.4 },
            record {
              lengths = lengths ∙ stands.lengths;
              number = omega (arith, next.number, stands.number, more);
              passed = told_more body (IsPassedTo e start.lines xs live file.lines left) (IsPassedTo e start.lines (xs ++ next.text ∷ []) s.0 new.lines behind) (λ bytes p. passes bytes p s.0 s.1 more) stands.passed;
            },
          )
        where
          passes : (bytes : List ℕ) (p : IsPassedTo e start.lines xs live file.lines left bytes) (last : List Clause) → IsClauseStep e live next.text last → length (xs ++ next.text ∷ []) ≡ length xs + 1 →
              IsPassedTo e start.lines (xs ++ next.text ∷ []) last new.lines behind bytes
          passes bytes p last one more =
              let t = told_of left p.rest (λ r. TakesText IsClauseLine file.lines new.lines r behind next.text) p.left_is next.takes in
              let short = short_here bytes p t.short in
              let front = t.begins.0 in
              let within = within_behind start.lines.lengths (start.lines.taken + length bytes) p.rest front t.rest (none_clause_line front next.text t.begins.1) t.begins.2 short in
              let fewer = longer p.rest front t.rest t.begins.2 in
              let some = line_has_bytes front next.text t.begins.1 in
              record {
                rest = t.rest;
                left_is = t.left_is;
                count = omega (arith, t.taken, p.count);
                turns = omega (arith, t.taken, p.turns, fewer, some, more);
                room = λ below. omega (arith, t.taken, p.count, within);
                passed = pass_more e (IsLongIn start.lines bytes) xs live p.rest next.text last t.rest (gate_clauses e.gates) bytes p.passed short t.begins one;
              }

      -- the checker refuses it
      refused_here : (n : ℕ) (c : LineCause) → n ≡ start.number + 1 + length xs → IsRefusedClause live next.text c → IfSome body (λ bytes. IsRefusedLines (IsLongIn start.lines bytes) e (start.number + 1) bytes (n, c))
      refused_here n c same rule =
          refused_lines n c (λ r. TakesText IsClauseLine file.lines new.lines r behind next.text) same next.takes
          (λ bytes p t. inr (short_here bytes p t.short, inr (next.text, t.rest, t.begins, inr (next.in_range, rule))))

      pub rule_fails : (n : ℕ) (first now : View) (answer : ClauseFail) → n ≡ start.number + 1 + length xs → IsRuleFail n line k answer → Fails first now answer
      rule_fails n first now answer same h = go next.text line next.same (λ c rule. refused_here n c same rule) h
        where
          go : (x y : ClauseLine) → IsSameClauseLine x y → ((c : LineCause) → IsRefusedClause live x c → IfSome body (λ bytes. IsRefusedLines (IsLongIn start.lines bytes) e (start.number + 1) bytes (n, c))) → IsRuleFail n y k answer → Fails first now answer
          go (Add d) (Add c) alike there r =
              ⊎_elim (λ no. subst (λ (a : ClauseFail). Fails first now a) (sym no.0) (there NotImplied (inl (steps_are_lawful.not_implied c d k live taken.alike (same_flip d c alike) no.1, refl))))
              (λ memory. subst (λ (a : ClauseFail). Fails first now a) (sym memory) tt) r
          go (Add d) (Delete c) alike there r = absurd alike
          go (Delete d) (Add c) alike there r = absurd alike
          go (Delete d) (Delete c) alike there r =
              subst (λ (a : ClauseFail). Fails first now a) (sym r.0) (there NoSuchClause (inl (steps_are_lawful.nowhere c d k live taken.alike (same_flip d c alike) r.1, refl)))

    -- ---- all lines were taken

    module _ (k : Checking) (taken : HasTaken e xs live k) (goals : AreGoalsOf e k.goals) (end : IfSome left (IsAtEnd file.lines)) where
      pub goals_shown : IsLeastUnshown k.goals k.shown None → IfSome body (IsShownWith e start.lines k.keeps k.added (length xs))
      goals_shown none = told_more body (HasPassed e start.lines xs) (IsShownWith e start.lines k.keeps k.added (length xs)) (λ bytes passed. (xs, passed, goals_are_judged.shown e k xs goals taken.shown none, taken.added, refl)) (ends end)

      pub goals_fail : (first now : View) (answer : ClauseFail) → IsGoalFail k answer → Fails first now answer
      goals_fail first now answer h = subst (λ (a : ClauseFail). Fails first now a) (sym h.2)
          (told_more body (HasPassed e start.lines xs) (λ bytes. (ys : List ClauseLine) × HasPassed e start.lines ys bytes × IsGoalRefusal e ys h.0) (λ bytes passed. (xs, passed, goals_are_judged.refused e k xs h.0 goals taken.shown h.1)) (ends end))
