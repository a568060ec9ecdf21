-- The lines of a clause certificate are lawful, or there is one first refusal.
use Rattle.std.specs.Prelude.{◌≡◌, ◌≢◌, ℕ, ◌+◌, ◌⊎◌, List, [], ◌∷◌, ◌++◌, length, pos, nat_abs}
use Rattle.std.specs.List.{Any, AllByRecursion}
use Rattle.std.proofs.Common.{refl, sym, ap, subst, ◌∙◌, arith, inl, inr, ⊎_elim}
use Rattle.graph_core.specs.Text.{newline}
use Rattle.graph_core.specs.Text.Readers.{ended_at}
use Rattle.graph_core.specs.Text.JudgedLines.{IsLineStart, BeginsWith, Behind, IsExact}
use Rattle.graph_core.specs.Graph.Extended.{Extended}
use Rattle.graph_core.proofs.OfGraphs.CallerLemmas.{Decided, decided_and, decided_le, decided_all}
use Rattle.graph_core.proofs.OfTexts.CallerLemmas.{start_here, start_later, HasNoNewline, ShortFrom, behind_either, behind_some, reached, behind_short, StepsOn, walk, one_line, line_or_none, meet, unless_exact, last_exact, exact_as, short_next, short_nil, short_rest}
use Rattle.clause_core.specs.Clause.{Clause, IsClauseInRange, SameSet}
use Rattle.clause_core.specs.ClauseLines.{ClauseLine, clause_in, AreLawfulClauses}
use Rattle.clause_core.specs.declared.line.Line.TheVariants.{Add, Delete}
use Rattle.clause_core.specs.GateClauses.{gate_clauses}
use Rattle.clause_core.specs.Likeness.{HaveSameCopies}
use Rattle.clause_core.specs.UnitPropagation.{IsRup}
use Rattle.clause_core.proofs.Decided.{decided_not, decided_int, decided_any, decided_same_set}
use Rattle.clause_core.proofs.PropagationEnds.{rup_is_decided}
use Rattle.clause_core.proofs.Copies.{alike_self, alike_flip, alike_removes, alike_adds, alike_any, alike_rup, removes_some, removes_any, same_self}
use Rattle.drup_text.specs.ClauseTexts.{AreLinesOf, IsClauseLine}
use Rattle.drup_text.specs.ClauseReading.{clause_line_at}
use Rattle.drup_text.specs.HeaderRefusal.{LineCause, TooLong, Text, Range, NotImplied, NoSuchClause}
use Rattle.drup_text.proofs.CallerLemmas.{clause_item, none_clause_line}
use Rattle.clause_judge.specs.ClauseBody as body
use Rattle.clause_judge.specs.LineRefusals.{IsRefusedClause, IsRefusedClauseLine, TakesClauses, IsClauseStep, IsRefusedClauseText, IsRefusedNextClause, IsRefusedLines}

-- no line that starts there is too long, and a line starts at the end
abbrev pub ShortTo : (List ℕ → Type 0) → List ℕ → Type 0
ShortTo IsLong bytes = ShortFrom IsLong bytes × IsLineStart bytes []

pub short_line : (IsLong : List ℕ → Type 0) (bytes line rest : List ℕ) → bytes ≡ line ++ newline ∷ rest → HasNoNewline line → ¬ (IsLong bytes) → ShortTo IsLong rest → ShortTo IsLong bytes
short_line IsLong bytes line rest e none long s =
    (subst (ShortFrom IsLong) (sym e) (short_next IsLong line rest none (subst (λ z. ¬ (IsLong z)) e long) s.0), start_later bytes rest [] (inr (line, e)) s.1)

-- ---- one line

decided_clause_range : (max : ℕ) (c : Clause) → Decided (IsClauseInRange max c)
decided_clause_range max c = decided_all _ (λ l. decided_and (decided_not (decided_int l (pos 0))) (decided_le (nat_abs l) max)) c

-- the rule of a line
abbrev MeetsRule : List Clause → ClauseLine → Type 0
MeetsRule live (Add c) = IsRup live c
MeetsRule live (Delete c) = Any (λ d. SameSet d c) live

rule_exact : (live : List Clause) (x : ClauseLine) → IsExact (MeetsRule live x) (IsRefusedClause live x)
rule_exact live (Add c) = last_exact NotImplied (rup_is_decided live c) (λ n h. n h)
rule_exact live (Delete c) = last_exact NoSuchClause (decided_any (λ d. SameSet d c) (λ d. decided_same_set d c) live) (λ n h. n h)

clause_line_exact : (e : Extended) (live : List Clause) (x : ClauseLine) → IsExact (IsClauseInRange e.max (clause_in x) × MeetsRule live x) (IsRefusedClauseLine e live x)
clause_line_exact e live x = unless_exact Range (decided_clause_range e.max (clause_in x)) (λ n h. n h) (λ h. rule_exact live x)

takes_some : (live : List Clause) (x : ClauseLine) → MeetsRule live x → (next : List Clause) × TakesClauses live x next
takes_some live (Add c) h = (c ∷ live, (h, refl))
takes_some live (Delete c) h = removes_some live c h

takes_meets : (live : List Clause) (x : ClauseLine) (next : List Clause) → TakesClauses live x next → MeetsRule live x
takes_meets live (Add c) next h = h.0
takes_meets live (Delete c) next h = removes_any live c next h

alike_meets : (s t : List Clause) (x : ClauseLine) → HaveSameCopies s t → MeetsRule s x → MeetsRule t x
alike_meets s t (Add c) a h = alike_rup s t c c a (same_self c) h
alike_meets s t (Delete c) a h = alike_any s t c c a (same_self c) h

alike_takes : (s t : List Clause) (x : ClauseLine) (u v : List Clause) → HaveSameCopies s t → TakesClauses s x u → TakesClauses t x v → HaveSameCopies u v
alike_takes s t (Add c) u v a h i = let same = alike_adds s t c c a (same_self c) in subst (λ z. HaveSameCopies z v) (sym h.1) (subst (HaveSameCopies (c ∷ s)) (sym i.1) same)
alike_takes s t (Delete c) u v a h i = alike_removes s t c c u v a (same_self c) h i

-- ---- where bytes are left

abbrev NoStep : {Line : Type 0} → ℕ → Line → ℕ → Type 0
NoStep s x t = ⊥

pub one_clause_line : (bytes : List ℕ) (x y : ClauseLine) (rest more : List ℕ) → BeginsWith IsClauseLine bytes x rest → BeginsWith IsClauseLine bytes y more → (x ≡ y) × (rest ≡ more)
one_clause_line = one_line IsClauseLine NoStep (λ b. ⊥) (ended_at clause_line_at (newline ∷ [])) clause_item

-- nothing begins at the end
pub not_at_end : {Line : Type 0} (IsText : List ℕ → Line → Type 0) (x : Line) (rest : List ℕ) → BeginsWith IsText [] x rest → ⊥
not_at_end IsText x rest h = go h.0 h.2
  where
    go : (line : List ℕ) → [] ≡ line ++ newline ∷ rest → ⊥
    go [] e = absurd (cc)
    go (b ∷ line) e = absurd (cc)

decided_nil : (rest : List ℕ) → (rest ≡ []) ⊎ (rest ≢ [])
decided_nil [] = inl refl
decided_nil (b ∷ rest) = inr (λ h. absurd (cc))

module _ (e : Extended) (IsLong : List ℕ → Type 0) (d : (bytes : List ℕ) → Decided (IsLong bytes)) where
  abbrev GoodLine : List Clause → List ℕ → Type 0
  GoodLine live bytes = (x : ClauseLine) × (rest : List ℕ) × BeginsWith IsClauseLine bytes x rest × IsClauseInRange e.max (clause_in x) × MeetsRule live x

  abbrev Good : List Clause → List ℕ → Type 0
  Good live bytes = (bytes ≡ []) ⊎ GoodLine live bytes

  clause_text_exact : (live : List Clause) (bytes : List ℕ) → IsExact (Good live bytes) (IsRefusedClauseText e live bytes)
  clause_text_exact live bytes = ⊎_elim (λ h. a_line h.0 h.1 h.2) (λ n. ⊎_elim (at_end n) (none n) (decided_nil bytes)) (line_or_none IsClauseLine NoStep (λ z. ⊥) (ended_at clause_line_at (newline ∷ [])) clause_item bytes)
    where
      a_line : (x : ClauseLine) (rest : List ℕ) → BeginsWith IsClauseLine bytes x rest → IsExact (Good live bytes) (IsRefusedClauseText e live bytes)
      a_line x rest h =
          exact_as (λ g. inr (x, rest, h, g.0, g.1))
          (λ g. ⊎_elim (λ n. absurd (not_at_end IsClauseLine x rest (subst (λ z. BeginsWith IsClauseLine z x rest) n h))) (λ o. subst (λ z. IsClauseInRange e.max (clause_in z) × MeetsRule live z) (one_clause_line bytes o.0 x o.1 rest o.2 h).0 (o.3, o.4)) g)
          (λ c r. inr (x, rest, h, r))
          (λ c r. ⊎_elim (λ t. absurd (t.0 x rest h)) (λ o. subst (λ z. IsRefusedClauseLine e live z c) (one_clause_line bytes o.0 x o.1 rest o.2 h).0 o.3) r)
          (clause_line_exact e live x)

      at_end : ((x : ClauseLine) (rest : List ℕ) → BeginsWith IsClauseLine bytes x rest → ⊥) → bytes ≡ [] → IsExact (Good live bytes) (IsRefusedClauseText e live bytes)
      at_end n is = record {
        decided = inl (inl is);
        not_both = λ c g r. ⊎_elim (λ t. t.1 is) (λ o. n o.0 o.1 o.2) r;
        one = λ a b r s. absurd (⊎_elim (λ t. t.1 is) (λ o. n o.0 o.1 o.2) r);
      }

      none : ((x : ClauseLine) (rest : List ℕ) → BeginsWith IsClauseLine bytes x rest → ⊥) → bytes ≢ [] → IsExact (Good live bytes) (IsRefusedClauseText e live bytes)
      none n m = record {
        decided = inr (Text, inl (n, m, refl));
        not_both = λ c g r. ⊎_elim m (λ o. n o.0 o.1 o.2) g;
        one = λ a b r s. text a r ∙ sym (text b s);
      }
        where
          text : (c : LineCause) → IsRefusedClauseText e live bytes c → c ≡ Text
          text c r = ⊎_elim (λ t. t.2) (λ o. absurd (n o.0 o.1 o.2)) r

  next_exact : (live : List Clause) (bytes : List ℕ) → IsExact (¬ (IsLong bytes) × Good live bytes) (IsRefusedNextClause e IsLong live bytes)
  next_exact live bytes = unless_exact TooLong (⊎_elim inr inl (d bytes)) (λ h n. n h) (λ h. clause_text_exact live bytes)

  -- ---- all lines

  abbrev pub Ends : List Clause → List ℕ → Type 0
  Ends = body.Ends IsLong

  abbrev RefusedAt : LineCause → List Clause → List ℕ → Type 0
  RefusedAt c live left = IsRefusedNextClause e IsLong live left c

  abbrev pub Passes : List ClauseLine → List Clause → List ℕ → Type 0
  Passes = body.Pass e IsLong

  abbrev On : List Clause → List ℕ → Type 0
  On live bytes = StepsOn IsClauseLine (IsClauseStep e) IsLong live bytes

  step_on : (live : List Clause) (bytes : List ℕ) → ¬ (IsLong bytes) → GoodLine live bytes → On live bytes
  step_on live bytes n g = let t = takes_some live g.0 g.4 in (g.0, g.1, t.0, n, g.2, (g.3, t.1))

  good_step : (s t : List Clause) (bytes : List ℕ) → HaveSameCopies s t → On s bytes → ¬ (IsLong bytes) × Good t bytes
  good_step s t bytes a on = (on.3, inr (on.0, on.1, on.4, on.5.0, alike_meets s t on.0 a (takes_meets s on.0 on.2 on.5.1)))

  judge : (live : List Clause) (bytes : List ℕ) → Unit {0} → (Ends live bytes ⊎ ((c : LineCause) × RefusedAt c live bytes)) ⊎ On live bytes
  judge live bytes u = ⊎_elim (λ g. ⊎_elim (λ n. inl (inl (g.0, n))) (λ o. inr (step_on live bytes g.0 o)) g.1) (λ r. inl (inr r)) (next_exact live bytes).decided

  step_alike : (s t : List Clause) (x : ClauseLine) (u v : List Clause) → HaveSameCopies s t → IsClauseStep e s x u → IsClauseStep e t x v → HaveSameCopies u v
  step_alike s t x u v a h i = alike_takes s t x u v a h.1 i.1

  -- what is refused doesn't depend on which copy was removed
  refused_stops : (c : LineCause) (s t : List Clause) (bytes : List ℕ) → HaveSameCopies s t → RefusedAt c s bytes → On t bytes → ⊥
  refused_stops c s t bytes a r on = (next_exact s bytes).not_both c (good_step t s bytes (alike_flip s t a) on) r

  ends_stops : (s t : List Clause) (bytes : List ℕ) → Ends s bytes → On t bytes → ⊥
  ends_stops s t bytes g on = not_at_end IsClauseLine on.0 on.1 (subst (λ z. BeginsWith IsClauseLine z on.0 on.1) g.1 on.4)

  good_alike : (s t : List Clause) (bytes : List ℕ) → HaveSameCopies s t → ¬ (IsLong bytes) × Good s bytes → ¬ (IsLong bytes) × Good t bytes
  good_alike s t bytes a g = (g.0, ⊎_elim inl (λ o. inr (o.0, o.1, o.2, o.3, alike_meets s t o.0 a o.4)) g.1)

  refused_alike : (s t : List Clause) (bytes : List ℕ) (c : LineCause) → HaveSameCopies s t → RefusedAt c s bytes → RefusedAt c t bytes
  refused_alike s t bytes c a r =
      ⊎_elim inl (λ n. inr (n.0, ⊎_elim inl (λ o. inr (o.0, o.1, o.2, ⊎_elim inl (λ q. inr (q.0, rule o.0 q.1)) o.3)) n.1)) r
    where
      rule : (x : ClauseLine) → IsRefusedClause s x c → IsRefusedClause t x c
      rule (Add k) q = ⊎_elim (λ n. inl ((λ h. n.0 (alike_rup t s k k (alike_flip s t a) (same_self k) h)), n.1)) (λ n. absurd n.1) q
      rule (Delete k) q = ⊎_elim (λ n. inl ((λ h. n.0 (alike_any t s k k (alike_flip s t a) (same_self k) h)), n.1)) (λ n. absurd n.1) q

  meet_refused : (b c : LineCause) (xs ys : List ClauseLine) (live : List Clause) (bytes : List ℕ) →
      Behind IsClauseLine (IsClauseStep e) IsLong (RefusedAt b) xs live bytes → Behind IsClauseLine (IsClauseStep e) IsLong (RefusedAt c) ys live bytes → (xs ≡ ys) × (b ≡ c)
  meet_refused b c xs ys live bytes h i =
      let m = meet IsClauseLine (IsClauseStep e) IsLong (ended_at clause_line_at (newline ∷ [])) clause_item HaveSameCopies step_alike (RefusedAt b) (RefusedAt c)
      (λ s t left a r on. refused_stops b s t left a r on) (λ s t left a r on. refused_stops c t s left (alike_flip s t a) r on) xs ys live live bytes (alike_self live) h i in
      (m.0, (next_exact m.1.1 m.1.2).one b c (refused_alike m.1.0 m.1.1 m.1.2 b m.1.3 m.1.4) m.1.5)

  not_passes_refused : (c : LineCause) (xs ys : List ClauseLine) (live : List Clause) (bytes : List ℕ) → Passes xs live bytes → Behind IsClauseLine (IsClauseStep e) IsLong (RefusedAt c) ys live bytes → ⊥
  not_passes_refused c xs ys live bytes h i =
      let m = meet IsClauseLine (IsClauseStep e) IsLong (ended_at clause_line_at (newline ∷ [])) clause_item HaveSameCopies step_alike Ends (RefusedAt c)
      (λ s t left a r on. ends_stops s t left r on) (λ s t left a r on. refused_stops c t s left (alike_flip s t a) r on) xs ys live live bytes (alike_self live) h i in
      (next_exact m.1.1 m.1.2).not_both c (m.1.4.0, inl m.1.4.1) m.1.5

  pub lines_exact : (number : ℕ) (bytes : List ℕ) → IsExact ((lines : List ClauseLine) × Passes lines (gate_clauses e.gates) bytes) (IsRefusedLines IsLong e number bytes)
  lines_exact number bytes = record {
    decided =
        let w = walk IsClauseLine (IsClauseStep e) IsLong (λ live. Unit {0}) (λ live left. Ends live left ⊎ ((c : LineCause) × RefusedAt c live left)) judge (λ s x t k h. tt) (length bytes) (gate_clauses e.gates) bytes (omega arith) tt in
        ⊎_elim (λ g. inl (w.0, g)) (λ r. let q = behind_some IsClauseLine (IsClauseStep e) IsLong RefusedAt w.0 (gate_clauses e.gates) bytes r in inr ((number + length w.0, q.0), (w.0, q.0, q.1, refl)))
        (behind_either IsClauseLine (IsClauseStep e) IsLong Ends (λ live left. (c : LineCause) × RefusedAt c live left) w.0 (gate_clauses e.gates) bytes w.1);
    not_both = λ p g r. not_passes_refused r.1 g.0 r.0 (gate_clauses e.gates) bytes g.1 r.2;
    one = λ p q r s. let m = meet_refused r.1 s.1 r.0 s.0 (gate_clauses e.gates) bytes r.2 s.2 in
        r.3 ∙ ap (λ xs. (number + length xs, r.1)) m.0 ∙ ap (λ z. (number + length s.0, z)) m.1 ∙ sym s.3;
  }

  -- lines that pass are lawful, and lawful lines that are short pass
  abbrev pub Lawful : List ClauseLine → List Clause → List ℕ → Type 0
  Lawful xs live bytes = AreLinesOf IsClauseLine bytes xs [] × AllByRecursion (λ x. IsClauseInRange e.max (clause_in x)) xs × AreLawfulClauses live xs

  pub passes_lawful : (xs : List ClauseLine) (live : List Clause) (bytes : List ℕ) → Passes xs live bytes → Lawful xs live bytes
  passes_lawful [] live bytes h = (h.1, tt, tt)
  passes_lawful (Add c ∷ xs) live bytes h =
      let more = passes_lawful xs (c ∷ live) h.0 (subst (λ z. Passes xs z h.0) h.4.1.1 h.5) in
      ((h.0, h.3, more.0), (h.4.0, more.1), (h.4.1.0, more.2))
  passes_lawful (Delete c ∷ xs) live bytes h =
      let more = passes_lawful xs h.1 h.0 h.5 in
      ((h.0, h.3, more.0), (h.4.0, more.1), (h.1, h.4.1, more.2))

  pub lawful_passes : (xs : List ClauseLine) (live : List Clause) (bytes : List ℕ) → Lawful xs live bytes → ShortFrom IsLong bytes → Passes xs live bytes
  lawful_passes [] live bytes h short = (short bytes (start_here bytes), h.0)
  lawful_passes (Add c ∷ xs) live bytes h short =
      (h.0.0, c ∷ live, short bytes (start_here bytes), h.0.1, (h.1.0, (h.2.0, refl)), lawful_passes xs (c ∷ live) h.0.0 (h.0.2, h.1.1, h.2.1) (short_rest IsLong bytes h.0.1.0 h.0.0 h.0.1.2 short))
  lawful_passes (Delete c ∷ xs) live bytes h short =
      (h.0.0, h.2.0, short bytes (start_here bytes), h.0.1, (h.1.0, h.2.1), lawful_passes xs h.2.0 h.0.0 (h.0.2, h.1.1, h.2.2) (short_rest IsLong bytes h.0.1.0 h.0.0 h.0.1.2 short))

  pub passes_short : (xs : List ClauseLine) (live : List Clause) (bytes : List ℕ) → Passes xs live bytes → ShortFrom IsLong bytes × IsLineStart bytes []
  passes_short xs live bytes h =
      let r = reached IsClauseLine (IsClauseStep e) IsLong Ends xs live bytes h in (
        behind_short IsClauseLine (IsClauseStep e) IsLong Ends none_clause_line (λ s left k. subst (ShortFrom IsLong) (sym k.1) (short_nil IsLong (subst (λ z. ¬ (IsLong z)) k.1 k.0))) xs live bytes h,
        subst (IsLineStart bytes) r.3.1 r.2,
      )
