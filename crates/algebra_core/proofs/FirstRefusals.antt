-- An algebra certificate is lawful, or it has one first refusal.
use Rattle.std.specs.Prelude.{◌≡◌, ◌≢◌, ℕ, ◌+◌, ◌%◌, ◌^◌, ◌⊎◌, true, not, cond, is_some, List, [], ◌∷◌, ◌++◌, length, codes, IsSome}
use Rattle.std.specs.declared.option.Option.{Option}
use Rattle.std.specs.declared.option.Option.TheVariants.{None, Some}
use Rattle.std.specs.List.{All, AllByRecursion}
use Rattle.std.proofs.Common.{refl, sym, ap, ap₂, subst, ◌∙◌, arith, append_assoc, inl, inr, ⊎_elim}
use Rattle.std.proofs.lemmas.List.Elements.{All-from_recursion, recursion_from_All}
use Rattle.graph_core.specs.Graph.Assignments.{Assignment, HasBound}
use Rattle.graph_core.specs.Graph.Operands.{Sides}
use Rattle.graph_core.specs.Text.{newline}
use Rattle.graph_core.proofs.OfTexts.CallerLemmas.{IsReaderOf, OneOf, Anything, Ended, reads_ended, one_longer, decided_long, start_here, start_next, start_later, ShortFrom, short_next, within_short, short_within, behind_either, behind_some, reached, behind_short, StepsOn, walk, one_line, line_or_none, meet, unless_exact, last_exact, exact_as, exact_map, then_exact, front_exact, short_nil, short_rest}
use Rattle.graph_core.specs.Text.Readers.{ended_at}
use Rattle.graph_core.specs.Text.JudgedLines.{Lengths, IsTooLong, IsWithin, IsLineStart, BeginsWith, Behind, Unless, Never, IsExact}
use Rattle.graph_core.specs.Text.Numerals.{is_digit}
use Rattle.algebra_core.specs.Reading.{algebra_line_at, close_at}
use Rattle.graph_core.specs.Graph.Extended.{Extended, modulus}
use Rattle.algebra_core.specs.Polynomials.{Polynomial, value}
use Rattle.algebra_core.specs.AlgebraLines.{Line, Sum, Product, Combination, Import, Delete, LiveLine, Ledger, Premises, IsNewId, IsLive, IsThere, IsEqual, IsLawfulLine, AreLawfulLines, stated, named, imported, import_of, line_of, operands, after, after_all, beginning, value_of, specification, Closes}
use Rattle.algebra_core.specs.Text.{IsLineText, IsCloseText, AreLineTexts, IsLineInRange, IsInRange, IsId, IsLawfulAlgebraFile, algebra_header, first_line}
use Rattle.algebra_core.specs.Refusal.{AlgebraCause, TooLong, Text, Range, Id, NoSuchLine, NoSuchClause, NotEqual, NotSpecification, first_missing, IsUnequal, IsRefusedValue, IsRefusedRule, IsRefusedLine, IsRefusedClose, IsAlgebraStep, IsRefusedEnd, IsRefusedText, IsRefusedNext, AlgebraIsExact}
use Rattle.graph_core.proofs.OfGraphs.CallerLemmas.{Decided, decided_and, decided_lt, decided_le, decided_all}
use Rattle.algebra_core.proofs.Support.{IsBounded, same_or_apart, bound_value, bound_named, bound_of, bound_value_of, bound_specification, after-bounded, beginning-bounded}
use Rattle.algebra_core.proofs.Reading.{reads_line, reads_close, line_first}
use Rattle.algebra_core.proofs.Newlines.{none_line, none_close, none_first}

-- ---- ranges

decided_id : (id : ℕ) → Decided (IsId id)
decided_id id = decided_and (decided_lt 0 id) (decided_lt id (2 ^ 48))

decided_poly : (max : ℕ) (p : Polynomial) → Decided (IsInRange max p)
decided_poly max p = decided_all _ (λ t. decided_and (decided_lt t.coefficient (2 ^ 128)) (decided_all _ (λ v. decided_and (decided_lt 0 v) (decided_le v max)) t.variables)) p

three : {A B C : Type 0} → Decided A → Decided B → Decided C → Decided (A × B × C)
three d e f = ⊎_elim (λ a. ⊎_elim (λ b. ⊎_elim (λ c. inl (a, b, c)) (λ n. inr (λ h. n h.2)) f) (λ n. inr (λ h. n h.1)) e) (λ n. inr (λ h. n h.0)) d

four : {A B C D : Type 0} → Decided A → Decided B → Decided C → Decided D → Decided (A × B × C × D)
four d e f g = ⊎_elim (λ a. ⊎_elim (λ h. inl (a, h.0, h.1, h.2)) (λ n. inr (λ h. n (h.1, h.2, h.3))) (three e f g)) (λ n. inr (λ h. n h.0)) d

decided_range : (max : ℕ) (x : Line) → Decided (IsLineInRange max x)
decided_range max (Sum id i j p) = four (decided_id id) (decided_id i) (decided_id j) (decided_poly max p)
decided_range max (Product id i q p) = four (decided_id id) (decided_id i) (decided_poly max q) (decided_poly max p)
decided_range max (Combination id parts p) = three (decided_id id) (decided_all _ (λ part. decided_and (decided_id part.id) (decided_poly max part.factor)) parts) (decided_poly max p)
decided_range max (Import id number p) = three (decided_id id) (decided_id number) (decided_poly max p)
decided_range max (Delete id) = decided_id id

decided_new : (last : ℕ) (x : Line) → Decided (IsNewId last x)
decided_new last (Sum id i j p) = decided_lt last id
decided_new last (Product id i q p) = decided_lt last id
decided_new last (Combination id parts p) = decided_lt last id
decided_new last (Import id number p) = decided_lt last id
decided_new last (Delete id) = inl tt

decided_some : {A : Type 0} (o : Option A) → Decided (IsSome o)
decided_some None = inr (λ h. absurd (cc))
decided_some (Some x) = inl refl

decided_there : (imports : List (Assignment → ℕ)) (x : Line) → Decided (IsThere imports x)
decided_there imports (Sum id i j p) = inl tt
decided_there imports (Product id i q p) = inl tt
decided_there imports (Combination id parts p) = inl tt
decided_there imports (Import id number p) = decided_some (import_of imports number)
decided_there imports (Delete id) = inl tt

-- ---- operands

decided_live : (live : List LiveLine) (id : ℕ) → Decided (IsLive live id)
decided_live live id = decided_some (line_of live id)

-- the first operand that isn't live, or all are
abbrev IsMissing : List LiveLine → List ℕ → Type 0
IsMissing live ids = (id : ℕ) × (first_missing live ids ≡ Some id) × (AllByRecursion (IsLive live) ids → ⊥)

abbrev AreThere : List LiveLine → List ℕ → Type 0
AreThere live ids = (first_missing live ids ≡ None) × AllByRecursion (IsLive live) ids

missing_or_live : (live : List LiveLine) (ids : List ℕ) → IsMissing live ids ⊎ AreThere live ids
missing_or_live live [] = inr (refl, tt)
missing_or_live live (id ∷ ids) = go (line_of live id) refl (missing_or_live live ids)
  where
    later : (o : Option LiveLine) → line_of live id ≡ o → is_some o ≡ true → first_missing live (id ∷ ids) ≡ first_missing live ids
    later o e h = ap (λ z. cond (not (is_some z)) (Some id) (first_missing live ids)) e ∙ ap (λ b. cond (not b) (Some id) (first_missing live ids)) h

    go : (o : Option LiveLine) → line_of live id ≡ o → IsMissing live ids ⊎ AreThere live ids → IsMissing live (id ∷ ids) ⊎ AreThere live (id ∷ ids)
    go None e rest = inl (id, ap (λ z. cond (not (is_some z)) (Some id) (first_missing live ids)) e, λ h. let k = subst IsSome e h.0 in absurd (cc))
    go (Some l) e rest = ⊎_elim (λ m. inl (m.0, later (Some l) e refl ∙ m.1, λ h. m.2 h.1)) (λ a. inr (later (Some l) e refl ∙ a.0, (subst IsSome (sym e) refl, a.1))) rest

-- ---- one line

same_missing : (o : Option ℕ) (i j : ℕ) → o ≡ Some i → o ≡ Some j → NoSuchLine i ≡ NoSuchLine j
same_missing o i j e f = let g : i ≡ j = cc in ap NoSuchLine g

equal_exact : (e : Extended) (l : Ledger) (x : Line) → IsBounded l → IsExact (IsEqual (modulus e) l x) (Unless (IsEqual (modulus e) l x) (IsUnequal e l x) NotEqual Never)
equal_exact e l x b =
    last_exact NotEqual
    (same_or_apart (value (modulus e) (stated x)) (λ σ. named (modulus e) l x σ % modulus e) (bound_value (modulus e) (stated x)) (bound_of (λ n. n % modulus e) (named (modulus e) l x) (bound_named (modulus e) l x b)))
    (λ u q. u.1 (q u.0))

value_exact : (e : Extended) (l : Ledger) (x : Line) → IsBounded l → IsExact (IsThere l.imports x × IsEqual (modulus e) l x) (IsRefusedValue e l x)
value_exact e l x b = unless_exact (NoSuchClause (imported x)) (decided_there l.imports x) (λ n h. n h) (λ h. equal_exact e l x b)

rule_exact : (e : Extended) (l : Ledger) (x : Line) → IsBounded l → IsExact (All (IsLive l.live) (operands x) × IsThere l.imports x × IsEqual (modulus e) l x) (IsRefusedRule e l x)
rule_exact e l x b = ⊎_elim missing there (missing_or_live l.live (operands x))
  where
    not_all : IsMissing l.live (operands x) → All (IsLive l.live) (operands x) → ⊥
    not_all m a = m.2 (recursion_from_All (IsLive l.live) (operands x) a)

    missing : IsMissing l.live (operands x) → IsExact (All (IsLive l.live) (operands x) × IsThere l.imports x × IsEqual (modulus e) l x) (IsRefusedRule e l x)
    missing m = record {
      decided = inr (NoSuchLine m.0, inl (m.0, m.1, refl));
      not_both = λ c g r. not_all m g.0;
      one = λ c d r s. ⊎_elim (λ p. ⊎_elim (λ q. p.2 ∙ same_missing (first_missing l.live (operands x)) p.0 q.0 p.1 q.1 ∙ sym q.2) (λ q. absurd (not_all m q.0)) s) (λ p. absurd (not_all m p.0)) r;
    }

    none_missing : AreThere l.live (operands x) → (id : ℕ) → first_missing l.live (operands x) ≡ Some id → ⊥
    none_missing a id h = let n = a.0 in absurd (cc)

    there : AreThere l.live (operands x) → IsExact (All (IsLive l.live) (operands x) × IsThere l.imports x × IsEqual (modulus e) l x) (IsRefusedRule e l x)
    there a =
        exact_as (λ g. (All-from_recursion (IsLive l.live) (operands x) a.1, g.0, g.1)) (λ g. (g.1, g.2)) (λ c r. inr (All-from_recursion (IsLive l.live) (operands x) a.1, r))
        (λ c r. ⊎_elim (λ m. absurd (none_missing a m.0 m.1)) (λ q. q.1) r) (value_exact e l x b)

pub line_exact : (e : Extended) (l : Ledger) (x : Line) → IsBounded l → IsExact (IsLineInRange e.max x × IsLawfulLine (modulus e) l x) (IsRefusedLine e l x)
line_exact e l x b =
    exact_as (λ g. (g.0, record { new_id = g.1.0; live_operands = g.1.1.0; there = g.1.1.1; equal = g.1.1.2 })) (λ g. (g.0, (g.1.new_id, (g.1.live_operands, g.1.there, g.1.equal)))) (λ c r. r) (λ c r. r)
    (unless_exact Range (decided_range e.max x) (λ n h. n h) (λ h. unless_exact Id (decided_new l.last x) (λ n k. n k) (λ k. rule_exact e l x b)))

pub close_exact : (e : Extended) (s : Sides) (l : Ledger) (id : ℕ) → IsBounded l → IsExact (IsId id × Closes e s l.live id) (IsRefusedClose e s l id)
close_exact e s l id b =
    unless_exact Range (decided_id id) (λ n h. n h)
    (λ h. unless_exact (NoSuchLine id) (decided_live l.live id) (λ n k. n k)
    (λ k. last_exact NotSpecification (same_or_apart (value_of l.live id) (specification e s) (bound_value_of l.live id b.0) (bound_specification e s)) (λ u q. u.1 (q u.0))))

-- ---- where bytes are left

line_not_close : (v : ℕ) (bytes : List ℕ) (x : Line) (rest : List ℕ) (id : ℕ) (more : List ℕ) → BeginsWith (IsLineText v) bytes x rest → BeginsWith IsCloseText bytes id more → ⊥
line_not_close v bytes x rest id more h i =
    let digit : OneOf is_digit bytes = subst (OneOf is_digit) (sym h.2) (one_longer is_digit h.0 (newline ∷ rest) (line_first v h.0 x h.1)) in
    go i.1.0 (subst (OneOf is_digit) (i.2 ∙ ap (λ z. z ++ newline ∷ more) i.1.2) digit)
  where
    go : (digits : List ℕ) → OneOf is_digit ((codes "q " ++ digits ++ codes ";") ++ newline ∷ more) → ⊥
    go digits z = let f : is_digit 113 ≡ true = z in absurd (cc)

-- where a closing line stands that closes, and nothing after it
abbrev GoodClose : Extended → Sides → (List ℕ → Type 0) → Ledger → List ℕ → Type 0
GoodClose e s IsLong l bytes = (id : ℕ) × (rest : List ℕ) × BeginsWith IsCloseText bytes id rest × IsId id × Closes e s l.live id × ¬ (IsLong rest) × (rest ≡ [])

-- where a lawful line stands
abbrev GoodLine : ℕ → Extended → Ledger → List ℕ → Type 0
GoodLine v e l bytes = (x : Line) × (rest : List ℕ) × BeginsWith (IsLineText v) bytes x rest × IsLineInRange e.max x × IsLawfulLine (modulus e) l x

decided_nil : (rest : List ℕ) → (rest ≡ []) ⊎ (rest ≢ [])
decided_nil [] = inl refl
decided_nil (b ∷ rest) = inr (λ h. absurd (cc))

-- both kinds of lines are read in one way
line_item : (v : ℕ) → IsReaderOf (ended_at (algebra_line_at v) (newline ∷ [])) (Ended (IsLineText v) (newline ∷ [])) Anything
line_item v = reads_ended (newline ∷ []) (reads_line v) (λ rest. tt)

close_item : IsReaderOf (ended_at close_at (newline ∷ [])) (Ended IsCloseText (newline ∷ [])) Anything
close_item = reads_ended (newline ∷ []) reads_close (λ rest. tt)

abbrev NoStep : {Line : Type 0} → ℕ → Line → ℕ → Type 0
NoStep s x t = ⊥

one_algebra_line : (v : ℕ) (bytes : List ℕ) (x y : Line) (rest more : List ℕ) → BeginsWith (IsLineText v) bytes x rest → BeginsWith (IsLineText v) bytes y more → (x ≡ y) × (rest ≡ more)
one_algebra_line v = one_line (IsLineText v) NoStep (λ b. ⊥) (ended_at (algebra_line_at v) (newline ∷ [])) (line_item v)

one_close : (bytes : List ℕ) (x y : ℕ) (rest more : List ℕ) → BeginsWith IsCloseText bytes x rest → BeginsWith IsCloseText bytes y more → (x ≡ y) × (rest ≡ more)
one_close = one_line IsCloseText NoStep (λ b. ⊥) (ended_at close_at (newline ∷ [])) close_item

module _ (v : ℕ) (e : Extended) (s : Sides) (IsLong : List ℕ → Type 0) (d : (bytes : List ℕ) → Decided (IsLong bytes)) where
  short_or_long : (bytes : List ℕ) → ¬ (IsLong bytes) ⊎ IsLong bytes
  short_or_long bytes = ⊎_elim inr inl (d bytes)

  end_exact : (rest : List ℕ) → IsExact (¬ (IsLong rest) × (rest ≡ [])) (IsRefusedEnd IsLong rest)
  end_exact rest = unless_exact (1, TooLong) (short_or_long rest) (λ l n. n l) (λ h. last_exact (1, Text) (decided_nil rest) (λ n k. n k))

  abbrev Good : Ledger → List ℕ → Type 0
  Good l bytes = GoodClose e s IsLong l bytes ⊎ GoodLine v e l bytes

  abbrev Bad : Ledger → ℕ × AlgebraCause → ℕ → List ℕ → Type 0
  Bad l p i r = ((cause : AlgebraCause) × IsRefusedClose e s l i cause × (p ≡ (0, cause))) ⊎ ((IsId i × Closes e s l.live i) × IsRefusedEnd IsLong r p)

  text_exact : (l : Ledger) (bytes : List ℕ) → IsBounded l → IsExact (Good l bytes) (IsRefusedText v e s IsLong l bytes)
  text_exact l bytes b = ⊎_elim (λ h. a_line h.0 h.1 h.2) (λ n. ⊎_elim (λ h. a_close n h.0 h.1 h.2) (none n) (line_or_none IsCloseText NoStep (λ z. ⊥) (ended_at close_at (newline ∷ [])) close_item bytes)) (line_or_none (IsLineText v) NoStep (λ z. ⊥) (ended_at (algebra_line_at v) (newline ∷ [])) (line_item v) bytes)
    where
      a_line : (x : Line) (rest : List ℕ) → BeginsWith (IsLineText v) bytes x rest → IsExact (Good l bytes) (IsRefusedText v e s IsLong l bytes)
      a_line x rest h =
          exact_as (λ g. inr (x, rest, h, g.0, g.1))
          (λ g. ⊎_elim (λ c. absurd (line_not_close v bytes x rest c.0 c.1 h c.2)) (λ o. subst (λ z. IsLineInRange e.max z × IsLawfulLine (modulus e) l z) (one_algebra_line v bytes o.0 x o.1 rest o.2 h).0 (o.3, o.4)) g)
          (λ p r. inr (inl (x, rest, h, r)))
          (λ p r. ⊎_elim (λ t. absurd (t.0 x rest h))
          (λ q. ⊎_elim (λ o. subst (λ z. (cause : AlgebraCause) × IsRefusedLine e l z cause × (p ≡ (0, cause))) (one_algebra_line v bytes o.0 x o.1 rest o.2 h).0 o.3) (λ c. absurd (line_not_close v bytes x rest c.0 c.1 h c.2)) q) r)
          (exact_map (λ c. (0, c)) (line_exact e l x b))

      a_close : ((x : Line) (rest : List ℕ) → BeginsWith (IsLineText v) bytes x rest → ⊥) → (id : ℕ) (rest : List ℕ) → BeginsWith IsCloseText bytes id rest → IsExact (Good l bytes) (IsRefusedText v e s IsLong l bytes)
      a_close n id rest h =
          exact_as (λ g. inl (id, rest, h, g.0.0, g.0.1, g.1.0, g.1.1))
          (λ g. ⊎_elim (λ c. good c (one_close bytes c.0 id c.1 rest c.2 h)) (λ o. absurd (n o.0 o.1 o.2)) g)
          (λ p r. inr (inr (id, rest, h, r)))
          (λ p r. ⊎_elim (λ t. absurd (t.1 id rest h)) (λ q. ⊎_elim (λ o. absurd (n o.0 o.1 o.2)) (λ c. bad p c (one_close bytes c.0 id c.1 rest c.2 h)) q) r)
          (then_exact (λ c. (0, c)) (close_exact e s l id b) (end_exact rest))
        where
          good : (c : GoodClose e s IsLong l bytes) → (c.0 ≡ id) × (c.1 ≡ rest) → (IsId id × Closes e s l.live id) × (¬ (IsLong rest) × (rest ≡ []))
          good c same = (subst (λ z. IsId z × Closes e s l.live z) same.0 (c.3, c.4), subst (λ z. ¬ (IsLong z) × (z ≡ [])) same.1 (c.5, c.6))

          bad : (p : ℕ × AlgebraCause) (c : (i : ℕ) × (r : List ℕ) × BeginsWith IsCloseText bytes i r × Bad l p i r) → (c.0 ≡ id) × (c.1 ≡ rest) → Bad l p id rest
          bad p c same = subst (λ z. Bad l p z rest) same.0 (subst (λ z. Bad l p c.0 z) same.1 c.3)

      none : ((x : Line) (rest : List ℕ) → BeginsWith (IsLineText v) bytes x rest → ⊥) → ((id : ℕ) (rest : List ℕ) → BeginsWith IsCloseText bytes id rest → ⊥) → IsExact (Good l bytes) (IsRefusedText v e s IsLong l bytes)
      none n m = record {
        decided = inr ((0, Text), inl (n, m, refl));
        not_both = λ c g r. ⊎_elim (λ k. m k.0 k.1 k.2) (λ o. n o.0 o.1 o.2) g;
        one = λ p q r s. text p r ∙ sym (text q s);
      }
        where
          text : (p : ℕ × AlgebraCause) → IsRefusedText v e s IsLong l bytes p → p ≡ (0, Text)
          text p r = ⊎_elim (λ t. t.2) (λ q. ⊎_elim (λ o. absurd (n o.0 o.1 o.2)) (λ k. absurd (m k.0 k.1 k.2)) q) r

  next_exact : (l : Ledger) (bytes : List ℕ) → IsBounded l → IsExact (¬ (IsLong bytes) × Good l bytes) (IsRefusedNext v e s IsLong l bytes)
  next_exact l bytes b = unless_exact (0, TooLong) (short_or_long bytes) (λ h n. n h) (λ h. text_exact l bytes b)

  -- ---- the whole text

  abbrev Stops : Ledger → List ℕ → Type 0
  Stops l bytes = ¬ (IsLong bytes) × GoodClose e s IsLong l bytes

  abbrev Passes : List Line → Ledger → List ℕ → Type 0
  Passes = Behind (IsLineText v) (IsAlgebraStep e) IsLong Stops

  abbrev RefusedAt : ℕ × AlgebraCause → Ledger → List ℕ → Type 0
  RefusedAt q l left = IsRefusedNext v e s IsLong l left q

  step_on : (l : Ledger) (bytes : List ℕ) → ¬ (IsLong bytes) → GoodLine v e l bytes → StepsOn (IsLineText v) (IsAlgebraStep e) IsLong l bytes
  step_on l bytes n g = (g.0, g.1, after (modulus e) l g.0, n, g.2, (g.3, g.4, refl))

  good_step : (l : Ledger) (bytes : List ℕ) → StepsOn (IsLineText v) (IsAlgebraStep e) IsLong l bytes → ¬ (IsLong bytes) × Good l bytes
  good_step l bytes on = (on.3, inr (on.0, on.1, on.4, on.5.0, on.5.1))

  judge : (l : Ledger) (bytes : List ℕ) → IsBounded l → (Stops l bytes ⊎ ((q : ℕ × AlgebraCause) × RefusedAt q l bytes)) ⊎ StepsOn (IsLineText v) (IsAlgebraStep e) IsLong l bytes
  judge l bytes b = ⊎_elim (λ g. ⊎_elim (λ c. inl (inl (g.0, c))) (λ o. inr (step_on l bytes g.0 o)) g.1) (λ r. inl (inr r)) (next_exact l bytes b).decided

  step_bounded : (l : Ledger) (x : Line) (t : Ledger) → IsBounded l → IsAlgebraStep e l x t → IsBounded t
  step_bounded l x t b h = subst (λ z. IsBounded z) (sym h.2) (after-bounded (modulus e) l x b)

  abbrev Same : Ledger → Ledger → Type 0
  Same s t = (s ≡ t) × IsBounded s

  same_step : (s t : Ledger) (x : Line) (u v : Ledger) → Same s t → IsAlgebraStep e s x u → IsAlgebraStep e t x v → Same u v
  same_step s t x u v a h i = (h.2 ∙ ap (λ z. after (modulus e) z x) a.0 ∙ sym i.2, step_bounded s x u a.1 h)

  refused_stops : (q : ℕ × AlgebraCause) (l : Ledger) (bytes : List ℕ) → IsBounded l → RefusedAt q l bytes → StepsOn (IsLineText v) (IsAlgebraStep e) IsLong l bytes → ⊥
  refused_stops q l bytes b r on = (next_exact l bytes b).not_both q (good_step l bytes on) r

  good_stops : (l : Ledger) (bytes : List ℕ) → Stops l bytes → StepsOn (IsLineText v) (IsAlgebraStep e) IsLong l bytes → ⊥
  good_stops l bytes g on = line_not_close v bytes on.0 on.1 g.1.0 g.1.1 on.4 g.1.2

  meet_refused : (p q : ℕ × AlgebraCause) (xs ys : List Line) (l : Ledger) (bytes : List ℕ) → IsBounded l → Behind (IsLineText v) (IsAlgebraStep e) IsLong (RefusedAt p) xs l bytes → Behind (IsLineText v) (IsAlgebraStep e) IsLong (RefusedAt q) ys l bytes → (xs ≡ ys) × (p ≡ q)
  meet_refused p q xs ys l bytes b h i =
      let m = meet (IsLineText v) (IsAlgebraStep e) IsLong (ended_at (algebra_line_at v) (newline ∷ [])) (line_item v) Same same_step (RefusedAt p) (RefusedAt q)
      (λ s t left a r on. refused_stops p t left (subst (λ z. IsBounded z) a.0 a.1) (subst (λ z. RefusedAt p z left) a.0 r) on)
      (λ s t left a r on. refused_stops q s left a.1 (subst (λ z. RefusedAt q z left) (sym a.0) r) on) xs ys l l bytes (refl, b) h i in
      (m.0, (next_exact m.1.0 m.1.2 m.1.3.1).one p q m.1.4 (subst (λ z. RefusedAt q z m.1.2) (sym m.1.3.0) m.1.5))

  not_good_refused : (q : ℕ × AlgebraCause) (xs ys : List Line) (l : Ledger) (bytes : List ℕ) → IsBounded l → Passes xs l bytes → Behind (IsLineText v) (IsAlgebraStep e) IsLong (RefusedAt q) ys l bytes → ⊥
  not_good_refused q xs ys l bytes b h i =
      let m = meet (IsLineText v) (IsAlgebraStep e) IsLong (ended_at (algebra_line_at v) (newline ∷ [])) (line_item v) Same same_step Stops (RefusedAt q)
      (λ s t left a r on. good_stops t left (subst (λ z. Stops z left) a.0 r) on)
      (λ s t left a r on. refused_stops q s left a.1 (subst (λ z. RefusedAt q z left) (sym a.0) r) on) xs ys l l bytes (refl, b) h i in
      (next_exact m.1.0 m.1.2 m.1.3.1).not_both q (m.1.4.0, inl m.1.4.1) (subst (λ z. RefusedAt q z m.1.2) (sym m.1.3.0) m.1.5)

  -- from a ledger on
  abbrev RefusedFrom : Ledger → List ℕ → ℕ × AlgebraCause → Type 0
  RefusedFrom first body p =
      (lines : List Line) × (q : ℕ × AlgebraCause) × Behind (IsLineText v) (IsAlgebraStep e) IsLong (RefusedAt q) lines first body × (p ≡ (length lines + 2 + q.0, q.1))

  body_exact : (first : Ledger) → IsBounded first → (body : List ℕ) → IsExact ((lines : List Line) × Passes lines first body) (RefusedFrom first body)
  body_exact first bounded body = record {
    decided =
        let w = walk (IsLineText v) (IsAlgebraStep e) IsLong (λ l. IsBounded l) (λ l left. Stops l left ⊎ ((q : ℕ × AlgebraCause) × RefusedAt q l left)) judge step_bounded (length body) first body (omega arith) bounded in
        ⊎_elim (λ g. inl (w.0, g)) (λ r. let s = behind_some (IsLineText v) (IsAlgebraStep e) IsLong RefusedAt w.0 first body r in inr ((length w.0 + 2 + s.0.0, s.0.1), (w.0, s.0, s.1, refl)))
        (behind_either (IsLineText v) (IsAlgebraStep e) IsLong Stops (λ l left. (q : ℕ × AlgebraCause) × RefusedAt q l left) w.0 first body w.1);
    not_both = λ p g r. not_good_refused r.1 g.0 r.0 first body bounded g.1 r.2;
    one = λ p q r s. let m = meet_refused r.1 s.1 r.0 s.0 first body bounded r.2 s.2 in
        r.3 ∙ ap (λ xs. (length xs + 2 + r.1.0, r.1.1)) m.0 ∙ ap (λ z. (length s.0 + 2 + z.0, z.1)) m.1 ∙ sym s.3;
  }

  -- lines that pass are lawful, and lawful lines that are short pass
  abbrev Lawful : List Line → Ledger → List ℕ → List ℕ → Type 0
  Lawful xs l bytes left = AreLineTexts v bytes xs left × AllByRecursion (IsLineInRange e.max) xs × AreLawfulLines (modulus e) l xs

  passes_lawful : (xs : List Line) (l : Ledger) (bytes : List ℕ) → Passes xs l bytes → (left : List ℕ) × Lawful xs l bytes left × Stops (after_all (modulus e) l xs) left
  passes_lawful [] l bytes h = (bytes, (refl, tt, tt), h)
  passes_lawful (x ∷ xs) l bytes h =
      let more = passes_lawful xs (after (modulus e) l x) h.0 (subst (λ z. Passes xs z h.0) h.4.2 h.5) in
      (more.0, ((h.3.0, h.0, h.3.1, more.1.0, h.3.2), (h.4.0, more.1.1), (h.4.1, more.1.2)), more.2)

  lawful_passes : (xs : List Line) (l : Ledger) (bytes left : List ℕ) → Lawful xs l bytes left → Stops (after_all (modulus e) l xs) left → ShortFrom IsLong bytes → Passes xs l bytes
  lawful_passes [] l bytes left h stops short = subst (Stops l) (sym h.0) stops
  lawful_passes (x ∷ xs) l bytes left h stops short = (
    h.0.1,
    after (modulus e) l x,
    short bytes (start_here bytes),
    (h.0.0, h.0.2, h.0.4),
    (h.1.0, h.2.0, refl),
    lawful_passes xs (after (modulus e) l x) h.0.1 left (h.0.3, h.1.1, h.2.1) stops (short_rest IsLong bytes h.0.0 h.0.1 h.0.4 short),
  )

  stops_short : (l : Ledger) (left : List ℕ) → Stops l left → ShortFrom IsLong left
  stops_short l left s =
      let c = s.1 in
      subst (ShortFrom IsLong) (sym c.2.2) (short_next IsLong c.2.0 c.1 (none_close c.2.0 c.0 c.2.1) (subst (λ z. ¬ (IsLong z)) c.2.2 s.0) (subst (ShortFrom IsLong) (sym c.6) (short_nil IsLong (subst (λ z. ¬ (IsLong z)) c.6 c.5))))

  passes_short : (xs : List Line) (l : Ledger) (bytes : List ℕ) → Passes xs l bytes → ShortFrom IsLong bytes × IsLineStart bytes []
  passes_short xs l bytes h =
      let r = reached (IsLineText v) (IsAlgebraStep e) IsLong Stops xs l bytes h in
      let c = r.3.1 in (
        behind_short (IsLineText v) (IsAlgebraStep e) IsLong Stops (none_line v) stops_short xs l bytes h,
        start_next bytes c.2.0 [] (subst (IsLineStart bytes) (c.2.2 ∙ ap (λ z. c.2.0 ++ newline ∷ z) c.6) r.2),
      )

-- ---- the file

abbrev GoodFile : Premises → Sides → Lengths → List ℕ → Type 0
GoodFile given s lengths bytes =
    ¬ (IsTooLong lengths (length bytes) bytes) × ((body : List ℕ) × (bytes ≡ algebra_header given.version ++ body) × ((lines : List Line) ×
    Behind (IsLineText given.version) (IsAlgebraStep given.extended) (IsTooLong lengths (length bytes))
    (Stops given.version given.extended s (IsTooLong lengths (length bytes)) (decided_long lengths (length bytes))) lines (beginning given) body))

abbrev Long : Lengths → List ℕ → List ℕ → Type 0
Long lengths bytes left = IsTooLong lengths (length bytes) left

pub long_or : (lengths : Lengths) (bytes left : List ℕ) → Decided (Long lengths bytes left)
long_or lengths bytes left = decided_long lengths (length bytes) left

-- after the header
header_short : (version : ℕ) (lengths : Lengths) (bytes body : List ℕ) → ¬ (Long lengths bytes bytes) → bytes ≡ algebra_header version ++ body → ShortFrom (Long lengths bytes) body → IsLineStart body [] → IsWithin lengths bytes
header_short version lengths bytes body n is short end =
    let split = is ∙ append_assoc (first_line version) (newline ∷ []) body in
    short_within lengths bytes
    (subst (ShortFrom (Long lengths bytes)) (sym split) (short_next (Long lengths bytes) (first_line version) body (none_first version) (subst (λ z. ¬ (Long lengths bytes z)) split n) short))
    (start_later bytes body [] (inr (first_line version, split)) end)

file_there : (given : Premises) (s : Sides) (lengths : Lengths) (bytes : List ℕ) → GoodFile given s lengths bytes → IsLawfulAlgebraFile given s bytes × IsWithin lengths bytes
file_there given s lengths bytes g =
    let p = passes_lawful given.version given.extended s (Long lengths bytes) (long_or lengths bytes) g.1.2.0 (beginning given) g.1.0 g.1.2.1 in
    let c = p.2.1 in
    let short = passes_short given.version given.extended s (Long lengths bytes) (long_or lengths bytes) g.1.2.0 (beginning given) g.1.0 g.1.2.1 in (
      record {
        lines = g.1.2.0;
        closing = c.0;
        text = (g.1.0, p.0, c.2.1.0, c.2.1.1, p.1.0, c.2.2 ∙ ap₂ (λ y z. y ++ newline ∷ z) c.2.1.2 c.6, g.1.1 ∙ append_assoc (first_line given.version) (newline ∷ []) g.1.0);
        in_range = All-from_recursion (IsLineInRange given.extended.max) g.1.2.0 p.1.1;
        closing_in_range = c.3;
        lawful = (p.1.2, c.4);
      },
      header_short given.version lengths bytes g.1.0 g.0 g.1.1 short.0 short.1,
    )

file_back : (given : Premises) (s : Sides) (lengths : Lengths) (bytes : List ℕ) → IsLawfulAlgebraFile given s bytes × IsWithin lengths bytes → GoodFile given s lengths bytes
file_back given s lengths bytes h =
    let t = h.0.text in
    let short = within_short lengths bytes h.1 in
    let rest_short = short_rest (Long lengths bytes) bytes (first_line given.version) t.0 t.6 short in
    let reach = lines_start t.0 t.1 h.0.lines t.4 in
    let end : IsLineStart t.1 [] = inr (codes "q " ++ t.2 ++ codes ";", t.5) in
    let stops : Stops given.version given.extended s (Long lengths bytes) (long_or lengths bytes) (after_all (modulus given.extended) (beginning given) h.0.lines) t.1 =
    (rest_short t.1 reach, (h.0.closing, [], (codes "q " ++ t.2 ++ codes ";", (t.2, t.3, refl), t.5), h.0.closing_in_range, h.0.lawful.1, rest_short [] (start_later t.0 t.1 [] reach end), refl)) in (
      short bytes (start_here bytes),
      (
        t.0,
        t.6 ∙ sym (append_assoc (first_line given.version) (newline ∷ []) t.0),
        (
          h.0.lines,
          lawful_passes given.version given.extended s (Long lengths bytes) (long_or lengths bytes) h.0.lines (beginning given) t.0 t.1
              (t.4, recursion_from_All (IsLineInRange given.extended.max) h.0.lines h.0.in_range, h.0.lawful.0) stops rest_short,
        ),
      ),
    )
  where
    lines_start : (body left : List ℕ) (xs : List Line) → AreLineTexts given.version body xs left → IsLineStart body left
    lines_start body left [] k = inl k
    lines_start body left (x ∷ xs) k = start_later body k.1 left (inr (k.0, k.4)) (lines_start k.1 left xs k.3)

pub algebra_is_exact : AlgebraIsExact
algebra_is_exact given s lengths bytes bounded =
    exact_as (file_there given s lengths bytes) (file_back given s lengths bytes) (λ c r. r) (λ c r. r)
    (unless_exact (1, TooLong) (⊎_elim inr inl (long_or lengths bytes bytes)) (λ h n. n h)
    (λ h. front_exact (algebra_header given.version) (1, Text) bytes (λ body. body_exact given.version given.extended s (Long lengths bytes) (long_or lengths bytes)
    (beginning given) (beginning-bounded given (recursion_from_All HasBound given.imports bounded)) body)))
