-- Texts that are judged line by line.
use Rattle.std.specs.Prelude.{◌≡◌, ◌≢◌, ℕ, zero, suc, ◌+◌, ◌<◌, ◌≤◌, ◌⊎◌, List, [], ◌∷◌, ◌++◌, length, Bool, true, false, cond, ◌==◌}
use Rattle.std.specs.declared.option.Option.{Option}
use Rattle.std.specs.declared.option.Option.TheVariants.{None, Some}
use Rattle.std.specs.List.{AllByRecursion}
use Rattle.std.proofs.Common.{refl, sym, ap, ap₂, subst, ◌∙◌, arith, append_assoc, length-append, inl, inr, ⊎_elim, eqb-true}
use Rattle.std.proofs.lemmas.Option.{same_Some}
use Rattle.graph_core.specs.Text.{newline}
use Rattle.graph_core.specs.Text.Readers.{Reader}
use Rattle.graph_core.proofs.Words.{Ended, IsReaderOf, Anything}
use Rattle.graph_core.specs.Text.JudgedLines.{Lengths, front_line, behind_line, IsTooLong, IsLineStart, IsWithin, BeginsWith, Behind, Unless, Never, IsExact}
use Rattle.graph_core.specs.Text.Numerals.{front_at}
use Rattle.graph_core.proofs.OfTexts.NumeralReading.{front_takes, front_again}
use Rattle.graph_core.proofs.OfGraphs.Decided.{Decided, decided_lt, decided_or}

pub decided_long : (lengths : Lengths) (total : ℕ) (left : List ℕ) → Decided (IsTooLong lengths total left)
decided_long lengths total left = decided_or (decided_lt lengths.line (length (front_line left))) (decided_lt (lengths.file + length (behind_line left)) total)

-- ---- line starts

abbrev pub HasNoNewline : List ℕ → Type 0
HasNoNewline line = AllByRecursion (λ b. b ≢ newline) line

pub start_here : (bytes : List ℕ) → IsLineStart bytes bytes
start_here bytes = inl refl

pub start_next : (bytes line rest : List ℕ) → IsLineStart bytes (line ++ newline ∷ rest) → IsLineStart bytes rest
start_next bytes line rest h =
    ⊎_elim (λ e. inr (line, e)) (λ b. inr (b.0 ++ newline ∷ line, b.1 ∙ sym (append_assoc b.0 (newline ∷ line) (newline ∷ rest)))) h

-- a start after a start
pub start_later : (bytes left more : List ℕ) → IsLineStart bytes left → IsLineStart left more → IsLineStart bytes more
start_later bytes left more h i =
    ⊎_elim (λ e. subst (IsLineStart bytes) e h)
    (λ b. ⊎_elim (λ e. inr (b.0, e ∙ b.1)) (λ a. inr (a.0 ++ newline ∷ b.0, a.1 ∙ ap (λ z. a.0 ++ newline ∷ z) b.1 ∙ sym (append_assoc a.0 (newline ∷ b.0) (newline ∷ more)))) h) i

-- what is left after a line feed, in a text whose first line is known
behind_first : (line rest before left : List ℕ) → HasNoNewline line → line ++ newline ∷ rest ≡ before ++ newline ∷ left → IsLineStart rest left
behind_first [] rest [] left no' e = let f : rest ≡ left = cc in inl f
behind_first [] rest (b ∷ before) left no' e = let f : rest ≡ before ++ newline ∷ left = cc in inr (before, f)
behind_first (c ∷ line) rest [] left no' e = let f : c ≡ newline = cc in absurd (no'.0 f)
behind_first (c ∷ line) rest (b ∷ before) left no' e = let f : line ++ newline ∷ rest ≡ before ++ newline ∷ left = cc in behind_first line rest before left no'.1 f

abbrev pub ShortFrom : (List ℕ → Type 0) → List ℕ → Type 0
ShortFrom IsLong bytes = (left : List ℕ) → IsLineStart bytes left → ¬ (IsLong left)

pub short_next : (IsLong : List ℕ → Type 0) (line rest : List ℕ) → HasNoNewline line → ¬ (IsLong (line ++ newline ∷ rest)) → ShortFrom IsLong rest → ShortFrom IsLong (line ++ newline ∷ rest)
short_next IsLong line rest no' here later left start =
    ⊎_elim (λ e. subst (λ z. ¬ (IsLong z)) e here) (λ b. later left (behind_first line rest b.0 left no' b.1)) start

pub within_short : (lengths : Lengths) (bytes : List ℕ) → IsWithin lengths bytes → ShortFrom (IsTooLong lengths (length bytes)) bytes
within_short lengths bytes w left start long = ⊎_elim (λ h. let k = w.lines left start in absurd (omega arith)) (λ h. let k = w.file in absurd (omega arith)) long

pub short_within : (lengths : Lengths) (bytes : List ℕ) → ShortFrom (IsTooLong lengths (length bytes)) bytes → IsLineStart bytes [] → IsWithin lengths bytes
short_within lengths bytes short end = record {
  file = ⊎_elim (λ h. absurd (short [] end (inr (omega (arith, h))))) (λ h. omega (arith, h)) (below (lengths.file) (length bytes));
  lines = λ left start. ⊎_elim (λ h. absurd (short left start (inl h))) (λ h. h) (below lengths.line (length (front_line left)));
}
  where
    below : (a b : ℕ) → (a < b) ⊎ (b ≤ a)
    below a b = ⊎_elim inl (λ n. inr (omega (arith, n))) (decided_lt a b)

-- ---- lines that pass

module _ {State Line : Type 0} (IsText : List ℕ → Line → Type 0) (Step : State → Line → State → Type 0) (IsLong : List ℕ → Type 0) where
  pub behind_map : (F G : State → List ℕ → Type 0) → ((s : State) (left : List ℕ) → F s left → G s left) → (xs : List Line) (s : State) (bytes : List ℕ) → Behind IsText Step IsLong F xs s bytes → Behind IsText Step IsLong G xs s bytes
  behind_map F G f [] s bytes h = f s bytes h
  behind_map F G f (x ∷ xs) s bytes h = (h.0, h.1, h.2, h.3, h.4, behind_map F G f xs h.1 h.0 h.5)

  -- where one of two things holds, one of them holds after all lines
  pub behind_either : (F G : State → List ℕ → Type 0) (xs : List Line) (s : State) (bytes : List ℕ) → Behind IsText Step IsLong (λ t left. F t left ⊎ G t left) xs s bytes →
      Behind IsText Step IsLong F xs s bytes ⊎ Behind IsText Step IsLong G xs s bytes
  behind_either F G [] s bytes h = h
  behind_either F G (x ∷ xs) s bytes h = ⊎_elim (λ f. inl (h.0, h.1, h.2, h.3, h.4, f)) (λ g. inr (h.0, h.1, h.2, h.3, h.4, g)) (behind_either F G xs h.1 h.0 h.5)

  pub behind_some : {C : Type 0} (R : C → State → List ℕ → Type 0) (xs : List Line) (s : State) (bytes : List ℕ) → Behind IsText Step IsLong (λ t left. (c : C) × R c t left) xs s bytes →
      (c : C) × Behind IsText Step IsLong (R c) xs s bytes
  behind_some R [] s bytes h = h
  behind_some R (x ∷ xs) s bytes h = let more = behind_some R xs h.1 h.0 h.5 in (more.0, (h.0, h.1, h.2, h.3, h.4, more.1))

  -- what is reached after the lines
  pub reached : (F : State → List ℕ → Type 0) (xs : List Line) (s : State) (bytes : List ℕ) → Behind IsText Step IsLong F xs s bytes → (t : State) × (left : List ℕ) × IsLineStart bytes left × F t left
  reached F [] s bytes h = (s, bytes, start_here bytes, h)
  reached F (x ∷ xs) s bytes h =
      let more = reached F xs h.1 h.0 h.5 in
      (more.0, more.1, start_later bytes h.0 more.1 (inr (h.3.0, h.3.2)) more.2, more.3)

  -- each line start is short where that holds after the lines
  pub behind_short : (F : State → List ℕ → Type 0) → ((line : List ℕ) (x : Line) → IsText line x → HasNoNewline line) → ((s : State) (left : List ℕ) → F s left → ShortFrom IsLong left) →
      (xs : List Line) (s : State) (bytes : List ℕ) → Behind IsText Step IsLong F xs s bytes → ShortFrom IsLong bytes
  behind_short F no' f [] s bytes h = f s bytes h
  behind_short F no' f (x ∷ xs) s bytes h =
      subst (ShortFrom IsLong) (sym h.3.2) (short_next IsLong h.3.0 h.0 (no' h.3.0 x h.3.1) (subst (λ z. ¬ (IsLong z)) h.3.2 h.2) (behind_short F no' f xs h.1 h.0 h.5))

  -- a line that passes stands here
  abbrev pub StepsOn : State → List ℕ → Type 0
  StepsOn s bytes = (x : Line) × (rest : List ℕ) × (next : State) × ¬ (IsLong bytes) × BeginsWith IsText bytes x rest × Step s x next

  -- lines pass as far as they do
  pub walk : (Keeps : State → Type 0) (F : State → List ℕ → Type 0) → ((s : State) (bytes : List ℕ) → Keeps s → F s bytes ⊎ StepsOn s bytes) → ((s : State) (x : Line) (t : State) → Keeps s → Step s x t → Keeps t) →
      (most : ℕ) (s : State) (bytes : List ℕ) → length bytes ≤ most → Keeps s → (xs : List Line) × Behind IsText Step IsLong F xs s bytes
  walk Keeps F judge keeps zero s bytes few k = ⊎_elim (λ f. ([], f)) (λ on. absurd (omega (arith, few, ap length on.4.2 ∙ length-append on.4.0 (newline ∷ on.1)))) (judge s bytes k)
  walk Keeps F judge keeps (suc most) s bytes few k =
      ⊎_elim (λ f. ([], f))
      (λ on. let more = walk Keeps F judge keeps most on.2 on.1 (omega (arith, few, ap length on.4.2 ∙ length-append on.4.0 (newline ∷ on.1))) (keeps s on.0 on.2 k on.5) in
      (on.0 ∷ more.0, (on.1, on.2, on.3, on.4, on.5, more.1))) (judge s bytes k)

  module _ (item : Reader Line) (r : IsReaderOf item (Ended IsText (newline ∷ [])) Anything) where
    -- what stands at the front is one line
    pub one_line : (bytes : List ℕ) (x y : Line) (rest more : List ℕ) → BeginsWith IsText bytes x rest → BeginsWith IsText bytes y more → (x ≡ y) × (rest ≡ more)
    one_line bytes x y rest more h i =
        let same = same_Some (x, rest) (y, more) (sym (read x rest h) ∙ read y more i) in
        (ap (λ p. p.0) same, ap (λ p. p.1) same)
      where
        read : (z : Line) (left : List ℕ) → BeginsWith IsText bytes z left → item bytes ≡ Some (z, left)
        read z left b = ap item (b.2 ∙ sym (append_assoc b.0 (newline ∷ []) left)) ∙ r.again (b.0 ++ newline ∷ []) z left (b.0, b.1, refl) tt

    -- the line at the front, if there is one
    pub line_or_none : (bytes : List ℕ) → ((x : Line) × (rest : List ℕ) × BeginsWith IsText bytes x rest) ⊎ ((x : Line) (rest : List ℕ) → BeginsWith IsText bytes x rest → ⊥)
    line_or_none bytes = go (item bytes) refl
      where
        go : (o : Option (Line × List ℕ)) → item bytes ≡ o → ((x : Line) × (rest : List ℕ) × BeginsWith IsText bytes x rest) ⊎ ((x : Line) (rest : List ℕ) → BeginsWith IsText bytes x rest → ⊥)
        go None e = inr (λ x rest b. let f : item bytes ≡ Some (x, rest) = ap item (b.2 ∙ sym (append_assoc b.0 (newline ∷ []) rest)) ∙ r.again (b.0 ++ newline ∷ []) x rest (b.0, b.1, refl) tt in absurd (cc))
        go (Some p) e =
            let t = r.takes bytes p.0 p.1 e in
            inl (p.0, p.1, (t.1.0, t.1.1, t.2 ∙ ap (λ z. z ++ p.1) t.1.2 ∙ append_assoc t.1.0 (newline ∷ []) p.1))

    -- Two ways of passing lines that start alike, each of which ends where no line passes, are one, and end alike.
    module _ (Alike : State → State → Type 0) (keeps : (s t : State) (x : Line) (u v : State) → Alike s t → Step s x u → Step t x v → Alike u v) (F G : State → List ℕ → Type 0)
        (f_stops : (s t : State) (bytes : List ℕ) → Alike s t → F s bytes → StepsOn t bytes → ⊥) (g_stops : (s t : State) (bytes : List ℕ) → Alike s t → G t bytes → StepsOn s bytes → ⊥) where
      abbrev pub Meet : List Line → List Line → Type 0
      Meet xs ys = (xs ≡ ys) × ((s t : State) × (left : List ℕ) × Alike s t × F s left × G t left)

      pub meet : (xs ys : List Line) (s t : State) (bytes : List ℕ) → Alike s t → Behind IsText Step IsLong F xs s bytes → Behind IsText Step IsLong G ys t bytes → Meet xs ys
      meet [] [] s t bytes a h i = (refl, (s, t, bytes, a, h, i))
      meet [] (y ∷ ys) s t bytes a h i = absurd (f_stops s t bytes a h (y, i.0, i.1, i.2, i.3, i.4))
      meet (x ∷ xs) [] s t bytes a h i = absurd (g_stops s t bytes a i (x, h.0, h.1, h.2, h.3, h.4))
      meet (x ∷ xs) (y ∷ ys) s t bytes a h i =
          let same = one_line bytes x y h.0 i.0 h.3 i.3 in
          let step : Step t x i.1 = subst (λ z. Step t z i.1) (sym same.0) i.4 in
          let more = meet xs ys h.1 i.1 h.0 (keeps s t x h.1 i.1 a h.4 step) h.5 (subst (λ z. Behind IsText Step IsLong G ys i.1 z) (sym same.1) i.5) in
          (ap₂ ◌∷◌ same.0 more.0, more.1)

-- ---- causes

-- one of several causes in their order
pub unless_exact : {C : Type 0} {ok fails Good : Type 0} {later : C → Type 0} (cause : C) → ok ⊎ fails → (fails → ok → ⊥) → (ok → IsExact Good later) → IsExact (ok × Good) (Unless ok fails cause later)
unless_exact {C} {ok} {fails} {Good} {later} cause d apart exact = record {
  decided = ⊎_elim (λ o. ⊎_elim (λ g. inl (o, g)) (λ r. inr (r.0, inr (o, r.1))) (exact o).decided) (λ f. inr (cause, inl (f, refl))) d;
  not_both = λ c g r. ⊎_elim (λ f. apart f.0 g.0) (λ l. (exact g.0).not_both c g.1 l.1) r;
  one = λ a b r s. ⊎_elim (λ f. ⊎_elim (λ g. f.1 ∙ sym g.1) (λ l. absurd (apart f.0 l.0)) s) (λ k. ⊎_elim (λ g. absurd (apart g.0 k.0)) (λ l. (exact k.0).one a b k.1 l.1) s) r;
}

-- the last one of them
pub last_exact : {C : Type 0} {ok fails : Type 0} (cause : C) → ok ⊎ fails → (fails → ok → ⊥) → IsExact ok (Unless ok fails cause Never)
last_exact cause d apart = record {
  decided = ⊎_elim inl (λ f. inr (cause, inl (f, refl))) d;
  not_both = λ c g r. ⊎_elim (λ f. apart f.0 g) (λ l. l.1) r;
  one = λ a b r s. ⊎_elim (λ f. ⊎_elim (λ g. f.1 ∙ sym g.1) (λ l. absurd l.1) s) (λ k. absurd k.1) r;
}

pub exact_as : {C Good Other : Type 0} {Refused Others : C → Type 0} → (Good → Other) → (Other → Good) → ((c : C) → Refused c → Others c) → ((c : C) → Others c → Refused c) → IsExact Good Refused → IsExact Other Others
exact_as there back those these e = record {
  decided = ⊎_elim (λ g. inl (there g)) (λ r. inr (r.0, those r.0 r.1)) e.decided;
  not_both = λ c g r. e.not_both c (back g) (these c r);
  one = λ a b r s. e.one a b (these a r) (these b s);
}

-- the causes with something added to each
pub exact_map : {C D Good : Type 0} {Refused : C → Type 0} (f : C → D) → IsExact Good Refused → IsExact Good (λ d. (c : C) × Refused c × (d ≡ f c))
exact_map f e = record {
  decided = ⊎_elim inl (λ r. inr (f r.0, (r.0, r.1, refl))) e.decided;
  not_both = λ d g r. e.not_both r.0 g r.1;
  one = λ a b r s. r.2 ∙ ap f (e.one r.0 s.0 r.1 s.1) ∙ sym s.2;
}

-- causes of one thing, and after it those of another
pub then_exact : {C D G H : Type 0} {Refused : C → Type 0} {Others : D → Type 0} (f : C → D) → IsExact G Refused → IsExact H Others → IsExact (G × H) (λ d. ((c : C) × Refused c × (d ≡ f c)) ⊎ (G × Others d))
then_exact f e h = record {
  decided = ⊎_elim (λ g. ⊎_elim (λ k. inl (g, k)) (λ s. inr (s.0, inr (g, s.1))) h.decided) (λ r. inr (f r.0, inl (r.0, r.1, refl))) e.decided;
  not_both = λ d g r. ⊎_elim (λ c. e.not_both c.0 g.0 c.1) (λ s. h.not_both d g.1 s.1) r;
  one = λ a b r s. ⊎_elim (λ c. ⊎_elim (λ d. c.2 ∙ ap f (e.one c.0 d.0 c.1 d.1) ∙ sym d.2) (λ o. absurd (e.not_both c.0 o.0 c.1)) s) (λ o. ⊎_elim (λ d. absurd (e.not_both d.0 o.0 d.1)) (λ k. h.one a b o.1 k.1) s) r;
}

-- a text at the front, or a cause
pub front_exact : {C : Type 0} {Good : List ℕ → Type 0} {Refused : List ℕ → C → Type 0} (text : List ℕ) (cause : C) (bytes : List ℕ) → ((body : List ℕ) → IsExact (Good body) (Refused body)) →
    IsExact ((body : List ℕ) × (bytes ≡ text ++ body) × Good body) (λ c. (((body : List ℕ) → bytes ≢ text ++ body) × (c ≡ cause)) ⊎ ((body : List ℕ) × (bytes ≡ text ++ body) × Refused body c))
front_exact {C} {Good} {Refused} text cause bytes exact = go (front_at text bytes) refl
  where
    one_body : (body more : List ℕ) → bytes ≡ text ++ body → bytes ≡ text ++ more → body ≡ more
    one_body body more e f = same_Some body more (sym (front_again text body) ∙ ap (front_at text) (sym e ∙ f) ∙ front_again text more)

    go : (o : Option (List ℕ)) → front_at text bytes ≡ o → IsExact ((body : List ℕ) × (bytes ≡ text ++ body) × Good body) (λ c. (((body : List ℕ) → bytes ≢ text ++ body) × (c ≡ cause)) ⊎ ((body : List ℕ) × (bytes ≡ text ++ body) × Refused body c))
    go None e =
        let no' : (body : List ℕ) → bytes ≢ text ++ body = λ body f. (let g : front_at text bytes ≡ Some body = ap (front_at text) f ∙ front_again text body in absurd (cc)) in
        record {
          decided = inr (cause, inl (no', refl));
          not_both = λ c g r. no' g.0 g.1;
          one = λ a b r s. ⊎_elim (λ t. ⊎_elim (λ u. t.1 ∙ sym u.1) (λ u. absurd (no' u.0 u.1)) s) (λ t. absurd (no' t.0 t.1)) r;
        }
    go (Some body) e =
        let is : bytes ≡ text ++ body = front_takes text bytes body e in
        exact_as (λ g. (body, is, g)) (λ g. subst Good (one_body g.0 body g.1 is) g.2) (λ c r. inr (body, is, r))
        (λ c r. ⊎_elim (λ t. absurd (t.0 body is)) (λ t. subst (λ z. Refused z c) (one_body t.0 body t.1 is) t.2) r) (exact body)

pub short_nil : (IsLong : List ℕ → Type 0) → ¬ (IsLong []) → ShortFrom IsLong []
short_nil IsLong n left start = ⊎_elim (λ e. subst (λ z. ¬ (IsLong z)) e n) (λ b. absurd (empty b.0 b.1)) start
  where
    empty : (before : List ℕ) → [] ≡ before ++ newline ∷ left → ⊥
    empty [] e = absurd (cc)
    empty (b ∷ before) e = absurd (cc)

-- what is short from a line on is short from the next one on
pub short_rest : (IsLong : List ℕ → Type 0) (bytes line rest : List ℕ) → bytes ≡ line ++ newline ∷ rest → ShortFrom IsLong bytes → ShortFrom IsLong rest
short_rest IsLong bytes line rest e s left start = s left (start_later bytes rest left (inr (line, e)) start)

-- the first line is what stands before the first line feed
front_is : (line rest : List ℕ) → HasNoNewline line → front_line (line ++ newline ∷ rest) ≡ line
front_is [] rest h = refl
front_is (b ∷ line) rest h = go (b == newline) refl (front_is line rest h.1)
  where
    go : (c : Bool) → (b == newline) ≡ c → front_line (line ++ newline ∷ rest) ≡ line → cond c [] (b ∷ front_line (line ++ newline ∷ rest)) ≡ b ∷ line
    go true e same = absurd (h.0 (eqb-true b newline e))
    go false e same = ap (λ z. b ∷ z) same

pub begins_front : {Line : Type 0} (IsText : List ℕ → Line → Type 0) → ((line : List ℕ) (x : Line) → IsText line x → HasNoNewline line) → (bytes : List ℕ) (x : Line) (rest : List ℕ) → BeginsWith IsText bytes x rest →
    IsText (front_line bytes) x × (bytes ≡ front_line bytes ++ newline ∷ rest)
begins_front IsText none bytes x rest h =
    let is : front_line bytes ≡ h.0 = ap front_line h.2 ∙ front_is h.0 rest (none h.0 x h.1) in
    (subst (λ z. IsText z x) (sym is) h.1, h.2 ∙ ap (λ z. z ++ newline ∷ rest) (sym is))
