-- What is read of a line of a clause certificate is what its text says.
use Rattle.std.specs.Prelude.{◌≡◌, ◌≢◌, ℕ, zero, suc, ◌+◌, ◌*◌, ◌-◌, ◌<◌, ◌≤◌, ◌⊎◌, ◌||◌, Bool, true, false, not, cond, List, [], ◌∷◌, ◌++◌, length, codes, ℤ, pos, negsuc, ◌==◌, slice_index}
use Rattle.std.specs.declared.option.Option.{Option}
use Rattle.std.specs.declared.option.Option.TheVariants.{None, Some}
use Rattle.std.specs.List.{fold}
use Rattle.std.proofs.Common.{refl, sym, ap, ap₂, subst, ◌∙◌, arith, append_assoc, length-append, inl, inr, ⊎_elim, eqb-true, eq-eqb}
use Rattle.std.proofs.lemmas.List.Elements.{recursion_from_All}
use Rattle.graph_core.specs.declared.literal.Lit.{Lit}
use Rattle.graph_core.specs.Text.{newline, space, IsNumeral, IsDigit}
use Rattle.graph_core.specs.Text.Numerals.{number_at, is_digit, ◌>>=◌}
use Rattle.graph_core.proofs.OfTexts.CallerLemmas.{IsReaderOf, BehindText, AreMany, NoneOf, OneOf, Anything, Then, Ended, HasNoNewline, OtherOf, many_next, none_append, none_in, none_numeral, one_longer, reads_as, reads_before, reads_behind, reads_choice, reads_ended, reads_many, reads_map, reads_number, reads_text, reads_then, numeral_first}
use Rattle.graph_core.specs.Text.Readers.{map_at, behind_at, ended_at, text_at, put_before}
use Rattle.clause_core.specs.Clause.{Clause}
use Rattle.clause_core.specs.ClauseLines.{ClauseLine}
use Rattle.clause_core.specs.declared.line.Line.TheVariants.{Add, Delete}
use Rattle.drup_text.specs.ClauseTexts.{IsBlockLine, IsVariableText, IsLiteralText, IsClauseText, IsClauseLine, IsCountLine, IsCutLine, IsGatesLine, IsNumberLine, IsOutputLine, IsPairLine, IsReplaceLine, carry_text}
use Rattle.drup_text.specs.ClauseReading.{is_no_zero, nonzero_at, minus_number, literal_at, clause_literals_at, clause_read_at, clause_line_at, two_at, some_cut, cut_line_at, lits, pair_line_at, number_line_at, count_line_at, gates_line_at, replace_line_at, output_from, output_line_at, carry_at, head_from, block_line_at}

-- a number whose first digit isn't 0
nonzero_takes : (bytes : List ℕ) (v : ℕ) (rest : List ℕ) → nonzero_at bytes ≡ Some (v, rest) → (front : List ℕ) × IsVariableText front v × (bytes ≡ front ++ rest)
nonzero_takes [] v rest h = absurd (cc)
nonzero_takes (b ∷ bytes) v rest h = go (b == 48) refl h
  where
    first : (front : List ℕ) → IsNumeral 10 front v → b ∷ bytes ≡ front ++ rest → slice_index front 0 ≡ b
    first [] n e = let some : 0 < 0 = n.some in absurd (omega arith)
    first (c ∷ front) n e = cc

    go : (c : Bool) → (b == 48) ≡ c → cond c None (number_at 10 (b ∷ bytes)) ≡ Some (v, rest) → (front : List ℕ) × IsVariableText front v × (b ∷ bytes ≡ front ++ rest)
    go true e f = absurd (cc)
    go false e f =
        let t = (reads_number 10).takes (b ∷ bytes) v rest f in
        (t.0, (t.1, λ z. let g = eq-eqb b 48 (sym (first t.0 t.1 t.2) ∙ z) in absurd (cc)), t.2)

nonzero_again : (front : List ℕ) (v : ℕ) (rest : List ℕ) → IsVariableText front v → NoneOf is_digit rest → nonzero_at (front ++ rest) ≡ Some (v, rest)
nonzero_again [] v rest is stop = let some : 0 < 0 = is.0.some in absurd (omega arith)
nonzero_again (b ∷ front) v rest is stop = go (b == 48) refl
  where
    go : (c : Bool) → (b == 48) ≡ c → cond c None (number_at 10 (b ∷ (front ++ rest))) ≡ Some (v, rest)
    go true e = absurd (is.1 (eqb-true b 48 e))
    go false e = (reads_number 10).again (b ∷ front) v rest is.0 stop

reads_nonzero : IsReaderOf nonzero_at IsVariableText (NoneOf is_digit)
reads_nonzero = record { takes = nonzero_takes; again = nonzero_again }

-- such a number isn't 0
fold_grows : (n : ℕ) (bytes : List ℕ) → n ≤ fold (λ k b. 10 * k + (b - 48)) n bytes
fold_grows n [] = omega arith
fold_grows n (b ∷ bytes) = let more = fold_grows (10 * n + (b - 48)) bytes in omega arith

variable_pos : (bytes : List ℕ) (v : ℕ) → IsVariableText bytes v → 0 < v
variable_pos [] v h = let some : 0 < 0 = h.0.some in absurd (omega arith)
variable_pos (b ∷ bytes) v h =
    let digit : IsDigit b = (recursion_from_All IsDigit (b ∷ bytes) h.0.digits).0 in
    let other : b ≢ 48 = h.1 in
    let low : 48 ≤ b = digit.0 in
    let more = fold_grows (10 * 0 + (b - 48)) bytes in
    let e : v ≡ fold (λ k c. 10 * k + (c - 48)) (10 * 0 + (b - 48)) bytes = h.0.number in
    omega arith

-- a variable's text begins with a digit other than 0
variable_first : (bytes : List ℕ) (v : ℕ) → IsVariableText bytes v → OneOf is_digit bytes
variable_first bytes v h = numeral_first 10 bytes v h.0

abbrev IsMinus : List ℕ → ℤ → Type 0
IsMinus bytes l = (v : ℕ) × (minus_number v ≡ l) × BehindText (codes "-") IsVariableText bytes v

abbrev IsPlus : List ℕ → ℤ → Type 0
IsPlus bytes l = (v : ℕ) × (pos v ≡ l) × IsVariableText bytes v

reads_minus : IsReaderOf (map_at minus_number (behind_at (codes "-") nonzero_at)) IsMinus (NoneOf is_digit)
reads_minus = reads_map minus_number IsMinus (reads_behind (codes "-") reads_nonzero) (λ bytes v h. (v, refl, h)) (λ bytes l h. (h.0, h.2, h.1))

reads_plus : IsReaderOf (map_at pos nonzero_at) IsPlus (NoneOf is_digit)
reads_plus = reads_map pos IsPlus reads_nonzero (λ bytes v h. (v, refl, h)) (λ bytes l h. (h.0, h.2, h.1))

digit_other : (test : ℕ → Bool) (k : ℕ) → is_digit k ≡ false → ((b : ℕ) → test b ≡ true → b ≡ k) → (bytes : List ℕ) → OneOf is_digit bytes → OtherOf test bytes
digit_other test k no' is [] d = absurd d
digit_other test k no' is (b ∷ bytes) d = go (test b) refl
  where
    go : (c : Bool) → test b ≡ c → c ≡ false
    go true e = let f : is_digit k ≡ true = subst (λ z. is_digit z ≡ true) (is b e) d in absurd (cc)
    go false e = refl

literal_there : (bytes : List ℕ) (l : ℤ) → IsMinus bytes l ⊎ IsPlus bytes l → IsLiteralText bytes l
literal_there bytes l h = ⊎_elim (λ m. minus m.0 m.1 m.2) (λ p. subst (IsLiteralText bytes) p.1 p.2) h
  where
    minus : (v : ℕ) → minus_number v ≡ l → BehindText (codes "-") IsVariableText bytes v → IsLiteralText bytes l
    minus zero e m = let some = variable_pos m.0 zero m.1 in absurd (omega arith)
    minus (suc v) e m = subst (IsLiteralText bytes) e m

literal_back : (bytes : List ℕ) (l : ℤ) → IsLiteralText bytes l → IsMinus bytes l ⊎ IsPlus bytes l
literal_back bytes (pos v) h = inr (v, refl, h)
literal_back bytes (negsuc v) h = inl (suc v, refl, h)

reads_literal : IsReaderOf literal_at IsLiteralText (NoneOf is_digit)
reads_literal =
    reads_as IsLiteralText
    (reads_choice (λ b. b == 45) reads_minus reads_plus (λ front l h. subst (OneOf (λ b. b == 45)) (sym h.2.2) refl) (λ front l h. digit_other (λ b. b == 45) 45 refl (λ b e. eqb-true b 45 e) front (variable_first front h.0 h.2)))
    literal_there literal_back

-- ---- clauses

abbrev IsEndedLiteral : List ℕ → ℤ → Type 0
IsEndedLiteral = Ended IsLiteralText (codes " ")

-- a literal begins with a minus or a digit other than 0
literal_first : (front : List ℕ) (l : ℤ) → IsLiteralText front l → OneOf is_no_zero front
literal_first front (pos v) h = go front h
  where
    go : (bytes : List ℕ) → IsVariableText bytes v → OneOf is_no_zero bytes
    go [] k = let some : 0 < 0 = k.0.some in absurd (omega arith)
    go (b ∷ bytes) k = test (b == 48) refl
      where
        test : (c : Bool) → (b == 48) ≡ c → not c ≡ true
        test true e = absurd (k.1 (eqb-true b 48 e))
        test false e = refl
literal_first front (negsuc v) h = subst (OneOf is_no_zero) (sym h.2) refl

clause_there : (bytes : List ℕ) (c : Clause) (front : List ℕ) → AreMany IsEndedLiteral front c → bytes ≡ front ++ codes "0" → IsClauseText bytes c
clause_there bytes [] front h e = e ∙ ap (λ z. z ++ codes "0") h
clause_there bytes (l ∷ ls) front h e =
    (h.2.0, h.1 ++ codes "0", h.2.1, clause_there (h.1 ++ codes "0") ls h.1 h.3 refl, e ∙ ap (λ z. z ++ codes "0") (h.4 ∙ ap (λ z. z ++ h.1) h.2.2) ∙ append_assoc (h.2.0 ++ codes " ") h.1 (codes "0") ∙ append_assoc h.2.0 (codes " ") (h.1 ++ codes "0"))

clause_back : (bytes : List ℕ) (c : Clause) → IsClauseText bytes c → Ended (AreMany IsEndedLiteral) (codes "0") bytes c
clause_back bytes [] h = ([], refl, h)
clause_back bytes (l ∷ ls) h =
    let more = clause_back h.1 ls h.3 in (
      (h.0 ++ codes " ") ++ more.0,
      (h.0 ++ codes " ", more.0, (h.0, h.2, refl), more.1, refl),
      h.4 ∙ ap (λ z. h.0 ++ space ∷ z) more.2 ∙ sym (append_assoc h.0 (codes " ") (more.0 ++ codes "0")) ∙ sym (append_assoc (h.0 ++ codes " ") more.0 (codes "0")),
    )

pub reads_clause : IsReaderOf clause_read_at IsClauseText Anything
reads_clause =
    reads_as IsClauseText
    (reads_ended (codes "0") (reads_many is_no_zero (ended_at literal_at (codes " ")) IsEndedLiteral Anything (reads_ended (codes " ") reads_literal (λ rest. refl))
    (λ front l h. subst (OneOf is_no_zero) (sym h.2) (one_longer is_no_zero h.0 (codes " ") (literal_first h.0 l h.1))) (λ rest h. tt)) (λ rest. (refl, tt)))
    (λ bytes c h. clause_there bytes c h.0 h.1 h.2) clause_back

abbrev IsDelete : List ℕ → ClauseLine → Type 0
IsDelete bytes x = (c : Clause) × (Delete c ≡ x) × BehindText (codes "d ") IsClauseText bytes c

abbrev IsAdd : List ℕ → ClauseLine → Type 0
IsAdd bytes x = (c : Clause) × (Add c ≡ x) × IsClauseText bytes c

-- a clause doesn't begin with d
clause_first : (front : List ℕ) (c : Clause) → IsClauseText front c → OtherOf (λ b. b == 100) front
clause_first front [] h = subst (OtherOf (λ b. b == 100)) (sym h) refl
clause_first front (l ∷ ls) h = subst (OtherOf (λ b. b == 100)) (sym h.4) (longer h.0 (go h.0 l h.2))
  where
    longer : (bytes : List ℕ) → OtherOf (λ b. b == 100) bytes → OtherOf (λ b. b == 100) (bytes ++ space ∷ h.1)
    longer [] k = absurd k
    longer (b ∷ bytes) k = k

    go : (bytes : List ℕ) (k : ℤ) → IsLiteralText bytes k → OtherOf (λ b. b == 100) bytes
    go bytes (pos v) k = digit_other (λ b. b == 100) 100 refl (λ b e. eqb-true b 100 e) bytes (variable_first bytes v k)
    go bytes (negsuc v) k = subst (OtherOf (λ b. b == 100)) (sym k.2) refl

pub reads_clause_line : IsReaderOf clause_line_at IsClauseLine Anything
unfolding clause_line_at
reads_clause_line =
    reads_as IsClauseLine
    (reads_choice (λ b. b == 100) (reads_map Delete IsDelete (reads_behind (codes "d ") reads_clause) (λ bytes c h. (c, refl, h)) (λ bytes x h. (h.0, h.2, h.1)))
    (reads_map Add IsAdd reads_clause (λ bytes c h. (c, refl, h)) (λ bytes x h. (h.0, h.2, h.1)))
    (λ front x h. subst (OneOf (λ b. b == 100)) (sym h.2.2) refl) (λ front x h. clause_first front h.0 h.2))
    (λ bytes x h. ⊎_elim (λ d. subst (IsClauseLine bytes) d.1 d.2) (λ a. subst (IsClauseLine bytes) a.1 a.2) h)
    back
  where
    back : (bytes : List ℕ) (x : ClauseLine) → IsClauseLine bytes x → IsDelete bytes x ⊎ IsAdd bytes x
    back bytes (Add c) h = inr (c, refl, h)
    back bytes (Delete c) h = inl (c, refl, h)

-- ---- the header

abbrev AreTwo : List ℕ → ℕ × ℕ → Type 0
AreTwo bytes n = (one two : List ℕ) × IsNumeral 10 one n.0 × IsNumeral 10 two n.1 × (bytes ≡ one ++ space ∷ two)

reads_two : IsReaderOf two_at AreTwo (NoneOf is_digit)
reads_two =
    reads_as AreTwo (reads_then (reads_ended (codes " ") (reads_number 10) (λ rest. refl)) (reads_number 10) (λ front y rest h f. tt))
    (λ bytes n h. (h.2.0, h.1, h.2.1, h.3, h.4 ∙ ap (λ z. z ++ h.1) h.2.2 ∙ append_assoc h.2.0 (codes " ") h.1))
    (λ bytes n h. (h.0 ++ codes " ", h.1, (h.0, h.2, refl), h.3, h.4 ∙ sym (append_assoc h.0 (codes " ") h.1)))

abbrev IsNone : List ℕ → Option (ℕ × ℕ) → Type 0
IsNone bytes c = (c ≡ None) × (bytes ≡ codes "none")

abbrev IsReplace : List ℕ → Option (ℕ × ℕ) → Type 0
IsReplace bytes c = (n : ℕ × ℕ) × (some_cut n ≡ c) × BehindText (codes "replace ") AreTwo bytes n

pub reads_cut_line : IsReaderOf cut_line_at IsCutLine (NoneOf is_digit)
unfolding cut_line_at
reads_cut_line =
    reads_as IsCutLine
    (reads_choice (λ b. b == 110) (reads_before (NoneOf is_digit) (reads_text (codes "none") None) (λ rest h. tt))
    (reads_map some_cut IsReplace (reads_behind (codes "replace ") reads_two) (λ bytes n h. (n, refl, h)) (λ bytes c h. (h.0, h.2, h.1)))
    (λ front c h. subst (OneOf (λ b. b == 110)) (sym h.1) refl) (λ front c h. subst (OtherOf (λ b. b == 110)) (sym h.2.2) refl))
    there back
  where
    there : (bytes : List ℕ) (c : Option (ℕ × ℕ)) → IsNone bytes c ⊎ IsReplace bytes c → IsCutLine bytes c
    there bytes c h =
        ⊎_elim (λ n. subst (IsCutLine bytes) (sym n.0) n.1)
        (λ r. subst (IsCutLine bytes) r.1 (r.2.1.0, r.2.1.1, r.2.1.2, r.2.1.3, r.2.2 ∙ ap (λ z. codes "replace " ++ z) r.2.1.4 ∙ sym (append_assoc (codes "replace ") r.2.1.0 (space ∷ r.2.1.1)))) h

    back : (bytes : List ℕ) (c : Option (ℕ × ℕ)) → IsCutLine bytes c → IsNone bytes c ⊎ IsReplace bytes c
    back bytes None h = inl (refl, h)
    back bytes (Some n) h = inr (n, refl, (h.0 ++ space ∷ h.1, (h.0, h.1, h.2, h.3, refl), h.4 ∙ append_assoc (codes "replace ") h.0 (space ∷ h.1)))

pub reads_pair_line : IsReaderOf pair_line_at IsPairLine (NoneOf is_digit)
unfolding pair_line_at
reads_pair_line = reads_map lits IsPairLine reads_two (λ bytes n h. h) (λ bytes p h. ((p.0.0, p.1.0), h, refl))

-- one turn of the loop that reads a clause's literals
pub literals_next : (b : ℕ) (bytes : List ℕ) → clause_literals_at (b ∷ bytes) ≡ cond (is_no_zero b) (ended_at literal_at (codes " ") (b ∷ bytes) >>= (λ x. put_before x.0 (clause_literals_at x.1))) (Some ([], b ∷ bytes))
literals_next = many_next is_no_zero (ended_at literal_at (codes " ")) IsEndedLiteral Anything (reads_ended (codes " ") reads_literal (λ rest. refl))
    (λ front l h. subst (OneOf is_no_zero) (sym h.2) (one_longer is_no_zero h.0 (codes " ") (literal_first h.0 l h.1))) (λ rest h. tt)

-- ---- the lines of version 3

pub reads_number_line : (word : List ℕ) → IsReaderOf (number_line_at word) (IsNumberLine word) (NoneOf is_digit)
unfolding number_line_at
reads_number_line word = reads_as (IsNumberLine word) (reads_behind word (reads_number 10)) (λ bytes n h. h) (λ bytes n h. h)

pub reads_output_line : IsReaderOf output_line_at IsOutputLine (NoneOf is_digit)
unfolding output_line_at
reads_output_line = reads_map output_from IsOutputLine reads_two (λ bytes n h. h) (λ bytes c h. ((c.0, c.1.0), h, refl))

-- ---- the lines of version 2

-- neither a digit nor a space
abbrev ends_head : ℕ → Bool
ends_head b = is_digit b || (b == space)

abbrev IsCarry : List ℕ → Bool → Type 0
IsCarry bytes c = bytes ≡ carry_text c

or_false : (a b : Bool) → (a || b) ≡ false → (a ≡ false) × (b ≡ false)
or_false true b h = absurd (cc)
or_false false b h = (refl, h)

no_digit : (bytes : List ℕ) → NoneOf ends_head bytes → NoneOf is_digit bytes
no_digit [] h = tt
no_digit (b ∷ bytes) h = (or_false (is_digit b) (b == space) h).0

reads_carry : IsReaderOf carry_at IsCarry (NoneOf ends_head)
reads_carry = record { takes = takes; again = again }
  where
    word : IsReaderOf (text_at (codes " carry") true) (λ bytes y. (y ≡ true) × (bytes ≡ codes " carry")) (λ rest. Unit {0})
    word = reads_text (codes " carry") true

    takes : (bytes : List ℕ) (c : Bool) (rest : List ℕ) → carry_at bytes ≡ Some (c, rest) → (front : List ℕ) × IsCarry front c × (bytes ≡ front ++ rest)
    takes [] c rest h = ([], ap carry_text (ap (λ p. p.0) (same ([], refl))), ap (λ p. p.1) (same ([], refl)))
      where
        same : (x : List ℕ) × (x ≡ []) → ◌≡◌ {A = Bool × List ℕ} (false, []) (c, rest)
        same x = cc
    takes (b ∷ bytes) c rest h = go (b == space) h
      where
        go : (t : Bool) → cond t (text_at (codes " carry") true (b ∷ bytes)) (Some (false, b ∷ bytes)) ≡ Some (c, rest) → (front : List ℕ) × IsCarry front c × (b ∷ bytes ≡ front ++ rest)
        go true k = let t = word.takes (b ∷ bytes) c rest k in (t.0, t.1.1 ∙ ap carry_text (sym t.1.0), t.2)
        go false k = let same : ◌≡◌ {A = Bool × List ℕ} (false, b ∷ bytes) (c, rest) = cc in ([], ap carry_text (ap (λ p. p.0) same), ap (λ p. p.1) same)

    again : (front : List ℕ) (c : Bool) (rest : List ℕ) → IsCarry front c → NoneOf ends_head rest → carry_at (front ++ rest) ≡ Some (c, rest)
    again front true rest is stop = ap (λ z. carry_at (z ++ rest)) is ∙ word.again (codes " carry") true rest (refl, refl) tt
    again front false rest is stop = ap (λ z. carry_at (z ++ rest)) is ∙ plain rest stop
      where
        plain : (bytes : List ℕ) → NoneOf ends_head bytes → carry_at bytes ≡ Some (false, bytes)
        plain [] k = refl
        plain (b ∷ bytes) k = ap (λ t. cond t (text_at (codes " carry") true (b ∷ bytes)) (Some (false, b ∷ bytes))) (or_false (is_digit b) (b == space) k).1

carry_first : (front : List ℕ) (c : Bool) (rest : List ℕ) → IsCarry front c → NoneOf ends_head rest → NoneOf is_digit (front ++ rest)
carry_first front true rest is stop = subst (λ z. NoneOf is_digit (z ++ rest)) (sym is) refl
carry_first front false rest is stop = subst (λ z. NoneOf is_digit (z ++ rest)) (sym is) (no_digit rest stop)

abbrev IsReplaceHead : List ℕ → (ℕ × ℕ) × Bool → Type 0
IsReplaceHead = BehindText (codes "replace ") (Then AreTwo IsCarry)

four_parts : (low count carry : List ℕ) → codes "replace " ++ ((low ++ space ∷ count) ++ carry) ≡ codes "replace " ++ low ++ space ∷ (count ++ carry)
four_parts low count carry = simp append_assoc

head_there : (bytes : List ℕ) (x : (ℕ × ℕ) × Bool) → IsReplaceHead bytes x → IsBlockLine bytes (head_from x)
head_there bytes x h =
    let two = h.1.2 in
    (two.0, two.1, two.2, two.3, h.2 ∙ ap (λ z. codes "replace " ++ z) (h.1.4 ∙ ap₂ (λ y z. y ++ z) two.4 h.1.3) ∙ four_parts two.0 two.1 (carry_text x.1))

head_back : (bytes : List ℕ) (h : ℕ × ℕ × Bool) → IsBlockLine bytes h → (x : (ℕ × ℕ) × Bool) × IsReplaceHead bytes x × (head_from x ≡ h)
head_back bytes h line = (
  ((h.0, h.1), h.2),
  ((line.0 ++ space ∷ line.1) ++ carry_text h.2, (line.0 ++ space ∷ line.1, carry_text h.2, (line.0, line.1, line.2, line.3, refl), refl, refl), line.4 ∙ sym (four_parts line.0 line.1 (carry_text h.2))),
  refl,
)

pub reads_block_line : IsReaderOf block_line_at IsBlockLine (NoneOf ends_head)
unfolding block_line_at
reads_block_line =
    reads_map head_from IsBlockLine (reads_behind (codes "replace ") (reads_then reads_two reads_carry (λ front c rest h f. carry_first front c rest h f))) head_there head_back

-- ---- with their line feeds

pub clause_item : IsReaderOf (ended_at clause_line_at (newline ∷ [])) (Ended IsClauseLine (newline ∷ [])) Anything
clause_item = reads_ended (newline ∷ []) reads_clause_line (λ rest. tt)

pub pair_item : IsReaderOf (ended_at pair_line_at (newline ∷ [])) (Ended IsPairLine (newline ∷ [])) Anything
pair_item = reads_ended (newline ∷ []) reads_pair_line (λ rest. refl)

pub cut_item : IsReaderOf (ended_at cut_line_at (newline ∷ [])) (Ended IsCutLine (newline ∷ [])) Anything
cut_item = reads_ended (newline ∷ []) reads_cut_line (λ rest. refl)

number_item : (word : List ℕ) → IsReaderOf (ended_at (number_line_at word) (newline ∷ [])) (Ended (IsNumberLine word) (newline ∷ [])) Anything
number_item word = reads_ended (newline ∷ []) (reads_number_line word) (λ rest. refl)

pub count_item : IsReaderOf (ended_at count_line_at (newline ∷ [])) (Ended IsCountLine (newline ∷ [])) Anything
count_item = number_item (codes "cuts ")

pub gates_item : IsReaderOf (ended_at gates_line_at (newline ∷ [])) (Ended IsGatesLine (newline ∷ [])) Anything
gates_item = number_item (codes "gates ")

pub replace_item : IsReaderOf (ended_at replace_line_at (newline ∷ [])) (Ended IsReplaceLine (newline ∷ [])) Anything
replace_item = number_item (codes "replace ")

pub output_item : IsReaderOf (ended_at output_line_at (newline ∷ [])) (Ended IsOutputLine (newline ∷ [])) Anything
output_item = reads_ended (newline ∷ []) reads_output_line (λ rest. refl)

pub block_item : IsReaderOf (ended_at block_line_at (newline ∷ [])) (Ended IsBlockLine (newline ∷ [])) Anything
block_item = reads_ended (newline ∷ []) reads_block_line (λ rest. refl)

-- ---- no line has a line feed in it

none_same : (bytes other : List ℕ) → bytes ≡ other → HasNoNewline other → HasNoNewline bytes
none_same bytes other e h = subst HasNoNewline (sym e) h

none_literal : (bytes : List ℕ) (l : ℤ) → IsLiteralText bytes l → HasNoNewline bytes
none_literal bytes (pos v) h = none_numeral 10 bytes v h.0
none_literal bytes (negsuc v) h = none_same bytes _ h.2 (none_append (codes "-") h.0 (none_in (codes "-") refl) (none_numeral 10 h.0 (suc v) h.1.0))

none_clause : (bytes : List ℕ) (c : Clause) → IsClauseText bytes c → HasNoNewline bytes
none_clause bytes [] h = none_same bytes (codes "0") h (none_in (codes "0") refl)
none_clause bytes (l ∷ ls) h = none_same bytes _ h.4 (none_append h.0 (space ∷ h.1) (none_literal h.0 l h.2) (none_append (space ∷ []) h.1 (none_in (space ∷ []) refl) (none_clause h.1 ls h.3)))

pub none_clause_line : (bytes : List ℕ) (x : ClauseLine) → IsClauseLine bytes x → HasNoNewline bytes
none_clause_line bytes (Add c) h = none_clause bytes c h
none_clause_line bytes (Delete c) h = none_same bytes _ h.2 (none_append (codes "d ") h.0 (none_in (codes "d ") refl) (none_clause h.0 c h.1))

none_two : (one two : List ℕ) (m n : ℕ) → IsNumeral 10 one m → IsNumeral 10 two n → HasNoNewline (one ++ space ∷ two)
none_two one two m n h k = none_append one (space ∷ two) (none_numeral 10 one m h) (none_append (space ∷ []) two (none_in (space ∷ []) refl) (none_numeral 10 two n k))

pub none_pair : (line : List ℕ) (p : Lit × Lit) → IsPairLine line p → HasNoNewline line
none_pair line p h = none_same line _ h.4 (none_two h.0 h.1 p.0.0 p.1.0 h.2 h.3)

pub none_cut : (line : List ℕ) (c : Option (ℕ × ℕ)) → IsCutLine line c → HasNoNewline line
none_cut line None h = none_same line _ h (none_in (codes "none") refl)
none_cut line (Some n) h =
    none_same line _ (h.4 ∙ append_assoc (codes "replace ") h.0 (space ∷ h.1)) (none_append (codes "replace ") (h.0 ++ space ∷ h.1) (none_in (codes "replace ") refl) (none_two h.0 h.1 n.0 n.1 h.2 h.3))

pub none_number : (word : List ℕ) → HasNoNewline word → (line : List ℕ) (n : ℕ) → IsNumberLine word line n → HasNoNewline line
none_number word plain line n h = none_same line _ h.2 (none_append word h.0 plain (none_numeral 10 h.0 n h.1))

pub none_count : (line : List ℕ) (n : ℕ) → IsCountLine line n → HasNoNewline line
none_count = none_number (codes "cuts ") (none_in (codes "cuts ") refl)

pub none_gates : (line : List ℕ) (n : ℕ) → IsGatesLine line n → HasNoNewline line
none_gates = none_number (codes "gates ") (none_in (codes "gates ") refl)

pub none_replace : (line : List ℕ) (n : ℕ) → IsReplaceLine line n → HasNoNewline line
none_replace = none_number (codes "replace ") (none_in (codes "replace ") refl)

pub none_output : (line : List ℕ) (c : ℕ × Lit) → IsOutputLine line c → HasNoNewline line
none_output line c h = none_same line _ h.4 (none_two h.0 h.1 c.0 c.1.0 h.2 h.3)

none_carry : (c : Bool) → HasNoNewline (carry_text c)
none_carry true = none_in (codes " carry") refl
none_carry false = tt

pub none_block : (line : List ℕ) (h : ℕ × ℕ × Bool) → IsBlockLine line h → HasNoNewline line
none_block line h b =
    none_same line _ (b.4 ∙ sym (four_parts b.0 b.1 (carry_text h.2)))
    (none_append (codes "replace ") ((b.0 ++ space ∷ b.1) ++ carry_text h.2) (none_in (codes "replace ") refl)
    (none_append (b.0 ++ space ∷ b.1) (carry_text h.2) (none_two b.0 b.1 h.0 h.1 b.2 b.3) (none_carry h.2)))

-- ---- a literal and a space take some bytes

pub spaced_fewer : (bytes : List ℕ) (l : ℤ) (rest : List ℕ) → ended_at literal_at (codes " ") bytes ≡ Some (l, rest) → length rest < length bytes
spaced_fewer bytes l rest h =
    let t = (reads_ended (codes " ") reads_literal (λ rest. refl)).takes bytes l rest h in
    let all : length bytes ≡ length t.0 + length rest = ap length t.2 ∙ length-append t.0 rest in
    let front : length t.0 ≡ length t.1.0 + 1 = ap length t.1.2 ∙ length-append t.1.0 (codes " ") in
    omega arith
