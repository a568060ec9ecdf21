-- What is kept of the lines of an algebra certificate is lawful over premises that have what it imports.
use Rattle.std.specs.Prelude.{◌≡◌, ◌==◌, ℕ, zero, suc, ◌<◌, ◌⊎◌, Bool, true, false, cond, List, [], ◌∷◌, length, map, slice_index, slice_index_or}
use Rattle.std.specs.declared.option.Option.{Option}
use Rattle.std.specs.declared.option.Option.TheVariants.{Some}
use Rattle.std.specs.List.{All, Contains, cons_option, filter}
use Rattle.std.proofs.Common.{refl, sym, ap, subst, ◌∙◌, arith, inl, inr, ⊎_elim, eq-eqb}
use Rattle.std.proofs.lemmas.Bool.{eqb-true}
use Rattle.std.proofs.lemmas.List.{length-map}
use Rattle.std.proofs.lemmas.List.Elements.{All-cons, All-head, All-nil, All-tail, Contains-get_or}
use Rattle.algebra_core.specs.AlgebraLines.{AreLawful, Line, Part, Premises, operands}
use Rattle.algebra_core.specs.AlgebraLines as algebra
use Rattle.graph_core.specs.Graph.Operands.{Sides}
use Rattle.poly_terms.specs.Tables.{Table, Sum as Poly, monomials_in}
use Rattle.poly_text.specs.Lines.{line_in, part_in}
use Rattle.poly_text.specs.Recorded.{AreRisingIds, id_in, ids_in, lines_in, operands_in}
use Rattle.poly_text.specs.declared.line.PacLine.{PacLine}
use Rattle.poly_text.specs.declared.line.PacLine.TheVariants as pac
use Rattle.clause_core.specs.KeptClauses.{chosen}
use Rattle.pair_trim.specs.KeptLines.{AreIdsClosed, IsImportKept, is_kept, kept_lines, renumbered}
use Rattle.pair_trim.proofs.KeptLines.{kept_lines_are_lawful}
use Rattle.pair_trim.specs.Lines.{AreLinesKept, IntroduceIds, id_at, operands_at}
use Rattle.pair_trim.specs.Marking.{IsSet}

-- ---- which ids are kept

-- the mark of the line that introduces the id; an id that none introduces is kept
abbrev mark_of : List ℕ → List Bool → ℕ → Bool
mark_of [] marks id = true
mark_of (x ∷ ids) [] id = true
mark_of (x ∷ ids) (b ∷ marks) id = cond (x == id) b (mark_of ids marks id)

mark_cases : (ids : List ℕ) (marks : List Bool) (id : ℕ) → (mark_of ids marks id ≡ true) ⊎ ((q : ℕ) × (q < length ids) × (slice_index ids q ≡ id))
mark_cases [] marks id = inl refl
mark_cases (x ∷ ids) [] id = inl refl
mark_cases (x ∷ ids) (b ∷ marks) id = go (x == id) refl (mark_cases ids marks id)
  where
    go : (e : Bool) → (x == id) ≡ e → (mark_of ids marks id ≡ true) ⊎ ((q : ℕ) × (q < length ids) × (slice_index ids q ≡ id)) →
        (cond e b (mark_of ids marks id) ≡ true) ⊎ ((q : ℕ) × (q < length (x ∷ ids)) × (slice_index (x ∷ ids) q ≡ id))
    go true f rest = inr (0, omega arith, eqb-true x id f)
    go false f rest = ⊎_elim inl (λ r. let low : r.0 < length ids = r.1 in inr (suc r.0, omega arith, r.2)) rest

mark_at : (ids : List ℕ) (marks : List Bool) → AreRisingIds ids → length marks ≡ length ids → (q : ℕ) → q < length ids → mark_of ids marks (slice_index ids q) ≡ slice_index_or marks q false
mark_at [] marks up even q low = absurd (omega arith)
mark_at (x ∷ ids) [] up even q low = absurd (omega arith)
mark_at (x ∷ ids) (b ∷ marks) up even zero low = ap (λ (e : Bool). cond e b (mark_of ids marks x)) (eq-eqb x x refl)
mark_at (x ∷ ids) (b ∷ marks) up even (suc q) low =
    go (x == slice_index ids q) refl (mark_at ids marks (λ i j a c. up (suc i) (suc j) (omega arith) (omega arith)) (omega arith) q (omega arith))
  where
    go : (e : Bool) → (x == slice_index ids q) ≡ e → mark_of ids marks (slice_index ids q) ≡ slice_index_or marks q false → cond e b (mark_of ids marks (slice_index ids q)) ≡ slice_index_or marks q false
    go true f rest = let same = eqb-true x (slice_index ids q) f in let less = up 0 (suc q) (omega arith) low in absurd (omega arith)
    go false f rest = rest

-- ---- what lines say

parts_ids : (t : Table) (parts : List (ℕ × Poly)) → map (λ (part : Part). part.id) (map (part_in t) parts) ≡ map (λ part. part.0) parts
parts_ids t [] = refl
parts_ids t (p ∷ parts) = ap (λ (ids : List ℕ). p.0 ∷ ids) (parts_ids t parts)

-- the line that the definitions know, which is made of the same lines, and kept where its id is
record Says (t : Table) (x : PacLine) : Type 0 where
  line : Line
  is : line_in t x ≡ Some line
  made : operands line ≡ operands_in x
  kept : (keeps : ℕ → Bool) → is_kept keeps line ≡ keeps (id_in x)

says : (t : Table) (x : PacLine) → 0 < id_in x → Says t x
says t (pac.Sum id i j p) h = record { line = algebra.Sum id i j (monomials_in t p); is = refl; made = refl; kept = λ keeps. refl }
says t (pac.Product id i q p) h = record { line = algebra.Product id i (monomials_in t q) (monomials_in t p); is = refl; made = refl; kept = λ keeps. refl }
says t (pac.Combination id parts p) h = record { line = algebra.Combination id (map (part_in t) parts) (monomials_in t p); is = refl; made = parts_ids t parts; kept = λ keeps. refl }
says t (pac.Import id n p) h = record { line = algebra.Import id n (monomials_in t p); is = refl; made = refl; kept = λ keeps. refl }
says t (pac.Drop id) h = absurd (omega arith)
says t (pac.Close id) h = absurd (omega arith)

-- ---- the kept ones of lines

module _ (t : Table) (keeps : ℕ → Bool) where
  -- the marks are those of the ids
  abbrev AreMarksOf : List PacLine → List Bool → Type 0
  AreMarksOf lines marks = (p : ℕ) → p < length lines → keeps (id_at lines p) ≡ slice_index_or marks p false

  later : (x : PacLine) (lines : List PacLine) (b : Bool) (marks : List Bool) → AreMarksOf (x ∷ lines) (b ∷ marks) → AreMarksOf lines marks
  later x lines b marks k p low = k (suc p) (omega arith)

  agree : (number : ℕ → ℕ) (lines : List PacLine) (marks : List Bool) → IntroduceIds lines → length marks ≡ length lines → AreMarksOf lines marks →
      kept_lines keeps number (lines_in t lines) ≡ map (renumbered number) (lines_in t (chosen marks lines))
  agree number [] [] h even k = refl
  agree number [] (b ∷ marks) h even k = absurd (omega arith)
  agree number (x ∷ lines) [] h even k = absurd (omega arith)
  agree number (x ∷ lines) (b ∷ marks) h even k =
      let s = says t x (All-head (λ y. 0 < id_in y) x lines h) in
      let rest = filter (is_kept keeps) (lines_in t lines) in
      ap (λ (o : Option Line). kept_lines keeps number (cons_option o (lines_in t lines))) s.is ∙
      (ap (λ (c : Bool). map (renumbered number) (cond c (s.line ∷ rest) rest)) (s.kept keeps ∙ k 0 (omega arith)) ∙
      go s b (agree number lines marks (All-tail (λ y. 0 < id_in y) x lines h) (omega arith) (later x lines b marks k)))
    where
      go : (s : Says t x) (c : Bool) → kept_lines keeps number (lines_in t lines) ≡ map (renumbered number) (lines_in t (chosen marks lines)) →
          map (renumbered number) (cond c (s.line ∷ filter (is_kept keeps) (lines_in t lines)) (filter (is_kept keeps) (lines_in t lines))) ≡ map (renumbered number) (lines_in t (chosen (c ∷ marks) (x ∷ lines)))
      go s true e = ap (λ (zs : List Line). renumbered number s.line ∷ zs) e ∙ sym (ap (λ (o : Option Line). map (renumbered number) (cons_option o (lines_in t (chosen marks lines)))) s.is)
      go s false e = e

  -- what holds of what each line is made of
  along : (lines : List PacLine) → IntroduceIds lines → ((p : ℕ) → p < length lines → keeps (id_at lines p) ≡ true → All (λ id. keeps id ≡ true) (operands_at lines p)) →
      All (λ x. is_kept keeps x ≡ true → All (λ id. keeps id ≡ true) (operands x)) (lines_in t lines)
  along [] h k = All-nil (λ x. is_kept keeps x ≡ true → All (λ id. keeps id ≡ true) (operands x))
  along (x ∷ lines) h k =
      let s = says t x (All-head (λ y. 0 < id_in y) x lines h) in
      subst (λ (o : Option Line). All (λ y. is_kept keeps y ≡ true → All (λ id. keeps id ≡ true) (operands y)) (cons_option o (lines_in t lines))) (sym s.is)
      (All-cons (λ y. is_kept keeps y ≡ true → All (λ id. keeps id ≡ true) (operands y)) s.line (lines_in t lines)
      (λ e. subst (All (λ id. keeps id ≡ true)) (sym s.made) (k 0 (omega arith) (sym (s.kept keeps) ∙ e)))
      (along lines (All-tail (λ y. 0 < id_in y) x lines h) (λ p low e. k (suc p) (omega arith) e)))

  -- what holds of each chosen line holds of each that is kept
  of_kept : (P : Line → Type 0) (lines : List PacLine) (marks : List Bool) → IntroduceIds lines → length marks ≡ length lines → AreMarksOf lines marks →
      All P (lines_in t (chosen marks lines)) → All (λ x. is_kept keeps x ≡ true → P x) (lines_in t lines)
  of_kept P [] marks h even k all = All-nil (λ x. is_kept keeps x ≡ true → P x)
  of_kept P (x ∷ lines) [] h even k all = absurd (omega arith)
  of_kept P (x ∷ lines) (b ∷ marks) h even k all =
      let s = says t x (All-head (λ y. 0 < id_in y) x lines h) in
      subst (λ (o : Option Line). All (λ y. is_kept keeps y ≡ true → P y) (cons_option o (lines_in t lines))) (sym s.is)
      (go s b (λ r. of_kept P lines marks (All-tail (λ y. 0 < id_in y) x lines h) (omega arith) (later x lines b marks k) r) (s.kept keeps ∙ k 0 (omega arith)) all)
    where
      go : (s : Says t x) (c : Bool) → (All P (lines_in t (chosen marks lines)) → All (λ y. is_kept keeps y ≡ true → P y) (lines_in t lines)) → is_kept keeps s.line ≡ c →
          All P (lines_in t (chosen (c ∷ marks) (x ∷ lines))) → All (λ y. is_kept keeps y ≡ true → P y) (s.line ∷ lines_in t lines)
      go s true next e all' =
          let both = subst (λ (o : Option Line). All P (cons_option o (lines_in t (chosen marks lines)))) s.is all' in
          All-cons (λ y. is_kept keeps y ≡ true → P y) s.line (lines_in t lines) (λ f. All-head P s.line (lines_in t (chosen marks lines)) both) (next (All-tail P s.line (lines_in t (chosen marks lines)) both))
      go s false next e all' = All-cons (λ y. is_kept keeps y ≡ true → P y) s.line (lines_in t lines) (λ f. absurd (cc)) (next all')

-- over any premises that have what kept lines import
pub kept_lines_close : (p q : Premises) (s : Sides) (t : Table) (number : ℕ → ℕ) (lines kept : List PacLine) (closing : ℕ) → AreLinesKept lines closing kept → AreRisingIds (ids_in lines) → IntroduceIds lines →
    AreLawful p s (lines_in t lines) closing → q.extended ≡ p.extended → All (IsImportKept p.imports q.imports number) (lines_in t kept) →
    AreLawful q s (map (renumbered number) (lines_in t kept)) closing
kept_lines_close p q s t number lines kept closing k up h lawful extended imports =
    subst (λ (xs : List PacLine). AreLawful q s (map (renumbered number) (lines_in t xs)) closing) (sym k.lines_are)
    (subst (λ (xs : List Line). AreLawful q s xs closing) (agree t (mark_of (ids_in lines) k.marks) number lines k.marks h k.long at_place)
    (kept_lines_are_lawful p q s (mark_of (ids_in lines) k.marks) number (lines_in t lines) closing lawful closed (record {
      extended = extended;
      imports = of_kept t (mark_of (ids_in lines) k.marks) (IsImportKept p.imports q.imports number) lines k.marks h k.long at_place
          (subst (λ (xs : List PacLine). All (IsImportKept p.imports q.imports number) (lines_in t xs)) k.lines_are imports);
    })))
  where
    many : length (ids_in lines) ≡ length lines
    many = length-map lines id_in

    at_place : (i : ℕ) → i < length lines → mark_of (ids_in lines) k.marks (id_at lines i) ≡ slice_index_or k.marks i false
    at_place i low = mark_at (ids_in lines) k.marks up (k.long ∙ sym many) i (omega (arith, many))

    one : (i : ℕ) → i < length lines → IsSet k.marks i → (o : ℕ) → Contains (operands_at lines i) o → mark_of (ids_in lines) k.marks o ≡ true
    one i low set o has = ⊎_elim (λ m. m)
        (λ r. let inside : r.0 < length lines = omega (arith, r.1, many) in
        subst (λ (x : ℕ). mark_of (ids_in lines) k.marks x ≡ true) r.2 (at_place r.0 inside ∙ k.operands i r.0 low inside set (subst (Contains (operands_at lines i)) (sym r.2) has)))
        (mark_cases (ids_in lines) k.marks o)

    made : (i : ℕ) → i < length lines → mark_of (ids_in lines) k.marks (id_at lines i) ≡ true → All (λ id. mark_of (ids_in lines) k.marks id ≡ true) (operands_at lines i)
    made i low e j d inside = one i low (sym (at_place i low) ∙ e) (slice_index_or (operands_at lines i) j d) (Contains-get_or (operands_at lines i) j d inside)

    closed : AreIdsClosed (mark_of (ids_in lines) k.marks) (lines_in t lines) closing
    closed = record {
      operands_kept = along t (mark_of (ids_in lines) k.marks) lines h made;
      closing_kept = ⊎_elim (λ m. m)
          (λ r. let inside : r.0 < length lines = omega (arith, r.1, many) in subst (λ (x : ℕ). mark_of (ids_in lines) k.marks x ≡ true) r.2 (at_place r.0 inside ∙ k.closes r.0 inside r.2))
          (mark_cases (ids_in lines) k.marks closing);
    }
