-- Which lines are read as what they say, once they are written.
use Rattle.std.specs.Prelude.{◌≡◌, ◌⊎◌, ◌<◌, ℕ, zero, suc, List, [], ◌∷◌, map, IsSome, IsSomeAnd}
use Rattle.std.specs.declared.option.Option.{Option}
use Rattle.std.specs.declared.option.Option.TheVariants.{None, Some}
use Rattle.std.specs.List.{All, AllByRecursion, cons_option}
use Rattle.std.proofs.Common.{refl, subst, ◌∙◌, ⊎_elim}
use Rattle.std.proofs.lemmas.List.Elements.{All-nil, All-cons, All-head, All-tail, recursion_from_All}
use Rattle.graph_core.specs.Graph.Assignments.{Assignment}
use Rattle.algebra_core.specs.AlgebraLines.{AreLawfulLines, IsThere, Ledger, Line, Part, after, import_of}
use Rattle.algebra_core.specs.AlgebraLines as algebra
use Rattle.algebra_core.specs.Text.{IsId, IsInRange, IsLineInRange}
use Rattle.poly_terms.specs.Tables.{Table, monomials_in}
use Rattle.poly_terms.specs.Tables as table
use Rattle.poly_text.specs.declared.line.PacLine.{PacLine}
use Rattle.poly_text.specs.declared.line.PacLine.TheVariants.{Sum, Product, Combination, Import, Drop, Close}
use Rattle.poly_text.specs.LineTexts.{IsOfVersion}
use Rattle.poly_text.specs.Lines.{AreOf, line_in, part_in}
use Rattle.poly_text.specs.WrittenLaws.{AreUpTo, IsUpTo}
use Rattle.poly_text.specs.WrittenLines.{IsWritable}
use Rattle.pac_writer.specs.Kept.{IsKeptLine, IsPlainLine}
use Rattle.pac_writer.specs.LawfulTexts.{AreReadable}
use Rattle.poly_text.specs.Recorded.{lines_in}

-- A line that isn't a closing one, which is read as what it says in a file of this version.
pub record IsTold (version max : ℕ) (t : Table) (x : PacLine) : Type 0 where
  pub goes_on : IsSome (line_in t x)
  pub of : AreOf t x
  pub writable : IsWritable x
  pub up_to : AreUpTo max t x
  pub of_version : IsOfVersion version x

-- ---- lines that are made

goes_on_is_line : (t : Table) (x : PacLine) → IsPlainLine x → IsSome (line_in t x)
goes_on_is_line t (Sum id i j poly) h = refl
goes_on_is_line t (Product id i factor poly) h = refl
goes_on_is_line t (Combination id parts poly) h = refl
goes_on_is_line t (Import id number poly) h = absurd h
goes_on_is_line t (Drop id) h = refl
goes_on_is_line t (Close id) h = absurd h

-- each version has it
of_each_version : (version : ℕ) (x : PacLine) → IsPlainLine x → IsOfVersion version x
of_each_version version (Sum id i j poly) h = tt
of_each_version version (Product id i factor poly) h = tt
of_each_version version (Combination id parts poly) h = tt
of_each_version version (Import id number poly) h = absurd h
of_each_version version (Drop id) h = tt
of_each_version version (Close id) h = absurd h

pub kept_goes_on : (max : ℕ) (t : Table) (x : PacLine) → IsKeptLine max t x → IsSome (line_in t x)
kept_goes_on max t x h = goes_on_is_line t x h.goes_on

pub kept_is_told : (version max : ℕ) (t : Table) (x : PacLine) → IsKeptLine max t x → IsTold version max t x
kept_is_told version max t x h = record { goes_on = kept_goes_on max t x h; «of» = h.«of»; writable = h.writable; up_to = h.up_to; of_version = of_each_version version x h.goes_on }

-- ---- lines in range

poly_up_to : (max : ℕ) (t : Table) (p : table.Sum) → IsInRange max (monomials_in t p) → IsUpTo max t p
poly_up_to max t p h k d low j e within = ((h k d low).1 j e within).1

parts_up_to : (max : ℕ) (t : Table) (parts : List (ℕ × table.Sum)) → All (λ (part : Part). IsId part.id × IsInRange max part.factor) (map (part_in t) parts) → All (λ part. IsUpTo max t part.1) parts
parts_up_to max t [] h = All-nil (λ part. IsUpTo max t part.1)
parts_up_to max t (part ∷ parts) h =
    let P : Part → Type 0 = λ part. IsId part.id × IsInRange max part.factor in
    All-cons (λ part. IsUpTo max t part.1) part parts (poly_up_to max t part.1 (All-head P (part_in t part) (map (part_in t) parts) h).1)
    (parts_up_to max t parts (All-tail P (part_in t part) (map (part_in t) parts) h))

line_up_to : (max : ℕ) (t : Table) (x : PacLine) → IsSomeAnd (line_in t x) (IsLineInRange max) → AreUpTo max t x
line_up_to max t (Sum id i j poly) h = poly_up_to max t poly h.3
line_up_to max t (Product id i factor poly) h = (poly_up_to max t factor h.2, poly_up_to max t poly h.3)
line_up_to max t (Combination id parts poly) h = (parts_up_to max t parts h.1, poly_up_to max t poly h.2)
line_up_to max t (Import id number poly) h = poly_up_to max t poly h.2
line_up_to max t (Drop id) h = tt
line_up_to max t (Close id) h = tt

-- ---- lawful lines are of the version

nothing_there : (number : ℕ) → IsSome (import_of [] number) → ⊥
nothing_there zero h = cc h
nothing_there (suc i) h = cc h

of_version : (version : ℕ) (t : Table) (imports : List (Assignment → ℕ)) (x : PacLine) → (1 < version) ⊎ (imports ≡ []) → IsSomeAnd (line_in t x) (IsThere imports) → IsOfVersion version x
of_version version t imports (Sum id i j poly) two h = tt
of_version version t imports (Product id i factor poly) two h = tt
of_version version t imports (Combination id parts poly) two h = tt
of_version version t imports (Import id number poly) two h = ⊎_elim (λ is. is) (λ none. absurd (nothing_there number (subst (λ fs. IsSome (import_of fs number)) none h))) two
of_version version t imports (Drop id) two h = tt
of_version version t imports (Close id) two h = tt

imports_stay : (m : ℕ) (l : Ledger) (y : Line) → (after m l y).imports ≡ l.imports
imports_stay m l (algebra.Sum id i j p) = refl
imports_stay m l (algebra.Product id i q p) = refl
imports_stay m l (algebra.Combination id parts p) = refl
imports_stay m l (algebra.Import id number p) = refl
imports_stay m l (algebra.Delete id) = refl

-- ---- all lines

-- what the first line imports is there, and the others are lawful over a ledger with the same to import
lawful_first : (m : ℕ) (l : Ledger) (o : Option Line) (ys : List Line) → IsSome o → AreLawfulLines m l (cons_option o ys) →
    IsSomeAnd o (IsThere l.imports) × ((k : Ledger) × (k.imports ≡ l.imports) × AreLawfulLines m k ys)
lawful_first m l None ys some h = absurd (cc some)
lawful_first m l (Some y) ys some h = (h.0.there, (after m l y, imports_stay m l y, h.1))

-- the first line is in range, and the others are
range_first : (max : ℕ) (o : Option Line) (ys : List Line) → IsSome o → AllByRecursion (IsLineInRange max) (cons_option o ys) →
    IsSomeAnd o (IsLineInRange max) × AllByRecursion (IsLineInRange max) ys
range_first max None ys some h = absurd (cc some)
range_first max (Some y) ys some h = h

module _ (version max m : ℕ) (t : Table) (imports : List (Assignment → ℕ)) (two : (1 < version) ⊎ (imports ≡ [])) where
  told : (l : Ledger) (xs : List PacLine) → l.imports ≡ imports → AllByRecursion (λ x. IsSome (line_in t x)) xs → AllByRecursion (AreOf t) xs → AllByRecursion IsWritable xs →
      AllByRecursion (IsLineInRange max) (lines_in t xs) → AreLawfulLines m l (lines_in t xs) → AllByRecursion (IsTold version max t) xs
  told l [] same go_on are writable in_range lawful = tt
  told l (x ∷ xs) same go_on are writable in_range lawful =
      let range = range_first max (line_in t x) (lines_in t xs) go_on.0 in_range in
      let first = lawful_first m l (line_in t x) (lines_in t xs) go_on.0 lawful in (
        record {
          goes_on = go_on.0;
          «of» = are.0;
          writable = writable.0;
          up_to = line_up_to max t x range.0;
          of_version = of_version version t imports x two (subst (λ fs. IsSomeAnd (line_in t x) (IsThere fs)) same first.0);
        },
        told first.1.0 xs (first.1.1 ∙ same) go_on.1 are.1 writable.1 range.1 first.1.2,
      )

  pub readable_are_told : (l : Ledger) (xs : List PacLine) → l.imports ≡ imports → AreReadable max t xs → AreLawfulLines m l (lines_in t xs) → AllByRecursion (IsTold version max t) xs
  readable_are_told l xs same h lawful =
      told l xs same (recursion_from_All (λ x. IsSome (line_in t x)) xs h.go_on) (recursion_from_All (AreOf t) xs h.«of») (recursion_from_All IsWritable xs h.writable)
      (recursion_from_All (IsLineInRange max) (lines_in t xs) h.in_range) lawful
