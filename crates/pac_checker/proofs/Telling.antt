-- Lines keep their meaning as the table grows, and what a line says of its id and of what it is made of.
use Rattle.std.specs.Prelude.{◌≡◌, ◌<◌, ℕ, true, List, [], ◌∷◌, map, IfSome}
use Rattle.std.specs.declared.option.Option.{Option}
use Rattle.std.specs.declared.option.Option.TheVariants.{Some}
use Rattle.std.specs.List.{All, AllByRecursion, cons_option}
use Rattle.std.proofs.Common.{refl, sym, ap, ap₂, subst}
use Rattle.std.proofs.lemmas.List.Elements.{recursion_from_All}
use Rattle.algebra_core.specs.Polynomials.{Polynomial}
use Rattle.algebra_core.specs.AlgebraLines.{Line, Part, Ledger, IsNewId, after, operands}
use Rattle.algebra_core.specs.AlgebraLines as algebra
use Rattle.algebra_core.specs.Text.{IsLineInRange}
use Rattle.poly_terms.specs.Tables.{Table, Extends, IsOf}
use Rattle.poly_terms.specs.Tables as table
use Rattle.poly_terms.specs.Laws.{monomials_stay, stays}
use Rattle.poly_text.specs.declared.line.PacLine.{PacLine}
use Rattle.poly_text.specs.declared.line.PacLine.TheVariants.{Sum, Product, Combination, Import, Drop, Close}
use Rattle.poly_text.specs.Lines.{AreOf, line_in, part_in}
use Rattle.poly_text.specs.Recorded.{HasNewId, id_in, lines_in, operands_in}
use Rattle.pac_checker.specs.Checking.{IsRecordable, recorded_of}
use Rattle.pac_checker.specs.Recording.{Covers, kept_of}
use Rattle.pac_checker.proofs.Covering.{covers_new}

-- ---- over a table that has grown

parts_stay : (old new : Table) (parts : List (ℕ × table.Sum)) → Extends old new → AllByRecursion (λ part. IsOf old part.1) parts → map (part_in new) parts ≡ map (part_in old) parts
parts_stay old new [] e h = refl
parts_stay old new (part ∷ parts) e h =
    ap₂ ◌∷◌ (ap (λ (q : Polynomial). record { id = part.0; factor = q }) (monomials_stay old new part.1 e h.0)) (parts_stay old new parts e h.1)

line_stays : (old new : Table) (x : PacLine) → Extends old new → AreOf old x → line_in new x ≡ line_in old x
line_stays old new (Sum id i j poly) e h = ap (λ p. Some (algebra.Sum id i j p)) (monomials_stay old new poly e h)
line_stays old new (Product id i factor poly) e h = ap₂ (λ q p. Some (algebra.Product id i q p)) (monomials_stay old new factor e h.0) (monomials_stay old new poly e h.1)
line_stays old new (Combination id parts poly) e h =
    ap₂ (λ ps p. Some (algebra.Combination id ps p)) (parts_stay old new parts e (recursion_from_All (λ part. IsOf old part.1) parts h.0)) (monomials_stay old new poly e h.1)
line_stays old new (Import id number poly) e h = ap (λ p. Some (algebra.Import id number p)) (monomials_stay old new poly e h)
line_stays old new (Drop id) e h = refl
line_stays old new (Close id) e h = refl

pub of_stays : (old new : Table) (x : PacLine) → Extends old new → AreOf old x → AreOf new x
of_stays old new (Sum id i j poly) e h = stays old new poly e h
of_stays old new (Product id i factor poly) e h = (stays old new factor e h.0, stays old new poly e h.1)
of_stays old new (Combination id parts poly) e h = ((λ k d low. stays old new _ e (h.0 k d low)), stays old new poly e h.1)
of_stays old new (Import id number poly) e h = stays old new poly e h
of_stays old new (Drop id) e h = tt
of_stays old new (Close id) e h = tt

pub recordable_stays : (max : ℕ) (old new : Table) (x : PacLine) → Extends old new → AreOf old x → IsRecordable max old x → IsRecordable max new x
recordable_stays max old new x e h r = record { writable = r.writable; in_range = subst (λ (o : Option Line). IfSome o (IsLineInRange max)) (sym (line_stays old new x e h)) r.in_range }

lines_stay_by : (old new : Table) (xs : List PacLine) → Extends old new → AllByRecursion (AreOf old) xs → lines_in new xs ≡ lines_in old xs
lines_stay_by old new [] e h = refl
lines_stay_by old new (x ∷ xs) e h = ap₂ cons_option (line_stays old new x e h.0) (lines_stay_by old new xs e h.1)

pub lines_stay : (old new : Table) (xs : List PacLine) → Extends old new → All (AreOf old) xs → lines_in new xs ≡ lines_in old xs
lines_stay old new xs e h = lines_stay_by old new xs e (recursion_from_All (AreOf old) xs h)

-- ---- a line that introduces an id

-- What the definitions say of it.
pub record IsTold (t : Table) (line : PacLine) (x : Line) : Type 0 where
  pub kept : kept_of line ≡ line ∷ []
  pub recorded : recorded_of true x ≡ x ∷ []
  pub new_id : HasNewId line
  pub above : (last : ℕ) → IsNewId last x → last < id_in line
  pub made_of : operands x ≡ operands_in line
  pub last : (m : ℕ) (l : Ledger) → (after m l x).last ≡ id_in line
  pub covers : (m : ℕ) (l k : Ledger) → Covers l k → Covers (after m l x) (after m k x)

part_ids : (t : Table) (parts : List (ℕ × table.Sum)) → map (λ (part : Part). part.id) (map (part_in t) parts) ≡ map (λ part. part.0) parts
part_ids t [] = refl
part_ids t (part ∷ parts) = ap (λ ids. part.0 ∷ ids) (part_ids t parts)

pub some_same : (x y : Line) → ◌≡◌ {A = Option Line} (Some x) (Some y) → x ≡ y
some_same x y e = cc

pub told : (t : Table) (line : PacLine) (x : Line) → HasNewId line → line_in t line ≡ Some x → IsTold t line x
told t (Sum id i j poly) x new is =
    subst (IsTold t (Sum id i j poly)) (some_same _ x is)
    (record { kept = refl; recorded = refl; new_id = tt; above = λ last new. new; made_of = refl; last = λ m l. refl; covers = λ m l k c. covers_new m l k c id (table.monomials_in t poly) })
told t (Product id i factor poly) x new is =
    subst (IsTold t (Product id i factor poly)) (some_same _ x is)
    (record { kept = refl; recorded = refl; new_id = tt; above = λ last new. new; made_of = refl; last = λ m l. refl; covers = λ m l k c. covers_new m l k c id (table.monomials_in t poly) })
told t (Combination id parts poly) x new is =
    subst (IsTold t (Combination id parts poly)) (some_same _ x is)
    (record { kept = refl; recorded = refl; new_id = tt; above = λ last new. new; made_of = part_ids t parts; last = λ m l. refl; covers = λ m l k c. covers_new m l k c id (table.monomials_in t poly) })
told t (Import id number poly) x new is =
    subst (IsTold t (Import id number poly)) (some_same _ x is)
    (record { kept = refl; recorded = refl; new_id = tt; above = λ last new. new; made_of = refl; last = λ m l. refl; covers = λ m l k c. covers_new m l k c id (table.monomials_in t poly) })
told t (Drop id) x new is = absurd new
told t (Close id) x new is = absurd new
