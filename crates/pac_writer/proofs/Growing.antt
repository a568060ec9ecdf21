-- Lines keep their meaning as the table grows.
use Rattle.std.specs.Prelude.{◌≡◌, ℕ, ◌≤◌, List, [], ◌∷◌, map}
use Rattle.std.specs.declared.option.Option.{Option}
use Rattle.std.specs.declared.option.Option.TheVariants.{Some}
use Rattle.std.specs.List.{All, AllByRecursion, cons_option}
use Rattle.std.proofs.Common.{refl, sym, ap, ap₂, subst, ◌∙◌}
use Rattle.std.proofs.lemmas.List.Elements.{recursion_from_All}
use Rattle.algebra_core.specs.Polynomials.{Polynomial}
use Rattle.graph_core.specs.Graph.Extended as graphs
use Rattle.algebra_core.specs.AlgebraLines as algebra
use Rattle.graph_core.specs.Graph.Operands.{Sides}
use Rattle.graph_core.specs.Graph.Extended.{Extended}
use Rattle.mv_nums.specs.Residue.{IsWidth}
use Rattle.poly_terms.specs.Tables.{Table, Extends, IsOf, monomials_in}
use Rattle.poly_terms.specs.Tables as table
use Rattle.poly_terms.specs.Laws.{modulus_stays, stays, monomials_stay}
use Rattle.poly_text.specs.declared.line.PacLine.{PacLine}
use Rattle.poly_text.specs.declared.line.PacLine.TheVariants.{Sum, Product, Combination, Import, Drop, Close}
use Rattle.poly_text.specs.Lines.{AreOf, line_in, part_in}
use Rattle.poly_text.specs.WrittenLaws.{AreUpTo, IsUpTo}
use Rattle.pac_writer.specs.Writing.{GrowsWrittenTable, made_of}
use Rattle.poly_text.specs.Recorded.{lines_in}
use Rattle.pac_writer.specs.Kept.{AreKept, IsKeptLine}

-- ---- a line

parts_stay : (old new : Table) (parts : List (ℕ × table.Sum)) → Extends old new → AllByRecursion (λ part. IsOf old part.1) parts → map (part_in new) parts ≡ map (part_in old) parts
parts_stay old new [] e h = refl
parts_stay old new (part ∷ parts) e h =
    ap₂ ◌∷◌ (ap (λ (q : Polynomial). record { id = part.0; factor = q }) (monomials_stay old new part.1 e h.0)) (parts_stay old new parts e h.1)

told_stays : (old new : Table) (x : PacLine) → Extends old new → AreOf old x → line_in new x ≡ line_in old x
told_stays old new (Sum id i j poly) e h = ap (λ p. Some (algebra.Sum id i j p)) (monomials_stay old new poly e h)
told_stays old new (Product id i factor poly) e h = ap₂ (λ q p. Some (algebra.Product id i q p)) (monomials_stay old new factor e h.0) (monomials_stay old new poly e h.1)
told_stays old new (Combination id parts poly) e h =
    ap₂ (λ ps p. Some (algebra.Combination id ps p)) (parts_stay old new parts e (recursion_from_All (λ part. IsOf old part.1) parts h.0)) (monomials_stay old new poly e h.1)
told_stays old new (Import id number poly) e h = ap (λ p. Some (algebra.Import id number p)) (monomials_stay old new poly e h)
told_stays old new (Drop id) e h = refl
told_stays old new (Close id) e h = refl

of_stays : (old new : Table) (x : PacLine) → Extends old new → AreOf old x → AreOf new x
of_stays old new (Sum id i j poly) e h = stays old new poly e h
of_stays old new (Product id i factor poly) e h = (stays old new factor e h.0, stays old new poly e h.1)
of_stays old new (Combination id parts poly) e h = ((λ k d low. stays old new _ e (h.0 k d low)), stays old new poly e h.1)
of_stays old new (Import id number poly) e h = stays old new poly e h
of_stays old new (Drop id) e h = tt
of_stays old new (Close id) e h = tt

poly_up_to : (max : ℕ) (old new : Table) (p : table.Sum) → Extends old new → IsOf old p → IsUpTo max old p → IsUpTo max new p
poly_up_to max old new p e h up = subst (λ (q : Polynomial). All (λ term. All (λ v. v ≤ max) term.variables) q) (sym (monomials_stay old new p e h)) up

up_to_stays : (max : ℕ) (old new : Table) (x : PacLine) → Extends old new → AreOf old x → AreUpTo max old x → AreUpTo max new x
up_to_stays max old new (Sum id i j poly) e h up = poly_up_to max old new poly e h up
up_to_stays max old new (Product id i factor poly) e h up = (poly_up_to max old new factor e h.0 up.0, poly_up_to max old new poly e h.1 up.1)
up_to_stays max old new (Combination id parts poly) e h up = ((λ k d low. poly_up_to max old new _ e (h.0 k d low) (up.0 k d low)), poly_up_to max old new poly e h.1 up.1)
up_to_stays max old new (Import id number poly) e h up = poly_up_to max old new poly e h up
up_to_stays max old new (Drop id) e h up = tt
up_to_stays max old new (Close id) e h up = tt

kept_stays : (max : ℕ) (old new : Table) (x : PacLine) → Extends old new → IsKeptLine max old x → IsKeptLine max new x
kept_stays max old new x e h = record { goes_on = h.goes_on; «of» = of_stays old new x e h.«of»; writable = h.writable; up_to = up_to_stays max old new x e h.«of» h.up_to }

exponent_stays : (old new : Table) → Extends old new → new.exponent ≡ old.exponent
unfolding Extends
exponent_stays old new e = e.0

-- ---- all lines

lines_stay : (max : ℕ) (old new : Table) (xs : List PacLine) → Extends old new → AllByRecursion (IsKeptLine max old) xs → lines_in new xs ≡ lines_in old xs
lines_stay max old new [] e h = refl
lines_stay max old new (x ∷ xs) e h = ap₂ cons_option (told_stays old new x e h.0.«of») (lines_stay max old new xs e h.1)

pub lines_keep : (e : Extended) (s : Sides) (old new : Table) (xs : List PacLine) (last : ℕ) (closing : Option ℕ) → Extends old new → AreKept e s old xs last closing →
    AreKept e s new xs last closing × GrowsWrittenTable (made_of e s old xs last closing) (made_of e s new xs last closing)
lines_keep e s old new xs last closing grows h =
    let same = lines_stay e.max old new xs grows (recursion_from_All (IsKeptLine e.max old) xs h.kept) in (
      record {
        small = h.small;
        exponent = subst IsWidth (sym (exponent_stays old new grows)) h.exponent;
        kept = λ k d low. kept_stays e.max old new _ grows (h.kept k d low);
        so_far = record {
          same_modulus = modulus_stays old new grows ∙ h.so_far.same_modulus;
          lawful = subst (λ ys. algebra.AreLawfulLines (graphs.modulus e) (algebra.axioms e) ys) (sym same) h.so_far.lawful;
          spare = rw same h.so_far.spare;
          greatest = rw same h.so_far.greatest;
          room = h.so_far.room;
          ids = rw same h.so_far.ids;
          closes = rw same h.so_far.closes;
        };
      },
      record { extended = refl; sides = refl; table = grows; lines = same; last = refl; closing = refl },
    )
