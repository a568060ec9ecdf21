-- Each line that is kept is used, and keeps what it says but for the number of an import.
use Rattle.std.specs.Prelude.{◌≡◌, ◌⊎◌, ℕ, zero, suc, ◌+◌, ◌-◌, ◌<◌, Bool, true, false, List, [], ◌∷◌, ◌++◌, drop, length, map, slice_index_or, take, IfSome}
use Rattle.std.specs.declared.option.Option.{Option}
use Rattle.std.specs.declared.option.Option.TheVariants.{None, Some}
use Rattle.std.specs.List.{All, Any, Contains, cons_option}
use Rattle.std.proofs.Common.{refl, sym, ap, ap₂, subst, ◌∙◌, arith, inl, inr, ⊎_elim}
use Rattle.std.proofs.lemmas.List.{get_or-append_right, get_or-drop, get_or-map, length-map, length-take-le}
use Rattle.std.proofs.lemmas.List.Elements.{All-head, All-tail}
use Rattle.clause_core.proofs.CallerLemmas.{any_here, any_there}
use Rattle.algebra_core.specs.AlgebraLines.{Line}
use Rattle.poly_terms.specs.Tables.{Table}
use Rattle.poly_text.specs.Lines.{line_in}
use Rattle.poly_text.specs.Recorded.{id_in, lines_in, operands_in}
use Rattle.poly_text.specs.declared.line.PacLine.{PacLine}
use Rattle.poly_text.specs.declared.line.PacLine.TheVariants as pac
use Rattle.clause_core.specs.KeptClauses.{chosen}
use Rattle.pair_trim.specs.KeptLines.{renumbered}
use Rattle.pair_trim.specs.Lines.{AreLinesUsed, all_renumbered, id_at, import_in, imports_in, operands_at, renumbered_in}
use Rattle.pair_trim.specs.Marking.{IsSet}
use Rattle.pair_trim.specs.Trimmed.{RenumberedLinesServe}

-- ---- kept lines

-- what holds of a marked element holds of one that is chosen
any_chosen : {X : Type 0} (P : X → Type 0) (marks : List Bool) (xs : List X) (p : ℕ) (d : X) → p < length xs → IsSet marks p → P (slice_index_or xs p d) → Any P (chosen marks xs)
any_chosen P [] xs p d low set h = absurd (cc)
any_chosen P (b ∷ marks) [] p d low set h = absurd (omega arith)
any_chosen P (true ∷ marks) (x ∷ xs) zero d low set h = any_here P x (chosen marks xs) h
any_chosen P (false ∷ marks) (x ∷ xs) zero d low set h = absurd (cc)
any_chosen P (true ∷ marks) (x ∷ xs) (suc p) d low set h = any_there P x (chosen marks xs) (any_chosen P marks xs p d (omega arith) set h)
any_chosen P (false ∷ marks) (x ∷ xs) (suc p) d low set h = any_chosen P marks xs p d (omega arith) set h

-- the closing line names it, or a later marked line is made of it
abbrev IsMarkUsed : List PacLine → ℕ → List Bool → ℕ → Type 0
IsMarkUsed lines closing marks q = (id_at lines q ≡ closing) ⊎ ((p : ℕ) × (q < p) × (p < length lines) × IsSet marks p × Contains (operands_at lines p) (id_at lines q))

used_later : (x : PacLine) (lines : List PacLine) (closing : ℕ) (b : Bool) (marks : List Bool) (q : ℕ) → IsMarkUsed (x ∷ lines) closing (b ∷ marks) (suc q) → IsMarkUsed lines closing marks q
used_later x lines closing b marks q h = ⊎_elim inl (λ r. inr (go r.0 r.1 r.2 r.3 r.4)) h
  where
    go : (p : ℕ) → suc q < p → p < length (x ∷ lines) → IsSet (b ∷ marks) p → Contains (operands_at (x ∷ lines) p) (id_at lines q) →
        (p : ℕ) × (q < p) × (p < length lines) × IsSet marks p × Contains (operands_at lines p) (id_at lines q)
    go zero before low set has = absurd (omega arith)
    go (suc p) before low set has = (p, omega arith, omega arith, set, has)

used_first : (x : PacLine) (lines : List PacLine) (closing : ℕ) (marks : List Bool) → IsMarkUsed (x ∷ lines) closing (true ∷ marks) 0 → (id_in x ≡ closing) ⊎ Any (λ y. Contains (operands_in y) (id_in x)) (chosen marks lines)
used_first x lines closing marks h = ⊎_elim inl (λ r. inr (go r.0 r.1 r.2 r.3 r.4)) h
  where
    go : (p : ℕ) → 0 < p → p < length (x ∷ lines) → IsSet (true ∷ marks) p → Contains (operands_at (x ∷ lines) p) (id_in x) → Any (λ y. Contains (operands_in y) (id_in x)) (chosen marks lines)
    go zero before low set has = absurd (omega arith)
    go (suc p) before low set has =
        let inside : p < length lines = omega arith in
        any_chosen (λ y. Contains (operands_in y) (id_in x)) marks lines p (pac.Drop 0) inside set (subst (λ (os : List ℕ). Contains os (id_in x)) (get_or-map operands_in lines p (pac.Drop 0) [] inside) has)

used_chosen : (lines : List PacLine) (closing : ℕ) (marks : List Bool) → ((q : ℕ) → q < length lines → IsSet marks q → IsMarkUsed lines closing marks q) → AreLinesUsed (chosen marks lines) closing
used_chosen lines closing [] h = tt
used_chosen [] closing (b ∷ marks) h = tt
used_chosen (x ∷ lines) closing (true ∷ marks) h =
    (used_first x lines closing marks (h 0 (omega arith) refl), used_chosen lines closing marks (λ q low set. used_later x lines closing true marks q (h (suc q) (omega arith) set)))
used_chosen (x ∷ lines) closing (false ∷ marks) h = used_chosen lines closing marks (λ q low set. used_later x lines closing false marks q (h (suc q) (omega arith) set))

-- ---- other numbers

same_id : (number : ℕ → ℕ) (x : PacLine) → id_in (renumbered_in number x) ≡ id_in x
same_id number (pac.Sum id i j p) = refl
same_id number (pac.Product id i q p) = refl
same_id number (pac.Combination id parts p) = refl
same_id number (pac.Import id n p) = refl
same_id number (pac.Drop id) = refl
same_id number (pac.Close id) = refl

same_operands : (number : ℕ → ℕ) (x : PacLine) → operands_in (renumbered_in number x) ≡ operands_in x
same_operands number (pac.Sum id i j p) = refl
same_operands number (pac.Product id i q p) = refl
same_operands number (pac.Combination id parts p) = refl
same_operands number (pac.Import id n p) = refl
same_operands number (pac.Drop id) = refl
same_operands number (pac.Close id) = refl

made_still : (number : ℕ → ℕ) (id : ℕ) (xs : List PacLine) → Any (λ y. Contains (operands_in y) id) xs → Any (λ y. Contains (operands_in y) id) (all_renumbered number xs)
made_still number id [] (k, y, low, is, h) = absurd (omega arith)
made_still number id (x ∷ xs) (zero, y, low, is, h) =
    any_here (λ z. Contains (operands_in z) id) (renumbered_in number x) (all_renumbered number xs)
    (subst (λ (os : List ℕ). Contains os id) (sym (same_operands number x)) (subst (λ (z : PacLine). Contains (operands_in z) id) (sym is) h))
made_still number id (x ∷ xs) (suc k, y, low, is, h) =
    any_there (λ z. Contains (operands_in z) id) (renumbered_in number x) (all_renumbered number xs) (made_still number id xs (k, y, omega arith, is, h))

used_still : (number : ℕ → ℕ) (closing : ℕ) (xs : List PacLine) → AreLinesUsed xs closing → AreLinesUsed (all_renumbered number xs) closing
used_still number closing [] h = tt
used_still number closing (x ∷ xs) h =
    (subst (λ (id : ℕ). (id ≡ closing) ⊎ Any (λ y. Contains (operands_in y) id) (all_renumbered number xs)) (sym (same_id number x)) (⊎_elim inl (λ m. inr (made_still number (id_in x) xs m)) h.0), used_still number closing xs h.1)

imports_still : (number : ℕ → ℕ) (xs : List PacLine) → imports_in (all_renumbered number xs) ≡ map number (imports_in xs)
imports_still number [] = refl
imports_still number (pac.Sum id i j p ∷ xs) = imports_still number xs
imports_still number (pac.Product id i q p ∷ xs) = imports_still number xs
imports_still number (pac.Combination id parts p ∷ xs) = imports_still number xs
imports_still number (pac.Import id n p ∷ xs) = ap (λ (ns : List ℕ). number n ∷ ns) (imports_still number xs)
imports_still number (pac.Drop id ∷ xs) = imports_still number xs
imports_still number (pac.Close id ∷ xs) = imports_still number xs

pub said_still : (number : ℕ → ℕ) (t : Table) (xs : List PacLine) → lines_in t (all_renumbered number xs) ≡ map (renumbered number) (lines_in t xs)
said_still number t [] = refl
said_still number t (x ∷ xs) = go x (said_still number t xs)
  where
    go : (y : PacLine) → lines_in t (all_renumbered number xs) ≡ map (renumbered number) (lines_in t xs) →
        cons_option (line_in t (renumbered_in number y)) (lines_in t (all_renumbered number xs)) ≡ map (renumbered number) (cons_option (line_in t y) (lines_in t xs))
    go (pac.Sum id i j p) e = ap₂ (λ (z : Line) (zs : List Line). z ∷ zs) refl e
    go (pac.Product id i q p) e = ap₂ (λ (z : Line) (zs : List Line). z ∷ zs) refl e
    go (pac.Combination id parts p) e = ap₂ (λ (z : Line) (zs : List Line). z ∷ zs) refl e
    go (pac.Import id n p) e = ap₂ (λ (z : Line) (zs : List Line). z ∷ zs) refl e
    go (pac.Drop id) e = ap₂ (λ (z : Line) (zs : List Line). z ∷ zs) refl e
    go (pac.Close id) e = e

pub renumbered_lines_serve : RenumberedLinesServe
renumbered_lines_serve = record {
  used = λ lines kept closing number k. used_still number closing kept (subst (λ (xs : List PacLine). AreLinesUsed xs closing) (sym k.lines_are) (used_chosen lines closing k.marks k.used));
  imports = imports_still;
  said = said_still;
}

-- ---- imports that are in range

-- what holds of each imported number holds of the one that the line at a place imports
pub import_at : (P : ℕ → Type 0) (lines : List PacLine) (p : ℕ) (d : PacLine) → p < length lines → All P (imports_in lines) → IfSome (import_in (slice_index_or lines p d)) P
import_at P [] p d low h = absurd (omega arith)
import_at P (x ∷ lines) zero d low h = head (import_in x) (imports_in lines) h
  where
    head : (o : Option ℕ) (ns : List ℕ) → All P (cons_option o ns) → IfSome o P
    head None ns h' = tt
    head (Some n) ns h' = All-head P n ns h'
import_at P (x ∷ lines) (suc p) d low h = import_at P lines p d (omega arith) (tail (import_in x) (imports_in lines) h)
  where
    tail : (o : Option ℕ) (ns : List ℕ) → All P (cons_option o ns) → All P ns
    tail None ns h' = h'
    tail (Some n) ns h' = All-tail P n ns h'

-- a line that a loop in place hasn't come to
pub at_still : (f : PacLine → PacLine) (xs ys : List PacLine) (i : ℕ) (d : PacLine) → i < length xs → ys ≡ map f (take i xs) ++ drop i xs → slice_index_or ys i d ≡ slice_index_or xs i d
at_still f xs ys i d low e =
    let none : i + (i - i) ≡ i = omega arith in
    ap (λ (zs : List PacLine). slice_index_or zs i d) e ∙ (get_or-append_right (map f (take i xs)) (drop i xs) i i d (length-map (take i xs) f ∙ length-take-le i xs (omega arith)) (omega arith) ∙
    (get_or-drop i xs (i - i) d ∙ ap (λ (k : ℕ). slice_index_or xs k d) none))
