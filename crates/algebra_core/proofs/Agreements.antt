-- Ledgers that agree take the same lines, refuse the same for the same causes, and agree afterwards.
use Rattle.std.specs.Prelude.{IsSome, is_some, not, cond, ◌==◌}
use Rattle.std.proofs.Common.{inl, inr, ◌≡◌, ℕ, zero, suc, ◌+◌, ◌*◌, ◌%◌, Bool, true, false, List, [], ◌∷◌, refl, sym, ap, ap₂, subst, ◌∙◌}
use Rattle.std.specs.declared.option.Option.{Option}
use Rattle.std.specs.declared.option.Option.TheVariants.{None, Some}
use Rattle.std.specs.List.{filter}
use Rattle.std.proofs.lemmas.Bool.{eqb-true}
use Rattle.graph_core.specs.Graph.Operands.{Sides}
use Rattle.graph_core.specs.Graph.Assignments.{Assignment}
use Rattle.algebra_core.specs.Polynomials.{Polynomial, value}
use Rattle.graph_core.specs.Graph.Extended.{Extended, modulus}
use Rattle.algebra_core.specs.AlgebraLines.{LiveLine, Line, Part, Sum, Product, Combination, Import, Delete, Ledger, IsLive, IsThere, import_of, import_or_zero, line_of, value_of, value_or_zero, combined, named, operands, IsNewId, IsLawfulLine, introduce, after, Closes}
use Rattle.algebra_core.specs.Refusal.{AlgebraCause, first_missing, IsRefusedLine, IsRefusedClose}
use Rattle.algebra_core.specs.InRange.{IsRefusedInRange, IsRefusedCloseInRange}
use Rattle.algebra_core.specs.Agreement.{AreSame, AreSameImports, AreSameLines, LedgersAgree}

pub same_refl : (x : Option LiveLine) → AreSame x x
same_refl None = tt
same_refl (Some x) = λ σ. refl

pub same_of : (x y : Option LiveLine) → x ≡ y → AreSame x y
same_of x y e = subst (AreSame x) e (same_refl x)

pub same_sym : (x y : Option LiveLine) → AreSame x y → AreSame y x
same_sym None None h = tt
same_sym None (Some y) h = absurd h
same_sym (Some x) None h = absurd h
same_sym (Some x) (Some y) h = λ σ. sym (h σ)

pub same_trans : (x y z : Option LiveLine) → AreSame x y → AreSame y z → AreSame x z
same_trans None None z h j = j
same_trans None (Some y) z h j = absurd h
same_trans (Some x) None z h j = absurd h
same_trans (Some x) (Some y) None h j = absurd j
same_trans (Some x) (Some y) (Some z) h j = λ σ. h σ ∙ j σ

pub same_value : (x y : Option LiveLine) → AreSame x y → (σ : Assignment) → value_or_zero x σ ≡ value_or_zero y σ
same_value None None h σ = refl
same_value None (Some y) h σ = absurd h
same_value (Some x) None h σ = absurd h
same_value (Some x) (Some y) h σ = h σ

same_there : (x y : Option LiveLine) → AreSame x y → is_some x ≡ is_some y
same_there None None h = refl
same_there None (Some y) h = absurd h
same_there (Some x) None h = absurd h
same_there (Some x) (Some y) h = refl

same_live : (x y : Option LiveLine) → AreSame x y → IsSome x → IsSome y
same_live None None h s = s
same_live None (Some y) h s = absurd h
same_live (Some x) None h s = absurd h
same_live (Some x) (Some y) h s = refl

-- ---- what may be imported

pub imports_refl : (fs : List (Assignment → ℕ)) → AreSameImports fs fs
imports_refl [] = tt
imports_refl (f ∷ fs) = ((λ σ. refl), imports_refl fs)

imports_sym : (fs gs : List (Assignment → ℕ)) → AreSameImports fs gs → AreSameImports gs fs
imports_sym [] [] h = tt
imports_sym [] (g ∷ gs) h = absurd h
imports_sym (f ∷ fs) [] h = absurd h
imports_sym (f ∷ fs) (g ∷ gs) h = ((λ σ. sym (h.0 σ)), imports_sym fs gs h.1)

imports_trans : (fs gs hs : List (Assignment → ℕ)) → AreSameImports fs gs → AreSameImports gs hs → AreSameImports fs hs
imports_trans [] [] hs h j = j
imports_trans [] (g ∷ gs) hs h j = absurd h
imports_trans (f ∷ fs) [] hs h j = absurd h
imports_trans (f ∷ fs) (g ∷ gs) [] h j = absurd j
imports_trans (f ∷ fs) (g ∷ gs) (k ∷ hs) h j = ((λ σ. h.0 σ ∙ j.0 σ), imports_trans fs gs hs h.1 j.1)

import_same : (fs gs : List (Assignment → ℕ)) → AreSameImports fs gs → (number : ℕ) (σ : Assignment) → import_or_zero (import_of fs number) σ ≡ import_or_zero (import_of gs number) σ
import_same fs gs h zero σ = refl
import_same [] [] h (suc i) σ = refl
import_same [] (g ∷ gs) h (suc i) σ = absurd h
import_same (f ∷ fs) [] h (suc i) σ = absurd h
import_same (f ∷ fs) (g ∷ gs) h (suc zero) σ = h.0 σ
import_same (f ∷ fs) (g ∷ gs) h (suc (suc i)) σ = import_same fs gs h.1 (suc i) σ

import_there : (fs gs : List (Assignment → ℕ)) → AreSameImports fs gs → (number : ℕ) → IsSome (import_of fs number) → IsSome (import_of gs number)
import_there fs gs h zero s = absurd (cc)
import_there [] [] h (suc i) s = s
import_there [] (g ∷ gs) h (suc i) s = absurd h
import_there (f ∷ fs) [] h (suc i) s = absurd h
import_there (f ∷ fs) (g ∷ gs) h (suc zero) s = refl
import_there (f ∷ fs) (g ∷ gs) h (suc (suc i)) s = import_there fs gs h.1 (suc i) s

there_same : (fs gs : List (Assignment → ℕ)) → AreSameImports fs gs → (x : Line) → IsThere fs x → IsThere gs x
there_same fs gs h (Sum id i j p) t = t
there_same fs gs h (Product id i q p) t = t
there_same fs gs h (Combination id parts p) t = t
there_same fs gs h (Import id number p) t = import_there fs gs h number t
there_same fs gs h (Delete id) t = t

-- ---- ledgers

pub agree_refl : (l : Ledger) → LedgersAgree l l
agree_refl l = record { last = refl; lines = λ id. same_refl (line_of l.live id); imports = imports_refl l.imports }

pub agree_sym : (l k : Ledger) → LedgersAgree l k → LedgersAgree k l
agree_sym l k a = record { last = sym a.last; lines = λ id. same_sym (line_of l.live id) (line_of k.live id) (a.lines id); imports = imports_sym l.imports k.imports a.imports }

pub agree_trans : (l k j : Ledger) → LedgersAgree l k → LedgersAgree k j → LedgersAgree l j
agree_trans l k j a b = record {
  last = a.last ∙ b.last;
  lines = λ id. same_trans (line_of l.live id) (line_of k.live id) (line_of j.live id) (a.lines id) (b.lines id);
  imports = imports_trans l.imports k.imports j.imports a.imports b.imports;
}

-- ---- what a line says of them

pub value_same : (xs ys : List LiveLine) → AreSameLines xs ys → (id : ℕ) (σ : Assignment) → value_of xs id σ ≡ value_of ys id σ
value_same xs ys a id σ = same_value (line_of xs id) (line_of ys id) (a id) σ

value_agrees : (l k : Ledger) → LedgersAgree l k → (id : ℕ) (σ : Assignment) → value_of l.live id σ ≡ value_of k.live id σ
value_agrees l k a id σ = value_same l.live k.live a.lines id σ

pub live_agrees : (l k : Ledger) → LedgersAgree l k → (id : ℕ) → IsLive l.live id → IsLive k.live id
live_agrees l k a id h = same_live (line_of l.live id) (line_of k.live id) (a.lines id) h

combined_agrees : (m : ℕ) (l k : Ledger) → LedgersAgree l k → (parts : List Part) (σ : Assignment) → combined m l.live parts σ ≡ combined m k.live parts σ
combined_agrees m l k a [] σ = refl
combined_agrees m l k a (p ∷ ps) σ = ap₂ (λ x y. x * value m p.factor σ + y) (value_agrees l k a p.id σ) (combined_agrees m l k a ps σ)

named_agrees : (m : ℕ) (l k : Ledger) → LedgersAgree l k → (x : Line) (σ : Assignment) → named m l x σ ≡ named m k x σ
named_agrees m l k a (Sum id i j p) σ = ap₂ (λ x y. x + y) (value_agrees l k a i σ) (value_agrees l k a j σ)
named_agrees m l k a (Product id i q p) σ = ap (λ x. x * value m q σ) (value_agrees l k a i σ)
named_agrees m l k a (Combination id parts p) σ = combined_agrees m l k a parts σ
named_agrees m l k a (Import id number p) σ = import_same l.imports k.imports a.imports number σ
named_agrees m l k a (Delete id) σ = refl

-- the same lines are lawful
pub lawful_agrees : (m : ℕ) (l k : Ledger) → LedgersAgree l k → (x : Line) → IsLawfulLine m l x → IsLawfulLine m k x
lawful_agrees m l k a x h = record {
  new_id = subst (λ n. IsNewId n x) a.last h.new_id;
  live_operands = λ i d low. live_agrees l k a _ (h.live_operands i d low);
  there = there_same l.imports k.imports a.imports x h.there;
  equal = λ σ. h.equal σ ∙ ap (λ n. n % m) (named_agrees m l k a x σ);
}

pub missing_same : (xs ys : List LiveLine) → AreSameLines xs ys → (ids : List ℕ) → first_missing xs ids ≡ first_missing ys ids
missing_same xs ys a [] = refl
missing_same xs ys a (id ∷ ids) = ap₂ (λ b r. cond (not b) (Some id) r) (same_there (line_of xs id) (line_of ys id) (a id)) (missing_same xs ys a ids)

-- the same lines are refused for the same causes
pub refused_in_range_agrees : (e : Extended) (l k : Ledger) → LedgersAgree l k → (x : Line) (cause : AlgebraCause) → IsRefusedInRange e l x cause → IsRefusedInRange e k x cause
refused_in_range_agrees e l k a x cause (inl (bad, same)) = inl ((λ new. bad (subst (λ n. IsNewId n x) (sym a.last) new)), same)
refused_in_range_agrees e l k a x cause (inr (new, inl (id, missing, same))) =
    inr (subst (λ n. IsNewId n x) a.last new, inl (id, sym (missing_same l.live k.live a.lines (operands x)) ∙ missing, same))
refused_in_range_agrees e l k a x cause (inr (new, inr (live, inl (absent, same)))) =
    inr (
      subst (λ n. IsNewId n x) a.last new,
      inr (
        (λ i d low. live_agrees l k a _ (live i d low)),
        inl ((λ there. absent (there_same k.imports l.imports (imports_sym l.imports k.imports a.imports) x there)), same),
      ),
    )
refused_in_range_agrees e l k a x cause (inr (new, inr (live, inr (there, inl (apart, same))))) =
    inr (
      subst (λ n. IsNewId n x) a.last new,
      inr (
        (λ i d low. live_agrees l k a _ (live i d low)),
        inr (
          there_same l.imports k.imports a.imports x there,
          inl ((apart.0, λ is. apart.1 (is ∙ ap (λ n. n % modulus e) (sym (named_agrees (modulus e) l k a x apart.0)))), same),
        ),
      ),
    )
refused_in_range_agrees e l k a x cause (inr (new, inr (live, inr (there, inr (equal, never))))) = absurd never

pub refused_agrees : (e : Extended) (l k : Ledger) → LedgersAgree l k → (x : Line) (cause : AlgebraCause) → IsRefusedLine e l x cause → IsRefusedLine e k x cause
refused_agrees e l k a x cause (inl w) = inl w
refused_agrees e l k a x cause (inr (range, refused)) = inr (range, refused_in_range_agrees e l k a x cause refused)

-- the same line closes
pub closes_agrees : (e : Extended) (sides : Sides) (l k : Ledger) → LedgersAgree l k → (id : ℕ) → Closes e sides l.live id → Closes e sides k.live id
closes_agrees e sides l k a id h = (live_agrees l k a id h.0, λ σ. sym (value_agrees l k a id σ) ∙ h.1 σ)

pub refused_close_in_range_agrees : (e : Extended) (sides : Sides) (l k : Ledger) → LedgersAgree l k → (id : ℕ) (cause : AlgebraCause) → IsRefusedCloseInRange e sides l id cause → IsRefusedCloseInRange e sides k id cause
refused_close_in_range_agrees e sides l k a id cause (inl (bad, same)) = inl ((λ live. bad (live_agrees k l (agree_sym l k a) id live)), same)
refused_close_in_range_agrees e sides l k a id cause (inr (live, inl (apart, same))) =
    inr (live_agrees l k a id live, inl ((apart.0, λ is. apart.1 (value_agrees l k a id apart.0 ∙ is)), same))
refused_close_in_range_agrees e sides l k a id cause (inr (live, inr (equal, never))) = absurd never

pub refused_close_agrees : (e : Extended) (sides : Sides) (l k : Ledger) → LedgersAgree l k → (id : ℕ) (cause : AlgebraCause) → IsRefusedClose e sides l id cause → IsRefusedClose e sides k id cause
refused_close_agrees e sides l k a id cause (inl w) = inl w
refused_close_agrees e sides l k a id cause (inr (range, refused)) = inr (range, refused_close_in_range_agrees e sides l k a id cause refused)

-- ---- afterwards

pub introduce_agrees : (m : ℕ) (l k : Ledger) → LedgersAgree l k → (id : ℕ) (p : Polynomial) → LedgersAgree (introduce m l id p) (introduce m k id p)
introduce_agrees m l k a id p = record { last = refl; lines = λ other. go other (id == other); imports = a.imports }
  where
    go : (other : ℕ) (b : Bool) → AreSame (cond b (Some (record { id = id; value = value m p })) (line_of l.live other)) (cond b (Some (record { id = id; value = value m p })) (line_of k.live other))
    go other true = λ σ. refl
    go other false = a.lines other

-- a deleted line is gone, and the others stay
pub line_of-deleted : (live : List LiveLine) (id other : ℕ) → line_of (filter (λ x. not (x.id == id)) live) other ≡ cond (other == id) None (line_of live other)
line_of-deleted [] id other = elim (other == id) as (λ b. ◌≡◌ {A = Option LiveLine} None (cond b None None)) [ true ↦ refl | false ↦ refl ]
line_of-deleted (x ∷ live) id other = go (x.id == id) refl (x.id == other) refl (line_of-deleted live id other)
  where
    go : (b : Bool) → (x.id == id) ≡ b → (c : Bool) → (x.id == other) ≡ c → line_of (filter (λ x. not (x.id == id)) live) other ≡ cond (other == id) None (line_of live other) →
        line_of (cond (not b) (x ∷ filter (λ x. not (x.id == id)) live) (filter (λ x. not (x.id == id)) live)) other ≡ cond (other == id) None (cond c (Some x) (line_of live other))
    go true f true g rest =
        let same : (other == id) ≡ true = ap (λ n. n == id) (sym (eqb-true x.id other g)) ∙ f in
        rest ∙ ap (λ b. cond b None (line_of live other)) same ∙ sym (ap (λ b. cond b None (Some x)) same)
    go true f false g rest = rest
    go false f true g rest =
        let apart : (other == id) ≡ false = ap (λ n. n == id) (sym (eqb-true x.id other g)) ∙ f in
        ap (λ b. cond b (Some x) (line_of (filter (λ x. not (x.id == id)) live) other)) g ∙ sym (ap (λ b. cond b None (Some x)) apart)
    go false f false g rest = ap (λ b. cond b (Some x) (line_of (filter (λ x. not (x.id == id)) live) other)) g ∙ rest

delete_agrees : (m : ℕ) (l k : Ledger) → LedgersAgree l k → (id : ℕ) → LedgersAgree (after m l (Delete id)) (after m k (Delete id))
delete_agrees m l k a id = record { last = a.last; imports = a.imports; lines = λ other. subst₂ (sym (line_of-deleted l.live id other)) (sym (line_of-deleted k.live id other)) (go other (other == id)) }
  where
    subst₂ : {x y z w : Option LiveLine} → x ≡ y → z ≡ w → AreSame x z → AreSame y w
    subst₂ {x} {y} {z} {w} e f h = subst (λ t. AreSame t w) e (subst (AreSame x) f h)

    go : (other : ℕ) (b : Bool) → AreSame (cond b None (line_of l.live other)) (cond b None (line_of k.live other))
    go other true = tt
    go other false = a.lines other

-- after the same line they agree
pub after_agrees : (m : ℕ) (l k : Ledger) → LedgersAgree l k → (x : Line) → LedgersAgree (after m l x) (after m k x)
after_agrees m l k a (Sum id i j p) = introduce_agrees m l k a id p
after_agrees m l k a (Product id i q p) = introduce_agrees m l k a id p
after_agrees m l k a (Combination id parts p) = introduce_agrees m l k a id p
after_agrees m l k a (Import id number p) = introduce_agrees m l k a id p
after_agrees m l k a (Delete id) = delete_agrees m l k a id
