-- Lines that are alike are lawful, refused and followed alike.
use Rattle.std.specs.Prelude.{◌≡◌, ◌==◌, ◌+◌, ◌*◌, ◌%◌, ℕ, Bool, true, false, cond, List, [], ◌∷◌, map}
use Rattle.std.specs.declared.option.Option.TheVariants.{Some}
use Rattle.std.specs.List.{All}
use Rattle.std.proofs.Common.{refl, sym, ap, ap₂, subst, ◌∙◌, inl, inr, ⊎_elim}
use Rattle.graph_core.specs.Graph.Assignments.{Assignment}
use Rattle.graph_core.specs.Graph.Extended.{Extended, modulus}
use Rattle.algebra_core.specs.Polynomials.{Polynomial, value}
use Rattle.algebra_core.specs.AlgebraLines.{LiveLine, Line, Sum, Product, Combination, Import, Delete, Part, Ledger, IsNewId, IsLive, IsThere, IsEqual, IsLawfulLine, operands, stated, named, imported, combined, value_of, introduce, after, line_of}
use Rattle.algebra_core.specs.Refusal.{AlgebraCause, NoSuchClause, first_missing, IsRefusedRule, IsUnequal}
use Rattle.algebra_core.specs.Agreement.{AreSame, LedgersAgree}
use Rattle.algebra_core.specs.InRange.{IsRefusedInRange}
use Rattle.algebra_core.specs.Likeness.{HaveSameValue, ArePartsAlike, AreAlike, LikenessIsKept}
use Rattle.algebra_core.proofs.Agreements.{agree_refl, imports_refl, same_refl}

-- ---- parts

pub same_ids : (m : ℕ) (xs ys : List Part) → ArePartsAlike m xs ys → map (λ part. part.id) xs ≡ map (λ part. part.id) ys
same_ids m [] ys h = ap (map (λ part. part.id)) (sym h)
same_ids m (x ∷ xs) [] h = absurd h
same_ids m (x ∷ xs) (y ∷ ys) h = ap₂ ◌∷◌ h.0 (same_ids m xs ys h.2)

same_combined : (m : ℕ) (live : List LiveLine) (xs ys : List Part) (σ : Assignment) → ArePartsAlike m xs ys → combined m live xs σ ≡ combined m live ys σ
same_combined m live [] ys σ h = ap (λ z. combined m live z σ) (sym h)
same_combined m live (x ∷ xs) [] σ h = absurd h
same_combined m live (x ∷ xs) (y ∷ ys) σ h =
    ap (λ i. value_of live i σ * value m x.factor σ + combined m live xs σ) h.0 ∙ ap (λ v. value_of live y.id σ * v + combined m live xs σ) (h.1 σ) ∙ ap (λ c. value_of live y.id σ * value m y.factor σ + c) (same_combined m live xs ys σ h.2)

-- ---- what lines that are alike have in common

same_operands : (m : ℕ) (x y : Line) → AreAlike m x y → operands x ≡ operands y
same_operands m (Sum id i j p) y h = sym (ap operands h.1)
same_operands m (Product id i f p) y h = sym (ap operands h.2)
same_operands m (Combination id parts p) y h = same_ids m parts h.0 h.3 ∙ sym (ap operands h.2)
same_operands m (Import id number p) y h = sym (ap operands h.1)
same_operands m (Delete id) y h = sym (ap operands h)

same_stated : (m : ℕ) (x y : Line) (σ : Assignment) → AreAlike m x y → value m (stated x) σ ≡ value m (stated y) σ
same_stated m (Sum id i j p) y σ h = h.2 σ ∙ sym (ap (λ z. value m (stated z) σ) h.1)
same_stated m (Product id i f p) y σ h = h.4 σ ∙ sym (ap (λ z. value m (stated z) σ) h.2)
same_stated m (Combination id parts p) y σ h = h.4 σ ∙ sym (ap (λ z. value m (stated z) σ) h.2)
same_stated m (Import id number p) y σ h = h.2 σ ∙ sym (ap (λ z. value m (stated z) σ) h.1)
same_stated m (Delete id) y σ h = sym (ap (λ z. value m (stated z) σ) h)

same_named : (m : ℕ) (l : Ledger) (x y : Line) (σ : Assignment) → AreAlike m x y → named m l x σ ≡ named m l y σ
same_named m l (Sum id i j p) y σ h = sym (ap (λ z. named m l z σ) h.1)
same_named m l (Product id i f p) y σ h = ap (λ v. value_of l.live i σ * v) (h.3 σ) ∙ sym (ap (λ z. named m l z σ) h.2)
same_named m l (Combination id parts p) y σ h = same_combined m l.live parts h.0 σ h.3 ∙ sym (ap (λ z. named m l z σ) h.2)
same_named m l (Import id number p) y σ h = sym (ap (λ z. named m l z σ) h.1)
same_named m l (Delete id) y σ h = sym (ap (λ z. named m l z σ) h)

same_imported : (m : ℕ) (x y : Line) → AreAlike m x y → imported x ≡ imported y
same_imported m (Sum id i j p) y h = sym (ap imported h.1)
same_imported m (Product id i f p) y h = sym (ap imported h.2)
same_imported m (Combination id parts p) y h = sym (ap imported h.2)
same_imported m (Import id number p) y h = sym (ap imported h.1)
same_imported m (Delete id) y h = sym (ap imported h)

same_there : (m : ℕ) (imports : List (Assignment → ℕ)) (x y : Line) → AreAlike m x y → IsThere imports y ≡ IsThere imports x
same_there m imports (Sum id i j p) y h = ap (IsThere imports) h.1
same_there m imports (Product id i f p) y h = ap (IsThere imports) h.2
same_there m imports (Combination id parts p) y h = ap (IsThere imports) h.2
same_there m imports (Import id number p) y h = ap (IsThere imports) h.1
same_there m imports (Delete id) y h = ap (IsThere imports) h

same_new : (m last : ℕ) (x y : Line) → AreAlike m x y → IsNewId last y ≡ IsNewId last x
same_new m last (Sum id i j p) y h = ap (IsNewId last) h.1
same_new m last (Product id i f p) y h = ap (IsNewId last) h.2
same_new m last (Combination id parts p) y h = ap (IsNewId last) h.2
same_new m last (Import id number p) y h = ap (IsNewId last) h.1
same_new m last (Delete id) y h = ap (IsNewId last) h

new_there : (m last : ℕ) (x y : Line) → AreAlike m x y → IsNewId last y → IsNewId last x
new_there m last x y h new = subst (λ P. P) (same_new m last x y h) new

new_back : (m last : ℕ) (x y : Line) → AreAlike m x y → IsNewId last x → IsNewId last y
new_back m last x y h new = subst (λ P. P) (sym (same_new m last x y h)) new

equal_there : (m : ℕ) (l : Ledger) (x y : Line) → AreAlike m x y → IsEqual m l y → IsEqual m l x
equal_there m l x y h equal = λ σ. same_stated m x y σ h ∙ equal σ ∙ ap (λ z. z % m) (sym (same_named m l x y σ h))

-- ---- the laws

lawful : (m : ℕ) (l : Ledger) (x y : Line) → AreAlike m x y → IsLawfulLine m l y → IsLawfulLine m l x
lawful m l x y h is = record {
  new_id = new_there m l.last x y h is.new_id;
  live_operands = subst (All (IsLive l.live)) (sym (same_operands m x y h)) is.live_operands;
  there = subst (λ P. P) (same_there m l.imports x y h) is.there;
  equal = equal_there m l x y h is.equal;
}

refused_rule : (e : Extended) (l : Ledger) (x y : Line) (c : AlgebraCause) → AreAlike (modulus e) x y → IsRefusedRule e l y c → IsRefusedRule e l x c
refused_rule e l x y c h r =
    ⊎_elim (λ missing. inl (missing.0, ap (first_missing l.live) same ∙ missing.1, missing.2))
    (λ rule. inr (
      subst (All (IsLive l.live)) (sym same) rule.0,
      ⊎_elim
          (λ absent. inl ((λ is. absent.0 (subst (λ P. P) (sym there) is)), absent.1 ∙ ap NoSuchClause (sym (same_imported (modulus e) x y h))))
          (λ value. inr (subst (λ P. P) there value.0, ⊎_elim (λ fails. inl (unequal fails.0, fails.1)) (λ never. absurd never.1) value.1)) rule.1,
    )) r
  where
    same : operands x ≡ operands y
    same = same_operands (modulus e) x y h

    there : IsThere l.imports y ≡ IsThere l.imports x
    there = same_there (modulus e) l.imports x y h

    unequal : IsUnequal e l y → IsUnequal e l x
    unequal u = (u.0, λ equal. u.1 (sym (same_stated (modulus e) x y u.0 h) ∙ equal ∙ ap (λ z. z % modulus e) (same_named (modulus e) l x y u.0 h)))

refused : (e : Extended) (l : Ledger) (x y : Line) (c : AlgebraCause) → AreAlike (modulus e) x y → IsRefusedInRange e l y c → IsRefusedInRange e l x c
refused e l x y c h r =
    ⊎_elim (λ old. inl ((λ new. old.0 (new_back (modulus e) l.last x y h new)), old.1)) (λ rule. inr (new_there (modulus e) l.last x y h rule.0, refused_rule e l x y c h rule.1)) r

introduced : (m : ℕ) (l : Ledger) (id : ℕ) (p q : Polynomial) → HaveSameValue m p q → LedgersAgree (introduce m l id q) (introduce m l id p)
introduced m l id p q same = record { last = refl; lines = λ k. go k (id == k); imports = imports_refl l.imports }
  where
    go : (k : ℕ) (c : Bool) → AreSame (cond c (Some (record { id = id; value = value m q })) (line_of l.live k)) (cond c (Some (record { id = id; value = value m p })) (line_of l.live k))
    go k true = λ σ. sym (same σ)
    go k false = same_refl (line_of l.live k)

follows : (m : ℕ) (l : Ledger) (x y : Line) → AreAlike m x y → LedgersAgree (after m l y) (after m l x)
follows m l (Sum id i j p) y h = subst (λ z. LedgersAgree (after m l z) (introduce m l id p)) (sym h.1) (introduced m l id p h.0 h.2)
follows m l (Product id i f p) y h = subst (λ z. LedgersAgree (after m l z) (introduce m l id p)) (sym h.2) (introduced m l id p h.1 h.4)
follows m l (Combination id parts p) y h = subst (λ z. LedgersAgree (after m l z) (introduce m l id p)) (sym h.2) (introduced m l id p h.1 h.4)
follows m l (Import id number p) y h = subst (λ z. LedgersAgree (after m l z) (introduce m l id p)) (sym h.1) (introduced m l id p h.0 h.2)
follows m l (Delete id) y h = subst (λ z. LedgersAgree (after m l z) (after m l (Delete id))) (sym h) (agree_refl (after m l (Delete id)))

pub likeness_is_kept : LikenessIsKept
likeness_is_kept = record { operands = same_operands; lawful = lawful; refused = refused; after = follows }
