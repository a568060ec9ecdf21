-- A line that is put together, part by part.
use Rattle.std.specs.Prelude.{◌≡◌, ◌≢◌, ℕ, ◌+◌, ◌*◌, ◌%◌, ◌<◌, ◌≤◌, List, [], ◌∷◌, ◌++◌, slice_index_or}
use Rattle.std.specs.List.{All, AllByRecursion}
use Rattle.std.proofs.Common.{refl, sym, ap, ap₂, subst, ◌∙◌, arith}
use Rattle.std.proofs.Math.Nat.{mod-add-mod}
use Rattle.std.proofs.lemmas.List.Elements.{All-from_recursion, All-push, recursion_from_All}
use Rattle.std.proofs.lemmas.List.Quantifiers.{all_pairs_push}
use Rattle.graph_core.specs.Graph.Assignments.{Assignment}
use Rattle.algebra_core.specs.AlgebraLines.{LiveLine, Part, IsLive, combined, value_of}
use Rattle.algebra_core.specs.NormalForm.{HasSize}
use Rattle.algebra_core.proofs.CallerLemmas.{normal_forms_differ}
use Rattle.poly_terms.specs.Laws.{modulus_stays, monomials_stay, stays, value_stays}
use Rattle.poly_terms.specs.Tables.{Table, Sum, Extends, IsOf, modulus_in, monomials_in, value_in}
use Rattle.poly_text.specs.Lines.{parts_in}
use Rattle.frontier_core.specs.Pending.{AreSpare, IsNotZero}
use Rattle.frontier_core.proofs.Gathered.{combined_push}
use Rattle.pac_writer.specs.Writing.{IsOver}
use Rattle.line_drafts.specs.declared.known.Known.{Known}
use Rattle.line_drafts.specs.declared.open_draft.OpenDraft.{OpenDraft}
use Rattle.line_drafts.specs.Drafts.{IsKnownIn, IsOpen}

-- ---- as the table grows

pub over_grown : (max : ℕ) (t0 t1 : Table) (p : Sum) → Extends t0 t1 → IsOver max t0 p → IsOver max t1 p
over_grown max t0 t1 p grown h =
    (stays t0 t1 p grown h.0, subst (All (λ term. All (λ v. v ≤ max) term.variables)) (sym (monomials_stay t0 t1 p grown h.0)) h.1)

pub known_stays : (t0 t1 : Table) (live : List LiveLine) (k : Known) → Extends t0 t1 → IsKnownIn t0 live k → IsKnownIn t1 live k
known_stays t0 t1 live k grown h = record {
  of = stays t0 t1 k.poly grown h.of;
  line = h.line;
  value = λ σ. value_stays t0 t1 k.poly σ grown h.of ∙ h.value σ;
}

parts_stay : (max : ℕ) (t0 t1 : Table) (parts : List (ℕ × Sum)) → Extends t0 t1 → AllByRecursion (λ p. IsOver max t0 p.1) parts → parts_in t1 parts ≡ parts_in t0 parts
parts_stay max t0 t1 [] grown h = refl
parts_stay max t0 t1 (p ∷ parts) grown h =
    ap₂ (λ q qs. record { id = p.0; factor = q } ∷ qs) (monomials_stay t0 t1 p.1 grown h.0.0) (parts_stay max t0 t1 parts grown h.1)

-- what is put together stays so as the table grows
pub open_stays : (max : ℕ) (t0 t1 : Table) (live : List LiveLine) (o : OpenDraft) → Extends t0 t1 → IsOpen max t0 live o → IsOpen max t1 live o
open_stays max t0 t1 live o grown h =
    let same = modulus_stays t0 t1 grown in
    let parts = parts_stay max t0 t1 o.parts.items grown (recursion_from_All (λ p. IsOver max t0 p.1) o.parts.items h.over) in
    record {
      over = λ k d low. over_grown max t0 t1 (slice_index_or o.parts.items k d).1 grown (h.over k d low);
      spare = subst (λ m. AreSpare m live (parts_in t1 o.parts.items)) (sym same) (subst (AreSpare (modulus_in t0) live) (sym parts) h.spare);
      low = h.low;
      of = stays t0 t1 o.sum grown h.of;
      sum = λ σ. value_stays t0 t1 o.sum σ grown h.of ∙ h.sum σ ∙ ap₂ (λ ps m. combined m live ps σ % m) (sym parts) (sym same);
    }

-- ---- one part more

part_pushed : (t : Table) (xs : List (ℕ × Sum)) (x : ℕ × Sum) → parts_in t (xs ++ x ∷ []) ≡ parts_in t xs ++ record { id = x.0; factor = monomials_in t x.1 } ∷ []
part_pushed t [] x = refl
part_pushed t (y ∷ xs) x = ap (λ ps. record { id = y.0; factor = monomials_in t y.1 } ∷ ps) (part_pushed t xs x)

-- ids in a table's parts
low_ids : (t : Table) (last : ℕ) (parts : List (ℕ × Sum)) → AllByRecursion (λ p. p.0 ≤ last) parts → AllByRecursion (λ p. p.id ≤ last) (parts_in t parts)
low_ids t last [] h = tt
low_ids t last (p ∷ parts) h = (h.0, low_ids t last parts h.1)

module _ (max : ℕ) (t : Table) (live : List LiveLine) (k : Known) (o : OpenDraft) (factor : Sum) (known : IsKnownIn t live k) (h : IsOpen max t live o)
    (above : o.last < k.id) (over : IsOver max t factor) (some : IsNotZero (modulus_in t) (monomials_in t factor)) where
  abbrev m : ℕ
  m = modulus_in t

  abbrev part : Part
  part = record { id = k.id; factor = monomials_in t factor }

  abbrev old : List Part
  old = parts_in t o.parts.items

  low : All (λ p. p.id ≤ o.last) old
  low = All-from_recursion (λ p. p.id ≤ o.last) old (low_ids t o.last o.parts.items (recursion_from_All (λ p. p.0 ≤ o.last) o.parts.items h.low))

  spare_pushed : AreSpare m live (old ++ part ∷ [])
  spare_pushed = record {
    live = All-push (λ p. IsLive live p.id) old part h.spare.live known.line;
    once = all_pairs_push (λ p q. p.id ≢ q.id) old part h.spare.once (λ i d within. let small = low i d within in λ same. absurd (omega (arith, small, same)));
    nonzero = All-push (λ p. IsNotZero m p.factor) old part h.spare.nonzero some;
  }

  -- one part more
  pub open_pushed : (more : OpenDraft) → more.parts.items ≡ o.parts.items ++ (k.id, factor) ∷ [] → more.last ≡ k.id → IsOf t more.sum →
      ((σ : Assignment) → value_in t more.sum σ ≡ (value_in t o.sum σ + value_in t k.poly σ * value_in t factor σ) % m) → IsOpen max t live more
  open_pushed more parts last of sum =
      let pushed : parts_in t more.parts.items ≡ old ++ part ∷ [] = ap (parts_in t) parts ∙ part_pushed t o.parts.items (k.id, factor) in
      record {
        over = subst (All (λ p. IsOver max t p.1)) (sym parts) (All-push (λ p. IsOver max t p.1) o.parts.items (k.id, factor) h.over over);
        spare = subst (AreSpare m live) (sym pushed) spare_pushed;
        low = subst (All (λ p. p.0 ≤ more.last)) (sym parts) (All-push (λ p. p.0 ≤ more.last) o.parts.items (k.id, factor) (λ i d within. let small = h.low i d within in omega (arith, small, last)) (omega (arith, last)));
        of = of;
        sum = λ σ.
            sum σ ∙ ap₂ (λ a b. (a + b * value_in t factor σ) % m) (h.sum σ) (known.value σ) ∙
            mod-add-mod (combined m live old σ) m (value_of live k.id σ * value_in t factor σ) ∙
            ap (λ n. n % m) (sym (ap (λ ps. combined m live ps σ) pushed ∙ combined_push m live old part σ));
      }

pub none_open : (max : ℕ) (t : Table) (live : List LiveLine) (o : OpenDraft) → o.parts.items ≡ [] → o.sum ≡ [] → IsOf t [] → IsOpen max t live o
unfolding monomials_in
none_open max t live o parts sum of =
    let none : parts_in t o.parts.items ≡ [] = ap (parts_in t) parts in
    record {
      over = subst (All (λ p. IsOver max t p.1)) (sym parts) (All-from_recursion (λ p. IsOver max t p.1) [] tt);
      spare = subst (AreSpare (modulus_in t) live) (sym none) (record { live = All-from_recursion (λ p. IsLive live p.id) [] tt; once = λ i j d lt within. absurd (omega (arith, within)); nonzero = All-from_recursion (λ p. IsNotZero (modulus_in t) p.factor) [] tt });
      low = subst (All (λ p. p.0 ≤ o.last)) (sym parts) (All-from_recursion (λ p. p.0 ≤ o.last) [] tt);
      of = subst (IsOf t) (sym sum) of;
      sum = λ σ. ap (λ p. value_in t p σ) sum ∙ sym (ap (λ ps. combined (modulus_in t) live ps σ % modulus_in t) none);
    }

-- the sum in a table that has grown
pub sum_moved : (t0 t1 t2 : Table) (p q r s : Sum) (σ : Assignment) → Extends t0 t1 → Extends t1 t2 → IsOf t0 p → IsOf t0 q → IsOf t1 r →
    value_in t2 s σ ≡ (value_in t1 p σ + value_in t1 q σ * value_in t1 r σ) % modulus_in t1 →
    value_in t2 s σ ≡ (value_in t2 p σ + value_in t2 q σ * value_in t2 r σ) % modulus_in t2
sum_moved t0 t1 t2 p q r s σ g1 g2 of_p of_q of_r h =
    h ∙ ap₂ (λ n m. n % m)
    (ap₂ ◌+◌ (sym (value_stays t1 t2 p σ g2 (stays t0 t1 p g1 of_p)))
    (ap₂ ◌*◌ (sym (value_stays t1 t2 q σ g2 (stays t0 t1 q g1 of_q))) (sym (value_stays t1 t2 r σ g2 of_r)))) (sym (modulus_stays t1 t2 g2))

pub some_stays : (t1 t2 : Table) (r : Sum) → Extends t1 t2 → IsOf t1 r → IsNotZero (modulus_in t1) (monomials_in t1 r) → IsNotZero (modulus_in t2) (monomials_in t2 r)
some_stays t1 t2 r grown of h =
    subst (λ m. IsNotZero m (monomials_in t2 r)) (sym (modulus_stays t1 t2 grown)) (subst (IsNotZero (modulus_in t1)) (sym (monomials_stay t1 t2 r grown of)) h)

-- a function of a size other than 0 isn't 0 everywhere
pub size_some : (m : ℕ) (f : Assignment → ℕ) (n : ℕ) → HasSize m f n → n ≢ 0 → ((σ : Assignment) → f σ ≡ 0) → ⊥
size_some m f n h some none =
    let is = h.3 in
    let at = normal_forms_differ m h.0 h.1 (omega arith) in at.1 (h.2 at.0 ∙ none at.0)
