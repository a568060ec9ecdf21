-- What holds of a polynomial in a table holds in each table that extends it.
use Rattle.std.specs.Prelude.{ℕ, false, true, ◌≡◌, ◌^◌, ◌<◌, ◌++◌, List, [], ◌∷◌, get_or, length, refl}
use Rattle.std.specs.List.{AllByRecursion}
use Rattle.std.proofs.Common.{sym, ap, ap₂, subst, ◌∙◌, arith, append-nil, append_assoc, length-append}
use Rattle.std.proofs.lemmas.List.{get_or_append_left}
use Rattle.algebra_core.specs.Polynomials.{value}
use Rattle.graph_core.specs.Graph.Assignments.{Assignment}
use Rattle.poly_terms.specs.Entries.{Sum}
use Rattle.poly_terms.specs.Indexed.{IndexedSum, IndexesStay, IsAtPlace, IsIndexed}
use Rattle.poly_terms.specs.Monomials.{AreIn, Grows, has_in, has_variable}
use Rattle.poly_terms.specs.Tables.{Table, IsOf, Extends, modulus_in, monomials_in, value_in, ValuesStay, ModulusStays, TablesExtend}

pub modulus_stays : ModulusStays
unfolding Extends
modulus_stays old new e = ap (λ w. 2 ^ w) e.0

-- the old numbers are in the new table
pub in_grown : (old new : List (List ℕ)) (n : ℕ) → Grows old new → n < length old → n < length new
in_grown old new n g h = let is = ap length g.monomials ∙ length-append old g.more in omega arith

-- and have their monomials there
pub stands_in_grown : (old new : List (List ℕ)) (n : ℕ) → Grows old new → n < length old → get_or new n [] ≡ get_or old n []
stands_in_grown old new n g h = ap (λ ms. get_or ms n []) g.monomials ∙ get_or_append_left old g.more [] n h

pub all_in_grown : (old new : List (List ℕ)) (p : Sum) → Grows old new → AreIn old p → AreIn new p
all_in_grown old new [] g h = tt
all_in_grown old new (e ∷ es) g h = (in_grown old new e.0 g h.0, all_in_grown old new es g h.1)

pub grows_itself : (ms : List (List ℕ)) → Grows ms ms
grows_itself ms = record { more = []; monomials = sym (append-nil ms); once = λ h. h }

pub grows_on : (a b c : List (List ℕ)) → Grows a b → Grows b c → Grows a c
grows_on a b c g h = record {
  more = g.more ++ h.more;
  monomials = h.monomials ∙ ap (λ ms. ms ++ h.more) g.monomials ∙ append_assoc a g.more h.more;
  once = λ o. h.once (g.once o);
}

same_monomials : (old new : Table) (p : Sum) → Grows old.monomials new.monomials → AreIn old.monomials p → monomials_in new p ≡ monomials_in old p
unfolding monomials_in
same_monomials old new [] g h = refl
same_monomials old new (e ∷ es) g h =
    ap₂ ◌∷◌ (ap (λ vs. record { negative = false; coefficient = e.1; variables = vs }) (stands_in_grown old.monomials new.monomials e.0 g h.0))
    (same_monomials old new es g h.1)

pub values_stay : ValuesStay
unfolding Extends IsOf
values_stay old new p e h =
    let m : modulus_in new ≡ modulus_in old = ap (λ w. 2 ^ w) e.0 in (
      record {
        coefficients = subst (λ k. AllByRecursion (λ x. (0 < x.1) × (x.1 < k)) p) (sym m) h.coefficients;
        numbers = all_in_grown old.monomials new.monomials p e.1 h.numbers;
        order = h.order;
        table = e.1.once h.table;
      },
      λ σ. ap₂ (λ k ms. value k ms σ) m (same_monomials old new p e.1 h.numbers),
    )

pub tables_extend : TablesExtend
unfolding Extends
tables_extend = (
  λ t. (refl, grows_itself t.monomials),
  λ a b c g h. (h.0 ∙ g.0, grows_on a.monomials b.monomials c.monomials g.1 h.1),
)

-- the same, one by one, for `using` and for impls of traits
pub extends_itself : (t : Table) → Extends t t
extends_itself t = tables_extend.0 t

pub extends_on : (a b c : Table) → Extends a b → Extends b c → Extends a c
extends_on a b c g h = tables_extend.1 a b c g h

pub stays : (old new : Table) (p : Sum) → Extends old new → IsOf old p → IsOf new p
stays old new p e h = (values_stay old new p e h).0

pub value_stays : (old new : Table) (p : Sum) (σ : Assignment) → Extends old new → IsOf old p → value_in new p σ ≡ value_in old p σ
value_stays old new p σ e h = (values_stay old new p e h).1 σ

-- a polynomial keeps its monomials too
pub monomials_stay : (old new : Table) (p : Sum) → Extends old new → IsOf old p → monomials_in new p ≡ monomials_in old p
unfolding Extends IsOf
monomials_stay old new p e h = same_monomials old new p e.1 h.numbers

all_indexed : (old new places : List (List ℕ)) (es : Sum) → Grows old new → AreIn old es →
    AllByRecursion (λ e. (v : ℕ) → has_in old v e ≡ true → IsAtPlace places v e.0) es →
    AllByRecursion (λ e. (v : ℕ) → has_in new v e ≡ true → IsAtPlace places v e.0) es
all_indexed old new places [] g n h = tt
all_indexed old new places (e ∷ es) g n h =
    (λ v has. h.0 v (ap (has_variable v) (sym (stands_in_grown old new e.0 g n.0)) ∙ has), all_indexed old new places es g n.1 h.1)

pub indexes_stay : IndexesStay
unfolding Extends IsOf IsIndexed
indexes_stay old new x e of h = all_indexed old.monomials new.monomials x.places x.sum e.1 of.numbers h

pub indexed_stays : (old new : Table) (x : IndexedSum) → Extends old new → IsOf old x.sum → IsIndexed old x → IsIndexed new x
indexed_stays old new x e of h = indexes_stay old new x e of h

pub still_zero : (old new : Table) (p : Sum) (σ : Assignment) → Extends old new → IsOf old p → value_in old p σ ≡ 0 → value_in new p σ ≡ 0
still_zero old new p σ e h z = value_stays old new p σ e h ∙ z
