-- What a caller may cite of certificates that are written, and to show that a polynomial has no variable above the greatest one.
pub use Rattle.pac_writer.proofs.LawfulFile.{written_certificates_are_lawful}
use Rattle.std.specs.Prelude.{◌≡◌, ℕ, zero, suc, ◌<◌, ◌||◌, ◌==◌, Bool, true, false, List, [], ◌∷◌, length, slice_index_or}
use Rattle.std.proofs.Common.{refl, sym, ap, ◌∙◌, arith, ⊎_elim, eq-eqb}
use Rattle.std.proofs.lemmas.Bool.{cases_lt, true≢false}
use Rattle.graph_core.specs.Graph.Assignments.{Assignment}
use Rattle.frontier_core.specs.Frontier.{set_to}
use Rattle.frontier_core.specs.Sets.{has}
use Rattle.frontier_core.proofs.Unused.{unused_variable_is_absent}
use Rattle.poly_terms.specs.Tables.{Table, Sum, IsOf, modulus_in, monomials_in, value_in}
use Rattle.poly_terms.proofs.Values.{normal}
use Rattle.poly_text.specs.WrittenLaws.{IsUpTo}
use Rattle.pac_writer.specs.Writing.{IsOver}

or_true : (b c : Bool) → c ≡ true → (b || c) ≡ true
or_true true c h = refl
or_true false c h = h

has_own : (us : List ℕ) (j d : ℕ) → j < length us → has us (slice_index_or us j d) ≡ true
has_own [] j d low = absurd (omega arith)
has_own (u ∷ us) zero d low = ap (λ b. b || has us u) (eq-eqb u u refl)
has_own (u ∷ us) (suc j) d low = or_true (u == slice_index_or us j d) (has us (slice_index_or us j d)) (has_own us j d (omega arith))

-- The value hangs on no variable above the greatest one.
abbrev pub IsFixedAbove : ℕ → Table → Sum → Type 0
IsFixedAbove max t p = (v : ℕ) (σ : Assignment) → max < v → value_in t p (set_to v true σ) ≡ value_in t p (set_to v false σ)

-- So the polynomial has none of them.
pub over_from_values : (t : Table) (max : ℕ) (p : Sum) → IsOf t p → IsFixedAbove max t p → IsOver max t p
over_from_values t max p is fixed = (is, up_to)
  where
    up_to : IsUpTo max t p
    up_to k d low j e within =
        let vs = (slice_index_or (monomials_in t p) k d).variables in
        let v = slice_index_or vs j e in
        ⊎_elim
        (λ above. absurd (true≢false (sym (has_own vs j e within) ∙ unused_variable_is_absent (modulus_in t) v (monomials_in t p) (omega arith) (normal t p is) (λ σ. fixed v σ above) k d low)))
        (λ small. small)
        (cases_lt max v)
