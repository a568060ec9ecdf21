use Rattle.std.proofs.Common.{◌≡◌, IfOk, List, ℕ, true, [], ◌∷◌, ◌==◌, get_or, length, refl, sym, ap, ap₂, subst, ◌∙◌, arith, eqb-true}
use Rattle.algebra_core.specs.NormalForm.{AreRising}
use Rattle.poly_terms.specs.Monomials.{Stands, joined}
use Rattle.poly_terms.proofs.Keys.{joined-none, rising-joined}
use Rattle.poly_terms.proofs.numbering.Numbering.product.Goals as goal

empty : (xs : List ℕ) → (length xs == 0) ≡ true → xs ≡ []
empty [] h = refl
empty (x ∷ xs) h = let none = eqb-true (length (x ∷ xs)) 0 h in absurd (omega arith)

pub returns-then-is_empty-2-clause-number : goal.returns-then-is_empty-2-clause-number
returns-then-is_empty-2-clause-number c =
    let us = get_or c.args.self.now c.args.left [] in
    let none : get_or c.args.self.now c.args.right [] ≡ [] = c.variables-2.ensures.value ∙ empty c.variables-2.result.now (sym c.is_empty-2.ensures ∙ c.if-is_empty-2.true) in
    record { in_table = c.requires.left; monomial = sym (ap (joined us) none ∙ joined-none us) }

pub intern-requires : goal.intern-requires
intern-requires c =
    subst (AreRising 0) (sym c.in_ok-both.ensures)
    (rising-joined 0 c.variables-3.result.now c.variables-4.result.now c.variables-3.ensures.rising c.variables-4.ensures.rising)

pub returns-clause-number : goal.returns-clause-number
returns-clause-number c =
    let us = get_or c.args.self.now c.args.left [] in
    let vs = get_or c.args.self.now c.args.right [] in
    let is : c.in_ok-both.both.items ≡ joined us vs = c.in_ok-both.ensures ∙ ap₂ joined (sym c.variables-3.ensures.value) (sym c.variables-4.ensures.value) in
    subst (λ ks. IfOk c.intern.result (λ n. Stands c.intern.new.self n ks)) is c.intern.ensures.number
