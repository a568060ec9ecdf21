use Rattle.std.proofs.Common.{◌≡◌, IfOk, [], get_or, sym, ap, subst, ◌∙◌}
use Rattle.algebra_core.specs.NormalForm.{AreRising}
use Rattle.poly_terms.specs.Monomials.{Stands, joined}
use Rattle.poly_terms.proofs.Keys.{rising-joined}
use Rattle.poly_terms.proofs.numbering.Numbering.multiple.Goals as goal

pub intern_slice-requires : goal.intern_slice-requires
intern_slice-requires c =
    subst (AreRising 0) (sym c.join_few-count.ensures.items)
    (rising-joined 0 c.args.monomial.now c.variables-variables.result.now c.requires.rising c.variables-variables.ensures.rising)

pub intern-requires : goal.intern-requires
intern-requires c =
    subst (AreRising 0) (sym c.in_ok-both.ensures) (rising-joined 0 c.args.monomial.now c.variables-variables.result.now c.requires.rising c.variables-variables.ensures.rising)

pub returns-clause-number : goal.returns-clause-number
returns-clause-number c =
    let us = c.args.monomial.now in
    let vs = get_or c.args.self.now c.args.number [] in
    let is : c.in_ok-both.both.items ≡ joined us vs = c.in_ok-both.ensures ∙ ap (joined us) (sym c.variables-variables.ensures.value) in
    subst (λ ks. IfOk c.intern.result (λ n. Stands c.intern.new.self n ks)) is c.intern.ensures.number
