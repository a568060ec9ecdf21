use Rattle.std.proofs.Common.{◌≡◌, ◌++◌, ◌∷◌, [], get_or, sym, ap, ap₂, ◌∙◌}
use Rattle.poly_terms.specs.Monomials.{has_in, has_variable, places_of}
use Rattle.poly_terms.proofs.Placing.{places_here, places_not}
use Rattle.poly_terms.proofs.Ends.{not_given}
use Rattle.std.proofs.lemmas.List.{take_all}
use Rattle.poly_terms.proofs.substitution.places_of.Goals as goal
use Rattle.poly_terms.proofs.substitution.places_of.Goals.{then-has_variable+in_ok-push, else-has_variable}

pub loop-entry-preserved : goal.loop-entry-preserved
loop-entry-preserved c =
    let t = c.args.table.now in
    let v = c.args.v in
    let es = c.args.entries.now in
    let i = c.loop-entry.entry-index in
    let e = c.entry-item.result in
    let has : has_in t v e ≡ c.has_variable.result =
    ap (has_variable v) (ap (λ n. get_or t n []) (sym c.number.ensures) ∙ c.variables.ensures.value) ∙ sym c.has_variable.ensures in
    elim c.if-has_variable.branch [
      | then-has_variable+in_ok-push w ↦
          ap (λ o. o.items) w.places-is ∙ w.in_ok-push.ensures.items ∙ ap₂ (λ a n. a ++ n ∷ []) c.loop-entry.invariant w.number-then-has_variable.ensures ∙
          sym (places_here t v es i e c.loop-entry-test.true c.entry-item.is (has ∙ w.if-has_variable.true))
      | else-has_variable w ↦
          ap (λ o. o.items) w.places-is ∙ c.loop-entry.invariant ∙ sym (places_not t v es i e c.loop-entry-test.true c.entry-item.is (has ∙ w.if-has_variable.false))
    ]

pub returns-in_err-push : goal.returns-in_err-push
returns-in_err-push c = not_given _ _ c.from_residual.result c.from_residual.ensures.1

pub returns : goal.returns
returns c = c.loop-entry.invariant ∙ ap (places_of c.args.table.now c.args.v) (take_all c.loop-entry.entry-index c.args.entries.now c.loop-entry-test.false)
