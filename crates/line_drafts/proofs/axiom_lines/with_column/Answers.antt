use Rattle.std.specs.List.{All}
use Rattle.std.proofs.Common.{ap, refl, subst, sym, arith, ◌∙◌}
use Rattle.std.specs.Prelude.{slice_get}
use Rattle.std.proofs.lemmas.List.Elements.{All-push}
use Rattle.graph_core.specs.Graph.{Aig}
use Rattle.poly_terms.specs.Laws.{modulus_stays}
use Rattle.line_drafts.specs.Drafts.{IsAxiomOf}
use Rattle.line_drafts.proofs.Leaving.{axiom_stays, column_known}
use Rattle.line_drafts.proofs.axiom_lines.with_column.Goals as goal

pub returns-clause-known : goal.returns-clause-known
returns-clause-known c =
    let e = c.args.extended.now in
    let t0 = c.args.terms.now in
    let t = c.equal_poly.new.terms in
    let grown = c.in_ok-poly.ensures.extends in
    let k = c.args.k in
    subst (All (IsAxiomOf e t)) (sym c.in_ok-push.ensures.items)
    (All-push (IsAxiomOf e t) c.args.known.items _ (λ i d low. axiom_stays e t0 t _ grown (c.requires.known i d low))
    (column_known e t k c.output-old.result c.new_output.result _ c.in_ok-poly.poly c.max-max.ensures.extension (modulus_stays t0 t grown ∙ c.requires.same_modulus) (c.if-not-replaced.ensures.0 refl) c.requires.in_range
    (sym (ap (λ (g : Aig). slice_get g.outputs k) c.graph.ensures) ∙ c.output-old.ensures) c.new_output.ensures (omega (arith, c.max-max.ensures.value, c.from.ensures, c.from-2.ensures)) c.in_ok-poly.ensures.of c.in_ok-poly.ensures.value))
