use Rattle.std.specs.List.{All}
use Rattle.std.proofs.Common.{subst, sym, ◌∙◌}
use Rattle.std.proofs.lemmas.List.Elements.{All-push}
use Rattle.poly_terms.specs.Laws.{extends_on, modulus_stays}
use Rattle.line_drafts.specs.Drafts.{IsAxiomOf}
use Rattle.line_drafts.proofs.Leaving.{axiom_stays}
use Rattle.line_drafts.proofs.axiom_lines.gate_lines.Goals as goal

pub loop-gate-preserved : goal.loop-gate-preserved
loop-gate-preserved c =
    let e = c.args.extended.now in
    let t0 = c.args.terms.now in
    let t1 = c.loop-gate.terms in
    let t = c.gate_line.new.terms in
    let grown = c.in_ok-line.ensures.extends in
    record {
      table = extends_on t0 t1 t c.loop-gate.invariant.table grown;
      axioms = subst (All (IsAxiomOf e t)) (sym c.in_ok-push.ensures.items)
          (All-push (IsAxiomOf e t) c.loop-gate.known.items c.in_ok-line.line (λ k d low. axiom_stays e t1 t _ grown (c.loop-gate.invariant.axioms k d low)) c.in_ok-line.ensures.known);
    }

pub gate_line-requires-clause-same_modulus : goal.gate_line-requires-clause-same_modulus
gate_line-requires-clause-same_modulus c = modulus_stays c.args.terms.now c.loop-gate.terms c.loop-gate.invariant.table ∙ c.requires
