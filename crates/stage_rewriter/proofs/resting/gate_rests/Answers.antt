use Rattle.std.proofs.Common.{rules, [], ◌∷◌, subst, sym, arith}
use Rattle.graph_core.specs.declared.literal.Lit.{Lit}
use Rattle.graph_core.specs.Graph.Literals.{negation_of, plain}
use Rattle.stage_rewriter.specs.Resting.{IsAtRest}
use Rattle.stage_rewriter.proofs.resting.gate_rests.Goals as goal

pub returns : goal.returns
returns c =
    let marks = c.args.marks.now in
    let gate = c.args.gate.now in (
      λ h. record {
        small = omega (arith, c.if-gate-ge-VARIABLES.false);
        left = c.rests.ensures.0 (search rules);
        right = c.rests-2.ensures.0 (search rules);
        both = subst (λ (x : Lit). IsAtRest marks (plain gate.v ∷ negation_of gate.left ∷ x ∷ [])) c.not-2.ensures
            (subst (λ (x : Lit). IsAtRest marks (plain gate.v ∷ x ∷ c.not-2.result ∷ [])) c.not.ensures (c.rests-3.ensures.0 h));
      },
      λ r. c.rests-3.ensures.1 (subst (λ (x : Lit). IsAtRest marks (plain gate.v ∷ x ∷ c.not-2.result ∷ [])) (sym c.not.ensures)
          (subst (λ (x : Lit). IsAtRest marks (plain gate.v ∷ negation_of gate.left ∷ x ∷ [])) (sym c.not-2.ensures) r.both)),
    )
