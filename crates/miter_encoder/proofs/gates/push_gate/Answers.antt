use Rattle.std.proofs.Common.{◌∷◌, [], List, sym, ap₂, subst}
use Rattle.std.specs.List.{cons_option}
use Rattle.graph_core.specs.declared.literal.Lit.{Lit}
use Rattle.clause_core.specs.GateClauses.{clause_of}
use Rattle.graph_core.specs.Graph.Literals.{negation_of, inverted, plain}
use Rattle.miter_encoder.specs.Encoding.{Appends}
use Rattle.miter_encoder.proofs.Appending.{appends_two, three_clauses}
use Rattle.miter_encoder.proofs.gates.push_gate.Goals as goal

pub returns : goal.returns
returns c =
    let gate = c.args.gate.now in
    let a = inverted gate.v ∷ gate.left ∷ [] in
    let b = inverted gate.v ∷ gate.right ∷ [] in
    let d = plain gate.v ∷ negation_of gate.left ∷ negation_of gate.right ∷ [] in
    let last = subst (λ (ls : List Lit). Appends c.push-2.new.clauses c.push-3.new.clauses (cons_option (clause_of ls) []))
    (ap₂ (λ x y. plain gate.v ∷ x ∷ y ∷ []) c.not.ensures c.not-2.ensures) c.in_ok-push-3.ensures in
    subst (Appends c.args.clauses.now c.push-3.new.clauses) (sym (three_clauses a b d))
    (appends_two c.args.clauses.now c.push-2.new.clauses c.push-3.new.clauses _ _
    (appends_two c.args.clauses.now c.push.new.clauses c.push-2.new.clauses (cons_option (clause_of a) []) (cons_option (clause_of b) []) c.in_ok-push.ensures c.in_ok-push-2.ensures) last)
