use Rattle.std.proofs.Common.{◌≡◌, ◌<◌, ℕ, ◌+◌, ◌++◌, ◌∷◌, List, [], map, length, take, get_or, sym, ap, ◌∙◌, append_assoc}
use Rattle.std.proofs.lemmas.List.{map_push, take_all, take_more}
use Rattle.graph_core.specs.declared.literal.Lit.{Lit}
use Rattle.graph_core.proofs.graph.faults.left_sides_of.Goals as goal

one_more : (inputs : List Lit) (gates : List (Lit × Lit × Lit)) (i : ℕ) (d : Lit × Lit × Lit) → i < length gates → (inputs ++ map (λ t. t.0) (take i gates)) ++ (get_or gates i d).0 ∷ [] ≡ inputs ++ map (λ t. t.0) (take (i + 1) gates)
one_more inputs gates i d low =
    append_assoc inputs (map (λ t. t.0) (take i gates)) ((get_or gates i d).0 ∷ []) ∙
    ap (λ ls. inputs ++ ls) (sym (map_push (λ t. t.0) (take i gates) (get_or gates i d)) ∙ ap (map (λ t. t.0)) (sym (take_more gates i d low)))

pub loop-gate-preserved : goal.loop-gate-preserved
loop-gate-preserved c =
    let d : Lit × Lit × Lit = (record { 0 = 0 }, record { 0 = 0 }, record { 0 = 0 }) in
    c.in_ok-push.ensures.items ∙ ap (λ ls. ls ++ (get_or c.args.gates.now c.loop-gate.gate-index d).0 ∷ []) c.loop-gate.invariant ∙ one_more c.args.inputs.now c.args.gates.now c.loop-gate.gate-index d c.loop-gate-test.true

pub returns : goal.returns
returns c = c.loop-gate.invariant ∙ ap (λ ts. c.args.inputs.now ++ map (λ t. t.0) ts) (take_all c.loop-gate.gate-index c.args.gates.now c.loop-gate-test.false)
