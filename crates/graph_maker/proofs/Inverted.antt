-- Negations of variables in a row, and gates with one operand in common, as loops make them.
use Rattle.std.specs.Prelude.{◌≡◌, ℕ, zero, suc, ◌+◌, List, [], ◌∷◌, ◌++◌, length}
use Rattle.std.proofs.Common.{refl, sym, ap, ap₂, ◌∙◌, arith, append_assoc}
use Rattle.graph_core.specs.declared.literal.Lit.{Lit}
use Rattle.graph_core.specs.Graph.Literals.{inverted, and_gate}
use Rattle.graph_maker.specs.Builder.{Builder, with_gates}
use Rattle.graph_maker.specs.Corrected.{inverted_from, masked_gates}

pub length-inverted_from : (v n : ℕ) → length (inverted_from v n) ≡ n
length-inverted_from v zero = refl
length-inverted_from v (suc n) = ap suc (length-inverted_from (v + 1) n)

-- one negation more
pub inverted_step : (done : List Lit) (v n m : ℕ) → n ≡ suc m → done ++ inverted_from v n ≡ (done ++ inverted v ∷ []) ++ inverted_from (v + 1) m
inverted_step done v n m e = ap (λ k. done ++ inverted_from v k) e ∙ sym (append_assoc done (inverted v ∷ []) (inverted_from (v + 1) m))

-- one gate more
pub masked_step : (b : Builder) (x y : Lit) (ys : List Lit) → with_gates b (masked_gates b.last x (y ∷ ys)) ≡
    with_gates (with_gates b (and_gate (b.last + 1) x y ∷ [])) (masked_gates (b.last + 1) x ys)
masked_step b x y ys =
    let g = and_gate (b.last + 1) x y in
    let rest = masked_gates (b.last + 1) x ys in
    ap₂ (λ last gates. record { last = last; gates = gates }) (omega arith) (sym (append_assoc b.gates (g ∷ []) rest))

pub length-masked_gates : (v : ℕ) (x : Lit) (ys : List Lit) → length (masked_gates v x ys) ≡ length ys
length-masked_gates v x [] = refl
length-masked_gates v x (y ∷ ys) = ap suc (length-masked_gates (v + 1) x ys)
