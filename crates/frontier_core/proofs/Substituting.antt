-- What is substituted for a variable, and what elimination makes of a function.
use Rattle.std.specs.Prelude.{◌≡◌, ℕ, ◌+◌, ◌*◌, ◌%◌, Bool, true, false, cond, ◌&&◌, ◌==◌}
use Rattle.std.proofs.Common.{refl, sym, ap, ◌∙◌, arith, ⊎_elim, eqb-true}
use Rattle.std.proofs.Math.Path.{fun_ext}
use Rattle.std.proofs.Math.Nat.{mod-mod}
use Rattle.std.proofs.lemmas.Bool.{cases_Bool}
use Rattle.graph_core.specs.declared.gate.Gate.{Gate}
use Rattle.graph_core.specs.Graph.Assignments.{Assignment, variable, literal, bit}
use Rattle.graph_core.specs.Graph.{evaluation}
use Rattle.graph_core.specs.Graph.Extended.{modulus}
use Rattle.ripple_graft.specs.Extension.{new_outputs}
use Rattle.algebra_core.proofs.CallerLemmas.{modulus_pos, difference_plus}
use Rattle.graph_core.proofs.OfGraphs.CallerLemmas.{variable-pos}
use Rattle.frontier_core.specs.Columns.{columns_sum}
use Rattle.frontier_core.specs.Frontier.{gates_among, set_to}
use Rattle.frontier_core.specs.Substitution.{gate_value, quotient, SubstitutingSets, QuotientSplits, EliminatingSubstitutes, EliminatingReplaces}
use Rattle.frontier_core.proofs.FrontierSteps.{eliminating_computes_gate}

pub substituting_sets : SubstitutingSets
substituting_sets m v g f σ true h e =
    let one : (f (set_to v false σ) + g σ * quotient m v f σ) ≡ quotient m v f σ + f (set_to v false σ) = ap (λ z. f (set_to v false σ) + z * quotient m v f σ) e ∙ omega arith in
    ap (λ z. z % m) one ∙ difference_plus m (f (set_to v true σ)) (f (set_to v false σ)) h
substituting_sets m v g f σ false h e =
    let none : (f (set_to v false σ) + g σ * quotient m v f σ) ≡ f (set_to v false σ) = ap (λ z. f (set_to v false σ) + z * quotient m v f σ) e ∙ omega arith in
    ap (λ z. z % m) none

-- a variable set to its own value
pub set_to-is : (v : ℕ) (σ : Assignment) → set_to v (σ v) σ ≡ σ
set_to-is v σ = fun_ext (λ w. ⊎_elim (λ e. ap (λ b. cond b (σ v) (σ w)) e ∙ ap σ (sym (eqb-true w v e))) (λ f. ap (λ b. cond b (σ v) (σ w)) f) (cases_Bool (w == v)))

pub quotient_splits : QuotientSplits
quotient_splits m v f σ h above = go (σ v) refl
  where
    go : (b : Bool) → σ v ≡ b → (bit (variable σ v) * quotient m v f σ + f (set_to v false σ)) % m ≡ f σ % m
    go true e =
        let one : (bit (variable σ v) * quotient m v f σ + f (set_to v false σ)) ≡ quotient m v f σ + f (set_to v false σ) =
        ap (λ b. bit b * quotient m v f σ + f (set_to v false σ)) (variable-pos σ v above ∙ e) ∙ omega arith in
        ap (λ z. z % m) one ∙ difference_plus m (f (set_to v true σ)) (f (set_to v false σ)) h ∙ ap (λ τ. f τ % m) (ap (λ b. set_to v b σ) (sym e) ∙ set_to-is v σ)
    go false e =
        let none : (bit (variable σ v) * quotient m v f σ + f (set_to v false σ)) ≡ f (set_to v false σ) =
        ap (λ b. bit b * quotient m v f σ + f (set_to v false σ)) (variable-pos σ v above ∙ e) ∙ omega arith in
        ap (λ z. z % m) none ∙ ap (λ τ. f τ % m) (ap (λ b. set_to v b σ) (sym e) ∙ set_to-is v σ)

-- ---- a gate

pub gate_value-bit : (x : Gate) (σ : Assignment) → gate_value x σ ≡ bit (literal σ x.left && literal σ x.right)
gate_value-bit x σ = go (literal σ x.left) (literal σ x.right)
  where
    go : (b c : Bool) → bit b * bit c ≡ bit (b && c)
    go true true = refl
    go true false = refl
    go false true = refl
    go false false = refl

pub eliminating_replaces : EliminatingReplaces
eliminating_replaces e s added eliminated x f h made frontier is new has_f has_h σ =
    let answer = literal σ x.left && literal σ x.right in
    has_h σ answer (gate_value-bit x σ) ∙ has_f (set_to x.v answer σ) ∙ sym (eliminating_computes_gate e s added eliminated x σ made frontier is new)

pub eliminating_substitutes : EliminatingSubstitutes
eliminating_substitutes e s added eliminated x f h made frontier is new has_f has_h =
    eliminating_replaces e s added eliminated x f h made frontier is new has_f
    (λ σ b product.
    let there = set_to x.v b σ in
    let small : f there % modulus e ≡ f there =
    ap (λ z. z % modulus e) (has_f there) ∙ mod-mod (columns_sum (modulus e) s added 0 (new_outputs e) (evaluation (gates_among eliminated e.gates) there)) (modulus e) ∙ sym (has_f there) in
    has_h σ ∙ substituting_sets (modulus e) x.v (gate_value x) f σ b (modulus_pos e) product ∙ small)
