-- The values of literals on an assignment, by their numbers.
use Rattle.std.specs.Prelude.{◌≡◌, ◌≢◌, ℕ, ◌+◌, ◌*◌, ◌-◌, ◌/◌, ◌%◌, Bool, true, false, not, cond, ◌==◌}
use Rattle.std.proofs.Common.{refl, sym, ap, ◌∙◌, arith, eqb-true, eq-eqb, ne_eqb}
use Rattle.std.proofs.lemmas.Bool.{eqb-false}
use Rattle.std.proofs.Math.Bool.{not-not}
use Rattle.graph_core.specs.declared.literal.Lit.{Lit}
use Rattle.graph_core.specs.Graph.Literals.{variable_of, negation_of, plain, inverted}
use Rattle.graph_core.specs.Graph.Assignments.{Assignment, variable, literal}

pub literal-even : (σ : Assignment) (l : Lit) (v : ℕ) → l.0 ≡ 2 * v → literal σ l ≡ variable σ v
literal-even σ l v e =
    let rest : l.0 % 2 ≡ 0 = omega arith in
    let half : l.0 / 2 ≡ v = omega arith in
    ap (λ b. cond b (variable σ (l.0 / 2)) (not (variable σ (l.0 / 2)))) (eq-eqb (l.0 % 2) 0 rest) ∙ ap (variable σ) half

pub literal-odd : (σ : Assignment) (l : Lit) (v : ℕ) → l.0 ≡ 2 * v + 1 → literal σ l ≡ not (variable σ v)
literal-odd σ l v e =
    let rest : l.0 % 2 ≢ 0 = λ z. omega arith in
    let half : l.0 / 2 ≡ v = omega arith in
    ap (λ b. cond b (variable σ (l.0 / 2)) (not (variable σ (l.0 / 2)))) (ne_eqb (l.0 % 2) 0 rest) ∙ ap (λ w. not (variable σ w)) half

-- the literal of a variable has its value, and its negation the other one
pub literal-plain : (σ : Assignment) (v : ℕ) → literal σ (plain v) ≡ variable σ v
literal-plain σ v = literal-even σ (plain v) v refl

pub literal-inverted : (σ : Assignment) (v : ℕ) → literal σ (inverted v) ≡ not (variable σ v)
literal-inverted σ v = literal-odd σ (inverted v) v refl

pub literal-negated : (σ : Assignment) (l : Lit) → literal σ (negation_of l) ≡ not (literal σ l)
literal-negated σ l = go (l.0 % 2 == 0) refl
  where
    go : (b : Bool) → (l.0 % 2 == 0) ≡ b → literal σ (cond b (record { 0 = l.0 + 1 }) (record { 0 = l.0 - 1 })) ≡ not (cond b (variable σ (l.0 / 2)) (not (variable σ (l.0 / 2))))
    go true e = let even = eqb-true (l.0 % 2) 0 e in literal-odd σ (record { 0 = l.0 + 1 }) (l.0 / 2) (omega arith)
    go false e = let odd = eqb-false (l.0 % 2) 0 e in literal-even σ (record { 0 = l.0 - 1 }) (l.0 / 2) (omega arith) ∙ sym (not-not (variable σ (l.0 / 2)))

pub variable_of-negated : (l : Lit) → variable_of (negation_of l) ≡ variable_of l
variable_of-negated l = go (l.0 % 2 == 0) refl
  where
    go : (b : Bool) → (l.0 % 2 == 0) ≡ b → variable_of (cond b (record { 0 = l.0 + 1 }) (record { 0 = l.0 - 1 })) ≡ l.0 / 2
    go true e = let even = eqb-true (l.0 % 2) 0 e in omega arith
    go false e = let odd = eqb-false (l.0 % 2) 0 e in omega arith
