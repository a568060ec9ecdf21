-- Live lines are a map from ids, and vanish on evaluations.
use Rattle.std.specs.Prelude.{◌≡◌, ℕ, Bool, true, false, not, cond, List, [], ◌∷◌, ◌==◌}
use Rattle.std.specs.declared.option.Option.{Option}
use Rattle.std.specs.declared.option.Option.TheVariants.{None, Some}
use Rattle.std.specs.List.{filter}
use Rattle.std.proofs.Common.{refl, sym, ap, ◌∙◌, arith, eq-eqb, eqb-true}
use Rattle.std.proofs.lemmas.List.Elements.{All-from_recursion}
use Rattle.algebra_core.specs.AlgebraLines.{LiveLine, line_of, after_all, beginning}
use Rattle.graph_core.specs.Graph.Extended.{modulus}
use Rattle.algebra_core.specs.Ledgers.{LedgerIsMap, LiveLinesVanish}
use Rattle.algebra_core.proofs.Sound.{after_all-vanish, axioms-vanish, met-zero}

dropped : (id : ℕ) (live : List LiveLine) (k : ℕ) → line_of (filter (λ x. not (x.id == id)) live) k ≡ cond (id == k) None (line_of live k)
dropped id [] k = nothing (id == k)
  where
    nothing : (b : Bool) → ◌≡◌ {A = Option LiveLine} None (cond b None None)
    nothing true = refl
    nothing false = refl
dropped id (l ∷ live) k = go (l.id == id) refl (l.id == k) refl (id == k) refl (dropped id live k)
  where
    go : (b : Bool) → (l.id == id) ≡ b → (c : Bool) → (l.id == k) ≡ c → (d : Bool) → (id == k) ≡ d → line_of (filter (λ x. not (x.id == id)) live) k ≡ cond (id == k) None (line_of live k) →
        line_of (cond (not b) (l ∷ filter (λ x. not (x.id == id)) live) (filter (λ x. not (x.id == id)) live)) k ≡ cond (id == k) None (cond (l.id == k) (Some l) (line_of live k))
    go true e c f true g ih = ih ∙ ap (λ z. cond z None (line_of live k)) g ∙ sym (ap (λ z. cond z None (cond (l.id == k) (Some l) (line_of live k))) g)
    go true e true f false g ih = let x = eqb-true l.id id e in let y = eqb-true l.id k f in let z = eq-eqb id k (omega (arith, x, y)) in absurd (cc)
    go true e false f false g ih = ih ∙ ap (λ z. cond (id == k) None (cond z (Some l) (line_of live k))) (sym f)
    go false e true f true g ih = let x = eqb-true l.id k f in let y = eqb-true id k g in let z = eq-eqb l.id id (omega (arith, x, y)) in absurd (cc)
    go false e true f false g ih = sym (ap (λ z. cond z None (cond (l.id == k) (Some l) (line_of live k))) g ∙ ap (λ z. cond z (Some l) (line_of live k)) f ∙ sym (ap (λ z. cond z (Some l) (line_of (filter (λ x. not (x.id == id)) live) k)) f))
    go false e false f d g ih = ap (λ z. cond z (Some l) (line_of (filter (λ x. not (x.id == id)) live) k)) f ∙ ih ∙ ap (λ z. cond (id == k) None (cond z (Some l) (line_of live k))) (sym f)

pub ledger_is_map : LedgerIsMap
ledger_is_map = (λ m l id p k. refl, λ m l id k. dropped id l.live k)

pub live_lines_vanish : LiveLinesVanish
live_lines_vanish p lines σ w h met =
    All-from_recursion (λ l. l.value σ ≡ 0) (after_all (modulus p.extended) (beginning p) lines).live
    (after_all-vanish (modulus p.extended) σ (beginning p) lines w (met-zero p σ met) (axioms-vanish p.extended σ h met.columns))
