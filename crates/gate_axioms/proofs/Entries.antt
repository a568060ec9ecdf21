-- The entries of live facts as live lines.
use Rattle.std.specs.Prelude.{cond, ◌==◌}
use Rattle.std.proofs.Common.{◌≡◌, ℕ, Bool, true, false, List, [], ◌∷◌, refl, sym, ap, ◌∙◌}
use Rattle.std.specs.declared.option.Option.{Option}
use Rattle.std.specs.declared.option.Option.TheVariants.{None, Some}
use Rattle.std.proofs.lemmas.Bool.{eqb-true, eq-eqb, true≢false}
use Rattle.algebra_core.specs.AlgebraLines.{LiveLine, line_of}
use Rattle.mv_fact.specs.Facts.{fact_at}
use Rattle.poly_terms.specs.Tables.{Table, Sum}
use Rattle.gate_axioms.specs.Lines.{live_line_in, live_lines_in}

-- a polynomial under an id as a live line
abbrev pub line_at : Table → ℕ → Option Sum → Option LiveLine
line_at t id None = None
line_at t id (Some p) = Some (live_line_in t (id, p))

equal_sym : (a b : ℕ) → (a == b) ≡ (b == a)
equal_sym a b = go (a == b) refl (b == a) refl
  where
    go : (x : Bool) → (a == b) ≡ x → (y : Bool) → (b == a) ≡ y → x ≡ y
    go true f true g = refl
    go true f false g = absurd (true≢false (sym (eq-eqb b a (sym (eqb-true a b f))) ∙ g))
    go false f true g = absurd (true≢false (sym (eq-eqb a b (sym (eqb-true b a g))) ∙ f))
    go false f false g = refl

pub line_of-entries : (t : Table) (es : List (ℕ × Sum)) (id : ℕ) → line_of (live_lines_in t es) id ≡ line_at t id (fact_at es id)
line_of-entries t [] id = refl
line_of-entries t (e ∷ es) id = go (e.0 == id) refl (line_of-entries t es id) ∙ ap (λ b. line_at t id (cond b (Some e.1) (fact_at es id))) (sym (equal_sym id e.0))
  where
    go : (b : Bool) → (e.0 == id) ≡ b → line_of (live_lines_in t es) id ≡ line_at t id (fact_at es id) →
        cond b (Some (live_line_in t e)) (line_of (live_lines_in t es) id) ≡ line_at t id (cond b (Some e.1) (fact_at es id))
    go true f rest = ap (λ n. Some (live_line_in t (n, e.1))) (eqb-true e.0 id f)
    go false f rest = rest
