-- Laws of the live lines of an algebra certificate.
use Rattle.std.specs.Prelude.{◌≡◌, ℕ, List, ◌==◌, if◌then◌else◌}
use Rattle.std.specs.declared.option.Option.TheVariants.{None, Some}
use Rattle.std.specs.List.{All}
use Rattle.graph_core.specs.Graph.Assignments.{Assignment}
use Rattle.graph_core.specs.Graph.{IsEvaluation}
use Rattle.algebra_core.specs.Polynomials.{Polynomial, value}
use Rattle.algebra_core.specs.AlgebraLines.{Line, Delete, Ledger, AreLawfulLines, line_of, introduce, after, after_all, beginning, AreMet, Premises}
use Rattle.graph_core.specs.Graph.Extended.{modulus}

-- Live lines are a map from ids: a new line is put there under its id, and deleting takes its id away.
abbrev pub LedgerIsMap : Type 0
LedgerIsMap = ((m : ℕ) (l : Ledger) (id : ℕ) (p : Polynomial) (k : ℕ) →
    line_of (introduce m l id p).live k ≡
    (if id == k then Some (record { id = id; value = value m p }) else line_of l.live k)) ×
    ((m : ℕ) (l : Ledger) (id k : ℕ) → line_of (after m l (Delete id)).live k ≡ (if id == k then None else line_of l.live k))

-- Every line that is live after lawful lines is 0 on each evaluation that meets the premises.
abbrev pub LiveLinesVanish : Type 0
LiveLinesVanish = (p : Premises) (lines : List Line) (σ : Assignment) → AreLawfulLines (modulus p.extended) (beginning p) lines →
    IsEvaluation p.extended.gates σ → AreMet p σ →
    All (λ l. l.value σ ≡ 0) (after_all (modulus p.extended) (beginning p) lines).live
