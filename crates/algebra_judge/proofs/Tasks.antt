-- What a checker keeps of its task.
use Rattle.std.proofs.Common.{◌≡◌, ℕ, Bool, List, ap, ◌∙◌, map}
use Rattle.clause_core.specs.Clause.{Clause}
use Rattle.gate_axioms.specs.ClauseValues.{clause_value}
use Rattle.graph_core.specs.Graph.Extended.{Extended}
use Rattle.graph_core.specs.Graph.Operands.{Sides}
use Rattle.pac_checker.specs.Checking.{AlgebraChecking, GrowsCheckedTable, KeepsLedger}
use Rattle.algebra_judge.specs.AlgebraLines.{AlgebraTask, KeepsAlgebraTask, task_of}

abbrev made : ℕ → Extended → List Clause → Sides → Bool → AlgebraTask
made version e added sides records = record { premises = record { version = version; extended = e; imports = map clause_value added }; sides = sides; records = records }

pub task_is : (v w : ℕ) (a b : AlgebraChecking) → w ≡ v → KeepsAlgebraTask a b → task_of w b ≡ task_of v a
task_is v w a b is h =
    ap (λ n. made n b.extended b.added b.sides b.records) is ∙ ap (λ e. made v e b.added b.sides b.records) h.extended ∙
    ap (λ cs. made v a.extended cs b.sides b.records) h.added ∙ ap (λ s. made v a.extended a.added s b.records) h.sides ∙
    ap (made v a.extended a.added a.sides) h.records

pub grows_task : {a b : AlgebraChecking} → GrowsCheckedTable a b → KeepsAlgebraTask a b
grows_task h = record { extended = h.extended; sides = h.sides; added = h.added; records = h.records }

pub keeps_task : {a b : AlgebraChecking} → KeepsLedger a b → KeepsAlgebraTask a b
keeps_task h = record { extended = h.extended; sides = h.sides; added = h.added; records = h.records }
