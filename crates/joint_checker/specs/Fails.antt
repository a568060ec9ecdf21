-- Why a certificate isn't lawful, where it is told; beside its refusals a failed read and out of memory. Private clauses alone cite it.
use Rattle.std.specs.Prelude.{ℕ, List}
use Rattle.std.specs.declared.option.Option.{Option}
use Rattle.algebra_core.specs.AlgebraLines.{Premises}
use Rattle.algebra_core.specs.Refusal.{IsAlgebraRefusal}
use Rattle.algebra_judge.specs.Fails as algebraic
use Rattle.algebra_judge.specs.declared.fail.AlgebraFail.{AlgebraFail}
use Rattle.clause_judge.specs.Fails as clausal
use Rattle.clause_judge.specs.declared.fail.ClauseFail.{ClauseFail}
use Rattle.graph_core.specs.Graph.{Aig}
use Rattle.graph_core.specs.Graph.Operands.{Sides}
use Rattle.graph_core.specs.Text.JudgedLines.{Lengths}
use Rattle.mv_desk.specs.View.{View}
use Rattle.joint_checker.specs.ClauseRefusals.{IsClauseRefusal, IsColumnRefusal}

-- the clause file for a graph
abbrev pub IsClauseFail : Lengths → Aig → Option (List ℕ) → View → View → ClauseFail → Type 0
IsClauseFail lengths g text = clausal.IsFailOf text (IsClauseRefusal lengths g) (IsColumnRefusal lengths g)

-- the algebra file over premises and operands
abbrev pub IsAlgebraFail : Lengths → Premises → Sides → Option (List ℕ) → View → View → AlgebraFail → Type 0
IsAlgebraFail lengths p sides text = algebraic.IsFailOf text (IsAlgebraRefusal p sides lengths)
