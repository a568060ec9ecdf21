-- Why the clause file isn't lawful, where it is told; beside its refusals a failed read and out of memory.
use Rattle.std.specs.Prelude.{ℕ, List}
use Rattle.std.specs.declared.option.Option.{Option}
use Rattle.clause_judge.specs.Fails.{IsFailOf}
use Rattle.clause_judge.specs.declared.fail.ClauseFail.{ClauseFail}
use Rattle.graph_core.specs.Graph.Extended.{Extended}
use Rattle.graph_core.specs.Text.JudgedLines.{Lengths}
use Rattle.mv_desk.specs.View.{View}
use Rattle.same_core.specs.Certificates.{IsMergedLineRefusal, IsOutputRefusal}

-- over merged gates
abbrev pub IsPairClauseFail : Lengths → Extended → Option (List ℕ) → View → View → ClauseFail → Type 0
IsPairClauseFail lengths e text = IsFailOf text (IsMergedLineRefusal lengths e) (IsOutputRefusal lengths e)
