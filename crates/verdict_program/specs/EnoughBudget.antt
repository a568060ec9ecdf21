-- Budgets that are enough.
use Rattle.std.specs.Prelude.{◌≡◌, ℕ, List, Some}
use Rattle.command_line.specs.Asked.{IsVerify}
use Rattle.command_core.specs.Files.{Files}
use Rattle.command_core.specs.declared.task.Task.{Task}
use Rattle.joint_prover.specs.Budgets.{IsEnough}
use Rattle.mv_desk.specs.View.{View, bytes_under}
use Rattle.verdict_program.specs.Runs.{standard}

-- The words ask for `verify`, and the budget that they name, or the default one, is enough for the graph file: this spells a made
-- multiplier with a ripple-carry adder.
abbrev pub HasEnoughBudget : List (List ℕ) → View → Type 0
HasEnoughBudget words before =
    (files : Files) × (task : Task) × IsVerify words files task ×
    (file : List ℕ) × (bytes_under before files.graph ≡ Some file) × IsEnough standard.graph task file
