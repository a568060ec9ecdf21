-- Budgets that are enough: with one of these a made multiplier with a ripple-carry adder is proved.
use Rattle.std.specs.Prelude.{◌≡◌, ℕ, ◌+◌, ◌*◌, ◌<◌, ◌≤◌, List, IfSome}
use Rattle.std.specs.declared.option.Option.{Option}
use Rattle.std.specs.declared.option.Option.TheVariants.{None}
use Rattle.aiger_reader.specs.Refusals.{SpellsWithin}
use Rattle.command_core.specs.Stopping.{GivesDue}
use Rattle.graph_core.specs.Graph.{Aig, SameUpToOperands}
use Rattle.graph_core.specs.Graph.Operands.{product_under}
use Rattle.graph_core.specs.declared.order.Order.TheVariants.{Separate}
use Rattle.graph_core.specs.declared.profile.Profile.TheVariants.{Multiplier}
use Rattle.graph_maker.specs.Made.{made}
use Rattle.graph_maker.specs.declared.adder.Adder.TheVariants.{Ripple}
use Rattle.graph_maker.specs.declared.kind.Kind.{Kind}
use Rattle.mv_desk.specs.View.{View, bytes_under}
use Rattle.mv_desk.specs.declared.limits.Limits.{Limits}
use Rattle.command_core.specs.Files.{Files}
use Rattle.joint_prover.specs.declared.note.Note.{Note}
use Rattle.command_core.specs.declared.task.Task.{Task}
use Rattle.joint_prover.specs.declared.verdict.Verdict.{Verdict}
use Rattle.joint_prover.specs.declared.verdict.Verdict.TheVariants.{Proved, Stopped}
use Rattle.joint_prover.specs.Verdicts.{IsVerdict, judgement}

-- The file is at most that long and spells, up to the order of each gate's operands, a made multiplier of n bits with a ripple-carry
-- adder, whose inputs are all bits of a and then all bits of b; the product of these is claimed, both unsigned; and the budget is at
-- least 8 n^2 + 64.
pub record IsEnough (limit : ℕ) (task : Task) (file : List ℕ) : Type 0 where
  pub kind : Kind
  pub bits : ℕ
  pub some : 0 < bits
  pub graph : Aig
  pub spells : SpellsWithin Multiplier limit file graph
  pub same : SameUpToOperands (made kind bits Ripple) graph
  pub separate : task.claim ≡ product_under Separate
  pub high : 8 * bits * bits + 64 ≤ task.budget

-- Where the file is told and the budget is enough for it, the verdict is `Proved`, however long the certificates are; or in its place a
-- fault, which was counted, or out of memory.
abbrev pub ProvesEnough : ℕ → Task → Files → View → View → Verdict → Type 0
ProvesEnough limit task files before after given =
    IfSome (bytes_under before files.graph) (λ file. IsEnough limit task file → GivesDue Stopped before after (Proved None) (judgement given))

abbrev pub EnoughIsProved : Type 0
EnoughIsProved = (limits : Limits) (task : Task) (files : Files) (before after : View) (given : Verdict) (noted : Option Note) →
    IsVerdict limits task files before after given noted → ProvesEnough limits.graph task files before after given
