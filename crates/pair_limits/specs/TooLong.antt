-- The file of a pair of certificates that is past the limits.
use Rattle.std.specs.Prelude.{ℕ, List}
use Rattle.std.specs.declared.option.Option.{Option}
use Rattle.std.specs.declared.option.Option.TheVariants.{None, Some}
use Rattle.graph_core.specs.Text.JudgedLines.{IsWithin, Lengths}
use Rattle.mv_desk.specs.declared.slot.Slot.{Slot}
use Rattle.mv_desk.specs.declared.slot.Slot.TheVariants as slot

-- Of a clause certificate and an algebra certificate the first one that is too long, or has a line that is; with `None` there is no such.
abbrev pub IsFirstTooLong : Lengths → List ℕ → List ℕ → Option Slot → Type 0
IsFirstTooLong lengths clauses algebra None = IsWithin lengths clauses × IsWithin lengths algebra
IsFirstTooLong lengths clauses algebra (Some slot.Clauses) = ¬ (IsWithin lengths clauses)
IsFirstTooLong lengths clauses algebra (Some slot.Algebra) = IsWithin lengths clauses × ¬ (IsWithin lengths algebra)
IsFirstTooLong lengths clauses algebra (Some _) = ⊥
