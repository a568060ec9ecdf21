-- The replaced columns of an extended graph by their numbers. These words serve private clauses.
use Rattle.std.specs.Prelude.{ℕ, ◌==◌}
use Rattle.std.specs.declared.option.Option.{Option}
use Rattle.std.specs.List.{find}
use Rattle.std.specs.Option.{option_map}
use Rattle.graph_core.specs.declared.Lit.{Lit}
use Rattle.graph_core.specs.Graph.Extended.{Extended, Column}

-- the replaced column of this number
abbrev pub replaced_column : Extended → ℕ → Option Column
replaced_column e k = find (λ c. c.number == k) e.replaced

-- a column by its number and its two outputs
abbrev pub column_by : ℕ → Option (Lit × Lit) → Option Column
column_by k outputs = option_map (λ o. record { number = k; old = o.0; new = o.1 }) outputs
