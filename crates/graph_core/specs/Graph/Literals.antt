-- Literals and and-gates, in the numbering of AIGER: 2v is variable v and 2v + 1 its negation; 0 is false and 1 is true.
use Rattle.std.specs.Prelude.{◌≡◌, ℕ, ◌+◌, ◌*◌, ◌-◌, ◌/◌, ◌%◌, if◌then◌else◌, ◌==◌}
use Rattle.graph_core.specs.declared.gate.Gate.{Gate}
use Rattle.graph_core.specs.declared.literal.Lit.{Lit}

-- the variable of a literal
abbrev pub variable_of : Lit → ℕ
variable_of l = l.0 / 2

-- A negation has an odd number.
abbrev pub IsNegated : Lit → Type 0
IsNegated l = l.0 % 2 ≡ 1

-- the literal with the other value
abbrev pub negation_of : Lit → Lit
negation_of l = if l.0 % 2 == 0 then record { 0 = l.0 + 1 } else record { 0 = l.0 - 1 }

-- the literal of a variable, and its negation
abbrev pub plain : ℕ → Lit
plain v = record { 0 = 2 * v }

abbrev pub inverted : ℕ → Lit
inverted v = record { 0 = 2 * v + 1 }

-- the two constants
abbrev pub constant_false : Lit
constant_false = record { 0 = 0 }

abbrev pub constant_true : Lit
constant_true = record { 0 = 1 }

-- the gate of variable v with these operands
abbrev pub and_gate : ℕ → Lit → Lit → Gate
and_gate v x y = record { v = v; left = x; right = y }
