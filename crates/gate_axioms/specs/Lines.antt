-- Live polynomials as live lines.
use Rattle.std.specs.Prelude.{ℕ, List, map}
use Rattle.algebra_core.specs.AlgebraLines.{LiveLine}
use Rattle.mv_fact.specs.Facts.{Facts}
use Rattle.poly_terms.specs.Tables.{Table, Sum, value_in}

-- a polynomial under an id, as a live line
abbrev pub live_line_in : Table → ℕ × Sum → LiveLine
live_line_in t entry = record { id = entry.0; value = value_in t entry.1 }

abbrev pub live_lines_in : Table → List (ℕ × Sum) → List LiveLine
live_lines_in t entries = map (live_line_in t) entries

-- live facts as lines
abbrev pub lines_of : Facts Sum Table → List LiveLine
lines_of facts = live_lines_in facts.table facts.entries
