-- How a propagator keeps a clause.
use Rattle.std.specs.declared.option.Option.{Option}
use Rattle.std.specs.declared.option.Option.TheVariants.{None, Some}
use Rattle.std.specs.Option.{IfSome}
use Rattle.clause_core.specs.Clause.{Clause, IsClause}
use Rattle.unit_prop.specs.declared.kept.Form.{Form}
use Rattle.unit_prop.specs.declared.kept.Form.TheVariants.{Gone, Two, Three, Other}

-- the clause of a form, None where there is none any more
abbrev pub kept_in : Form → Option Clause
kept_in Gone = None
kept_in (Two lits) = Some lits
kept_in (Three lits) = Some lits
kept_in (Other clause) = Some clause.value

-- its literals rise
abbrev pub IsKept : Form → Type 0
IsKept form = IfSome (kept_in form) IsClause
