-- What the next line of a file leads to, where lines are judged one after the other.
use Rattle.std.specs.Prelude.{Err, Ok, Result}
use Rattle.std.specs.declared.option.Option.{Option}
use Rattle.std.specs.declared.option.Option.TheVariants.{None, Some}

-- to further lines, or to an answer
abbrev pub LeadsTo : {T E : Type 0} → Type 0 → (Result T E → Type 0) → Result (Option T) E → Type 0
LeadsTo Further Judged (Ok None) = Further
LeadsTo Further Judged (Ok (Some end)) = Judged (Ok end)
LeadsTo Further Judged (Err fail) = Judged (Err fail)
