use Rattle.std.proofs.Common.{arith}
use Rattle.column_reducer.proofs.Taken.{gathered_first}
use Rattle.column_reducer.proofs.gathered.Gathered.new.Goals as goal

pub returns-clause-gathered : goal.returns-clause-gathered
returns-clause-gathered c e s rest same none =
    gathered_first e s c.zero_poly.new.terms rest _ c.new.ensures.items c.new-2.ensures.items c.new-3.ensures.items c.new-4.ensures
    (let is = c.exponent-power.ensures.exponent in let wide = c.exponent-power.ensures.in_range.0 in omega arith)
    c.in_ok-total.ensures.of c.in_ok-total.ensures.value none
