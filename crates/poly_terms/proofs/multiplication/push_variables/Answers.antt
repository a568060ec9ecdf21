use Rattle.poly_terms.proofs.Adding.{adds_one}
use Rattle.poly_terms.proofs.multiplication.push_variables.Goals as goal

pub returns-clause-adds : goal.returns-clause-adds
returns-clause-adds c m =
    adds_one m c.args.table.now c.intern_slice.new.self c.args.out.now.items c.push.new.self.items c.in_ok-number.number c.args.coefficient c.args.variables.now
    c.in_ok-number.ensures.grows c.in_ok-number.ensures.number (rw (← c.new.ensures) c.in_ok-push.ensures.items)
