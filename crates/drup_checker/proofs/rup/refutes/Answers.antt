use Rattle.std.proofs.Common.{sym, ◌∙◌}
use Rattle.drup_checker.proofs.Opposed.{begins_more, found_rup}
use Rattle.drup_checker.proofs.rup.refutes.Goals as goal

pub returns-clause-rup : goal.returns-clause-rup
returns-clause-rup c =
    rw c.is_some-2.ensures
    (found_rup c.args.propagator.now c.oppose_all.new.propagator c.propagate.new.self c.args.clause.now c.propagate.result
    (c.oppose_all.ensures.all (sym c.is_some.ensures ∙ c.if-is_some.false)) c.propagate.ensures.grows c.propagate.ensures.found c.propagate.ensures.sound)

pub returns-clause-begins : goal.returns-clause-begins
returns-clause-begins c = begins_more c.args.propagator.now c.oppose_all.new.propagator c.propagate.new.self c.oppose_all.ensures.begins c.propagate.ensures.grows
