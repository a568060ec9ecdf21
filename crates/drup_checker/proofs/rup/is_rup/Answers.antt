use Rattle.std.proofs.Common.{◌∙◌}
use Rattle.drup_checker.proofs.Opposed.{back_is, still_mark}
use Rattle.drup_checker.proofs.rup.is_rup.Goals as goal

pub back_to-requires : goal.back_to-requires
back_to-requires c = still_mark c.args.propagator.now c.refutes-refuted.new.propagator c.mark-mark.result c.mark-mark.ensures.mark c.refutes-refuted.ensures.begins

pub returns-clause-kept : goal.returns-clause-kept
returns-clause-kept c = c.back_to.ensures ∙ back_is c.args.propagator.now c.refutes-refuted.new.propagator c.mark-mark.result c.mark-mark.ensures.sound c.mark-mark.ensures.count c.refutes-refuted.ensures.begins
