use Rattle.std.proofs.Common.{◌++◌, ap₂, ◌∙◌}
use Rattle.std.proofs.lemmas.List.{take_all}
use Rattle.poly_terms.proofs.Merging.{copied_on}
use Rattle.poly_terms.proofs.Ends.{not_done}
use Rattle.poly_terms.proofs.addition.copy_behind.Goals as goal

pub returns-in_err-reserve : goal.returns-in_err-reserve
returns-in_err-reserve c = not_done _ _ c.from_residual.result c.from_residual.ensures.1

pub returns-in_err-push : goal.returns-in_err-push
returns-in_err-push c = not_done _ _ c.from_residual-in_err-push.result c.from_residual-in_err-push.ensures.1

pub returns : goal.returns
returns c = c.loop-entry.invariant ∙ ap₂ ◌++◌ c.reserve.ensures.items (take_all c.loop-entry.entry-index c.args.entries.now c.loop-entry-test.false)

pub loop-entry-preserved : goal.loop-entry-preserved
loop-entry-preserved c =
    copied_on _ c.loop-entry.out.items c.push.new.self.items c.args.entries.now c.loop-entry.entry-index c.entry-item.result c.copy.result c.loop-entry-test.true c.entry-item.is
    c.in_ok-push.ensures.items c.copy.ensures c.loop-entry.invariant
