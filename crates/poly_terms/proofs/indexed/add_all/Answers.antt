use Rattle.std.proofs.Common.{◌^◌}
use Rattle.poly_terms.proofs.Indexing.{added_more}
use Rattle.poly_terms.proofs.indexed.add_all.Goals as goal

pub loop-entry-preserved : goal.loop-entry-preserved
loop-entry-preserved c =
    added_more (2 ^ c.args.width) c.args.table.now c.args.coefficients.now c.loop-entry.coefficients c.add_term.new.coefficients c.loop-entry.places c.add_term.new.places c.args.entries.now
    c.loop-entry.entry-index c.entry-item.result c.loop-entry-test.true c.entry-item.is c.loop-entry.invariant c.in_ok-add_term.ensures
