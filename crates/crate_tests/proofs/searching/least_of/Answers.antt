use Rattle.graph_core.proofs.OfAiger.CallerLemmas.{narrow_for, shape_for}
use Rattle.crate_tests.proofs.searching.least_of.Goals as goal

pub under-requires-clause-shape : goal.under-requires-clause-shape
under-requires-clause-shape c = shape_for c.args.claim.widths c.args.graph.now c.requires

pub under-requires-clause-narrow : goal.under-requires-clause-narrow
under-requires-clause-narrow c = narrow_for c.args.claim.widths c.args.graph.now c.requires
