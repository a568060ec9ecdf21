use Rattle.adder_finder.proofs.FitCuts.{fit_is_cut}
use Rattle.stage_rewriter.proofs.Using.{at_stage}
use Rattle.stage_rewriter.proofs.rewriting.replace.Goals as goal

pub rewrite_near-requires-clause-cut : goal.rewrite_near-requires-clause-cut
rewrite_near-requires-clause-cut c = fit_is_cut c.args.graph.now c.args.cut c.max-max.ensures.built.well_formed c.requires.stage.fit

pub returns-clause-rewriting : goal.returns-clause-rewriting
returns-clause-rewriting c = at_stage c.args.graph.now c.args.operands.now c.args.conflicts c.args.cut c.requires.stage c.in_ok-rewritten.rewritten c.in_ok-rewritten.ensures.rewriting
