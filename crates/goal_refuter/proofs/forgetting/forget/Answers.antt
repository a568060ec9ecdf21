use Rattle.goal_refuter.proofs.AsMany.{forgotten}
use Rattle.goal_refuter.proofs.Beginning.{begun_range}
use Rattle.goal_refuter.proofs.forgetting.forget.Goals as goal

pub forget-requires : goal.forget-requires
forget-requires c = begun_range c.requires.0 c.requires.1 c.args.conflicts c.args.solver.now c.args.log.now c.requires.2.0

pub returns : goal.returns
returns c = forgotten c.args.conflicts c.args.solver.now c.forget.new.self c.args.log.now c.forget.new.log c.forget.ensures.max c.forget.ensures.log c.forget.ensures.in_range c.forget.ensures.alike
