use Rattle.cdcl_solver.proofs.LevelLemmas.{stage_push}
use Rattle.cdcl_solver.proofs.levels.Levels.push.Goals as goal

pub returns : goal.returns
returns c = rw c.in_ok-push.ensures.items (stage_push c.args.propagator.now c.args.self.now.base c.args.self.now.marks.items c.mark.result c.requires.stage c.requires.settled c.mark.ensures.mark c.mark.ensures.count)
