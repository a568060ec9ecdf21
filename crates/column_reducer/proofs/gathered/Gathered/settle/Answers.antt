use Rattle.std.proofs.lemmas.Result.{on_ok_weaker}
use Rattle.column_reducer.proofs.Taken.{settled_itself}
use Rattle.column_reducer.proofs.gathered.Gathered.settle.Goals as goal

pub returns-then-self-le-LARGE_BATCH-clause-settles : goal.returns-then-self-le-LARGE_BATCH-clause-settles
returns-then-self-le-LARGE_BATCH-clause-settles c = settled_itself c.args.terms.now c.args.self.now

pub returns-clause-settles : goal.returns-clause-settles
returns-clause-settles c = on_ok_weaker c.end_batch.result (λ h. h.settles) c.end_batch.ensures.ended
