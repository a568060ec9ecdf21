use Rattle.std.proofs.Common.{vec_len}
use Rattle.cdcl_solver.proofs.lemmas.Lemmas.take_useless.Given as goal

abbrev pub decreases-loop-self : goal.decreases-loop-self
decreases-loop-self l = vec_len l.self.learnt
