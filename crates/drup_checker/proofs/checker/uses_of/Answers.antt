use Rattle.drup_checker.proofs.Tightening.{follows_where}
use Rattle.drup_checker.proofs.checker.uses_of.Goals as goal

pub returns-in-Chains-clause-follows : goal.returns-in-Chains-clause-follows
returns-in-Chains-clause-follows c = follows_where c.args.store.now.live c.args.clause.now c.chain.result c.chain.ensures.none
