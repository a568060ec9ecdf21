use Rattle.pac_checker.proofs.Lawful.{keeps_ledger_itself}
use Rattle.pac_checker.proofs.Recordings.{keeps_compacted, seen_compacted}
use Rattle.pac_checker.proofs.checker.PacChecker.compact.Goals as goal

pub invariant_of-self : goal.invariant_of-self
invariant_of-self c = keeps_compacted c.self.inside.judge c.compact.new.self c.self.inside.records c.self.inside.recorded.items c.if-self.false c.compact.ensures.keeps c.self.invariant

pub returns-then-self-clause-keeps : goal.returns-then-self-clause-keeps
returns-then-self-clause-keeps c = keeps_ledger_itself c.args.self.now

pub returns-clause-keeps : goal.returns-clause-keeps
returns-clause-keeps c = rw (← c.self.view_is) (seen_compacted c.self.inside.judge c.compact.new.self c.self.inside.records c.self.inside.recorded.items c.if-self.false c.compact.ensures.keeps c.self.invariant)
