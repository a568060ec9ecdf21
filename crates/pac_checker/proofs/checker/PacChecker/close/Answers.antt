use Rattle.std.proofs.lemmas.Result.{on_ok_weaker}
use Rattle.pac_checker.proofs.Recordings.{keeps_grown, record_closes, seen_grows}
use Rattle.pac_checker.proofs.checker.PacChecker.close.Goals as goal

pub invariant_of-self : goal.invariant_of-self
invariant_of-self c = keeps_grown c.self.inside.judge c.close.new.self c.self.inside.records c.self.inside.recorded.items c.close.ensures.unchanged c.self.invariant

pub returns-clause-recorded : goal.returns-clause-recorded
returns-clause-recorded c = rw (← c.self.view_is) (λ on. on_ok_weaker c.close.result (record_closes c.self.inside.judge c.self.inside.records c.self.inside.recorded.items c.args.id on c.self.invariant) c.close.ensures.closes)

pub returns-clause-unchanged : goal.returns-clause-unchanged
returns-clause-unchanged c = rw (← c.self.view_is) (seen_grows c.self.inside.judge c.close.new.self c.self.inside.records c.self.inside.recorded.items c.close.ensures.unchanged c.self.invariant)
