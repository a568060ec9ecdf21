use Rattle.pac_checker.proofs.Introducing.{delete_missing, deletes, sound_deleted}
use Rattle.pac_checker.proofs.Lawful.{grows_itself}
use Rattle.pac_checker.proofs.judge.Judge.delete_line.Goals as goal

pub returns-in-Err-clause-refused : goal.returns-in-Err-clause-refused
returns-in-Err-clause-refused c = rw (← c.self.view_is) (delete_missing c.self.inside.added.now c.self.inside.left c.self.inside.operands.now c.self.inside.live c.self.inside.last c.args.id (rw (← c.self.view_is) at c.requires.no_axiom) c.in-Err.ensures.none)

pub returns-clause-taken : goal.returns-clause-taken
returns-clause-taken c =
    rw (← c.self.view_is) (deletes c.self.inside.added.now c.self.inside.left c.self.inside.operands.now c.self.inside.live c.remove.new.self c.self.inside.last c.args.id c.in-Ok.field-0 (rw (← c.self.view_is) at c.requires.no_axiom) c.in-Ok.ensures.fact c.in-Ok.ensures.ok)

pub returns-in-Err-clause-unchanged : goal.returns-in-Err-clause-unchanged
returns-in-Err-clause-unchanged c = rw (← c.self.view_is) (rw c.in-Err.ensures.unchanged (grows_itself _))

pub invariant_of-self-2 : goal.invariant_of-self-2
invariant_of-self-2 c =
    sound_deleted c.self.inside.added.now c.self.inside.left c.self.inside.operands.now c.self.inside.live c.remove.new.self c.self.inside.last c.args.id c.in-Ok.ensures.ok c.self.invariant
