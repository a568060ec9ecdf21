use Rattle.std.proofs.lemmas.Result.{IfErr-weaker, on_ok_weaker}
use Rattle.pac_checker.specs.Faults.{IsClosingFault}
use Rattle.pac_checker.proofs.Closing.{closes_grown, fault_grown, vanishes_grown}
use Rattle.pac_checker.proofs.judge.Judge.close.Goals as goal

pub returns-clause-closes : goal.returns-clause-closes
returns-clause-closes c = on_ok_weaker c.compare.result (closes_grown c.args.self.now c.specification.new.self c.specification.ensures.grows c.args.id) c.compare.ensures.closes

pub returns-clause-vanishes : goal.returns-clause-vanishes
returns-clause-vanishes c = on_ok_weaker c.compare.result (vanishes_grown c.args.self.now c.specification.new.self c.specification.ensures.grows) c.compare.ensures.vanishes

pub returns-clause-refused : goal.returns-clause-refused
returns-clause-refused c =
    IfErr-weaker c.compare.result (IsClosingFault c.specification.new.self c.args.id) (IsClosingFault c.args.self.now c.args.id)
    (fault_grown c.args.self.now c.specification.new.self c.specification.ensures.grows c.args.id) c.compare.ensures.refused
