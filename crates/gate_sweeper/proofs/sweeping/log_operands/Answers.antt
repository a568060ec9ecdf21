use Rattle.std.proofs.lemmas.Result.{on_ok_weaker}
use Rattle.goal_refuter.specs.Beginnings.{StaysBegunAlike}
use Rattle.gate_sweeper.proofs.sweeping.log_operands.Goals as goal

pub log_twin-requires-2 : goal.log_twin-requires-2
log_twin-requires-2 c = (c.requires.0, c.requires.1, c.in_ok-log_twin.ensures c.requires.0 c.requires.1 c.requires.2)

pub returns : goal.returns
returns c =
    let stays = StaysBegunAlike c.args.conflicts c.args.solver.now c.args.log.now c.log_twin-2.new.solver c.log_twin-2.new.log in
    on_ok_weaker {Q = stays} c.log_twin-2.result (λ more max given begun. more max given (c.in_ok-log_twin.ensures max given begun)) c.log_twin-2.ensures
