use Rattle.std.proofs.Common.{◌++◌, sym, subst, refl, arith}
use Rattle.clause_core.specs.Clause.{IsClauseInRange}
use Rattle.cdcl_solver.specs.declared.solver.Turn.{Turn}
use Rattle.cdcl_solver.specs.Loading.{SameLive}
use Rattle.cdcl_solver.specs.Logs.{LogView}
use Rattle.cdcl_solver.specs.Solvers.{IsTurn}
use Rattle.cdcl_solver.proofs.LogLemmas.{adds_none, alike_none, continues_none}
use Rattle.cdcl_solver.proofs.SolverLemmas.{turn_alike, turn_more, known_live, turned, end_answer}
use Rattle.cdcl_solver.proofs.solver.Solver.search.Goals as goal

pub loop-turn-init : goal.loop-turn-init
loop-turn-init c = record {
  max = refl;
  live = known_live c.args.log.now.left c.args.self.now.live c.requires.known;
  continues = continues_none c.args.self.now.max c.args.self.now.live c.args.log.now;
  in_range = c.requires.log;
  alike = alike_none c.args.self.now.live c.args.log.now;
  adds = adds_none c.args.log.now;
  count = omega arith;
}

pub turn-requires : goal.turn-requires
turn-requires c = subst (λ m. IsClauseInRange m c.args.assumptions.now) (sym c.loop-turn.invariant.max) c.requires.assumptions

pub close-requires : goal.close-requires
close-requires c = subst (λ m. IsClauseInRange m c.args.assumptions.now) (sym c.loop-turn.invariant.max) c.requires.assumptions

pub returns-clause-answer : goal.returns-clause-answer
returns-clause-answer c =
    end_answer c.args.self.now.max c.loop-turn.self c.args.self.now.live c.args.assumptions.now c.args.conflicts c.args.log.now c.loop-turn.log c.close.result c.loop-turn.invariant.max c.loop-turn.invariant.live (λ e. omega (arith, c.loop-turn.invariant.count)) c.close.ensures.end

pub returns-in-Ends-clause-answer : goal.returns-in-Ends-clause-answer
returns-in-Ends-clause-answer c =
    let turns = subst (λ (t : Turn). IsTurn c.loop-turn.self c.loop-turn.log c.turn.new.self c.turn.new.log c.args.assumptions.now c.args.few t) c.in-Ends.is c.in_ok-turn.ensures.turn in
    let t = turned c.loop-turn.self c.loop-turn.log c.turn.new.self c.turn.new.log c.args.assumptions.now c.in-Ends.solved turns in
    let live = subst (λ (g : LogView). SameLive c.loop-turn.self.live (g.left ++ c.args.self.now.live)) (sym t.2) c.loop-turn.invariant.live in
    end_answer c.args.self.now.max c.loop-turn.self c.args.self.now.live c.args.assumptions.now c.args.conflicts c.args.log.now c.turn.new.log c.in-Ends.solved c.loop-turn.invariant.max live (λ e. absurd (t.3 e)) t.0

pub loop-turn-preserved : goal.loop-turn-preserved
loop-turn-preserved c =
    let inv = c.loop-turn.invariant in
    let turns = subst (λ (t : Turn). IsTurn c.loop-turn.self c.loop-turn.log c.turn.new.self c.turn.new.log c.args.assumptions.now c.args.few t) c.in-Learnt.is c.in_ok-turn.ensures.turn in
    let t = turn_more c.args.self.now.max c.args.self.now.live c.args.log.now c.loop-turn.turn c.loop-turn.self c.turn.new.self c.loop-turn.log c.turn.new.log c.args.assumptions.now inv.max inv.live inv.continues inv.in_range inv.count turns in
    let u = turn_alike c.args.self.now.live c.args.log.now inv.continues.more c.loop-turn.self c.turn.new.self c.loop-turn.log c.turn.new.log c.args.assumptions.now inv.continues.lines inv.alike inv.adds turns in
    record { max = t.0; live = t.1; continues = t.2; in_range = t.3; alike = u.0; adds = u.1; count = t.4 }
