use Rattle.std.proofs.Common.{arith}
use Rattle.cdcl_solver.proofs.LevelLemmas.{stage_grown}
use Rattle.cdcl_solver.proofs.SearchLemmas.{extends_none, extends_more}
use Rattle.cdcl_solver.proofs.Trails.{trail_of, trail_fits}
use Rattle.cdcl_solver.proofs.descent.descend.Goals as goal

pub loop-lit-init : goal.loop-lit-init
loop-lit-init c = record { extends = extends_none c.args.propagator.now c.requires.sound; settled = c.requires.settled; stage = c.requires.stage; cursor = c.first-cursor.ensures }

pub returns-in-Some-decide-clause-extends : goal.returns-in-Some-decide-clause-extends
returns-in-Some-decide-clause-extends c = extends_more c.args.propagator.now c.loop-lit.propagator c.decide.new.propagator c.loop-lit.invariant.extends c.in-Some-decide.ensures.0

pub returns-in-Some-decide-clause-stage : goal.returns-in-Some-decide-clause-stage
returns-in-Some-decide-clause-stage c = stage_grown c.loop-lit.propagator c.decide.new.propagator c.loop-lit.levels.base c.loop-lit.levels.marks.items c.in-Some-decide.ensures.0.0 c.loop-lit.invariant.stage

pub push-requires-clause-stage : goal.push-requires-clause-stage
push-requires-clause-stage c = stage_grown c.loop-lit.propagator c.decide.new.propagator c.loop-lit.levels.base c.loop-lit.levels.marks.items c.in_default-decide.ensures.0.0 c.loop-lit.invariant.stage

pub returns-in_err-push-clause-extends : goal.returns-in_err-push-clause-extends
returns-in_err-push-clause-extends c = extends_more c.args.propagator.now c.loop-lit.propagator c.decide.new.propagator c.loop-lit.invariant.extends c.in_default-decide.ensures.0

pub loop-lit-preserved : goal.loop-lit-preserved
loop-lit-preserved c = record {
  extends = extends_more c.args.propagator.now c.loop-lit.propagator c.decide.new.propagator c.loop-lit.invariant.extends c.in_default-decide.ensures.0;
  settled = c.in_default-decide.ensures.1;
  stage = c.push.ensures;
  cursor = c.choose.ensures.cursor;
}

pub loop-lit-smaller : goal.loop-lit-smaller
loop-lit-smaller c =
    let d = c.in_default-decide.ensures in
    omega (arith, trail_fits c.decide.new.propagator.trail (trail_of c.decide.new.propagator d.0.2), d.0.0.greatest, d.2)
