use Rattle.std.proofs.Common.{pos}
use Rattle.cdcl_solver.proofs.Trails.{value_told}
use Rattle.cdcl_solver.proofs.LoadLemmas.{values_more}
use Rattle.cdcl_solver.proofs.model.values.Goals as goal

pub loop-var-preserved : goal.loop-var-preserved
loop-var-preserved c =
    let told = value_told c.args.propagator.now (pos c.loop-var.var) c.value_of.result c.requires.sound c.value_of.ensures in
    rw (c.in_ok-push.ensures.items, c.unwrap_or-value.ensures) (values_more c.args.propagator.now.trail.literals c.loop-var.var c.loop-var.values.items c.value_of.result told c.loop-var.invariant)
