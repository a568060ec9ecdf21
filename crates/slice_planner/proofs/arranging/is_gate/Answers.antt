use Rattle.std.proofs.Common.{sym, ◌∙◌}
use Rattle.slice_planner.proofs.GroupSteps.{gate_has}
use Rattle.slice_planner.proofs.arranging.is_gate.Goals as goal

pub returns-then-var-max : goal.returns-then-var-max
returns-then-var-max c = λ yes. gate_has c.args.extended.now.gates c.var-then-var-max.result _ c.gate.result c.gate.ensures.some c.var-then-var-max.ensures (sym c.is_some.ensures ∙ yes)
