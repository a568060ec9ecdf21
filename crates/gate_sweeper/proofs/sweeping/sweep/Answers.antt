use Rattle.gate_sweeper.proofs.sweeping.sweep.Goals as goal

pub show_at-requires : goal.show_at-requires
show_at-requires c = (c.requires.0, c.requires.1, c.loop-step.invariant c.requires.0 c.requires.1 c.requires.2)

pub forget-requires : goal.forget-requires
forget-requires c = (c.requires.0, c.requires.1, c.in_ok-show_at.ensures c.requires.0 c.requires.1 (c.loop-step.invariant c.requires.0 c.requires.1 c.requires.2))

pub loop-step-init : goal.loop-step-init
loop-step-init c max given begun = begun

pub loop-step-preserved : goal.loop-step-preserved
loop-step-preserved c max given begun = c.forget.ensures max given (c.in_ok-show_at.ensures max given (c.loop-step.invariant max given begun))
