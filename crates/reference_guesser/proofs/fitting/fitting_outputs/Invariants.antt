use Rattle.std.proofs.Common.{◌≡◌}
use Rattle.ripple_graft.specs.Beside.{AreOutputs, with_outputs}
use Rattle.reference_guesser.proofs.fitting.fitting_outputs.Given as goal

abbrev pub invariant-loop-output : goal.invariant-loop-output
invariant-loop-output l = record {
  made : l.extended ≡ with_outputs l.fn.extended l.fitting.items;
  fit : AreOutputs l.fn.extended l.fitting.items;
}
