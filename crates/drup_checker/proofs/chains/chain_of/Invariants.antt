use Rattle.std.proofs.Common.{◌≡◌, ◌<◌, take}
use Rattle.std.specs.List.{fold}
use Rattle.drup_checker.specs.Chains.{mix}
use Rattle.drup_checker.proofs.chains.chain_of.Given as goal

abbrev pub invariant-loop-lit : goal.invariant-loop-lit
invariant-loop-lit l = (l.number ≡ fold mix 0 (take l.lit-index l.lit-items)) × (l.number < 4294967291)
