use Rattle.std.proofs.Common.{◌≡◌, take}
use Rattle.pac_checker.specs.Rules.{lent}
use Rattle.pac_checker.proofs.judge.lend.Given as goal

abbrev pub invariant-loop-id : goal.invariant-loop-id
invariant-loop-id l = lent l.out.items ≡ take l.id-index l.parts
