use Rattle.pac_checker.proofs.Sums.{SumsUp}
use Rattle.pac_checker.proofs.rules.add_up.Given as goal

abbrev pub invariant-loop-id : goal.invariant-loop-id
invariant-loop-id l = SumsUp l.left l.initial.live l.live l.parts l.id-index l.products
