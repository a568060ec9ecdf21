use Rattle.std.proofs.Common.{◌≡◌, ◌∷◌, map, take}
use Rattle.adder_finder.proofs.stage.pairs_of.Given as goal

abbrev pub invariant-loop-next : goal.invariant-loop-next
invariant-loop-next l = l.pairs.items ≡ l.fn.first ∷ map (λ next. next.pair) (take l.next-index l.nexts)
