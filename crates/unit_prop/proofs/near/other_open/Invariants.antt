use Rattle.std.proofs.Common.{◌≡◌, ◌⊎◌, take, neg_ℤ}
use Rattle.std.specs.List.{All, Contains}
use Rattle.unit_prop.proofs.near.other_open.Given as goal

abbrev pub invariant-loop-lit : goal.invariant-loop-lit
invariant-loop-lit l = All (λ k. (k ≡ l.other) ⊎ Contains l.lits (neg_ℤ k)) (take l.lit-index l.own)
