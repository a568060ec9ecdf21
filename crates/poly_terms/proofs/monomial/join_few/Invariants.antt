use Rattle.std.proofs.Common.{◌≡◌, ◌≤◌, ◌+◌, ◌-◌, ◌++◌, length, drop, take}
use Rattle.poly_terms.specs.Monomials.{joined}
use Rattle.poly_terms.proofs.monomial.join_few.Given as goal

abbrev pub invariant-loop-i : goal.invariant-loop-i
invariant-loop-i l = record {
  left : l.i ≤ length l.left;
  right : l.j ≤ length l.right;
  size : length l.both ≡ 8;
  few : l.count ≤ l.i + l.j;
  same : take l.count l.both ++ joined (drop l.i l.left) (drop l.j l.right) ≡ joined l.left l.right;
}

abbrev pub decreases-loop-i : goal.decreases-loop-i
decreases-loop-i l = length l.left - l.i + (length l.right - l.j)
