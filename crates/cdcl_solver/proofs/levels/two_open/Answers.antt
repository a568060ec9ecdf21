use Rattle.std.proofs.Common.{w32, SFits, rules}
use Rattle.std.proofs.lemmas.Int.{to_z-of_z}
use Rattle.cdcl_solver.proofs.levels.two_open.Goals as goal

pub returns : goal.returns
returns c =
    let a : SFits w32 c.in_ok-first.first = search rules in
    let b : SFits w32 c.in_ok-second.second = search rules in
    let e = to_z-of_z w32 c.in_ok-first.first a in
    let f = to_z-of_z w32 c.in_ok-second.second b in
    rw (e, f) ((c.in_ok-first.ensures.0, c.in_ok-first.ensures.2), (c.in_ok-second.ensures.0, (λ q. c.in_ok-second.ensures.1 (cc)), c.in_ok-second.ensures.2))
