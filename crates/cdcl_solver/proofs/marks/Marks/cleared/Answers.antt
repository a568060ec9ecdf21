use Rattle.std.proofs.Common.{◌+◌, ap, ◌∙◌, arith}
use Rattle.cdcl_solver.specs.Marks.{none_marked}
use Rattle.cdcl_solver.proofs.Stamps.{none_bears}
use Rattle.cdcl_solver.proofs.marks.Marks.cleared.Goals as goal

pub returns : goal.returns
returns c =
    let i = c.self.inside in
    let is = c.self.invariant.1 in
    none_bears i.stamps.items (i.stamp + 1) (λ k d b. let low = is k d b in omega arith) ∙ ap none_marked (omega (arith, c.len.ensures))
