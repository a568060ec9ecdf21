use Rattle.std.proofs.Common.{◌≤◌, Bool, true, List, slice_set, ap, ◌∙◌, arith}
use Rattle.std.proofs.lemmas.List.Elements.{All-set}
use Rattle.cdcl_solver.proofs.Stamps.{marked_more}
use Rattle.cdcl_solver.proofs.marks.Marks.set.Goals as goal

pub invariant_of-self : goal.invariant_of-self
invariant_of-self c = (c.self.invariant.0, All-set (λ stamp. stamp ≤ c.self.inside.stamp) c.self.inside.stamps.items c.args.number c.self.inside.stamp (omega arith) c.self.invariant.1)

pub returns : goal.returns
returns c =
    let i = c.self.inside in
    marked_more i.stamps.items i.stamp c.args.number ∙ ap (λ (marks : List Bool). slice_set marks c.args.number true) c.self.view_is
