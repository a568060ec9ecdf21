use Rattle.std.proofs.Common.{◌≡◌, ◌<◌, Bool, false, List, length, slice_index_or, sym, ap, ◌∙◌, arith}
use Rattle.std.specs.Prelude.{◌==◌}
use Rattle.clause_core.proofs.Places.{same_at}
use Rattle.cdcl_solver.proofs.Stamps.{length-marked, mark_at}
use Rattle.cdcl_solver.proofs.marks.Marks.has.Goals as goal

pub returns : goal.returns
returns c =
    let i = c.self.inside in
    let long : length c.args.self.now ≡ length i.stamps.items = sym (ap length c.self.view_is) ∙ length-marked i.stamp i.stamps.items in
    let below : c.args.number < length i.stamps.items = omega (arith, c.requires, long) in
    let read : c.index.result.now ≡ slice_index_or i.stamps.items c.args.number 0 = c.index.ensures ∙ same_at i.stamps.items c.args.number c.index.result.now 0 below in
    ap (λ stamp. stamp == i.stamp) read ∙ sym (mark_at i.stamps.items i.stamp c.args.number below) ∙ ap (λ (marks : List Bool). slice_index_or marks c.args.number false) c.self.view_is
