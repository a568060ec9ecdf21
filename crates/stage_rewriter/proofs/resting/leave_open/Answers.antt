use Rattle.std.proofs.Common.{◌≡◌, true, subst, sym, ◌∙◌}
use Rattle.std.specs.List.{All}
use Rattle.stage_rewriter.specs.Resting.{IsOpposed, mark_at}
use Rattle.stage_rewriter.proofs.OpenGoals.{stays_open}
use Rattle.stage_rewriter.proofs.resting.leave_open.Goals as goal

pub returns : goal.returns
returns c h =
    let marks = c.args.marks.now in
    let truth : mark_at marks 1 ≡ true = sym c.is_marked.ensures ∙ c.if-not-is_marked.false in
    let opposed : All (IsOpposed marks) c.args.goal.now = subst (All (IsOpposed marks)) c.lits.ensures.value (c.are_opposed.ensures.0 c.if-not-are_opposed.false) in
    stays_open marks truth c.args.gates.now (c.gates_rest.ensures h) c.args.goal.now opposed
