use Rattle.std.proofs.Common.{sym, ◌∙◌}
use Rattle.line_drafts.proofs.Leaving.{lit_has}
use Rattle.line_drafts.proofs.remainder.is_of.Goals as goal

pub returns-then-var-v : goal.returns-then-var-v
returns-then-var-v c _ = lit_has c.args.lits.now c.args.v c.loop-lit.lit-index _ c.loop-lit-test.true (sym c.var.ensures ∙ c.if-var-v.true)
