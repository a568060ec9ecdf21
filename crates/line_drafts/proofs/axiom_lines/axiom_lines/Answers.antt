use Rattle.std.proofs.Common.{◌∙◌}
use Rattle.poly_terms.specs.Laws.{modulus_stays}
use Rattle.line_drafts.proofs.axiom_lines.axiom_lines.Goals as goal

pub with_column-requires-clause-same_modulus : goal.with_column-requires-clause-same_modulus
with_column-requires-clause-same_modulus c = modulus_stays c.args.terms.now c.loop-k.terms c.loop-k.invariant.table ∙ c.requires
