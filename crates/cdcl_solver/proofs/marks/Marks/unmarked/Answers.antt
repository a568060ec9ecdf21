use Rattle.std.proofs.Common.{rules, ap, ◌∙◌}
use Rattle.std.proofs.Common.{List, ℕ}
use Rattle.cdcl_solver.specs.Marks.{marked}
use Rattle.cdcl_solver.proofs.Stamps.{none_yet}
use Rattle.cdcl_solver.proofs.marks.Marks.unmarked.Goals as goal

pub returns : goal.returns
returns c = ap (λ (stamps : List ℕ). marked 1 stamps) (c.in_ok-stamps.ensures.items_if_clones_equal (λ y h. search rules)) ∙ none_yet c.args.size
