use Rattle.std.proofs.Common.{◌≡◌, ap, ◌∙◌}
use Rattle.poly_text.specs.Recorded.{lines_in}
use Rattle.pac_checker.specs.Checking.{AlgebraChecking}
use Rattle.pac_checker.proofs.checker.PacChecker.into_record.Goals as goal

pub returns-clause-lines : goal.returns-clause-lines
returns-clause-lines c = ap (λ t. lines_in t c.self.inside.recorded.items) c.into_terms.ensures.table ∙ ap (λ (s : AlgebraChecking). s.recorded) c.self.view_is
