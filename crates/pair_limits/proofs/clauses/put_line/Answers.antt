use Rattle.std.proofs.Common.{◌++◌, ◌∷◌, [], ap, sym}
use Rattle.graph_core.specs.Text.{newline}
use Rattle.drup_text.specs.WrittenTexts.{clause_line_text}
use Rattle.pair_limits.proofs.Behind.{text_is, text_then}
use Rattle.pair_limits.proofs.clauses.put_line.Goals as goal

pub returns-in-Delete : goal.returns-in-Delete
returns-in-Delete c = text_is (sym (ap (λ x. clause_line_text x ++ newline ∷ []) c.in-Delete.is)) (text_then c.put.ensures c.put_clause-in-Delete.ensures)
