use Rattle.std.proofs.Common.{[], ap}
use Rattle.drup_text.specs.WrittenTexts.{literals_text}
use Rattle.drup_text.proofs.WrittenLoops.{clause_end}
use Rattle.pair_limits.proofs.Behind.{text_is, text_then}
use Rattle.pair_limits.proofs.clauses.put_clause.Goals as goal

pub returns : goal.returns
returns c = text_is (clause_end c.args.clause.now) (text_then (text_is (ap (λ ls. literals_text ls []) c.lits.ensures.value) c.put_literals.ensures) c.put.ensures)
