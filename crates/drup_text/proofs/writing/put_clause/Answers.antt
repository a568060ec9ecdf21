use Rattle.std.proofs.Common.{[], ap}
use Rattle.mv_text.proofs.CallerLemmas.{Puts-is, Puts-then}
use Rattle.drup_text.specs.WrittenTexts.{literals_text}
use Rattle.drup_text.proofs.WrittenLoops.{clause_end}
use Rattle.drup_text.proofs.writing.put_clause.Goals as goal

pub returns-clause-puts : goal.returns-clause-puts
returns-clause-puts g c = Puts-is (clause_end c.args.clause.now) (Puts-then (Puts-is (ap (λ ls. literals_text ls []) c.lits.ensures.value) c.put_literals.ensures.puts) c.put.ensures.puts)
