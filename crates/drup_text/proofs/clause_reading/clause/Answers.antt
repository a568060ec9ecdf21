use Rattle.std.proofs.Common.{List, ℤ, subst}
use Rattle.clause_core.specs.Clause.{SameSet}
use Rattle.drup_text.specs.Steps.{TakesLiterals}
use Rattle.drup_text.proofs.LineSteps.{clause_some}
use Rattle.drup_text.proofs.clause_reading.clause.Goals as goal

pub returns-in-Ok-clause-ok : goal.returns-in-Ok-clause-ok
returns-in-Ok-clause-ok c =
    clause_some c.args.max c.args.scanner.now c.literals.new.scanner c.text.new.self c.in-Some.literals c.in-Ok.clause
    (subst (TakesLiterals c.args.max c.args.scanner.now c.literals.new.scanner) c.in-Some.is c.in_ok-literals.ensures.ok) c.in_ok-text.ensures.ok
    (subst (λ (ls : List ℤ). SameSet c.in-Ok.clause ls) c.deref.ensures.value c.in-Ok.ensures)
