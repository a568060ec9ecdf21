use Rattle.std.specs.Prelude.{◌↔◌, IfOk, IsNone}
use Rattle.std.proofs.Common.{subst}
use Rattle.clause_core.specs.UnitPropagation.{IsRup}
use Rattle.drup_checker.specs.Checking.{Checking}
use Rattle.drup_checker.proofs.checker.Checker.chain.Goals as goal

pub returns-clause-none : goal.returns-clause-none
returns-clause-none c = subst (λ (k : Checking). IfOk c.chain.result (λ numbers. IsNone numbers ↔ ¬ (IsRup k.live c.args.clause.now))) c.self.view_is c.chain.ensures.none
