use Rattle.std.specs.Prelude.{◌↔◌, IsTrue}
use Rattle.std.proofs.Common.{subst}
use Rattle.clause_core.specs.UnitPropagation.{IsRup}
use Rattle.drup_checker.specs.Checking.{Held}
use Rattle.drup_checker.proofs.store.Store.implies.Goals as goal

pub returns-clause-rup : goal.returns-clause-rup
returns-clause-rup c = subst (λ (h : Held). IsTrue c.is_rup.result ↔ IsRup h.live c.args.clause.now) c.self.view_is c.is_rup.ensures.rup
