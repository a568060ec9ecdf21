use Rattle.std.proofs.Common.{◌∙◌, ap, subst}
use Rattle.std.specs.Result.{IfOk}
use Rattle.clause_core.specs.Clause.{Clause}
use Rattle.std.proofs.Common.{List, Option}
use Rattle.unit_prop.specs.Near.{FindsNear}
use Rattle.unit_prop.specs.Standing.{Standing, live_of}
use Rattle.unit_prop.proofs.NearSteps.{found_near}
use Rattle.unit_prop.proofs.propagator.Propagator.is_refuted_near.Goals as goal

pub returns : goal.returns
returns c =
    let is = c.deref.ensures.value ∙ ap (λ (s : Standing). s.clauses) c.self.view_is in
    found_near (live_of c.args.self.now.clauses) c.args.lits.now.items c.visit_near.new.lits.items c.visit_near.result
    (subst (λ (cs : List (Option Clause)). IfOk c.visit_near.result (FindsNear (live_of cs) c.args.lits.now.items c.visit_near.new.lits.items)) is c.visit_near.ensures)
