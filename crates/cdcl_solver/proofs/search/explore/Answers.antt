use Rattle.std.proofs.Common.{◌≡◌, Bool, true, [], subst, sym, arith, rules, ◌∙◌}
use Rattle.clause_core.specs.Clause.{IsClauseInRange}
use Rattle.unit_prop.specs.Standing.{live_of}
use Rattle.cdcl_solver.specs.Descent.{Descends}
use Rattle.cdcl_solver.specs.Levels.{SettlesAssumptions}
use Rattle.cdcl_solver.specs.declared.descent.Descent.{Descent}
use Rattle.cdcl_solver.specs.Orders.{OrderView}
use Rattle.cdcl_solver.proofs.SolveLemmas.{model_answer}
use Rattle.cdcl_solver.proofs.SolverLemmas.{loads_of, ready_kept}
use Rattle.cdcl_solver.proofs.search.explore.Goals as goal

pub settle-requires : goal.settle-requires
settle-requires c = record {
  stage = c.requires.ready.stage;
  signed = omega (arith, c.requires.ready.greatest, c.requires.ready.small);
  in_range = subst (λ m. IsClauseInRange m c.args.assumptions.now) (sym c.requires.ready.greatest) c.requires.assumptions;
}

pub returns-in_err-settle-clause-ready : goal.returns-in_err-settle-clause-ready
returns-in_err-settle-clause-ready c = ready_kept c.args.max c.args.propagator.now c.settle.new.propagator c.args.order.now c.link.new.self c.args.levels.now.base c.settle.new.levels.base c.args.levels.now.marks.items c.settle.new.levels.marks.items c.requires.ready c.settle.ensures.keeps.clauses c.settle.ensures.keeps.greatest c.link.ensures c.settle.ensures.stage

pub returns-then-not-branch-clause-ready : goal.returns-then-not-branch-clause-ready
returns-then-not-branch-clause-ready c = ready_kept c.args.max c.args.propagator.now c.settle.new.propagator c.args.order.now c.link.new.self c.args.levels.now.base c.settle.new.levels.base c.args.levels.now.marks.items c.settle.new.levels.marks.items c.requires.ready c.settle.ensures.keeps.clauses c.settle.ensures.keeps.greatest c.link.ensures c.settle.ensures.stage

pub returns-in_err-descend-clause-ready : goal.returns-in_err-descend-clause-ready
returns-in_err-descend-clause-ready c = ready_kept c.args.max c.args.propagator.now c.descend.new.propagator c.args.order.now c.link.new.self c.args.levels.now.base c.descend.new.levels.base c.args.levels.now.marks.items c.descend.new.levels.marks.items c.requires.ready
    (c.descend.ensures.extends.0.clauses ∙ c.settle.ensures.keeps.clauses) (c.descend.ensures.extends.0.greatest ∙ c.settle.ensures.keeps.greatest) c.link.ensures c.descend.ensures.stage

pub returns-in_err-values-in-Bottom-clause-ready : goal.returns-in_err-values-in-Bottom-clause-ready
returns-in_err-values-in-Bottom-clause-ready c = ready_kept c.args.max c.args.propagator.now c.descend.new.propagator c.args.order.now c.link.new.self c.args.levels.now.base c.descend.new.levels.base c.args.levels.now.marks.items c.descend.new.levels.marks.items c.requires.ready
    (c.descend.ensures.extends.0.clauses ∙ c.settle.ensures.keeps.clauses) (c.descend.ensures.extends.0.greatest ∙ c.settle.ensures.keeps.greatest) c.link.ensures c.descend.ensures.stage

pub returns-in-GivenUp-clause-ready : goal.returns-in-GivenUp-clause-ready
returns-in-GivenUp-clause-ready c = ready_kept c.args.max c.args.propagator.now c.descend.new.propagator c.args.order.now c.link.new.self c.args.levels.now.base c.descend.new.levels.base c.args.levels.now.marks.items c.descend.new.levels.marks.items c.requires.ready
    (c.descend.ensures.extends.0.clauses ∙ c.settle.ensures.keeps.clauses) (c.descend.ensures.extends.0.greatest ∙ c.settle.ensures.keeps.greatest) c.link.ensures c.descend.ensures.stage

pub returns-then-few-clause-ready : goal.returns-then-few-clause-ready
returns-then-few-clause-ready c = ready_kept c.args.max c.args.propagator.now c.descend.new.propagator c.args.order.now c.link.new.self c.args.levels.now.base c.descend.new.levels.base c.args.levels.now.marks.items c.descend.new.levels.marks.items c.requires.ready
    (c.descend.ensures.extends.0.clauses ∙ c.settle.ensures.keeps.clauses) (c.descend.ensures.extends.0.greatest ∙ c.settle.ensures.keeps.greatest) c.link.ensures c.descend.ensures.stage

pub returns-in_ok-values-in-Bottom-clause-ready : goal.returns-in_ok-values-in-Bottom-clause-ready
returns-in_ok-values-in-Bottom-clause-ready c = ready_kept c.args.max c.args.propagator.now c.descend.new.propagator c.args.order.now c.link.new.self c.args.levels.now.base c.descend.new.levels.base c.args.levels.now.marks.items c.descend.new.levels.marks.items c.requires.ready
    (c.descend.ensures.extends.0.clauses ∙ c.settle.ensures.keeps.clauses) (c.descend.ensures.extends.0.greatest ∙ c.settle.ensures.keeps.greatest) c.link.ensures c.descend.ensures.stage

pub returns-in_err-learn-in-Conflict-clause-ready : goal.returns-in_err-learn-in-Conflict-clause-ready
returns-in_err-learn-in-Conflict-clause-ready c = ready_kept c.args.max c.args.propagator.now c.descend.new.propagator c.args.order.now c.learn.new.order c.args.levels.now.base c.descend.new.levels.base c.args.levels.now.marks.items c.descend.new.levels.marks.items c.requires.ready
    (c.descend.ensures.extends.0.clauses ∙ c.settle.ensures.keeps.clauses) (c.descend.ensures.extends.0.greatest ∙ c.settle.ensures.keeps.greatest) (c.learn.ensures.order ∙ c.save.ensures ∙ c.link.ensures) c.descend.ensures.stage

pub returns-in_ok-learn-in-Conflict-clause-ready : goal.returns-in_ok-learn-in-Conflict-clause-ready
returns-in_ok-learn-in-Conflict-clause-ready c = ready_kept c.args.max c.args.propagator.now c.descend.new.propagator c.args.order.now c.learn.new.order c.args.levels.now.base c.descend.new.levels.base c.args.levels.now.marks.items c.descend.new.levels.marks.items c.requires.ready
    (c.descend.ensures.extends.0.clauses ∙ c.settle.ensures.keeps.clauses) (c.descend.ensures.extends.0.greatest ∙ c.settle.ensures.keeps.greatest) (c.learn.ensures.order ∙ c.save.ensures ∙ c.link.ensures) c.descend.ensures.stage

pub returns-in_ok-values-in-Bottom-clause-found : goal.returns-in_ok-values-in-Bottom-clause-found
returns-in_ok-values-in-Bottom-clause-found c =
    let yes : c.in_ok-settle.field-0 ≡ true = search rules in
    let settles = subst (λ (b : Bool). SettlesAssumptions c.args.propagator.now c.settle.new.propagator c.args.assumptions.now b) yes c.in_ok-settle.ensures.settled in
    let end = subst (λ (d : Descent). Descends c.args.order.now.vars c.args.few c.descend.new.propagator d) c.in-Bottom.is
    (subst (λ (o : OrderView). Descends o.vars c.args.few c.descend.new.propagator c.in_ok-descend.field-0) c.link.ensures c.in_ok-descend.ensures.end) in
    model_answer c.args.order.now.vars c.args.propagator.now c.settle.new.propagator c.descend.new.propagator c.args.max [] (live_of c.args.propagator.now.clauses) c.args.assumptions.now c.in_ok-values-in-Bottom.field-0.items
    c.requires.ready.small (loads_of c.args.max c.args.propagator.now c.args.order.now c.args.levels.now.base c.args.levels.now.marks.items c.requires.ready) c.requires.ready.covers c.settle.ensures.keeps settles.2 c.descend.ensures.extends end.0 end.1 c.in_ok-values-in-Bottom.ensures c.requires.assumptions
