use Rattle.std.proofs.Common.{List, ℤ, ap, ◌∙◌, sym, subst, refl}
use Rattle.std.specs.List.{Contains}
use Rattle.clause_core.specs.Clause.{Clause}
use Rattle.cdcl_solver.specs.Orders.{HasVariablesOf}
use Rattle.clause_core.specs.Clause.{IsClauseInRange}
use Rattle.clause_core.specs.Log.{IsLemma}
use Rattle.unit_prop.specs.Trail.{IsLiteralUpTo}
use Rattle.cdcl_solver.specs.Solvers.{SolverView, with_clause}
use Rattle.cdcl_solver.specs.Finding.{Finds, solver_of}
use Rattle.cdcl_solver.specs.declared.search.Found.{Found}
use Rattle.cdcl_solver.proofs.Trails.{clause_within}
use Rattle.cdcl_solver.proofs.SolverLemmas.{ready_added, ready_entered, view_more, view_kept, answer_turn}
use Rattle.cdcl_solver.proofs.solver.Solver.turn.Goals as goal

pub explore-requires : goal.explore-requires
explore-requires c = record {
  ready = c.self.invariant;
  assumptions = subst (λ (v : SolverView). IsClauseInRange v.max c.args.assumptions.now) (sym c.self.view_is) c.requires;
}

pub returns-in-Answer-clause-turn : goal.returns-in-Answer-clause-turn
returns-in-Answer-clause-turn c =
    let found = subst (λ (f : Found). Finds c.self.inside.max c.self.inside.propagator c.args.assumptions.now c.args.few f) c.in-Answer.is c.in_ok-found.ensures.found in
    let back = view_kept c.self.inside.max c.self.inside.propagator c.explore.new.propagator c.in_ok-found.ensures.clauses ∙ c.self.view_is in
    answer_turn c.self.inside.max c.self.inside.propagator c.args.self.now (solver_of c.self.inside.max c.explore.new.propagator) c.args.log.now c.args.log.now c.args.assumptions.now c.args.few c.in-Answer.solved found c.self.view_is back refl

pub invariant_of-self-in_err-clause-in-Lemma : goal.invariant_of-self-in_err-clause-in-Lemma
invariant_of-self-in_err-clause-in-Lemma c =
    let found = subst (λ (f : Found). Finds c.self.inside.max c.self.inside.propagator c.args.assumptions.now c.args.few f) c.in-Lemma.is c.in_ok-found.ensures.found in
    let ready = ready_entered c.self.inside.max c.explore.new.propagator c.explore.new.order c.enter.new.self c.explore.new.levels.base c.explore.new.levels.marks.items c.in_ok-found.ensures.ready c.enter.ensures.grows in
    let has = subst (λ (xs : Clause). HasVariablesOf c.enter.new.self.vars xs) c.lits.ensures.value c.in_ok-enter-in-Lemma.ensures.entered in
    ready_added c.self.inside.max c.explore.new.propagator c.add.new.propagator c.enter.new.self c.explore.new.levels.base c.add.new.self.base c.explore.new.levels.marks.items c.add.new.self.marks.items c.in-Lemma.lemma c.add.result
    ready found.1 has c.add.ensures.greatest c.add.ensures.stage c.add.ensures.ok c.add.ensures.err

pub invariant_of-self-in_err-push-in-Lemma : goal.invariant_of-self-in_err-push-in-Lemma
invariant_of-self-in_err-push-in-Lemma c =
    let found = subst (λ (f : Found). Finds c.self.inside.max c.self.inside.propagator c.args.assumptions.now c.args.few f) c.in-Lemma.is c.in_ok-found.ensures.found in
    let ready = ready_entered c.self.inside.max c.explore.new.propagator c.explore.new.order c.enter.new.self c.explore.new.levels.base c.explore.new.levels.marks.items c.in_ok-found.ensures.ready c.enter.ensures.grows in
    let has = subst (λ (xs : Clause). HasVariablesOf c.enter.new.self.vars xs) c.lits.ensures.value c.in_ok-enter-in-Lemma.ensures.entered in
    ready_added c.self.inside.max c.explore.new.propagator c.add.new.propagator c.enter.new.self c.explore.new.levels.base c.add.new.self.base c.explore.new.levels.marks.items c.add.new.self.marks.items c.in-Lemma.lemma c.add.result
    ready found.1 has c.add.ensures.greatest c.add.ensures.stage c.add.ensures.ok c.add.ensures.err

pub invariant_of-self-in_err-push-in-Lemma-2 : goal.invariant_of-self-in_err-push-in-Lemma-2
invariant_of-self-in_err-push-in-Lemma-2 c =
    let found = subst (λ (f : Found). Finds c.self.inside.max c.self.inside.propagator c.args.assumptions.now c.args.few f) c.in-Lemma.is c.in_ok-found.ensures.found in
    let ready = ready_entered c.self.inside.max c.explore.new.propagator c.explore.new.order c.enter.new.self c.explore.new.levels.base c.explore.new.levels.marks.items c.in_ok-found.ensures.ready c.enter.ensures.grows in
    let has = subst (λ (xs : Clause). HasVariablesOf c.enter.new.self.vars xs) c.lits.ensures.value c.in_ok-enter-in-Lemma.ensures.entered in
    ready_added c.self.inside.max c.explore.new.propagator c.add.new.propagator c.enter.new.self c.explore.new.levels.base c.add.new.self.base c.explore.new.levels.marks.items c.add.new.self.marks.items c.in-Lemma.lemma c.add.result
    ready found.1 has c.add.ensures.greatest c.add.ensures.stage c.add.ensures.ok c.add.ensures.err

pub invariant_of-self-in-Lemma : goal.invariant_of-self-in-Lemma
invariant_of-self-in-Lemma c =
    let found = subst (λ (f : Found). Finds c.self.inside.max c.self.inside.propagator c.args.assumptions.now c.args.few f) c.in-Lemma.is c.in_ok-found.ensures.found in
    let ready = ready_entered c.self.inside.max c.explore.new.propagator c.explore.new.order c.enter.new.self c.explore.new.levels.base c.explore.new.levels.marks.items c.in_ok-found.ensures.ready c.enter.ensures.grows in
    let has = subst (λ (xs : Clause). HasVariablesOf c.enter.new.self.vars xs) c.lits.ensures.value c.in_ok-enter-in-Lemma.ensures.entered in
    ready_added c.self.inside.max c.explore.new.propagator c.add.new.propagator c.enter.new.self c.explore.new.levels.base c.add.new.self.base c.explore.new.levels.marks.items c.add.new.self.marks.items c.in-Lemma.lemma c.add.result
    ready found.1 has c.add.ensures.greatest c.add.ensures.stage c.add.ensures.ok c.add.ensures.err

pub enter-requires : goal.enter-requires
enter-requires c l has =
    let ready = c.in_ok-found.ensures.ready in
    let found = subst (λ (f : Found). Finds c.self.inside.max c.self.inside.propagator c.args.assumptions.now c.args.few f) c.in-Lemma.is c.in_ok-found.ensures.found in
    subst (λ m. IsLiteralUpTo m l) (sym ready.ordered) (clause_within c.self.inside.max c.in-Lemma.lemma ready.small found.1 l (subst (λ (xs : List ℤ). Contains xs l) c.lits.ensures.value has))

pub invariant_of-self-in_err-enter-in-Lemma : goal.invariant_of-self-in_err-enter-in-Lemma
invariant_of-self-in_err-enter-in-Lemma c =
    ready_entered c.self.inside.max c.explore.new.propagator c.explore.new.order c.enter.new.self c.explore.new.levels.base c.explore.new.levels.marks.items c.in_ok-found.ensures.ready c.enter.ensures.grows

pub add-requires-clause-within : goal.add-requires-clause-within
add-requires-clause-within c l has =
    let ready = c.in_ok-found.ensures.ready in
    let found = subst (λ (f : Found). Finds c.self.inside.max c.self.inside.propagator c.args.assumptions.now c.args.few f) c.in-Lemma.is c.in_ok-found.ensures.found in
    subst (λ m. IsLiteralUpTo m l) (sym ready.greatest) (clause_within c.self.inside.max c.in-Lemma.lemma ready.small found.1 l has)

pub returns-in_ok-push-in-Lemma-2-clause-turn : goal.returns-in_ok-push-in-Lemma-2-clause-turn
returns-in_ok-push-in-Lemma-2-clause-turn c =
    let max = c.self.inside.max in
    let found = subst (λ (f : Found). Finds c.self.inside.max c.self.inside.propagator c.args.assumptions.now c.args.few f) c.in-Lemma.is c.in_ok-found.ensures.found in
    let back = view_kept c.self.inside.max c.self.inside.propagator c.explore.new.propagator c.in_ok-found.ensures.clauses ∙ c.self.view_is in (
      c.in-Lemma.lemma,
      subst (λ (v : SolverView). IsLemma v.live c.in-Lemma.lemma) c.self.view_is found.0,
      subst (λ (v : SolverView). IsClauseInRange v.max c.in-Lemma.lemma) c.self.view_is found.1,
      view_more max c.explore.new.propagator c.add.new.propagator c.in-Lemma.lemma c.in_ok-clause-in-Lemma.ensures.ok ∙ ap (λ (v : SolverView). with_clause v c.in-Lemma.lemma) back,
      c.in_ok-push-in-Lemma-2.ensures.ok,
    )
