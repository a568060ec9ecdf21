use Rattle.std.proofs.Common.{◌∙◌, subst, sym, arith}
use Rattle.clause_core.specs.Clause.{IsClauseInRange}
use Rattle.cdcl_solver.proofs.SearchLemmas.{mark_grown, back_grown, begins_grows}
use Rattle.cdcl_solver.proofs.SolverLemmas.{settled_answer}
use Rattle.cdcl_solver.proofs.search.is_settled.Goals as goal

pub begin-settled-requires : goal.begin-settled-requires
begin-settled-requires c = record {
  alone = c.requires.alone;
  signed = omega (arith, c.requires.max, c.requires.signed);
  in_range = subst (λ m. IsClauseInRange m c.args.assumptions.now) (sym c.requires.max) c.requires.assumptions;
}

pub back_to-requires : goal.back_to-requires
back_to-requires c = mark_grown c.args.propagator.now c.begin-settled.new.propagator c.mark-base.result c.mark-base.ensures.mark (begins_grows c.args.propagator.now c.begin-settled.new.propagator c.args.assumptions.now c.begin-settled.result c.begin-settled.ensures)

pub returns-clause-same : goal.returns-clause-same
returns-clause-same c = c.back_to.ensures ∙ back_grown c.args.propagator.now c.begin-settled.new.propagator c.mark-base.result c.mark-base.ensures.count c.mark-base.ensures.sound.paired
    (begins_grows c.args.propagator.now c.begin-settled.new.propagator c.args.assumptions.now c.begin-settled.result c.begin-settled.ensures)

pub returns-clause-settled : goal.returns-clause-settled
returns-clause-settled c = settled_answer c.args.propagator.now c.begin-settled.new.propagator c.args.assumptions.now c.begin-settled.result c.begin-settled.ensures
