use Rattle.std.proofs.Common.{ap, sym, subst, ◌∙◌}
use Rattle.cdcl_solver.specs.Deletions.{ChangeAlike}
use Rattle.cdcl_solver.specs.Solvers.{SolverView}
use Rattle.cdcl_solver.proofs.ForgetLemmas.{deleted_on}
use Rattle.cdcl_solver.proofs.LogLemmas.{alike_none, continues_none}
use Rattle.cdcl_solver.proofs.solver.Solver.forget.Goals as goal

pub loop-lemma-init : goal.loop-lemma-init
loop-lemma-init c = record {
  max = ap (λ (v : SolverView). v.max) c.self.view_is;
  goes = λ given. continues_none c.args.self.now.max given c.args.log.now;
  in_range = c.requires;
  alike = subst (λ (v : SolverView). ChangeAlike c.args.self.now.live c.args.log.now v.live c.args.log.now) (sym c.self.view_is) (alike_none c.args.self.now.live c.args.log.now);
}

pub loop-lemma-preserved : goal.loop-lemma-preserved
loop-lemma-preserved c =
    let inv = c.loop-lemma.invariant in
    let h = deleted_on c.args.self.now.max c.args.self.now.live c.loop-lemma.self.live c.delete.new.self.live c.args.log.now c.loop-lemma.log c.delete.new.log inv.goes inv.in_range inv.alike c.delete.ensures.deletes in
    record { max = c.delete.ensures.max ∙ inv.max; goes = h.0; in_range = h.1; alike = h.2 }

pub returns-in_err-delete-clause-log : goal.returns-in_err-delete-clause-log
returns-in_err-delete-clause-log c =
    let inv = c.loop-lemma.invariant in
    (deleted_on c.args.self.now.max c.args.self.now.live c.loop-lemma.self.live c.delete.new.self.live c.args.log.now c.loop-lemma.log c.delete.new.log inv.goes inv.in_range inv.alike c.delete.ensures.deletes).0

pub returns-in_err-delete-clause-in_range : goal.returns-in_err-delete-clause-in_range
returns-in_err-delete-clause-in_range c =
    let inv = c.loop-lemma.invariant in
    (deleted_on c.args.self.now.max c.args.self.now.live c.loop-lemma.self.live c.delete.new.self.live c.args.log.now c.loop-lemma.log c.delete.new.log inv.goes inv.in_range inv.alike c.delete.ensures.deletes).1
