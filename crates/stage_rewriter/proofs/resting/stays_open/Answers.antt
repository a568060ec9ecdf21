use Rattle.std.proofs.Common.{subst, sym}
use Rattle.clause_core.specs.GateClauses.{gate_clauses}
use Rattle.clause_core.specs.UnitPropagation.{IsRup}
use Rattle.stage_rewriter.proofs.resting.stays_open.Goals as goal

pub returns : goal.returns
returns c h rup = c.leave_open.ensures h (subst (λ gates. IsRup (gate_clauses gates) c.args.goal.now) (sym c.gates-gates.ensures.value) rup)
