use Rattle.std.proofs.Common.{sym, subst}
use Rattle.std.proofs.lemmas.Result.{IfOk-weaker}
use Rattle.algebra_core.specs.NormalForm.{AreRising}
use Rattle.poly_terms.proofs.Leaving.{rising-without}
use Rattle.poly_terms.proofs.numbering.Numbering.without.Goals as goal

pub returns-clause-rising : goal.returns-clause-rising
returns-clause-rising c =
    IfOk-weaker c.without.result _ (λ rest. AreRising 0 rest.items)
    (λ rest is. subst (AreRising 0) (sym is) (rising-without 0 c.args.v c.variables.result.now c.variables.ensures.rising)) c.without.ensures
