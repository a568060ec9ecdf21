use Rattle.std.proofs.lemmas.Result.{IfOk-weaker}
use Rattle.clause_core.specs.Clause.{Clause, IsClauseInRange, SameSet}
use Rattle.cdcl_solver.proofs.SearchLemmas.{range_same}
use Rattle.crate_tests.proofs.clause_lists.clause_of.Goals as goal

pub returns : goal.returns
returns c =
    let set = rw c.deref.ensures.value at c.new.ensures in
    IfOk-weaker c.new.result (λ (d : Clause). SameSet d c.loop-lit.kept.items) (λ (d : Clause). IsClauseInRange c.args.max d) (λ d h. range_same c.loop-lit.kept.items d c.args.max h.0 c.loop-lit.invariant) set
