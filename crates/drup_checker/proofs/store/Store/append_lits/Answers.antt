use Rattle.std.proofs.Common.{◌≡◌}
use Rattle.clause_core.proofs.CallerLemmas.{sets_are_lists}
use Rattle.drup_checker.proofs.store.Store.append_lits.Goals as goal

pub append-requires : goal.append-requires
append-requires c =
    let same : c.in_ok-clause.clause ≡ c.args.lits.now = sets_are_lists c.in_ok-clause.clause c.args.lits.now c.lits-lits.ensures.clause c.requires.clause c.in_ok-clause.ensures in
    rw same c.requires.range

pub returns : goal.returns
returns c =
    let same : c.in_ok-clause.clause ≡ c.args.lits.now = sets_are_lists c.in_ok-clause.clause c.args.lits.now c.lits-lits.ensures.clause c.requires.clause c.in_ok-clause.ensures in
    rw same at c.append.ensures.ok
