use Rattle.std.proofs.Common.{◌∙◌, ap, arith}
use Rattle.clause_core.specs.Clause.{Clause}
use Rattle.drup_checker.specs.Checking.{held_with}
use Rattle.drup_checker.proofs.GateStores.{more_by_one}
use Rattle.drup_checker.proofs.store.Store.append_all.Goals as goal

pub loop-place-preserved : goal.loop-place-preserved
loop-place-preserved c =
    let read = c.in_ok-append.ensures.ok ∙ ap (λ (d : Clause). held_with c.loop-place.self d 0) c.get.ensures in
    more_by_one c.args.self.now c.loop-place.self c.append.new.self c.args.clauses.now c.loop-place.place c.get.result.now (omega arith) c.loop-place.invariant read
