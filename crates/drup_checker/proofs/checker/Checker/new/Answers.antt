use Rattle.std.specs.Prelude.{List, [], ℕ}
use Rattle.std.proofs.Common.{length, ap, arith, subst, sym}
use Rattle.clause_core.specs.Clause.{Clause}
use Rattle.drup_checker.specs.Checking.{KeepsClauses, Starts, checking}
use Rattle.drup_checker.proofs.Kept.{kept_first, starts}
use Rattle.drup_checker.proofs.checker.Checker.new.Goals as goal

pub invariant_of-result : goal.invariant_of-result
invariant_of-result c =
    let holds = c.in_ok-store.ensures in
    subst (λ (cs : List Clause). KeepsClauses c.args.gates.now c.in_ok-store.store c.args.goals.now c.in_ok-shown.shown.items c.args.keeps cs c.new-3.result.items 0) (sym c.new-2.ensures)
    (subst (λ (us : List (List ℕ)). KeepsClauses c.args.gates.now c.in_ok-store.store c.args.goals.now c.in_ok-shown.shown.items c.args.keeps [] us 0) (sym c.new-3.ensures.items)
    (kept_first c.args.gates.now c.args.max c.in_ok-store.store holds.0 c.args.goals.now c.in_ok-shown.shown.items holds.2 holds.1
    (omega (arith, c.in_ok-shown.ensures.len, ap length c.as_slice.ensures)) c.args.keeps))

pub returns-clause-starts : goal.returns-clause-starts
returns-clause-starts c =
    let holds = c.in_ok-store.ensures in
    let begins = starts c.args.gates.now c.args.max c.in_ok-store.store holds.0 c.args.goals.now c.in_ok-shown.shown.items c.args.keeps holds.2 in (
      holds.0,
      holds.1,
      subst (λ (cs : List Clause). Starts c.args.gates.now c.args.max holds.0 c.args.goals.now c.args.keeps (checking c.args.gates.now c.in_ok-store.store c.args.goals.now c.in_ok-shown.shown.items c.args.keeps cs c.new-3.result.items 0)) (sym c.new-2.ensures)
          (subst (λ (us : List (List ℕ)). Starts c.args.gates.now c.args.max holds.0 c.args.goals.now c.args.keeps (checking c.args.gates.now c.in_ok-store.store c.args.goals.now c.in_ok-shown.shown.items c.args.keeps [] us 0)) (sym c.new-3.ensures.items) begins),
    )
