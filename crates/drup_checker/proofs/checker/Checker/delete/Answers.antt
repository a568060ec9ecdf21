use Rattle.std.proofs.Common.{subst, sym}
use Rattle.drup_checker.specs.Checking.{Checking, Deletes, Held, KeepsClauses, checking}
use Rattle.drup_checker.proofs.Kept.{is_deleted, kept_removed}
use Rattle.drup_checker.proofs.checker.Checker.delete.Goals as goal

pub invariant_of-self : goal.invariant_of-self
invariant_of-self c =
    let i = c.self.inside in
    subst (λ (h : Held). KeepsClauses i.gates.now h i.goals.now i.shown.items i.keeps i.recorded.added i.recorded.uses.items i.count) (sym (c.take.ensures.none c.if-not-take.true).0) c.self.invariant

pub invariant_of-self-2 : goal.invariant_of-self-2
invariant_of-self-2 c =
    let took = c.take.ensures.some c.if-not-take.false in
    let i = c.self.inside in
    kept_removed i.gates.now i.store c.take.new.self i.goals.now i.shown.items i.keeps i.recorded.added i.recorded.uses.items i.count c.args.clause.now c.self.invariant took.0 took.1

pub returns-clause-ok : goal.returns-clause-ok
returns-clause-ok c =
    let took = c.take.ensures.some c.if-not-take.false in
    let i = c.self.inside in
    subst (λ (k : Checking). Deletes c.args.clause.now k (checking i.gates.now c.take.new.self i.goals.now i.shown.items i.keeps i.recorded.added i.recorded.uses.items i.count)) c.self.view_is
    (is_deleted i.gates.now i.store c.take.new.self i.goals.now i.shown.items i.keeps i.recorded.added i.recorded.uses.items i.count c.args.clause.now c.self.invariant took.0 took.1 took.2)
