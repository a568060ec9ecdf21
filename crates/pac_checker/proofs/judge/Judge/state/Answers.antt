use Rattle.std.proofs.Common.{sym, subst, ◌∙◌}
use Rattle.std.proofs.lemmas.Bool.{true≢false}
use Rattle.pac_checker.specs.Rules.{AreEqual, Differ}
use Rattle.pac_checker.proofs.Differences.{differ}
use Rattle.pac_checker.proofs.Introducing.{introduces, sound_introduced}
use Rattle.pac_checker.proofs.judge.Judge.state.Goals as goal

pub returns-then-not-equals-clause-refused : goal.returns-then-not-equals-clause-refused
returns-then-not-equals-clause-refused c =
    let live = c.self.inside.live in
    let apart : Differ live.table c.args.named c.args.stated.now =
    differ live.table c.args.named c.args.stated.now
    (λ same. true≢false (sym (c.equals.ensures.1 (subst (λ t. AreEqual t c.args.named c.args.stated.now) (sym c.table.ensures.table) same)) ∙ c.if-not-equals.true)) in
    rw (← c.self.view_is) apart

pub returns-in-Ok-clause-introduced : goal.returns-in-Ok-clause-introduced
returns-in-Ok-clause-introduced c =
    let live = c.self.inside.live in
    let same : AreEqual live.table c.args.named c.args.stated.now = subst (λ t. AreEqual t c.args.named c.args.stated.now) c.table.ensures.table (c.equals.ensures.0 c.if-not-equals.false) in
    rw (← c.self.view_is)
    (introduces c.self.inside.added.now c.self.inside.left c.self.inside.operands.now live c.insert.new.self c.self.inside.last c.args.id c.args.named c.args.stated.now (c.self.invariant.no_axiom c.args.id (rw (← c.self.view_is) at c.requires.new_id)) c.in-Ok.ensures.ok same)

pub invariant_of-self : goal.invariant_of-self
invariant_of-self c =
    sound_introduced c.self.inside.added.now c.self.inside.left c.self.inside.operands.now c.self.inside.live c.insert.new.self c.self.inside.last c.args.id c.args.named (rw (← c.self.view_is) at c.requires.new_id) c.in-Ok.ensures.ok c.self.invariant
