use Rattle.std.proofs.Common.{sym, subst, ◌∙◌}
use Rattle.std.proofs.lemmas.Bool.{true≢false}
use Rattle.gate_axioms.specs.Axioms.{HasSpecificationValue}
use Rattle.pac_checker.specs.Rules.{AreEqual, Differ}
use Rattle.pac_checker.proofs.Closing.{close_missing, closes_equal, closes_unequal}
use Rattle.pac_checker.proofs.Differences.{differ}
use Rattle.pac_checker.proofs.judge.Judge.compare.Goals as goal

pub returns-in-None-clause-refused : goal.returns-in-None-clause-refused
returns-in-None-clause-refused c =
    rw (← c.self.view_is) (close_missing c.self.inside.added.now c.self.inside.left c.self.inside.operands.now c.self.inside.live c.self.inside.last c.args.id (rw (← c.self.view_is) at c.requires.no_axiom) (sym c.in-None.ensures.fact))

pub returns-then-equals-clause-closes : goal.returns-then-equals-clause-closes
returns-then-equals-clause-closes c =
    let live = c.self.inside.live in
    let same : AreEqual live.table c.in-Some.poly.now c.args.wanted.now = subst (λ t. AreEqual t c.in-Some.poly.now c.args.wanted.now) c.table.ensures.table (c.equals.ensures.0 c.if-equals.true) in
    let is : HasSpecificationValue live.table c.args.wanted.now c.self.inside.left.extended c.self.inside.operands.now = rw (← c.self.view_is) at c.requires.value in
    rw (← c.self.view_is)
    (closes_equal c.self.inside.added.now c.self.inside.left c.self.inside.operands.now live c.self.inside.last c.args.id c.in-Some.poly.now c.args.wanted.now (rw (← c.self.view_is) at c.requires.no_axiom) (sym c.in-Some.ensures.fact) is same)

pub returns-else-equals-clause-refused : goal.returns-else-equals-clause-refused
returns-else-equals-clause-refused c =
    let live = c.self.inside.live in
    let apart : Differ live.table c.in-Some.poly.now c.args.wanted.now =
    differ live.table c.in-Some.poly.now c.args.wanted.now
    (λ same. true≢false (sym (c.equals.ensures.1 (subst (λ t. AreEqual t c.in-Some.poly.now c.args.wanted.now) (sym c.table.ensures.table) same)) ∙ c.if-equals.false)) in
    let is : HasSpecificationValue live.table c.args.wanted.now c.self.inside.left.extended c.self.inside.operands.now = rw (← c.self.view_is) at c.requires.value in
    rw (← c.self.view_is)
    (closes_unequal c.self.inside.added.now c.self.inside.left c.self.inside.operands.now live c.self.inside.last c.args.id c.in-Some.poly.now c.args.wanted.now (rw (← c.self.view_is) at c.requires.no_axiom) (sym c.in-Some.ensures.fact) is apart)
