use Rattle.pac_checker.proofs.Introducing.{axiom_deleted, left_is_axiom, sound_without}
use Rattle.algebra_core.specs.AlgebraLines.{IsLive}
use Rattle.gate_axioms.specs.LeftAxioms.{LeftAxioms, left_lines}
use Rattle.pac_checker.specs.Rules.{IsCheckerSound}
use Rattle.std.proofs.Common.{sym, subst}
use Rattle.pac_checker.proofs.judge.Judge.delete_axiom.Goals as goal

pub invariant_of-self-2 : goal.invariant_of-self-2
invariant_of-self-2 c = sound_without c.self.inside.added.now c.self.inside.left c.delete.new.self c.self.inside.operands.now c.self.inside.live c.self.inside.last c.args.id c.in_ok-delete.ensures.deletes c.self.invariant

pub returns-clause-taken : goal.returns-clause-taken
returns-clause-taken c =
    let live : IsLive (left_lines c.self.inside.left) c.args.id = rw (← c.self.view_is) at c.requires.is_left in
    rw (← c.self.view_is)
    (axiom_deleted c.self.inside.added.now c.self.inside.left c.delete.new.self c.self.inside.operands.now c.self.inside.live c.self.inside.last c.args.id c.in_ok-delete.ensures.deletes live
    (c.self.invariant.apart c.args.id (left_is_axiom c.self.inside.left c.args.id live)))

pub invariant_of-self : goal.invariant_of-self
invariant_of-self c =
    subst (λ (left : LeftAxioms). IsCheckerSound c.self.inside.added.now left c.self.inside.operands.now c.self.inside.live c.self.inside.last) (sym c.in_err-delete.ensures.unchanged) c.self.invariant
