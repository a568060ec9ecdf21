use Rattle.std.proofs.Common.{◌≡◌, ◌∙◌, sym, subst, ℕ}
use Rattle.mv_text.specs.Steps.{IsVariable, Takes}
use Rattle.drup_text.specs.ClauseReading.{nonzero_at}
use Rattle.drup_text.proofs.LineSteps.{minus_none, plus_none}
use Rattle.drup_text.proofs.clause_reading.literal.Goals as goal

pub returns-in-None-clause-ok : goal.returns-in-None-clause-ok
returns-in-None-clause-ok c =
    minus_none c.args.max c.args.scanner.now c.text.new.self c.variable.new.scanner (sym c.is_at.ensures ∙ c.if-is_at.true) c.in_ok-text.ensures.ok
    (subst (Takes nonzero_at (IsVariable c.args.max) (λ (n k : ℕ). n ≡ k) c.text.new.self c.variable.new.scanner) c.in-None.is c.in_ok-variable.ensures.ok)

pub returns-in-None-2-clause-ok : goal.returns-in-None-2-clause-ok
returns-in-None-2-clause-ok c =
    plus_none c.args.max c.args.scanner.now c.variable-else-is_at.new.scanner (sym c.is_at.ensures ∙ c.if-is_at.false)
    (subst (Takes nonzero_at (IsVariable c.args.max) (λ (n k : ℕ). n ≡ k) c.args.scanner.now c.variable-else-is_at.new.scanner) c.in-None-2.is c.in_ok-variable-2.ensures.ok)
