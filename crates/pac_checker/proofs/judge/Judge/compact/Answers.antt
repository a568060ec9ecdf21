use Rattle.std.proofs.Common.{map, refl}
use Rattle.gate_axioms.specs.ClauseValues.{clause_value}
use Rattle.gate_axioms.specs.LeftAxioms.{left_lines}
use Rattle.gate_axioms.specs.Lines.{lines_of}
use Rattle.algebra_core.proofs.CallerLemmas.{imports_refl}
use Rattle.pac_checker.proofs.Compacting.{sound_carried}
use Rattle.pac_checker.proofs.Entries.{behind_same}
use Rattle.pac_checker.proofs.Lawful.{keeps_ledger_itself}
use Rattle.pac_checker.proofs.judge.Judge.compact.Goals as goal

pub invariant_of-self : goal.invariant_of-self
invariant_of-self c =
    sound_carried c.self.inside.added.now c.self.inside.left c.self.inside.operands.now c.self.inside.live c.in_ok-self-inside.field-0 c.self.inside.last c.in_ok-self-inside.ensures c.self.invariant

pub returns-clause-keeps : goal.returns-clause-keeps
returns-clause-keeps c = rw (← c.self.view_is) (record { added = refl; extended = refl; sides = refl; records = refl; recorded = refl; ledger = record { last = refl; lines = behind_same (left_lines c.self.inside.left) (lines_of c.in_ok-self-inside.field-0) (lines_of c.self.inside.live) c.in_ok-self-inside.ensures.lines; imports = imports_refl (map clause_value c.self.inside.added.now) } })

pub returns-then-count-self-clause-keeps : goal.returns-then-count-self-clause-keeps
returns-then-count-self-clause-keeps c = keeps_ledger_itself c.args.self.now

pub returns-in_err-self-inside-clause-keeps : goal.returns-in_err-self-inside-clause-keeps
returns-in_err-self-inside-clause-keeps c = keeps_ledger_itself c.args.self.now
