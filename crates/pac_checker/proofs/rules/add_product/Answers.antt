use Rattle.std.proofs.Common.{◌≡◌, ◌*◌, [], OnOk, Result, None, Some, subst}
use Rattle.algebra_core.specs.AlgebraLines.{line_of}
use Rattle.gate_axioms.specs.LeftAxioms.{left_lines}
use Rattle.graph_core.specs.declared.memory.Memory.{Memory}
use Rattle.mv_fact.specs.Facts.{fact_at}
use Rattle.poly_terms.specs.Tables.{Sum, value_in}
use Rattle.pac_checker.specs.Works.{IsAddedTo}
use Rattle.pac_checker.proofs.Entries.{entry_said, live_first, missing_first, same_none}
use Rattle.pac_checker.proofs.Sums.{adds_axiom, adds_product, axiom_is_live}
use Rattle.pac_checker.proofs.rules.add_product.Goals as goal

-- the line that was there, and the sum with its product
added : (c : goal.In-Ok-Ok) → (p : Sum) × (fact_at c.args.live.now.entries c.args.id ≡ Some p) ×
    IsAddedTo c.args.live.now.table c.grow_from.new.self.table c.args.sum.now c.grow_from.new.on (λ σ. value_in c.args.live.now.table p σ * value_in c.args.live.now.table c.args.factor.now σ)
added c =
    let A : Sum → Type 0 = λ p. IsAddedTo c.args.live.now.table c.grow_from.new.self.table c.args.sum.now c.grow_from.new.on (λ σ. value_in c.args.live.now.table p σ * value_in c.args.live.now.table c.args.factor.now σ) in
    let (p, found, did) = entry_said (fact_at c.args.live.now.entries c.args.id) (λ p. OnOk c.in-Ok-Ok.field-0 (A p)) c.in-Ok-Ok.ensures.did in
    (p, found, subst (λ (r : Result (Unit {0}) Memory). OnOk r (A p)) c.in-Ok-Ok.field-0-is did)

-- ---- a line that was introduced

pub returns-in-Ok-Ok-clause-live : goal.returns-in-Ok-Ok-clause-live
returns-in-Ok-Ok-clause-live c =
    let (p, found, sum) = added c in
    let none : line_of (left_lines c.args.left.now) c.args.id ≡ None = same_none (line_of (left_lines c.args.left.now) c.args.id) c.in-None.ensures in
    live_first (left_lines c.args.left.now) c.args.live.now.table c.args.live.now.entries c.args.id none p [] found

pub returns-in-Ok-Ok-clause-adds : goal.returns-in-Ok-Ok-clause-adds
returns-in-Ok-Ok-clause-adds c =
    let (p, found, sum) = added c in
    let none : line_of (left_lines c.args.left.now) c.args.id ≡ None = same_none (line_of (left_lines c.args.left.now) c.args.id) c.in-None.ensures in
    adds_product c.args.left.now c.args.live.now c.args.id p c.args.factor.now c.grow_from.new.self.table c.args.sum.now c.grow_from.new.on none found sum

pub returns-in-Err-clause-missing : goal.returns-in-Err-clause-missing
returns-in-Err-clause-missing c =
    let none : line_of (left_lines c.args.left.now) c.args.id ≡ None = same_none (line_of (left_lines c.args.left.now) c.args.id) c.in-None.ensures in
    missing_first (left_lines c.args.left.now) c.args.live.now.table c.args.live.now.entries c.args.id none [] c.in-Err.ensures.none

-- ---- an axiom

pub returns-in_ok-add_axiom-in-Some-clause-live : goal.returns-in_ok-add_axiom-in-Some-clause-live
returns-in_ok-add_axiom-in-Some-clause-live c = axiom_is_live c.args.left.now c.args.live.now c.args.id c.in-Some.given c.in-Some.ensures

pub returns-in_ok-add_axiom-in-Some-clause-adds : goal.returns-in_ok-add_axiom-in-Some-clause-adds
returns-in_ok-add_axiom-in-Some-clause-adds c =
    adds_axiom c.args.left.now c.args.live.now c.args.id c.in-Some.given c.args.factor.now c.add_axiom.new.live.table c.args.sum.now c.add_axiom.new.sum c.requires.modulus c.in-Some.ensures c.in_ok-add_axiom-in-Some.ensures.adds
