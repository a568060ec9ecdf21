use Rattle.std.proofs.Common.{◌≡◌, sym, ap, subst, ◌∙◌}
use Rattle.std.proofs.lemmas.Bool.{true≢false}
use Rattle.pac_checker.specs.Checking.{AlgebraChecking}
use Rattle.pac_checker.specs.Rules.{AreEqual, Differ}
use Rattle.pac_checker.proofs.Closing.{axiom_closes, axiom_differs, axiom_vanishes}
use Rattle.pac_checker.proofs.Differences.{differ}
use Rattle.pac_checker.proofs.judge.Judge.compare_axiom.Goals as goal

pub returns-then-not-equals-clause-refused : goal.returns-then-not-equals-clause-refused
returns-then-not-equals-clause-refused c =
    let old = c.args.self.now in
    let new = c.axiom_poly.new.self in
    let p = c.in_ok-poly.poly in
    let wanted = c.args.wanted.now in
    let here : c.table.result.now ≡ new.table = c.table.ensures.table ∙ ap (λ (k : AlgebraChecking). k.table) c.self.view_is in
    let apart : Differ new.table p wanted =
    differ new.table p wanted (λ same. true≢false (sym (c.equals.ensures.1 (subst (λ t. AreEqual t p wanted) (sym here) same)) ∙ c.if-not-equals.true)) in
    axiom_differs old c.args.id c.args.given.now c.requires.is_left new.table p wanted c.axiom_poly.ensures.modulus c.axiom_poly.ensures.grows.table c.requires.wanted c.in_ok-poly.ensures.value c.requires.value apart

pub returns-clause-closes : goal.returns-clause-closes
returns-clause-closes c =
    let old = c.args.self.now in
    let new = c.axiom_poly.new.self in
    let p = c.in_ok-poly.poly in
    let wanted = c.args.wanted.now in
    let here : c.table.result.now ≡ new.table = c.table.ensures.table ∙ ap (λ (k : AlgebraChecking). k.table) c.self.view_is in
    let same : AreEqual new.table p wanted = subst (λ t. AreEqual t p wanted) here (c.equals.ensures.0 c.if-not-equals.false) in
    axiom_closes old c.args.id c.args.given.now c.requires.is_left new.table p wanted c.axiom_poly.ensures.modulus c.axiom_poly.ensures.grows.table c.requires.wanted c.in_ok-poly.ensures.value c.requires.value same

pub returns-clause-vanishes : goal.returns-clause-vanishes
returns-clause-vanishes c = axiom_vanishes c.args.self.now c.args.id c.args.given.now c.requires.is_left c.axiom_poly.ensures.columns (returns-clause-closes c)
