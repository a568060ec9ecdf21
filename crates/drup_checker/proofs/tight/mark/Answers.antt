use Rattle.std.proofs.Common.{◌≡◌, ◌<◌, List, ℤ, pos, take, length, subst, arith, rules, w32, SFits}
use Rattle.std.proofs.lemmas.Int.{to_z-of_z}
use Rattle.std.proofs.lemmas.List.{take_all, take_more}
use Rattle.clause_core.proofs.CallerLemmas.{at}
use Rattle.unit_prop.specs.Trail.{signed_variable}
use Rattle.drup_checker.specs.Tightness.{Marks}
use Rattle.drup_checker.proofs.Tightening.{marks_more, marks_none}
use Rattle.drup_checker.proofs.tight.mark.Goals as goal

pub loop-lit-init : goal.loop-lit-init
loop-lit-init c = marks_none c.args.seen.now

pub loop-lit-preserved : goal.loop-lit-preserved
loop-lit-preserved c =
    let lits = c.args.lits.now in
    let i = c.loop-lit.lit-index in
    let low : i < length lits = c.loop-lit-test.true in
    let fits : SFits w32 (at c.args.lits.now c.loop-lit.lit-index) = search rules in
    let var : c.variable_of.result ≡ signed_variable (at lits i) = rw to_z-of_z at c.variable_of.ensures in
    let room : signed_variable (at lits i) < length c.loop-lit.seen =
    (let all = c.requires i (pos 0) low in omega arith) in
    rw (take_more lits i (pos 0) low, var) (marks_more (take i lits) (at lits i) c.args.seen.now c.loop-lit.seen room c.loop-lit.invariant)

pub returns : goal.returns
returns c =
    subst (λ (xs : List ℤ). Marks xs c.args.seen.now c.loop-lit.seen) (take_all c.loop-lit.lit-index c.args.lits.now c.loop-lit-test.false) c.loop-lit.invariant
