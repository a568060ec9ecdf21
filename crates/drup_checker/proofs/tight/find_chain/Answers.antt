use Rattle.std.proofs.Common.{None, Some, neg_ℤ, map, length, is_some, ap, refl}
use Rattle.std.proofs.lemmas.Result.{err_from_is_err_and}
use Rattle.drup_checker.specs.Opposing.{Opposes}
use Rattle.drup_checker.proofs.Opposed.{found_rup, opposed_proper}
use Rattle.drup_checker.proofs.Tightening.{assumed_then, opposed_conflict}
use Rattle.drup_checker.proofs.tight.find_chain.Goals as goal

pub explain-requires-clause-assumed : goal.explain-requires-clause-assumed
explain-requires-clause-assumed c =
    let all : Opposes c.args.propagator.now c.oppose_all.new.propagator c.args.clause.now = c.oppose_all.ensures.all (ap is_some c.in_default.is) in
    assumed_then c.args.propagator.now c.oppose_all.new.propagator c.propagate.new.self c.args.clause.now all c.mark-mark.ensures.sound c.in-Some-propagate.ensures.grows

pub explain-requires-clause-opposed : goal.explain-requires-clause-opposed
explain-requires-clause-opposed c =
    λ d live. opposed_conflict c.propagate.new.self (map neg_ℤ c.args.clause.now) (length c.trail-from.result.now) c.in-Some-propagate.conflict d (ap length c.trail-from.ensures.value) c.in-Some-propagate.ensures.found.0 live

pub returns-in-None-clause-none : goal.returns-in-None-clause-none
returns-in-None-clause-none c =
    let all : Opposes c.args.propagator.now c.oppose_all.new.propagator c.args.clause.now = c.oppose_all.ensures.all (ap is_some c.in_default.is) in
    let rup = found_rup c.args.propagator.now c.oppose_all.new.propagator c.propagate.new.self c.args.clause.now None all c.in-None.ensures.grows c.in-None.ensures.found c.in-None.ensures.sound in
    (λ e r. let f = rup.1 r in absurd (cc), λ n. refl)

pub returns-in_ok-explain-in-Some-propagate-clause-none : goal.returns-in_ok-explain-in-Some-propagate-clause-none
returns-in_ok-explain-in-Some-propagate-clause-none c =
    let all : Opposes c.args.propagator.now c.oppose_all.new.propagator c.args.clause.now = c.oppose_all.ensures.all (ap is_some c.in_default.is) in
    let rup = found_rup c.args.propagator.now c.oppose_all.new.propagator c.propagate.new.self c.args.clause.now (Some c.in-Some-propagate.conflict) all
    c.in-Some-propagate.ensures.grows c.in-Some-propagate.ensures.found c.in-Some-propagate.ensures.sound in
    (λ e r. absurd (cc), λ n. absurd (n (rup.0 refl)))

pub explain-requires-clause-proper : goal.explain-requires-clause-proper
explain-requires-clause-proper c =
    let all : Opposes c.args.propagator.now c.oppose_all.new.propagator c.args.clause.now = c.oppose_all.ensures.all (ap is_some c.in_default.is) in
    opposed_proper c.args.propagator.now c.oppose_all.new.propagator c.propagate.new.self c.args.clause.now all c.in-Some-propagate.ensures.grows c.in-Some-propagate.ensures.sound

pub returns-in_err-explain-in-Some-propagate-clause-err : goal.returns-in_err-explain-in-Some-propagate-clause-err
returns-in_err-explain-in-Some-propagate-clause-err c =
    let all : Opposes c.args.propagator.now c.oppose_all.new.propagator c.args.clause.now = c.oppose_all.ensures.all (ap is_some c.in_default.is) in
    let rup = found_rup c.args.propagator.now c.oppose_all.new.propagator c.propagate.new.self c.args.clause.now (Some c.in-Some-propagate.conflict) all
    c.in-Some-propagate.ensures.grows c.in-Some-propagate.ensures.found c.in-Some-propagate.ensures.sound in
    let p = err_from_is_err_and c.from_residual-in_err-explain-in-Some-propagate.result c.from_residual-in_err-explain-in-Some-propagate.ensures.1 in
    rw p.1 (rup.0 refl)
