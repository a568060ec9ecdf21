use Rattle.std.proofs.Common.{ℕ, List, [], sym, subst}
use Rattle.std.specs.List.{All}
use Rattle.std.proofs.lemmas.Result.{err_from_is_err_and}
use Rattle.graph_core.specs.declared.gate.Gate.{Gate}
use Rattle.clause_core.specs.Facts.{IsClauseFact}
use Rattle.clause_core.specs.GateClauses.{AreGatesWithin, gate_clauses}
use Rattle.clause_core.specs.KeptClauses.{HaveTightChains}
use Rattle.clause_judge.specs.ClauseBody.{IsOver}
use Rattle.joint_checker.proofs.clause_file.judge_body.Goals as goal

pub judge-requires-clause-within : goal.judge-requires-clause-within
judge-requires-clause-within g c =
    let e = c.args.extended.now in
    let x = c.max-max.ensures.extension in
    let within : AreGatesWithin e.max e.gates = record {
      own = λ k d below. (x.defined_once.gates k d below, x.gates_in_range k d below);
      operands = λ k d below. let h = x.operands k d below in (h.0.0, h.1.0);
    } in
    subst (λ (m : ℕ). AreGatesWithin m c.gates-gates.result.now) (sym c.max-max.ensures.value) (subst (AreGatesWithin e.max) (sym c.gates-gates.ensures.value) within)

pub judge-requires-clause-over : goal.judge-requires-clause-over
judge-requires-clause-over g c =
    let e = c.args.extended.now in
    let over : IsOver c.max-max.result c.gates-gates.result.now c.in_ok-goals.goals e = record { max_is = c.max-max.ensures.value; gates_are = sym c.gates-gates.ensures.value; goals_are = c.in_ok-goals.ensures.sets } in
    (e, over)

pub returns-clause-lawful : goal.returns-clause-lawful
returns-clause-lawful g c =
    let e = c.args.extended.now in
    let over : IsOver c.max-max.result c.gates-gates.result.now c.in_ok-goals.goals e = record { max_is = c.max-max.ensures.value; gates_are = sym c.gates-gates.ensures.value; goals_are = c.in_ok-goals.ensures.sets } in
    c.in_ok-kept.ensures.lawful e over

pub returns-clause-shown : goal.returns-clause-shown
returns-clause-shown g c =
    let e = c.args.extended.now in
    let over : IsOver c.max-max.result c.gates-gates.result.now c.in_ok-goals.goals e = record { max_is = c.max-max.ensures.value; gates_are = sym c.gates-gates.ensures.value; goals_are = c.in_ok-goals.ensures.sets } in
    c.in_ok-kept.ensures.shown e over

pub returns-clause-columns : goal.returns-clause-columns
returns-clause-columns g c =
    let e = c.args.extended.now in
    let over : IsOver c.max-max.result c.gates-gates.result.now c.in_ok-goals.goals e = record { max_is = c.max-max.ensures.value; gates_are = sym c.gates-gates.ensures.value; goals_are = c.in_ok-goals.ensures.sets } in
    c.in_ok-kept.ensures.columns e over

pub returns-clause-facts : goal.returns-clause-facts
returns-clause-facts g c = subst (λ (gates : List Gate). All (IsClauseFact gates) c.in_ok-kept.kept.0.added) c.gates-gates.ensures.value c.in_ok-kept.ensures.facts

pub returns-clause-chains : goal.returns-clause-chains
returns-clause-chains g c given =
    let kept = c.in_ok-kept.kept.0 in
    subst (λ (gates : List Gate). HaveTightChains (gate_clauses gates) [] kept.added kept.uses.items) c.gates-gates.ensures.value (c.in_ok-kept.ensures.chains given)

pub returns-in_err-kept-clause-refused : goal.returns-in_err-kept-clause-refused
returns-in_err-kept-clause-refused g c =
    let e = c.args.extended.now in
    let over : IsOver c.max-max.result c.gates-gates.result.now c.in_ok-goals.goals e = record { max_is = c.max-max.ensures.value; gates_are = sym c.gates-gates.ensures.value; goals_are = c.in_ok-goals.ensures.sets } in
    let p = err_from_is_err_and c.from_residual-in_err-kept.result c.from_residual-in_err-kept.ensures.1 in
    rw (p.1, p.2) (c.in_err-kept.ensures.refused e over)
