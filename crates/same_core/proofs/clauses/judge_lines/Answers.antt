use Rattle.std.proofs.Common.{◌≤◌, ◌^◌, ℕ, List, length, sym, subst, arith}
use Rattle.std.proofs.lemmas.Result.{err_from_is_err_and}
use Rattle.graph_core.specs.declared.literal.Lit.{Lit}
use Rattle.mv_desk.specs.declared.slot.Slot.TheVariants as slot
use Rattle.clause_core.specs.GateClauses.{AreGatesWithin}
use Rattle.miter_encoder.specs.ColumnGoals.{AreGoalsOfColumns, columns_from}
use Rattle.clause_judge.specs.ClauseBody.{IsOver, IsShownBody, IsShownWith}
use Rattle.mv_text.specs.CertificateFiles.{left_of_file}
use Rattle.clause_judge.proofs.Told.{told_more}
use Rattle.drup_checker.specs.declared.keeps.Keeps.TheVariants.{Nothing}
use Rattle.same_core.specs.Merged.{over}
use Rattle.same_core.proofs.clauses.judge_lines.Goals as goal

pub goals_of-requires : goal.goals_of-requires
goals_of-requires g c = subst (λ (pairs : List (Lit × Lit)). length pairs ≤ 2 ^ 32) (sym c.pairs.ensures) (let few = c.requires.merged.few in omega (arith, few))

pub judge-requires-clause-within : goal.judge-requires-clause-within
judge-requires-clause-within g c =
    subst (λ (m : ℕ). AreGatesWithin m c.gates-gates.result.now) (sym c.max-max.ensures) (subst (AreGatesWithin c.args.merged.now.max) (sym c.gates-gates.ensures) c.requires.merged.within)

pub judge-requires-clause-over : goal.judge-requires-clause-over
judge-requires-clause-over g c =
    let e = over c.args.merged.now in
    let of : IsOver c.max-max.result c.gates-gates.result.now c.in_ok-goals.goals e = record {
      max_is = c.max-max.ensures;
      gates_are = sym c.gates-gates.ensures;
      goals_are = subst (λ (pairs : List (Lit × Lit)). AreGoalsOfColumns (columns_from 0 pairs) c.in_ok-goals.goals) c.pairs.ensures c.in_ok-goals.ensures.sets;
    } in
    (e, of)

pub returns-clause-lawful : goal.returns-clause-lawful
returns-clause-lawful g c =
    let e = over c.args.merged.now in
    let of : IsOver c.max-max.result c.gates-gates.result.now c.in_ok-goals.goals e = record {
      max_is = c.max-max.ensures;
      gates_are = sym c.gates-gates.ensures;
      goals_are = subst (λ (pairs : List (Lit × Lit)). AreGoalsOfColumns (columns_from 0 pairs) c.in_ok-goals.goals) c.pairs.ensures c.in_ok-goals.ensures.sets;
    } in
    let start = c.args.file.now in
    let kept = c.in_ok-judge.field-0 in
    told_more (left_of_file slot.Clauses start (g.D.Desk.seen c.args.desk.now)) (IsShownWith e start.lines Nothing kept.0.added kept.1) (IsShownBody e start.lines) (λ bytes there. (there.0, there.1, there.2)) (c.in_ok-judge.ensures.lawful e of)

pub returns-clause-agree : goal.returns-clause-agree
returns-clause-agree g c =
    let e = over c.args.merged.now in
    let of : IsOver c.max-max.result c.gates-gates.result.now c.in_ok-goals.goals e = record {
      max_is = c.max-max.ensures;
      gates_are = sym c.gates-gates.ensures;
      goals_are = subst (λ (pairs : List (Lit × Lit)). AreGoalsOfColumns (columns_from 0 pairs) c.in_ok-goals.goals) c.pairs.ensures c.in_ok-goals.ensures.sets;
    } in
    c.in_ok-judge.ensures.columns e of

pub returns-in_err-judge-clause-refused : goal.returns-in_err-judge-clause-refused
returns-in_err-judge-clause-refused g c =
    let e = over c.args.merged.now in
    let of : IsOver c.max-max.result c.gates-gates.result.now c.in_ok-goals.goals e = record {
      max_is = c.max-max.ensures;
      gates_are = sym c.gates-gates.ensures;
      goals_are = subst (λ (pairs : List (Lit × Lit)). AreGoalsOfColumns (columns_from 0 pairs) c.in_ok-goals.goals) c.pairs.ensures c.in_ok-goals.ensures.sets;
    } in
    let p = err_from_is_err_and c.from_residual-in_err-judge.result c.from_residual-in_err-judge.ensures.1 in
    rw (p.1, p.2) (c.in_err-judge.ensures.refused e of)
