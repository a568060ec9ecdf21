use Rattle.std.proofs.Common.{sym, subst}
use Rattle.std.proofs.lemmas.Result.{on_err_weaker}
use Rattle.poly_terms.specs.Tables.{IsOf}
use Rattle.gate_axioms.proofs.CallerLemmas.{keeps_lines}
use Rattle.pac_checker.specs.Checking.{GrowsCheckedTable, checking_of}
use Rattle.pac_checker.proofs.Importing.{clause_vanishes, import_faults, takes_import}
use Rattle.pac_checker.proofs.Lawful.{grows, on_err, sound_grown}
use Rattle.pac_checker.proofs.judge.Judge.import.Goals as goal

pub invariant_of-self : goal.invariant_of-self
invariant_of-self c =
    sound_grown c.self.inside.added.now c.self.inside.left c.self.inside.operands.now c.self.inside.live c.grow.new.self c.self.inside.last (keeps_lines c.self.inside.live c.grow.new.self c.grow.ensures.grows c.grow.ensures.kept) c.self.invariant

pub invariant_of-self-2 : goal.invariant_of-self-2
invariant_of-self-2 c =
    sound_grown c.self.inside.added.now c.self.inside.left c.self.inside.operands.now c.self.inside.live c.grow.new.self c.self.inside.last (keeps_lines c.self.inside.live c.grow.new.self c.grow.ensures.grows c.grow.ensures.kept) c.self.invariant

pub state-requires-clause-named : goal.state-requires-clause-named
state-requires-clause-named c =
    clause_vanishes c.self.inside.left.extended.gates c.self.inside.added.now c.args.number c.in_ok-clause.clause.now c.grow.new.self.table c.in_ok-named.named c.self.invariant.importable c.in_ok-clause.ensures.some
    c.in_ok-named.ensures.did.0 c.in_ok-named.ensures.did.1

pub returns-clause-taken : goal.returns-clause-taken
returns-clause-taken c =
    let of : IsOf c.self.inside.live.table c.args.stated.now = rw (← c.self.view_is) at c.requires in
    rw (← c.self.view_is)
    (takes_import c.self.inside.added.now c.self.inside.left c.self.inside.operands.now c.self.inside.live c.grow.new.self c.self.inside.last c.args.id c.args.number c.in_ok-clause.clause.now c.in_ok-named.named c.args.stated.now
    (record { sound = c.self.invariant; keeps = keeps_lines c.self.inside.live c.grow.new.self c.grow.ensures.grows c.grow.ensures.kept; above = c.in_ok-judge_id.ensures.new; of_table = of; there = c.in_ok-clause.ensures.some; value = c.in_ok-named.ensures.did.1 })
    c.state.result c.state.new.self c.state.ensures.equal c.state.ensures.introduced)

pub returns-clause-refused : goal.returns-clause-refused
returns-clause-refused c =
    let of : IsOf c.self.inside.live.table c.args.stated.now = rw (← c.self.view_is) at c.requires in
    rw (← c.self.view_is)
    (import_faults c.self.inside.added.now c.self.inside.left c.self.inside.operands.now c.self.inside.live c.grow.new.self c.self.inside.last c.args.id c.args.number c.in_ok-clause.clause.now c.in_ok-named.named c.args.stated.now
    (record { sound = c.self.invariant; keeps = keeps_lines c.self.inside.live c.grow.new.self c.grow.ensures.grows c.grow.ensures.kept; above = c.in_ok-judge_id.ensures.new; of_table = of; there = c.in_ok-clause.ensures.some; value = c.in_ok-named.ensures.did.1 })
    c.state.result c.state.ensures.refused)

pub returns-in_err-named-clause-unchanged : goal.returns-in_err-named-clause-unchanged
returns-in_err-named-clause-unchanged c =
    on_err c.from_residual-in_err-named.result _
    (rw (← c.self.view_is)
    (grows c.self.inside.added.now c.self.inside.left c.self.inside.operands.now c.self.inside.live c.grow.new.self c.self.inside.last (keeps_lines c.self.inside.live c.grow.new.self c.grow.ensures.grows c.grow.ensures.kept)))

pub returns-clause-unchanged : goal.returns-clause-unchanged
returns-clause-unchanged c =
    let grown : GrowsCheckedTable c.args.self.now (checking_of c.self.inside.added.now c.self.inside.left c.self.inside.operands.now c.grow.new.self c.self.inside.last) =
    rw (← c.self.view_is)
    (grows c.self.inside.added.now c.self.inside.left c.self.inside.operands.now c.self.inside.live c.grow.new.self c.self.inside.last (keeps_lines c.self.inside.live c.grow.new.self c.grow.ensures.grows c.grow.ensures.kept)) in
    on_err_weaker c.state.result (λ same. subst (GrowsCheckedTable c.args.self.now) (sym same) grown) c.state.ensures.unchanged
