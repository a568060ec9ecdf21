use Rattle.std.proofs.Common.{sym, subst}
use Rattle.std.proofs.lemmas.Result.{on_err_weaker}
use Rattle.poly_terms.specs.Tables.{IsOf}
use Rattle.pac_checker.specs.Checking.{GrowsCheckedTable, checking_of}
use Rattle.pac_checker.specs.Rules.{lent}
use Rattle.pac_checker.proofs.Lawful.{grows, on_err, sound_grown, stating_faults, takes_stated}
use Rattle.pac_checker.proofs.judge.Judge.introduce.Goals as goal

pub invariant_of-self : goal.invariant_of-self
invariant_of-self c = sound_grown c.self.inside.added.now c.self.inside.left c.self.inside.operands.now c.self.inside.live c.combine.new.live c.self.inside.last c.combine.ensures.keeps c.self.invariant

pub invariant_of-self-2 : goal.invariant_of-self-2
invariant_of-self-2 c = sound_grown c.self.inside.added.now c.self.inside.left c.self.inside.operands.now c.self.inside.live c.combine.new.live c.self.inside.last c.combine.ensures.keeps c.self.invariant

pub returns-clause-taken : goal.returns-clause-taken
returns-clause-taken c =
    let live = c.self.inside.live in
    let of : IsOf live.table c.args.stated.now = rw (← c.self.view_is) at c.requires.of_table in
    rw (← c.self.view_is)
    (takes_stated c.state.result c.self.inside.added.now c.self.inside.left c.self.inside.operands.now live c.combine.new.live c.self.inside.last c.args.id (lent c.args.parts.now) c.in_ok-named.named c.args.stated.now c.state.new.self c.self.invariant c.combine.ensures.keeps
    c.in_ok-judge_id.ensures.new of c.in_ok-named.ensures.sum c.state.ensures.equal c.state.ensures.introduced)

pub returns-clause-refused : goal.returns-clause-refused
returns-clause-refused c =
    let live = c.self.inside.live in
    let of : IsOf live.table c.args.stated.now = rw (← c.self.view_is) at c.requires.of_table in
    rw (← c.self.view_is)
    (stating_faults c.state.result c.self.inside.added.now c.self.inside.left c.self.inside.operands.now live c.combine.new.live c.self.inside.last c.args.id (lent c.args.parts.now) c.in_ok-named.named c.args.stated.now c.self.invariant c.combine.ensures.keeps
    c.in_ok-judge_id.ensures.new of c.in_ok-named.ensures.sum c.state.ensures.refused)

pub returns-in_err-named-clause-unchanged : goal.returns-in_err-named-clause-unchanged
returns-in_err-named-clause-unchanged c =
    on_err c.from_residual-in_err-named.result _
    (rw (← c.self.view_is) (grows c.self.inside.added.now c.self.inside.left c.self.inside.operands.now c.self.inside.live c.combine.new.live c.self.inside.last c.combine.ensures.keeps))

pub returns-clause-unchanged : goal.returns-clause-unchanged
returns-clause-unchanged c =
    let grown : GrowsCheckedTable c.args.self.now (checking_of c.self.inside.added.now c.self.inside.left c.self.inside.operands.now c.combine.new.live c.self.inside.last) =
    rw (← c.self.view_is) (grows c.self.inside.added.now c.self.inside.left c.self.inside.operands.now c.self.inside.live c.combine.new.live c.self.inside.last c.combine.ensures.keeps) in
    on_err_weaker c.state.result (λ same. subst (GrowsCheckedTable c.args.self.now) (sym same) grown) c.state.ensures.unchanged
