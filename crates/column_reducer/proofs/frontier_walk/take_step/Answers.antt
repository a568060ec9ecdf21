use Rattle.std.proofs.Common.{◌≡◌, false, sym, subst}
use Rattle.std.proofs.lemmas.Result.{on_ok_weaker}
use Rattle.frontier_core.specs.Plan.{CanFollow, step}
use Rattle.frontier_core.specs.Sets.{has}
use Rattle.column_reducer.specs.Gathering.{IsRest}
use Rattle.column_reducer.proofs.Following.{can_eliminate, eliminated_is}
use Rattle.column_reducer.proofs.Walks.{rest_added, rest_eliminated}
use Rattle.column_reducer.proofs.frontier_walk.take_step.Goals as goal

pub gate_to_eliminate-gate-requires : goal.gate_to_eliminate-gate-requires
gate_to_eliminate-gate-requires c =
    let h = c.requires.follows in (h.0, can_eliminate c.args.extended.now h.0 c.args.this c.in-Eliminate.v c.in-Eliminate.is h.2)

pub returns-in-Add-clause-rest : goal.returns-in-Add-clause-rest
returns-in-Add-clause-rest c =
    let e = c.args.extended.now in
    let s = c.args.operands.now in
    let k = c.in-Add.k in
    on_ok_weaker c.add_column.result
    (λ h f frontier can walked.
    let may = subst (CanFollow e f) c.in-Add.is can in
    subst (λ g. IsRest e s c.add_column.new.terms (step f g) c.add_column.new.rest) (sym c.in-Add.is)
    (rest_added e s c.args.terms.now c.add_column.new.terms f k c.args.rest.now c.add_column.new.rest c.gates-gates.ensures.extension c.requires.inputs may.0 c.add_column.ensures.extends h frontier may.1 walked))
    c.add_column.ensures.added

pub returns-in_ok-_part-in-Eliminate-clause-rest : goal.returns-in_ok-_part-in-Eliminate-clause-rest
returns-in_ok-_part-in-Eliminate-clause-rest c f frontier can walked =
    let e = c.args.extended.now in
    let s = c.args.operands.now in
    let this = c.args.this in
    let v = c.in-Eliminate.v in
    let gate = c.gate_to_eliminate-gate.result in
    let same = c.gate_to_eliminate-gate.ensures.variable in
    let may = can_eliminate e f this v c.in-Eliminate.is can in
    eliminated_is f this v gate.v (λ g. IsRest e s c.eliminate.new.terms g c.eliminate.new.rest) c.in-Eliminate.is same
    (rest_eliminated e s c.args.terms.now c.eliminate.new.terms f gate c.args.rest.now c.eliminate.new.rest _ c.gates-gates.ensures.extension c.gate_to_eliminate-gate.ensures.gate c.in_ok-_part-in-Eliminate.ensures.extends
    c.in_ok-_part-in-Eliminate.ensures.eliminated frontier (subst (λ u. has f.eliminated u ≡ false) (sym same) may.new) walked)
