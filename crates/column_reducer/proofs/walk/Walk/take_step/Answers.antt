use Rattle.std.proofs.Common.{◌≡◌, false, sym, subst}
use Rattle.std.proofs.lemmas.Result.{on_ok_weaker}
use Rattle.frontier_core.specs.Sets.{has}
use Rattle.column_reducer.specs.Gathering.{IsWalked}
use Rattle.column_reducer.proofs.Following.{can_eliminate, eliminated_is}
use Rattle.column_reducer.proofs.walk.Walk.take_step.Goals as goal

pub gate_to_eliminate-gate-requires : goal.gate_to_eliminate-gate-requires
gate_to_eliminate-gate-requires c =
    let h = c.requires.follows in (h.0, can_eliminate c.args.extended.now h.0 c.args.this c.in-Eliminate.v c.in-Eliminate.is h.2)

pub returns-in-Eliminate-clause-walked : goal.returns-in-Eliminate-clause-walked
returns-in-Eliminate-clause-walked c =
    let e = c.args.extended.now in
    let s = c.args.operands.now in
    let this = c.args.this in
    let v = c.in-Eliminate.v in
    let gate = c.gate_to_eliminate-gate.result in
    let same = c.gate_to_eliminate-gate.ensures.variable in
    on_ok_weaker c.eliminate.result
    (λ h f frontier can walked.
    eliminated_is f this v gate.v (λ g. IsWalked e s c.eliminate.new.terms g c.eliminate.new.self) c.in-Eliminate.is same
    (h s f frontier (subst (λ u. has f.eliminated u ≡ false) (sym same) (can_eliminate e f this v c.in-Eliminate.is can).new) walked)) c.eliminate.ensures.walked
