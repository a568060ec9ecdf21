use Rattle.std.proofs.Common.{◌≡◌, ◌∙◌, ap, of_z, subst, to_z, w32}
use Rattle.std.proofs.lemmas.Int.{to_z-of_z}
use Rattle.unit_prop.specs.declared.watches.Node.{Node}
use Rattle.unit_prop.specs.Near.{HasNoPair}
use Rattle.unit_prop.specs.Visits.{partner}
use Rattle.unit_prop.specs.Watches.{follower, watched}
use Rattle.unit_prop.proofs.PairWalks.{none_behind, passes}
use Rattle.unit_prop.proofs.watches.may_pair_from.Goals as goal

pub returns-then-node-ge-NONE : goal.returns-then-node-ge-NONE
returns-then-node-ge-NONE c f =
    let fits = to_z-of_z w32 c.args.other c.ranges.other in
    rw fits at (c.loop-step.invariant (none_behind c.args.nodes.now c.loop-step.node (to_z w32 (of_z w32 c.args.other)) c.if-node-ge-NONE.true c.requires))

pub loop-step-preserved : goal.loop-step-preserved
loop-step-preserved c h =
    let fits = to_z-of_z w32 c.args.other c.ranges.other in
    let lit : c.in-Some.beside.lit ≡ watched c.args.nodes.now (partner c.loop-step.node) = ap (λ (m : Node). m.lit) c.in-Some.ensures ∙ ap (watched c.args.nodes.now) c.partner_of.ensures in
    let next : c.in-Some-node_at.own.next ≡ follower c.args.nodes.now c.loop-step.node = ap (λ (m : Node). m.next) c.in-Some-node_at.ensures in
    c.loop-step.invariant (passes c.args.nodes.now c.loop-step.node (to_z w32 (of_z w32 c.args.other)) (λ e. c.if-beside-other.false (ap (of_z w32) (lit ∙ e ∙ fits)))
    (subst (λ p. HasNoPair c.args.nodes.now p (to_z w32 (of_z w32 c.args.other))) next h))
