use Rattle.std.proofs.Common.{List, subst, w32}
use Rattle.std.proofs.lemmas.Int.{to_z-of_z}
use Rattle.unit_prop.specs.declared.watches.Node.{Node}
use Rattle.unit_prop.specs.Near.{HasNoPair}
use Rattle.unit_prop.proofs.Codes.{real}
use Rattle.unit_prop.proofs.PairWalks.{pairs_none}
use Rattle.unit_prop.proofs.watches.Watches.may_pair.Goals as goal

pub returns : goal.returns
returns c f =
    let i = c.self.inside in
    let one = to_z-of_z w32 c.args.one c.ranges.one in
    let other = to_z-of_z w32 c.args.other c.ranges.other in
    pairs_none i.heads.items i.nodes.items i.hand c.args.self.now c.self.view_is c.self.invariant c.args.one c.args.other c.code_of.result c.index-first.result.now (rw one at c.code_of.ensures) c.index-first.ensures
    c.requires.chain c.requires.idle (real c.args.one c.requires.lit)
    (subst (λ (ns : List Node). HasNoPair ns c.index-first.result.now c.args.other) c.deref.ensures.value (rw other at (c.may_pair_from.ensures f)))
