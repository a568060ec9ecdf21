use Rattle.std.proofs.Common.{refl}
use Rattle.ripple_graft.proofs.CutTests.{block_is}
use Rattle.ripple_graft.proofs.grafting.graft_next.Goals as goal

pub first_unknown-requires : goal.first_unknown-requires
first_unknown-requires c = c.if-not-has_room.ensures.few (c.if-not-has_room.ensures.value.0 refl)

pub with_block-requires : goal.with_block-requires
with_block-requires c = block_is c.args.extended c.args.block.now c.as_slice-pairs.result.now c.as_slice-pairs.ensures (c.if-not-has_room.ensures.value.0 refl) c.in_default.ensures
