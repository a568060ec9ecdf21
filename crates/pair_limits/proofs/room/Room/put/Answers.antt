use Rattle.std.proofs.Common.{◌+◌, drop, get_or}
use Rattle.std.proofs.lemmas.List.{drop_all}
use Rattle.drup_text.proofs.WrittenLoops.{next_item}
use Rattle.pair_limits.proofs.Behind.{up_to_all, one_byte}
use Rattle.pair_limits.proofs.room.Room.put.Goals as goal

pub loop-byte-preserved : goal.loop-byte-preserved
loop-byte-preserved c =
    let piece = c.args.piece.now in
    let i = c.loop-byte.byte-index in
    one_byte (get_or piece i 0) (drop (i + 1) piece) (next_item piece i 0 c.loop-byte-test.true) c.loop-byte.invariant c.put_byte.ensures

pub returns : goal.returns
returns c = up_to_all (drop_all c.loop-byte.byte-index c.args.piece.now c.loop-byte-test.false) c.loop-byte.invariant
