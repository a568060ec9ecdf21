use Rattle.mv_text.specs.LineReading.{lengths_of}
use Rattle.std.proofs.Common.{ap, subst}
use Rattle.pair_core.specs.Texts.{clauses_text}
use Rattle.pair_limits.specs.Rooms.{Takes}
use Rattle.drup_text.specs.WrittenTexts.{any_file_text}
use Rattle.pair_limits.proofs.Behind.{text_is}
use Rattle.pair_limits.proofs.Within.{room_tells}
use Rattle.pair_limits.proofs.too_long.has_short_clauses.Goals as goal

pub returns : goal.returns
returns c =
    let text = clauses_text c.args.pair.now in
    let taken = text_is (ap (any_file_text c.args.pair.now.header) c.deref.ensures.value) c.put_clauses.ensures in
    room_tells (lengths_of c.args.limits.now) text c.put_clauses.new.room (subst (λ r. Takes text r c.put_clauses.new.room) c.new-room.ensures taken)
