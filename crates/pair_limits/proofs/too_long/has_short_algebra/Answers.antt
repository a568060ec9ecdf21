use Rattle.mv_text.specs.LineReading.{lengths_of}
use Rattle.std.proofs.Common.{ℕ, List, ap, subst}
use Rattle.poly_text.specs.declared.line.PacLine.{PacLine}
use Rattle.pair_core.specs.Texts.{algebra_text}
use Rattle.pair_limits.specs.Rooms.{Takes}
use Rattle.poly_terms.specs.Tables.{modulus_in}
use Rattle.poly_text.specs.Recorded.{lines_in}
use Rattle.poly_text.specs.WrittenLines.{written_certificate}
use Rattle.pair_limits.proofs.Behind.{text_is}
use Rattle.pair_limits.proofs.Within.{room_tells}
use Rattle.pair_limits.proofs.too_long.has_short_algebra.Goals as goal

pub returns : goal.returns
returns c =
    let text = algebra_text c.args.pair.now in
    let pair = c.args.pair.now in
    let written : List PacLine → List ℕ = λ lines. written_certificate pair.header.version (modulus_in pair.terms) (lines_in pair.terms lines) pair.closing in
    let taken = text_is (ap written c.deref-2.ensures.value) c.put_certificate.ensures in
    room_tells (lengths_of c.args.limits.now) text c.put_certificate.new.room (subst (λ r. Takes text r c.put_certificate.new.room) c.new-room.ensures taken)
