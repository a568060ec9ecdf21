use Rattle.std.proofs.Common.{◌≡◌, ◌∙◌, w32, SFits, ap, decimal, rules}
use Rattle.std.specs.Prelude.{nat_abs}
use Rattle.std.proofs.lemmas.Int.{to_z-of_z}
use Rattle.drup_text.specs.WrittenTexts.{literal_sign}
use Rattle.pair_limits.proofs.Behind.{text_is, text_then}
use Rattle.pair_limits.proofs.Literals.{literal_text}
use Rattle.pair_limits.proofs.clauses.put_literal.Goals as goal

pub returns : goal.returns
returns c =
    let fits : SFits w32 c.args.literal = search rules in
    let sign : c.sign.result.now ≡ literal_sign c.args.literal = rw to_z-of_z at c.sign.ensures in
    let number : c.unsigned_abs.result ≡ nat_abs c.args.literal = rw to_z-of_z at c.unsigned_abs.ensures.value in
    text_is (literal_text c.args.literal)
    (text_then (text_then (text_is sign c.put.ensures) (text_is (ap decimal (c.from.ensures ∙ number)) c.put_number.ensures)) c.put-2.ensures)
