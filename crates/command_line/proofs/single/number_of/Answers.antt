use Rattle.command_line.proofs.Numerals.{number_read}
use Rattle.std.proofs.Common.{◌∙◌, ap}
use Rattle.command_line.specs.Asked.{number_of}
use Rattle.command_line.proofs.single.number_of.Goals as goal

pub returns : goal.returns
returns c =
    let text = c.as_bytes.ensures.value in
    c.ok.ensures.value ∙ number_read _ _ c.read_decimal.ensures.ok c.read_decimal.ensures.empty c.read_decimal.ensures.digit c.read_decimal.ensures.too_big ∙ ap number_of text
