use Rattle.std.proofs.Common.{◌∙◌, sym}
use Rattle.poly_text.proofs.WrittenTerms.{bare_product, other_product}
use Rattle.pair_limits.proofs.Behind.{text_is, text_then}
use Rattle.pair_limits.proofs.polynomials.put_product.Goals as goal

pub returns-then-is_bare : goal.returns-then-is_bare
returns-then-is_bare c = text_is (bare_product c.args.coefficient c.args.variables.now (sym c.is_bare.ensures ∙ c.if-is_bare.true)) c.put_factors.ensures

pub returns-else-is_bare : goal.returns-else-is_bare
returns-else-is_bare c =
    text_is (other_product c.args.coefficient c.args.variables.now (sym c.is_bare.ensures ∙ c.if-is_bare.false))
    (text_then c.put_number.ensures c.put_factors-else-is_bare.ensures)
