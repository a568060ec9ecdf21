use Rattle.std.proofs.Common.{◌∙◌, sym}
use Rattle.mv_text.proofs.CallerLemmas.{Puts-is, Puts-then}
use Rattle.poly_text.proofs.WrittenTerms.{bare_product, other_product}
use Rattle.poly_text.proofs.poly_writing.put_product.Goals as goal

pub returns-then-is_bare-clause-open : goal.returns-then-is_bare-clause-open
returns-then-is_bare-clause-open g c = c.put_factors.ensures.open

pub returns-then-is_bare-clause-puts : goal.returns-then-is_bare-clause-puts
returns-then-is_bare-clause-puts g c =
    Puts-is (bare_product c.args.coefficient c.args.variables.now (sym c.is_bare.ensures ∙ c.if-is_bare.true)) c.put_factors.ensures.puts

pub returns-else-is_bare-clause-open : goal.returns-else-is_bare-clause-open
returns-else-is_bare-clause-open g c = c.put_factors-else-is_bare.ensures.open

pub returns-else-is_bare-clause-puts : goal.returns-else-is_bare-clause-puts
returns-else-is_bare-clause-puts g c =
    Puts-is (other_product c.args.coefficient c.args.variables.now (sym c.is_bare.ensures ∙ c.if-is_bare.false))
    (Puts-then c.put_number.ensures.puts c.put_factors-else-is_bare.ensures.puts)
