use Rattle.mv_desk.specs.View.{bytes_under}
use Rattle.verdict_program.proofs.ProductClaims.{product_is_claimed}
use Rattle.verdict_program.proofs.Told.{some_more}
use Rattle.verdict_program.proofs.laws.products_are_claimed.Goals as goal

pub returns : goal.returns
returns c = λ view name order. (
  some_more (bytes_under view name) _ _ (λ bytes h. (h.0, h.1, (product_is_claimed bytes h.0 order h.1).0 h.2)),
  some_more (bytes_under view name) _ _ (λ bytes h. (h.0, h.1, (product_is_claimed bytes h.0 order h.1).1 h.2)),
)
