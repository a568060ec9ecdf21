use Rattle.poly_terms.proofs.Made.{numbers_of}
use Rattle.poly_terms.proofs.PolySums.{product_gained-of, product_gained-value}
use Rattle.poly_terms.proofs.terms.Terms.add_product.Goals as goal

pub add_products-requires-clause-left : goal.add_products-requires-clause-left
add_products-requires-clause-left c =
    numbers_of c.self.inside.exponent c.self.inside.monomials c.args.self.now c.args.p.now c.entries.result.now c.self.view_is c.entries.ensures c.requires.left

pub add_products-requires-clause-right : goal.add_products-requires-clause-right
add_products-requires-clause-right c =
    numbers_of c.self.inside.exponent c.self.inside.monomials c.args.self.now c.args.q.now c.entries-2.result.now c.self.view_is c.entries-2.ensures c.requires.right

pub returns-clause-of : goal.returns-clause-of
returns-clause-of c =
    product_gained-of c.self.inside.exponent c.self.inside.monomials c.add_products.new.table c.args.self.now c.args.sum.now c.add_products.new.self c.self.view_is
    c.in_ok-add_products.ensures.of c.requires.sum

pub returns-clause-value : goal.returns-clause-value
returns-clause-value c σ =
    product_gained-value c.self.inside.exponent c.self.inside.monomials c.add_products.new.table c.args.self.now c.args.sum.now c.add_products.new.self c.args.p.now c.args.q.now c.entries.result.now
    c.entries-2.result.now σ c.self.view_is c.entries.ensures c.entries-2.ensures c.in_ok-add_products.ensures.adds c.requires.sum
