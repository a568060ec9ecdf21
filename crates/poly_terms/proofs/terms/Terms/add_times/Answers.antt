use Rattle.poly_terms.specs.Tables.{said}
use Rattle.poly_terms.proofs.Made.{numbers_of}
use Rattle.poly_terms.proofs.PolySums.{multiple_gained-value, product_gained-of}
use Rattle.poly_terms.proofs.terms.Terms.add_times.Goals as goal

pub add_multiples-requires-clause-entries : goal.add_multiples-requires-clause-entries
add_multiples-requires-clause-entries c =
    numbers_of c.self.inside.exponent c.self.inside.monomials c.args.self.now c.args.p.now c.entries.result.now c.self.view_is c.entries.ensures c.requires.poly

pub returns-clause-of : goal.returns-clause-of
returns-clause-of c =
    product_gained-of c.self.inside.exponent c.self.inside.monomials c.add_multiples.new.table c.args.self.now c.args.sum.now c.add_multiples.new.self c.self.view_is
    c.in_ok-add_multiples.ensures.of c.requires.sum

pub returns-clause-value : goal.returns-clause-value
returns-clause-value c σ =
    multiple_gained-value c.self.inside.exponent c.self.inside.monomials c.add_multiples.new.table c.args.self.now c.args.sum.now c.add_multiples.new.self c.args.p.now c.entries.result.now
    (said c.args.parts.now) σ c.self.view_is c.entries.ensures c.in_ok-add_multiples.ensures.adds c.requires.sum
