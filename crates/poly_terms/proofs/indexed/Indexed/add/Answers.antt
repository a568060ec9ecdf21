use Rattle.poly_terms.proofs.Indexing.{added-value, inside_of, outside_index, outside_of}
use Rattle.poly_terms.proofs.Made.{numbers_in}
use Rattle.poly_terms.proofs.indexed.Indexed.add.Goals as goal

pub add_all-requires-clause-entries : goal.add_all-requires-clause-entries
add_all-requires-clause-entries c = numbers_in c.args.terms.now c.numbering.result.now c.args.p.now c.entries.result.now c.numbering.ensures c.entries.ensures c.requires.addend

pub add_all-requires-clause-indexed : goal.add_all-requires-clause-indexed
add_all-requires-clause-indexed c =
    inside_of c.args.terms.now c.args.self.now c.exponent.result c.numbering.result.now c.self.inside.coefficients c.self.inside.places c.self.view_is c.exponent.ensures.exponent c.numbering.ensures
    c.requires.of c.requires.indexed

pub returns-clause-of : goal.returns-clause-of
returns-clause-of c =
    outside_of c.args.terms.now c.args.self.now.sum c.exponent.result c.numbering.result.now c.add_all.new.coefficients c.add_all.new.places c.exponent.ensures.exponent c.numbering.ensures c.requires.of
    c.in_ok-add_all.ensures.indexed

pub returns-clause-indexed : goal.returns-clause-indexed
returns-clause-indexed c =
    outside_index c.args.terms.now c.exponent.result c.numbering.result.now c.add_all.new.coefficients c.add_all.new.places c.exponent.ensures.exponent c.numbering.ensures c.in_ok-add_all.ensures.indexed

pub returns-clause-value : goal.returns-clause-value
returns-clause-value c =
    added-value c.args.terms.now c.args.self.now c.exponent.result c.self.inside.coefficients c.add_all.new.coefficients c.self.inside.places c.args.p.now c.entries.result.now c.self.view_is
    c.exponent.ensures.exponent c.entries.ensures c.in_ok-add_all.ensures.sums
