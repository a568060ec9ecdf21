use Rattle.std.proofs.Common.{refl}
use Rattle.poly_terms.proofs.Indexing.{IsTaken, inside_of, is_taken}
use Rattle.poly_terms.proofs.indexed.Indexed.take.Goals as goal

pub take_out-requires : goal.take_out-requires
take_out-requires c =
    let t = c.args.terms.now in
    (inside_of t c.args.self.now t.exponent c.numbering.result.now c.self.inside.coefficients c.self.inside.places c.self.view_is refl c.numbering.ensures c.requires.of c.requires.indexed).within

all_of : (c : goal.After-drop-numbers-inside-3) → IsTaken c.args.terms.now c.args.v c.args.self.now c.take_out.new.coefficients c.take-numbers.new.self c.of.result
all_of c =
    is_taken c.args.terms.now c.args.v c.args.self.now c.exponent.result c.numbering.result.now c.self.inside.coefficients c.take_out.new.coefficients c.self.inside.places c.take-numbers.new.self
    c.take-numbers.result c.in_ok-raw.raw.items c.in_ok-entries.entries.items c.of.result c.self.view_is c.exponent.ensures.exponent c.numbering.ensures c.requires.of c.requires.indexed c.requires.variable
    c.take-numbers.ensures.numbers c.take-numbers.ensures.others c.in_ok-raw.ensures.taken c.in_ok-raw.ensures.gone c.in_ok-entries.ensures c.of.ensures

pub returns-clause-of : goal.returns-clause-of
returns-clause-of c = (all_of c).of

pub returns-clause-indexed : goal.returns-clause-indexed
returns-clause-indexed c = (all_of c).indexed

pub returns-clause-none : goal.returns-clause-none
returns-clause-none c = (all_of c).none

pub returns-clause-rest : goal.returns-clause-rest
returns-clause-rest c = (all_of c).rest

pub returns-clause-taken : goal.returns-clause-taken
returns-clause-taken c = (all_of c).taken

pub returns-clause-sum : goal.returns-clause-sum
returns-clause-sum c = (all_of c).sum

pub returns-clause-quotient : goal.returns-clause-quotient
returns-clause-quotient c = (all_of c).quotient
