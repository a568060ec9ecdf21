use Rattle.std.proofs.Common.{arith}
use Rattle.poly_terms.specs.Tables.{modulus_in, value_in}
use Rattle.column_reducer.proofs.Eliminations.{eliminated_none, eliminated_of, taken_false}
use Rattle.column_reducer.proofs.Grown.{exponent_stays}
use Rattle.column_reducer.proofs.Sizes.{size_none, size_some}
use Rattle.column_reducer.proofs.elimination.eliminate.Goals as goal

pub returns-then-size-eq0-clause-eliminated : goal.returns-then-size-eq0-clause-eliminated
returns-then-size-eq0-clause-eliminated c =
    let t = c.args.terms.now in
    let taken = c.in_ok-taken.taken in
    eliminated_none t c.args.gate.now c.args.rest.now.sum taken c.take.new.self c.in_ok-taken.ensures.of c.in_ok-taken.ensures.indexed c.in_ok-taken.ensures.rest c.in_ok-taken.ensures.quotient
    (size_none (modulus_in t) (value_in t taken) c.size.result c.size.ensures.size c.if-size-eq0.true)

pub of-requires-clause-all : goal.of-requires-clause-all
of-requires-clause-all c =
    taken_false c.args.terms.now c.args.gate.now.v c.args.rest.now.sum c.in_ok-taken.taken c.take.new.self.sum c.in_ok-taken.ensures.rest c.in_ok-taken.ensures.sum

pub of-requires-clause-some : goal.of-requires-clause-some
of-requires-clause-some c =
    let t = c.args.terms.now in
    size_some (modulus_in t) (value_in t c.in_ok-taken.taken) c.size.result c.size.ensures.size c.if-size-eq0.false

pub put_back-requires-clause-power : goal.put_back-requires-clause-power
put_back-requires-clause-power c =
    let same = exponent_stays c.args.terms.now c.of.new.terms c.in_ok-part.ensures.extends in
    omega (arith, same, c.requires.power, c.in_ok-part.ensures.low)

pub returns-clause-eliminated : goal.returns-clause-eliminated
returns-clause-eliminated c =
    let back = c.in_ok-put_back.ensures.value in
    eliminated_of c.args.terms.now c.of.new.terms c.args.gate.now c.args.rest.now.sum c.in_ok-taken.taken c.take.new.self c.put_back.new.rest c.in_ok-part.part back.0
    c.in_ok-part.ensures.extends c.in_ok-taken.ensures.of c.in_ok-put_back.ensures.of c.in_ok-put_back.ensures.indexed c.in_ok-taken.ensures.rest c.in_ok-taken.ensures.quotient c.in_ok-part.ensures.part
    back.1 back.2
