use Rattle.std.proofs.lemmas.Result.{on_ok_weaker}
use Rattle.poly_terms.specs.Tables.{modulus_in, value_in}
use Rattle.frontier_core.specs.Substitution.{quotient}
use Rattle.column_reducer.proofs.Grown.{gathered_grown}
use Rattle.column_reducer.proofs.Taken.{left_of}
use Rattle.column_reducer.proofs.Walks.{walk_eliminated}
use Rattle.column_reducer.proofs.walk.Walk.eliminate.Goals as goal

pub returns-clause-walked : goal.returns-clause-walked
returns-clause-walked c =
    on_ok_weaker c.take.result
    (λ takes s f frontier new h.
    walk_eliminated c.args.extended.now s c.args.terms.now c.eliminate.new.terms c.take.new.terms f c.args.self.now c.take.new.self c.args.gate c.eliminate.new.rest c.in_ok-part.part c.gates-gates.ensures.extension
    c.requires.gate c.in_ok-part.ensures.extends c.take.ensures.extends c.in_ok-part.ensures.eliminated takes frontier new h) c.take.ensures.taken

pub take-requires-clause-of : goal.take-requires-clause-of
take-requires-clause-of c =
    let t0 = c.args.terms.now in
    left_of (modulus_in t0) c.eliminate.new.terms c.args.gate (quotient (modulus_in t0) c.args.gate.v (value_in t0 c.args.self.now.rest.sum)) c.in_ok-part.part c.in_ok-part.ensures.eliminated.left

pub take-requires-clause-gathered : goal.take-requires-clause-gathered
take-requires-clause-gathered c =
    let w = c.requires.walked in
    let t0 = c.args.terms.now in
    let rest = value_in t0 c.args.self.now.rest.sum in
    (c.args.extended.now, w.0, w.1, rest, gathered_grown c.args.extended.now w.0 t0 c.eliminate.new.terms w.1 rest c.args.self.now.gathered c.in_ok-part.ensures.extends w.2.gathered)
