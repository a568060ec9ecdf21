use Rattle.std.proofs.lemmas.Result.{on_ok_weaker}
use Rattle.poly_terms.specs.Tables.{value_in}
use Rattle.column_reducer.proofs.Walks.{walk_settled}
use Rattle.column_reducer.proofs.walk.Walk.settle.Goals as goal

pub settle-requires : goal.settle-requires
settle-requires c =
    let w = c.requires.walked in
    record { gathered = (w.0, w.1, w.2, value_in c.args.terms.now c.args.self.now.rest.sum, w.3.gathered) }

pub returns-clause-walked : goal.returns-clause-walked
returns-clause-walked c =
    on_ok_weaker c.settle.result (λ settles e s f h. walk_settled e s c.args.terms.now c.settle.new.terms f c.args.self.now c.settle.new.self c.settle.ensures.extends settles h) c.settle.ensures.settles
