use Rattle.poly_terms.specs.Tables.{value_in}
use Rattle.column_reducer.proofs.Walks.{walk_ended}
use Rattle.column_reducer.proofs.walk.Walk.end.Goals as goal

pub end_batch-requires : goal.end_batch-requires
end_batch-requires c =
    let w = c.requires.walked in
    record { gathered = (w.0, w.1, w.2, value_in c.args.terms.now c.args.self.rest.sum, w.3.gathered) }

pub returns-clause-ended : goal.returns-clause-ended
returns-clause-ended c e s f h =
    walk_ended e s c.args.terms.now c.end_batch.new.terms f c.args.self c.in_ok-rest.rest c.end_batch.new.self c.in_ok-rest.ensures c.in_ok-end_batch.ensures.extends c.in_ok-end_batch.ensures.ended h
