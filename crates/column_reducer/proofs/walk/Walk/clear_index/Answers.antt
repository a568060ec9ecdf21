use Rattle.column_reducer.proofs.Walks.{walk_indexed}
use Rattle.column_reducer.proofs.walk.Walk.clear_index.Goals as goal

pub index_anew-requires : goal.index_anew-requires
index_anew-requires c = c.requires.walked.3.rest.of

pub returns : goal.returns
returns c = record {
  walked = λ e s f h. walk_indexed e s c.args.terms.now f c.args.self.now c.index_anew.new.rest c.in_ok-index_anew.ensures.of c.in_ok-index_anew.ensures.indexed c.in_ok-index_anew.ensures.value h;
}
