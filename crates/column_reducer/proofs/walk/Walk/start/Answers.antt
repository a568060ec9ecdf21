use Rattle.column_reducer.proofs.Walks.{walk_started}
use Rattle.column_reducer.proofs.walk.Walk.start.Goals as goal

pub returns-clause-walked : goal.returns-clause-walked
returns-clause-walked c e s same =
    walk_started e s c.args.terms.now c.new.new.terms c.new-rest.result c.in_ok-gathered.gathered same c.in_ok-gathered.ensures.extends c.new-rest.ensures.of c.new-rest.ensures.indexed
    c.new-rest.ensures.value c.in_ok-gathered.ensures.none (λ k none. c.in_ok-gathered.ensures.gathered e s k same none)
