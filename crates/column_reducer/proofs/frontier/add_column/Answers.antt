use Rattle.column_reducer.proofs.Walks.{column_added}
use Rattle.column_reducer.proofs.frontier.add_column.Goals as goal

pub returns-clause-added : goal.returns-clause-added
returns-clause-added c =
    column_added c.args.extended.now c.args.operands.now c.args.terms.now c.column_poly.new.terms c.args.k c.args.rest.now.sum c.in_ok-column.column c.add.new.self c.requires.same_modulus c.in_ok-column.ensures.extends
    c.requires.of c.in_ok-add.ensures.of c.in_ok-add.ensures.indexed c.in_ok-column.ensures.value c.in_ok-add.ensures.value
