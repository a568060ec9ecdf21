use Rattle.std.proofs.Common.{◌<◌, sym, subst}
use Rattle.std.proofs.lemmas.Result.{on_ok_weaker}
use Rattle.column_reducer.proofs.Columns.{below_exponent}
use Rattle.column_reducer.proofs.Grown.{exponent_stays}
use Rattle.column_reducer.proofs.Walks.{walk_added}
use Rattle.column_reducer.proofs.walk.Walk.add_column.Goals as goal

pub returns-clause-walked : goal.returns-clause-walked
returns-clause-walked c =
    on_ok_weaker c.take_column.result
    (λ takes f frontier new h.
    walk_added c.args.extended.now c.args.operands.now c.args.terms.now c.add_column.new.terms c.take_column.new.terms f c.args.self.now c.args.k c.add_column.new.rest c.take_column.new.self c.gates-gates.ensures.extension
    c.requires.inputs c.requires.in_range c.in_ok-add_column.ensures.extends c.take_column.ensures.extends c.in_ok-add_column.ensures.added takes frontier new h) c.take_column.ensures.column

pub take_column-requires-clause-weight : goal.take_column-requires-clause-weight
take_column-requires-clause-weight c =
    let t0 = c.args.terms.now in
    subst (λ n. c.args.k < n) (sym (exponent_stays t0 c.add_column.new.terms c.in_ok-add_column.ensures.extends)) (below_exponent c.args.extended.now t0 c.args.k c.requires.walked.1.rest.same_modulus c.requires.in_range)
