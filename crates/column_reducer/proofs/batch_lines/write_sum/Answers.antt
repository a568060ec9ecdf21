use Rattle.std.proofs.lemmas.Result.{IfOk-weaker}
use Rattle.std.proofs.Common.{◌≡◌, length, subst, rules, []}
use Rattle.graph_core.specs.Graph.Assignments.{Assignment}
use Rattle.algebra_core.specs.AlgebraLines.{value_of}
use Rattle.poly_terms.specs.Tables.{value_in}
use Rattle.pac_writer.specs.Writing.{PutsLine, combination_of, written_ledger}
use Rattle.column_reducer.specs.Gathering.{AreBatchesWritten}
use Rattle.column_reducer.proofs.Written.{no_items, none_is_zero, sum_has, sum_is_equal}
use Rattle.column_reducer.proofs.batch_lines.write_sum.Goals as goal

pub combine-requires-clause-spare : goal.combine-requires-clause-spare
combine-requires-clause-spare c = (sum_is_equal c.args.lines.now.sides c.args.total c.args.weighted.items c.args.lines.now c.requires.written).0

pub combine-requires-clause-equal : goal.combine-requires-clause-equal
combine-requires-clause-equal c = (sum_is_equal c.args.lines.now.sides c.args.total c.args.weighted.items c.args.lines.now c.requires.written).1

pub returns-clause-value : goal.returns-clause-value
returns-clause-value c =
    let l = c.args.lines.now in
    IfOk-weaker c.combine.result (λ id. PutsLine (combination_of l.table id c.args.weighted.items c.args.total) id l c.combine.new.self)
    (λ id. (σ : Assignment) → value_of (written_ledger c.combine.new.self).live id σ ≡ value_in l.table c.args.total σ)
    (λ id puts σ. sum_has l.sides c.args.total c.args.weighted.items id l c.combine.new.self σ puts c.requires.written) c.combine.ensures.writes

pub returns-then-is_empty-clause-value : goal.returns-then-is_empty-clause-value
returns-then-is_empty-clause-value c σ =
    let l = c.args.lines.now in
    let none : length c.args.weighted.items ≡ 0 = search rules in
    none_is_zero l.sides c.args.total l σ c.last-last.ensures.lawful (subst (λ os. AreBatchesWritten l.extended l.sides l.table c.args.total [] os l) (no_items c.args.weighted.items none) c.requires.written)
