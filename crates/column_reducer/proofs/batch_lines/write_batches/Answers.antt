use Rattle.std.proofs.Common.{◌≡◌, ◌+◌, ◌++◌, ◌∷◌, [], length, length-append, sym, subst, ap, arith}
use Rattle.pac_writer.specs.Writing.{IsOver}
use Rattle.column_reducer.specs.Gathering.{AreBatchesWritten}
use Rattle.column_reducer.proofs.Fixed.{over_fixed}
use Rattle.column_reducer.proofs.batch_lines.write_batches.Goals as goal

pub loop-batch-preserved : goal.loop-batch-preserved
loop-batch-preserved c =
    let l = c.args.lines.now in
    let gs = c.pop.new.self.items in
    let batch = c.in-Some.batch in
    let items : c.loop-batch.left.items ≡ gs ++ batch ∷ [] = c.in-Some.ensures.items in
    let count : length c.loop-batch.left.items ≡ length gs + 1 = omega (arith, ap length items, length-append gs (batch ∷ [])) in
    record {
      written = c.in_ok-write_batch.ensures.written l.extended l.sides l.table c.args.total gs
          (subst (λ xs. AreBatchesWritten l.extended l.sides l.table c.args.total xs c.loop-batch.weighted.items c.loop-batch.lines) items c.loop-batch.invariant.written);
      last = omega (arith, c.in_ok-write_batch.ensures.last, c.loop-batch.invariant.last);
      few = omega (arith, c.in_ok-write_batch.ensures.few, c.loop-batch.invariant.few);
    }

pub write_sum-requires-clause-over : goal.write_sum-requires-clause-over
write_sum-requires-clause-over c =
    let l = c.args.lines.now in
    let graph = c.loop-batch.invariant.written.graph in
    subst (λ e. IsOver e.max c.loop-batch.lines.table c.args.total) (sym graph.extended)
    (subst (λ t. IsOver l.extended.max t c.args.total) (sym graph.table) (over_fixed l.extended.max l.table c.args.total c.requires.batches.of c.requires.batches.fixed))
