use Rattle.std.proofs.Common.{◌++◌, arith, length, sym, subst, ◌∙◌, ap}
use Rattle.std.proofs.lemmas.List.{take_at}
use Rattle.graph_core.specs.Graph.Tables.{AreCounts, gates_read}
use Rattle.graph_core.proofs.graph.reading.readers_of.Goals as goal

pub returns-clause-counts : goal.returns-clause-counts
returns-clause-counts c =
    let kept = take_at c.count_readers.new.readers _ c.in_ok-readers.readers.len (omega (arith, c.count_readers.auto.readers, c.deref_mut.ensures.len)) in
    subst (AreCounts (c.args.outputs.now ++ gates_read c.args.gates.now)) (sym kept) c.count_readers.ensures

pub returns-clause-size : goal.returns-clause-size
returns-clause-size c =
    let kept = take_at c.count_readers.new.readers _ c.in_ok-readers.readers.len (omega (arith, c.count_readers.auto.readers, c.deref_mut.ensures.len)) in
    ap length kept ∙ c.count_readers.auto.readers ∙ c.deref_mut.ensures.len ∙ c.in_ok-readers.ensures.len
