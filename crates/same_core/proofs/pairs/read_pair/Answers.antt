use Rattle.std.proofs.Common.{Err, ap}
use Rattle.std.proofs.lemmas.Result.{err_from_is_err_and}
use Rattle.mv_desk.proofs.CallerLemmas.{Inspects-trans, OpensFiles-trans, SlotStays-trans}
use Rattle.same_core.specs.Files.{compared_files_of}
use Rattle.same_core.proofs.OutcomeRows.{first_answers, first_opened, merge_answers, merge_opened, other_answers, other_opened, pair_is}
use Rattle.same_core.proofs.pairs.read_pair.Goals as goal

-- ---- the first graph

pub returns-in_err-graph-clause-refused : goal.returns-in_err-graph-clause-refused
returns-in_err-graph-clause-refused g c =
    let same = err_from_is_err_and c.from_residual.result c.from_residual.ensures.1 in
    rw (same.1, same.2)
    (first_answers c.args.limits.now (compared_files_of c.args.names.now) (g.D.Desk.seen c.args.desk.now) (g.D.Desk.seen c.read_graph.new.desk) c.in_err-graph.field-0.0 c.in_err-graph.ensures.refused)

pub returns-in_err-graph-clause-opened : goal.returns-in_err-graph-clause-opened
returns-in_err-graph-clause-opened g c =
    let same = err_from_is_err_and c.from_residual.result c.from_residual.ensures.1 in
    rw (same.1, same.2)
    (first_opened c.args.limits.now (compared_files_of c.args.names.now) (g.D.Desk.seen c.args.desk.now) (g.D.Desk.seen c.read_graph.new.desk) c.in_err-graph.field-0.0 c.in_err-graph.ensures.refused c.read_graph.ensures.opens.opened)

-- ---- the second graph

pub returns-in_err-other-clause-refused : goal.returns-in_err-other-clause-refused
returns-in_err-other-clause-refused g c =
    let same = err_from_is_err_and c.from_residual-in_err-other.result c.from_residual-in_err-other.ensures.1 in
    rw (same.1, same.2)
    (other_answers c.args.limits.now (compared_files_of c.args.names.now) (g.D.Desk.seen c.args.desk.now) (g.D.Desk.seen c.read_graph.new.desk) (g.D.Desk.seen c.read_graph-2.new.desk) c.read_graph.ensures.inspects c.in_ok-graph.graph
    c.in_ok-graph.ensures.spelled c.in_err-other.field-0.0 c.in_err-other.ensures.refused)

pub returns-in_err-other-clause-opened : goal.returns-in_err-other-clause-opened
returns-in_err-other-clause-opened g c =
    let first = g.D.Desk.seen c.args.desk.now in
    let second = g.D.Desk.seen c.read_graph.new.desk in
    let third = g.D.Desk.seen c.read_graph-2.new.desk in
    let same = err_from_is_err_and c.from_residual-in_err-other.result c.from_residual-in_err-other.ensures.1 in
    rw (same.1, same.2)
    (other_opened c.args.limits.now (compared_files_of c.args.names.now) first second third c.read_graph.ensures.inspects c.in_ok-graph.graph c.in_ok-graph.ensures.spelled c.in_err-other.field-0.0 c.in_err-other.ensures.refused
    (OpensFiles-trans 1 1 first second third c.read_graph.ensures.opens.opened c.read_graph-2.ensures.opens.opened))

-- ---- the merged gates

pub returns-in_err-merged-clause-refused : goal.returns-in_err-merged-clause-refused
returns-in_err-merged-clause-refused g c =
    let same = err_from_is_err_and c.from_residual-in_err-merged.result c.from_residual-in_err-merged.ensures.1 in
    rw (same.1, same.2)
    (merge_answers c.args.limits.now (compared_files_of c.args.names.now) (g.D.Desk.seen c.args.desk.now) (g.D.Desk.seen c.read_graph.new.desk) (g.D.Desk.seen c.read_graph-2.new.desk) c.read_graph.ensures.inspects
    c.in_ok-graph.graph c.in_ok-graph.ensures.spelled c.in_ok-other.other c.in_ok-other.ensures.spelled c.in_err-merged.field-0.0 (λ e. c.in_err-merged.ensures.shape.0 (ap Err e)))

pub returns-in_err-merged-clause-opened : goal.returns-in_err-merged-clause-opened
returns-in_err-merged-clause-opened g c =
    let first = g.D.Desk.seen c.args.desk.now in
    let second = g.D.Desk.seen c.read_graph.new.desk in
    let third = g.D.Desk.seen c.read_graph-2.new.desk in
    let same = err_from_is_err_and c.from_residual-in_err-merged.result c.from_residual-in_err-merged.ensures.1 in
    rw (same.1, same.2)
    (merge_opened c.args.limits.now (compared_files_of c.args.names.now) first second third c.read_graph.ensures.inspects c.in_ok-graph.graph c.in_ok-graph.ensures.spelled c.in_ok-other.other c.in_ok-other.ensures.spelled c.in_err-merged.field-0.0
    (OpensFiles-trans 1 1 first second third c.read_graph.ensures.opens.opened c.read_graph-2.ensures.opens.opened))

pub returns-clause-pair : goal.returns-clause-pair
returns-clause-pair g c =
    pair_is c.args.limits.now (compared_files_of c.args.names.now) (g.D.Desk.seen c.args.desk.now) (g.D.Desk.seen c.read_graph.new.desk) (g.D.Desk.seen c.read_graph-2.new.desk) c.read_graph.ensures.inspects c.in_ok-graph.graph
    c.in_ok-graph.ensures.spelled c.in_ok-other.other c.in_ok-other.ensures.spelled c.in_ok-merged.merged c.in_ok-graph.ensures.built c.in_ok-other.ensures.built c.in_ok-merged.ensures.one_shape c.in_ok-merged.ensures.merged

-- ---- the desk

pub returns-clause-reads : goal.returns-clause-reads
returns-clause-reads g c =
    let first = g.D.Desk.seen c.args.desk.now in
    let second = g.D.Desk.seen c.read_graph.new.desk in
    let third = g.D.Desk.seen c.read_graph-2.new.desk in
    record {
      others = λ other no_graph no_other. SlotStays-trans other first second third (c.read_graph.ensures.opens.others other no_graph) (c.read_graph-2.ensures.opens.others other no_other);
      inspects = Inspects-trans first second third c.read_graph.ensures.inspects c.read_graph-2.ensures.inspects;
    }

pub returns-clause-opened_all : goal.returns-clause-opened_all
returns-clause-opened_all g c =
    OpensFiles-trans 1 1 (g.D.Desk.seen c.args.desk.now) (g.D.Desk.seen c.read_graph.new.desk) (g.D.Desk.seen c.read_graph-2.new.desk) c.read_graph.ensures.opens.opened c.read_graph-2.ensures.opens.opened
