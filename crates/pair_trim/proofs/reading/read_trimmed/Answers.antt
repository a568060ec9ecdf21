use Rattle.std.proofs.Common.{arith, refl}
use Rattle.std.proofs.lemmas.Result.{err_from_is_err_and}
use Rattle.graph_core.specs.Graph.Operands.{profile_of}
use Rattle.command_core.specs.Files.{files_of, texts_of}
use Rattle.pair_trim.proofs.NewPair.{can_be_written}
use Rattle.pair_trim.proofs.Trims.{has_chosen, needed_without_memory}
use Rattle.pair_trim.proofs.reading.read_trimmed.Goals as goal

pub returns-in_err-judged-clause-not_accepted : goal.returns-in_err-judged-clause-not_accepted
returns-in_err-judged-clause-not_accepted g c =
    let same = err_from_is_err_and c.from_residual.result c.from_residual.ensures.1 in
    rw (same.1, same.2) c.in_err-judged.ensures.not_accepted

pub returns-clause-trims : goal.returns-clause-trims
returns-clause-trims g c =
    has_chosen c.args.limits.now c.args.claim c.in_ok-judged.judged c.in_ok-choose.field-0 (c.in_ok-judged.ensures.judged refl) c.in_ok-choose.ensures (texts_of (g.D.Desk.seen c.args.desk.now) (files_of c.args.names.now))
    (c.in_ok-judged.ensures.told refl)

pub returns-clause-writes : goal.returns-clause-writes
returns-clause-writes g c = can_be_written c.args.claim c.in_ok-judged.judged c.in_ok-choose.field-0 (c.in_ok-judged.ensures.judged refl) c.in_ok-choose.ensures

-- ---- no memory for what is kept

pub returns-in_err-choose-clause-opens : goal.returns-in_err-choose-clause-opens
returns-in_err-choose-clause-opens g c =
    let before = g.D.Desk.seen c.args.desk.now in
    let same = err_from_is_err_and c.from_residual-in_err-choose.result c.from_residual-in_err-choose.ensures.1 in
    rw (same.1, same.2)
    (needed_without_memory (profile_of c.args.claim.widths) c.args.limits.now (texts_of before (files_of c.args.names.now)) before (g.D.Desk.seen c.judge_pair.new.desk) c.in_ok-judged.ensures.opens)

pub returns-in_err-choose-clause-opened : goal.returns-in_err-choose-clause-opened
returns-in_err-choose-clause-opened g c =
    let same = err_from_is_err_and c.from_residual-in_err-choose.result c.from_residual-in_err-choose.ensures.1 in
    rw (same.1, same.2) (3, omega arith, c.in_ok-judged.ensures.opened)
