use Rattle.std.proofs.Common.{ap, subst}
use Rattle.graph_core.specs.Aiger.Writing.{ascii_text}
use Rattle.command_core.specs.Files.{Files}
use Rattle.joint_prover.specs.Verdicts.{IsVerdict}
use Rattle.mv_desk.specs.HonestDesk.{view_of}
use Rattle.mv_desk.proofs.CallerLemmas.{never_failed}
use Rattle.verdict_program.specs.Making.{sample_graph}
use Rattle.verdict_program.specs.Trial.{no_limits, trial_files, trial_task}
use Rattle.verdict_program.proofs.MemoryFiles.{honest_length, honest_tells}
use Rattle.verdict_program.proofs.TrialLemmas.{held_trial, never_other, refused_alone}
use Rattle.verdict_program.proofs.trial.judge.Goals as goal

pub check_pair-requires-clause-made : goal.check_pair-requires-clause-made
check_pair-requires-clause-made c =
    let a = view_of c.args.desk.now in
    let b = view_of c.verdict_on-verdict.new.desk in
    let sample = c.args.multiplier.sample in
    let noted = c.verdict_on-verdict.result.1 in
    let same = c.names-names.ensures in
    let short = honest_length c.args.desk.now c.names-names.result.graph.now trial_files.graph (ascii_text (sample_graph sample)) c.measure.result
    (ap (λ (f : Files). f.graph) same) c.requires.held c.measure.ensures.count c.measure.ensures.short in
    let said = subst (λ f. IsVerdict no_limits trial_task f a b c.verdict_on-verdict.result.0 noted) same c.verdict_on-verdict.ensures in
    let proved = subst (λ v. IsVerdict no_limits trial_task trial_files a b v noted) c.in-Proved.is said in
    (held_trial sample c.requires.some c.requires.narrow a b noted c.requires.held short (honest_tells c.args.desk.now).held (honest_tells c.verdict_on-verdict.new.desk) c.in-Proved.too_long proved
    c.unwrap.result c.unwrap.ensures).0

pub check_pair-requires-clause-pair : goal.check_pair-requires-clause-pair
check_pair-requires-clause-pair c =
    let a = view_of c.args.desk.now in
    let b = view_of c.verdict_on-verdict.new.desk in
    let sample = c.args.multiplier.sample in
    let noted = c.verdict_on-verdict.result.1 in
    let same = c.names-names.ensures in
    let short = honest_length c.args.desk.now c.names-names.result.graph.now trial_files.graph (ascii_text (sample_graph sample)) c.measure.result
    (ap (λ (f : Files). f.graph) same) c.requires.held c.measure.ensures.count c.measure.ensures.short in
    let said = subst (λ f. IsVerdict no_limits trial_task f a b c.verdict_on-verdict.result.0 noted) same c.verdict_on-verdict.ensures in
    let proved = subst (λ v. IsVerdict no_limits trial_task trial_files a b v noted) c.in-Proved.is said in
    (held_trial sample c.requires.some c.requires.narrow a b noted c.requires.held short (honest_tells c.args.desk.now).held (honest_tells c.verdict_on-verdict.new.desk) c.in-Proved.too_long proved
    c.unwrap.result c.unwrap.ensures).1

pub unreachable-requires : goal.unreachable-requires
unreachable-requires c =
    let a = view_of c.args.desk.now in
    let b = view_of c.verdict_on-verdict.new.desk in
    let sample = c.args.multiplier.sample in
    let noted = c.verdict_on-verdict.result.1 in
    let same = c.names-names.ensures in
    let short = honest_length c.args.desk.now c.names-names.result.graph.now trial_files.graph (ascii_text (sample_graph sample)) c.measure.result
    (ap (λ (f : Files). f.graph) same) c.requires.held c.measure.ensures.count c.measure.ensures.short in
    let said = subst (λ f. IsVerdict no_limits trial_task f a b c.verdict_on-verdict.result.0 noted) same c.verdict_on-verdict.ensures in
    never_other sample c.requires.some c.requires.narrow a b noted c.requires.held short c.verdict_on-verdict.result.0 said
    c.in_default.not-Proved c.in_default.not-Undecided c.in_default.not-Stopped

pub refused-requires : goal.refused-requires
refused-requires c =
    let a = view_of c.args.desk.now in
    let b = view_of c.verdict_on-verdict.new.desk in
    let sample = c.args.multiplier.sample in
    let noted = c.verdict_on-verdict.result.1 in
    let same = c.names-names.ensures in
    let short = honest_length c.args.desk.now c.names-names.result.graph.now trial_files.graph (ascii_text (sample_graph sample)) c.measure.result
    (ap (λ (f : Files). f.graph) same) c.requires.held c.measure.ensures.count c.measure.ensures.short in
    let said = subst (λ f. IsVerdict no_limits trial_task f a b c.verdict_on-verdict.result.0 noted) same c.verdict_on-verdict.ensures in
    refused_alone sample c.requires.some c.requires.narrow a b noted c.requires.held short (never_failed c.verdict_on-verdict.new.desk) c.in-Stopped.why
    (subst (λ v. IsVerdict no_limits trial_task trial_files a b v noted) c.in-Stopped.is said)
