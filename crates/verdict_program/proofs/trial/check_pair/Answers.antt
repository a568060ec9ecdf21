use Rattle.std.proofs.Common.{ap, refl, subst}
use Rattle.std.specs.Prelude.{is_some}
use Rattle.graph_core.specs.Graph.Operands.{product_under}
use Rattle.graph_core.specs.declared.order.Order.TheVariants.{Separate}
use Rattle.command_core.specs.Files.{AreTold, Files, texts_of}
use Rattle.joint_checker.specs.Outcome.{IsExactAnswer}
use Rattle.mv_desk.specs.HonestDesk.{view_of}
use Rattle.mv_desk.proofs.CallerLemmas.{never_failed}
use Rattle.verdict_program.specs.Trial.{no_limits, trial_files}
use Rattle.verdict_program.proofs.MemoryFiles.{honest_length}
use Rattle.verdict_program.proofs.TrialLemmas.{accepted_of_made, check_refused, never_refused}
use Rattle.verdict_program.proofs.trial.check_pair.Goals as goal

pub unreachable-requires : goal.unreachable-requires
unreachable-requires c =
    let before = view_of c.args.desk.now in
    let after = view_of c.check.new.desk in
    let pair = c.requires.pair in
    let names = c.names-names.result in
    let same = c.names-names.ensures in
    let clauses = honest_length c.args.desk.now names.clauses.now trial_files.clauses pair.clause_file c.measure.result (ap (λ (f : Files). f.clauses) same)
    pair.clauses_held c.measure.ensures.count c.measure.ensures.short in
    let algebra = honest_length c.args.desk.now names.algebra.now trial_files.algebra pair.algebra_file c.measure-2.result (ap (λ (f : Files). f.algebra) same)
    pair.algebra_held c.measure-2.ensures.count c.measure-2.ensures.short in
    let exact = subst (λ f. IsExactAnswer no_limits (product_under Separate) f before after c.check.result) same c.check.ensures.exact in
    let told : AreTold (texts_of before trial_files) = record { graph_told = ap is_some pair.graph_held; clauses_told = ap is_some pair.clauses_held; algebra_told = ap is_some pair.algebra_held } in
    never_refused c.args.multiplier.sample before c.args.note c.requires.made pair clauses algebra after (never_failed c.check.new.desk) c.check.result (exact told)
    c.in-Refused.field-0 c.in-Refused.is

pub refused-requires : goal.refused-requires
refused-requires c =
    let before = view_of c.args.desk.now in
    let after = view_of c.check.new.desk in
    let pair = c.requires.pair in
    let names = c.names-names.result in
    let same = c.names-names.ensures in
    let clauses = honest_length c.args.desk.now names.clauses.now trial_files.clauses pair.clause_file c.measure.result (ap (λ (f : Files). f.clauses) same)
    pair.clauses_held c.measure.ensures.count c.measure.ensures.short in
    let algebra = honest_length c.args.desk.now names.algebra.now trial_files.algebra pair.algebra_file c.measure-2.result (ap (λ (f : Files). f.algebra) same)
    pair.algebra_held c.measure-2.ensures.count c.measure-2.ensures.short in
    let exact = subst (λ f. IsExactAnswer no_limits (product_under Separate) f before after c.check.result) same c.check.ensures.exact in
    let told : AreTold (texts_of before trial_files) = record { graph_told = ap is_some pair.graph_held; clauses_told = ap is_some pair.clauses_held; algebra_told = ap is_some pair.algebra_held } in
    check_refused c.args.multiplier.sample before c.args.note c.requires.made pair clauses algebra after (never_failed c.check.new.desk) c.check.result (exact told)
    c.in-Stopped.why c.in-Stopped.is

pub returns-in-Accepted : goal.returns-in-Accepted
returns-in-Accepted c =
    let pair = c.requires.pair in
    let names = c.names-names.result in
    let same = c.names-names.ensures in
    let clauses = honest_length c.args.desk.now names.clauses.now trial_files.clauses pair.clause_file c.measure.result (ap (λ (f : Files). f.clauses) same)
    pair.clauses_held c.measure.ensures.count c.measure.ensures.short in
    let algebra = honest_length c.args.desk.now names.algebra.now trial_files.algebra pair.algebra_file c.measure-2.result (ap (λ (f : Files). f.algebra) same)
    pair.algebra_held c.measure-2.ensures.count c.measure-2.ensures.short in
    (refl, accepted_of_made c.args.multiplier.sample (view_of c.args.desk.now) c.args.note c.requires.made pair clauses algebra)
