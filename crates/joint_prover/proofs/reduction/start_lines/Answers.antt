use Rattle.std.proofs.Common.{◌≡◌, sym, ap, subst, ◌∙◌}
use Rattle.std.proofs.lemmas.Result.{IfOk-weaker}
use Rattle.graph_core.specs.Aiger.Sizes.{IsSizedAs}
use Rattle.graph_core.specs.Graph.Extended.{Extended}
use Rattle.graph_core.specs.Graph.Operands.{profile_of, sides_for}
use Rattle.pac_writer.specs.Writing.{IsFresh}
use Rattle.joint_prover.specs.Endings.{IsStart, replacement_named}
use Rattle.joint_prover.specs.Replacements.{extended_by}
use Rattle.joint_prover.proofs.Sizes.{few_outputs, some_outputs}
use Rattle.joint_prover.proofs.Remainders.{graph_by, operands_are, starts_shown}
use Rattle.joint_prover.proofs.reduction.start_lines.Goals as goal

pub new-requires : goal.new-requires
new-requires c =
    let job = c.args.job.now in
    let add = job.operands.now.claim.widths in
    let s = c.args.shown in
    let g = s.extended.now.graph in
    let same = ap (λ (x : Extended). x.graph) c.requires.shown.extended ∙ graph_by job.graph.now (replacement_named s) in
    let sized = subst (IsSizedAs (profile_of add)) (sym same) c.requires.job.sized in
    record { outputs = (some_outputs add g sized, few_outputs add g sized) }

pub returns-clause-start : goal.returns-clause-start
returns-clause-start c =
    let job = c.args.job.now in
    let s = c.args.shown in
    IfOk-weaker c.new.result (IsFresh s.extended.now job.operands.now) IsStart
    (λ l fresh. starts_shown l job.graph.now job.task job.operands.now s c.requires.shown fresh c.requires.job.operands c.requires.job.sized c.gates-gates.ensures.extension) c.new.ensures

pub returns-clause-extended : goal.returns-clause-extended
returns-clause-extended c =
    let job = c.args.job.now in
    let s = c.args.shown in
    IfOk-weaker c.new.result (IsFresh s.extended.now job.operands.now) (λ l. l.extended ≡ extended_by job.graph.now (replacement_named s)) (λ l fresh. fresh.extended ∙ c.requires.shown.extended) c.new.ensures

pub returns-clause-sides : goal.returns-clause-sides
returns-clause-sides c =
    let job = c.args.job.now in
    IfOk-weaker c.new.result (IsFresh c.args.shown.extended.now job.operands.now) (λ l. l.sides ≡ sides_for job.task.claim job.graph.now) (λ l fresh. fresh.sides ∙ operands_are job c.requires.job) c.new.ensures
