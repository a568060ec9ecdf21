use Rattle.std.proofs.Common.{◌<◌, ◌+◌, ◌-◌, ℕ, List, [], length, slice_index_or, sym, ap, subst, ◌∙◌, arith}
use Rattle.std.specs.List.{All}
use Rattle.graph_core.specs.Graph.Extended.{Extended}
use Rattle.clause_core.specs.Clause.{Clause, IsClauseInRange}
use Rattle.cdcl_solver.specs.declared.solved.Solved.{Solved}
use Rattle.cdcl_solver.specs.declared.solved.Solved.TheVariants.{Model, Refuted, Spent}
use Rattle.miter_encoder.proofs.Meanings.{clauses_mean}
use Rattle.goal_refuter.specs.Beginnings.{IsBegunFor}
use Rattle.goal_refuter.specs.Refuting.{AreOver, IsRefutation}
use Rattle.goal_refuter.proofs.Beginning.{begun_few, so_far_begun}
use Rattle.goal_refuter.proofs.AsMany.{keeps_on}
use Rattle.goal_refuter.proofs.Outcomes.{at_goal, differing_here, few_of, goals_so_far, so_far_all, so_far_next, spent_here}
use Rattle.goal_refuter.proofs.refuting.refute_each.Goals as goal

pub refute_one-requires-clause-goal : goal.refute_one-requires-clause-goal
refute_one-requires-clause-goal c =
    let goals = c.args.goals.now in
    let i = c.loop-goal.goal in
    let below : i < length goals = omega arith in
    let kept = (c.loop-goal.invariant.kept c.requires.over.1 c.requires.over.3).0 in
    subst (λ m. IsClauseInRange m c.get.result.now) (sym kept.max_is)
    (subst (IsClauseInRange c.args.solver.now.max) (sym c.get.ensures) (c.requires.goals i c.get.result.now below))

pub refute_one-requires-clause-log : goal.refute_one-requires-clause-log
refute_one-requires-clause-log c =
    let kept = (c.loop-goal.invariant.kept c.requires.over.1 c.requires.over.3).0 in
    subst (λ m. All (IsClauseInRange m) c.loop-goal.log.left) (sym kept.max_is) kept.in_range

pub refute_one-requires-clause-over : goal.refute_one-requires-clause-over
refute_one-requires-clause-over c =
    let kept = c.loop-goal.invariant.kept c.requires.over.1 c.requires.over.3 in
    (c.requires.over.1, kept.0.live, kept.1)

pub loop-goal-init : goal.loop-goal-init
loop-goal-init c =
    let few = begun_few c.args.solver.now.max c.requires.over.1 c.args.conflicts c.args.solver.now c.args.begun c.requires.over.3.0 in
    record {
      so_far = λ e given over begun. so_far_begun e given c.args.goals.now c.args.conflicts c.args.solver.now c.args.begun over begun.0;
      goals_added = omega arith;
      few = omega arith;
      kept = λ given begun. (begun.0.kept, begun.1);
    }

pub loop-goal-preserved : goal.loop-goal-preserved
loop-goal-preserved c =
    let first = c.args.solver.now in
    let goals = c.args.goals.now in
    let max : ℕ = first.max in
    let i = c.loop-goal.goal in
    let log = c.loop-goal.log in
    let below : i < length goals = omega arith in
    let spent : ℕ = c.added.result - i in
    let next = λ (e : Extended) (given : List Clause) (over : AreOver e max given goals) (begun : IsBegunFor c.args.forgets max given c.args.conflicts first c.args.begun).
    let kept = c.loop-goal.invariant.kept given begun in
    let known = at_goal c.loop-goal.solver.max max given goals i (c.args.conflicts - spent) c.get.result.now log c.refute_one.new.log c.in_ok-refute_one.field-0 kept.0.max_is below c.get.ensures (c.in_ok-refute_one.ensures.answer given kept.0.live kept.1) in
    let shown = subst (λ (s : Solved). IsRefutation max given (slice_index_or goals i []) (c.args.conflicts - spent) log c.refute_one.new.log s) c.in-Refuted.is known in
    so_far_next e c.args.conflicts given goals over.clauses_are over.goals_are i below log (c.loop-goal.invariant.so_far e given over begun) spent (ap (λ n. n - i) c.added.ensures) c.refute_one.new.log
    (subst (λ m. IsClauseInRange m (slice_index_or goals i [])) (sym over.max_is) (c.requires.goals i [] below))
    (subst (λ m. IsRefutation m given (slice_index_or goals i []) (c.args.conflicts - spent) log c.refute_one.new.log Refuted) (sym over.max_is) shown) in
    let here = next c.requires.over.0 c.requires.over.1 c.requires.over.2 c.requires.over.3 in
    record {
      so_far = next;
      goals_added = goals_so_far c.requires.over.0 c.args.conflicts (i + 1) c.refute_one.new.log here;
      few = few_of c.requires.over.0 c.args.conflicts (i + 1) c.refute_one.new.log here;
      kept = λ given begun. let kept = c.loop-goal.invariant.kept given begun in (
        record {
          max_is = c.in_ok-refute_one.ensures.max ∙ kept.0.max_is;
          live = c.in_ok-refute_one.ensures.live given kept.0.live kept.1;
          in_range = subst (λ m. All (IsClauseInRange m) c.refute_one.new.log.left) kept.0.max_is c.in_ok-refute_one.ensures.left;
        },
        keeps_on c.args.forgets c.loop-goal.solver.live c.refute_one.new.solver.live given log c.refute_one.new.log c.in_ok-refute_one.ensures.alike kept.1,
      );
    }

pub returns-in-Model : goal.returns-in-Model
returns-in-Model c e given over begun =
    let goals = c.args.goals.now in
    let max : ℕ = c.args.solver.now.max in
    let i = c.loop-goal.goal in
    let log = c.loop-goal.log in
    let below : i < length goals = omega arith in
    let spent : ℕ = c.added.result - i in
    let kept = c.loop-goal.invariant.kept given begun in
    let known = at_goal c.loop-goal.solver.max max given goals i (c.args.conflicts - spent) c.get.result.now log c.refute_one.new.log c.in_ok-refute_one.field-0 kept.0.max_is below c.get.ensures (c.in_ok-refute_one.ensures.answer given kept.0.live kept.1) in
    differing_here e c.args.conflicts given goals over.clauses_are over.goals_are i below log (c.loop-goal.invariant.so_far e given over begun) (λ σ. (clauses_mean e.gates given over.clauses_are σ).0) c.in-Model.values.items
    (subst (λ m. IsRefutation m given (slice_index_or goals i []) (c.args.conflicts - spent) log c.refute_one.new.log (Model c.in-Model.values)) (sym over.max_is)
    (subst (λ (s : Solved). IsRefutation max given (slice_index_or goals i []) (c.args.conflicts - spent) log c.refute_one.new.log s) c.in-Model.is known))

pub returns-in-Spent : goal.returns-in-Spent
returns-in-Spent c e given over begun =
    let goals = c.args.goals.now in
    let max : ℕ = c.args.solver.now.max in
    let i = c.loop-goal.goal in
    let log = c.loop-goal.log in
    let below : i < length goals = omega arith in
    let spent : ℕ = c.added.result - i in
    let kept = c.loop-goal.invariant.kept given begun in
    let known = at_goal c.loop-goal.solver.max max given goals i (c.args.conflicts - spent) c.get.result.now log c.refute_one.new.log c.in_ok-refute_one.field-0 kept.0.max_is below c.get.ensures (c.in_ok-refute_one.ensures.answer given kept.0.live kept.1) in
    spent_here e c.args.conflicts given goals over.clauses_are over.goals_are i below log (c.loop-goal.invariant.so_far e given over begun) spent (ap (λ n. n - i) c.added.ensures) c.refute_one.new.log
    (subst (λ m. IsRefutation m given (slice_index_or goals i []) (c.args.conflicts - spent) log c.refute_one.new.log Spent) (sym over.max_is)
    (subst (λ (s : Solved). IsRefutation max given (slice_index_or goals i []) (c.args.conflicts - spent) log c.refute_one.new.log s) c.in-Spent.is known))

pub returns : goal.returns
returns c e given over begun = so_far_all e c.args.conflicts c.args.goals.now c.loop-goal.goal c.loop-goal.log over.goals_are (omega arith) (c.loop-goal.invariant.so_far e given over begun)
