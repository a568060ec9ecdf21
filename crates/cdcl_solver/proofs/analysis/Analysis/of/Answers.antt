use Rattle.std.proofs.Common.{◌≡◌, Some, sym, ◌∙◌, subst, arith}
use Rattle.clause_core.specs.UnitPropagation.{IsFalsified}
use Rattle.cdcl_solver.proofs.AnalysisLemmas.{conflict_inside, refutes_conflict, live_some, false_conflict}
use Rattle.cdcl_solver.proofs.analysis.Analysis.of.Goals as goal

pub mark-requires : goal.mark-requires
mark-requires c =
    let s = c.args.propagator.now in
    let conflict = c.requires.conflict.conflict in
    record {
      sound = c.requires.conflict.sound;
      live = live_some s c.args.conflict.clause conflict.0 conflict.1;
      analysis = c.in_ok-analysis.ensures.analysis;
      told = false_conflict s c.in_ok-analysis.analysis c.args.conflict.clause c.requires.conflict.conflict;
    }

pub resolve-requires : goal.resolve-requires
resolve-requires c =
    let s = c.args.propagator.now in
    let conflict = c.requires.conflict in
    let marks = c.in_ok-mark.ensures.marks in
    let same : conflict.conflict.0 ≡ marks.0 = let f : Some conflict.conflict.0 ≡ Some marks.0 = sym conflict.conflict.1 ∙ marks.1 in cc in
    let false' = subst (IsFalsified s.trail.literals) same conflict.conflict.2 in
    let level = marks.2.level ∙ c.in_ok-analysis.ensures.level in
    record {
      sound = conflict.sound;
      analysis = c.in_ok-mark.ensures.analysis;
      inside = conflict_inside s c.mark.new.self c.args.conflict.clause c.args.conflict.level marks.0 conflict level c.in_ok-mark.ensures.analysis marks.1 false' marks.2.seen;
      forced = λ i low b. conflict.forced i (omega (arith, level, low)) b;
      refutes = refutes_conflict s c.mark.new.self c.args.conflict.clause marks.0 marks.1 false' marks.2.seen;
    }

pub returns-clause-level : goal.returns-clause-level
returns-clause-level c = c.in_ok-resolve.ensures.level ∙ c.in_ok-mark.ensures.marks.2.level ∙ c.in_ok-analysis.ensures.level
