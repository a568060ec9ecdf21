use Rattle.std.proofs.Common.{◌≢◌, ◌<◌, ◌≤◌, ℤ, pos, nat_abs, List, subst, arith}
use Rattle.std.proofs.lemmas.Result.{IfOk-weaker}
use Rattle.std.proofs.lemmas.List.Elements.{All-weaker}
use Rattle.clause_core.specs.Clause.{IsLiteral, SameSet}
use Rattle.clause_core.specs.Clause.{IsClauseInRange}
use Rattle.clause_core.specs.Log.{IsLemma}
use Rattle.unit_prop.specs.Standing.{live_of}
use Rattle.cdcl_solver.proofs.SearchLemmas.{IsLearnt, learnt_same, lemma_by_learnt, range_same}
use Rattle.cdcl_solver.proofs.AnalysisLemmas.{learnt_by_analysis, learnt_in_range}
use Rattle.cdcl_solver.proofs.conflict.learn.Goals as goal
use Rattle.unit_prop.specs.Trail.{signed_variable}
use Rattle.cdcl_solver.proofs.Trails.{trail_of, signed_literal, variable-abs}

pub into_lits-requires : goal.into_lits-requires
into_lits-requires c = record { resolved = c.in_ok-analysis.ensures.resolved; sound = c.requires.conflict.sound; signed = omega (arith, c.requires.max, c.requires.signed) }

pub new-requires : goal.new-requires
new-requires c =
    let s = c.args.propagator.now in
    let lits = c.in_ok-lits.lits.items in
    let level = c.in_ok-analysis.ensures.level in
    let learnt = subst (λ n. IsLearnt s n lits) level (learnt_by_analysis s c.in_ok-analysis.analysis lits c.requires.conflict.sound c.in_ok-analysis.ensures.resolved c.in_ok-lits.ensures) in
    let range = learnt_in_range s c.args.conflict.level lits (trail_of s c.requires.conflict.sound) (omega (arith, c.requires.conflict.below)) learnt in
    rw c.deref.ensures.value (All-weaker (λ l. (0 < signed_variable l) × (signed_variable l ≤ s.trail.greatest)) IsLiteral
    (λ l h. (signed_literal l h.0, omega (arith, variable-abs l, h.1, c.requires.max, c.requires.signed))) lits range)

pub returns : goal.returns
returns c =
    let s = c.args.propagator.now in
    let lits : List ℤ = c.in_ok-lits.lits.items in
    let level = c.in_ok-analysis.ensures.level in
    let learnt : IsLearnt s c.args.conflict.level lits = subst (λ n. IsLearnt s n lits) level (learnt_by_analysis s c.in_ok-analysis.analysis lits c.requires.conflict.sound c.in_ok-analysis.ensures.resolved c.in_ok-lits.ensures) in
    let range = learnt_in_range s c.args.conflict.level lits (trail_of s c.requires.conflict.sound) (omega (arith, c.requires.conflict.below)) learnt in
    let set = rw c.deref.ensures.value at c.new.ensures in
    record {
      order = c.bump.ensures;
      lemma = IfOk-weaker c.new.result (λ clause. SameSet clause lits) (λ lemma. IsLemma (live_of s.clauses) lemma)
          (λ lemma h. lemma_by_learnt s c.args.conflict.clause c.args.conflict.level lemma c.requires.conflict (learnt_same s c.args.conflict.level lits lemma h.1 h.0 learnt)) set;
      in_range = IfOk-weaker c.new.result (λ clause. SameSet clause lits) (λ lemma. IsClauseInRange c.args.max lemma)
          (λ lemma h. subst (λ n. IsClauseInRange n lemma) c.requires.max (range_same lits lemma s.trail.greatest h.0 (All-weaker (λ l. (0 < signed_variable l) × (signed_variable l ≤ s.trail.greatest)) (λ l. (l ≢ pos 0) × (nat_abs l ≤ s.trail.greatest)) (λ l r. (signed_literal l r.0, omega (arith, variable-abs l, r.1))) lits range))) set;
    }
