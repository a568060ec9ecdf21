use Rattle.std.proofs.Common.{◌≡◌, ◌<◌, ◌≤◌, ◌+◌, ◌-◌, ℕ, Bool, true, false, List, length, w32, SFits, None, Some, slice_index_or, sym, ap, ◌∙◌, subst, arith, rules, refl}
use Rattle.std.proofs.lemmas.Int.{to_z-of_z}
use Rattle.unit_prop.specs.Standing.{at, IsReasonOf}
use Rattle.cdcl_solver.specs.Analyses.{AnalysisView, IsSeen, Refutes}
use Rattle.cdcl_solver.proofs.AnalysisLemmas.{reason_place, live_reason, reason_told_false, refutes_unseen, refutes_resolved}
use Rattle.cdcl_solver.proofs.analysis.Analysis.resolve.Goals as goal
use Rattle.unit_prop.specs.Trail.{signed_variable}
use Rattle.cdcl_solver.proofs.Trails.{trail_of}

pub walk-init : goal.walk-init
walk-init c =
    let same = ap length c.trail-trail.ensures.value in
    record {
      analysis = c.requires.analysis;
      level = refl;
      inside = omega (arith, same, c.requires.inside);
      within = omega (arith, same);
      refutes = subst (Refutes c.args.propagator.now c.args.self.now) (sym same) c.requires.refutes;
    }

pub has-requires : goal.has-requires
has-requires c =
    let s = c.args.propagator.now in
    let p : ℕ = c.walk.place - 1 in
    let same = c.trail-trail.ensures.value in
    let b : p < length s.trail.literals = omega (arith, c.walk.invariant.within, c.walk.invariant.inside) in
    let fits : SFits w32 (at c.trail-trail.result.now p) = search rules in
    let var : c.variable-var.result ≡ signed_variable (at s.trail.literals p) = rw (to_z-of_z, same) at c.variable-var.ensures in
    omega (arith, var, ((trail_of c.args.propagator.now c.requires.sound).in_range p b).1, c.walk.invariant.analysis.sizes.0, ap (λ (a : AnalysisView). length a.seen) c.self.view_is)

pub reason-requires : goal.reason-requires
reason-requires c =
    let s = c.args.propagator.now in
    let p : ℕ = c.walk.place - 1 in
    let same = c.trail-trail.ensures.value in
    let b : p < length s.trail.literals = omega (arith, c.walk.invariant.within, c.walk.invariant.inside) in
    let fits : SFits w32 (at c.trail-trail.result.now p) = search rules in
    let var : c.variable-var.result ≡ signed_variable (at s.trail.literals p) = rw (to_z-of_z, same) at c.variable-var.ensures in
    let range = (trail_of s c.requires.sound).in_range p b in
    record { some = omega (arith, var, range.0); within = omega (arith, var, range.1) }

pub mark-requires : goal.mark-requires
mark-requires c =
    let s = c.args.propagator.now in
    let p : ℕ = c.walk.place - 1 in
    let same = c.trail-trail.ensures.value in
    let b : p < length s.trail.literals = omega (arith, c.walk.invariant.within, c.walk.invariant.inside) in
    let fits : SFits w32 (at c.trail-trail.result.now p) = search rules in
    let var : c.variable-var.result ≡ signed_variable (at s.trail.literals p) = rw (to_z-of_z, same) at c.variable-var.ensures in
    let is : IsReasonOf s.trail (signed_variable (at s.trail.literals p)) (Some c.in-Some.reason) = rw (var, c.in-Some.is) at c.reason.ensures in
    let reason = reason_place s p c.in-Some.reason c.requires.sound b is in
    let room : c.variable-var.result < length c.self.inside.seen = omega (arith, var, ((trail_of c.args.propagator.now c.requires.sound).in_range p b).1, c.walk.invariant.analysis.sizes.0, ap (λ (a : AnalysisView). length a.seen) c.self.view_is) in
    let seen : IsSeen c.walk.self (signed_variable (at s.trail.literals p)) = subst (λ (a : AnalysisView). IsSeen a (signed_variable (at s.trail.literals p))) c.self.view_is (subst (λ v. reason_seen c.self.inside.seen v) var (sym c.has.ensures ∙ c.if-has.true)) in
    record {
      sound = c.requires.sound;
      live = live_reason s p c.in-Some.reason c.requires.sound b reason;
      analysis = c.walk.invariant.analysis;
      told = reason_told_false s c.walk.self p c.in-Some.reason c.requires.sound b reason seen;
    }
  where
    reason_seen : List Bool → ℕ → Type 0
    reason_seen seen v = slice_index_or seen v false ≡ true

pub walk-preserved : goal.walk-preserved
walk-preserved c =
    let s = c.args.propagator.now in
    let p : ℕ = c.walk.place - 1 in
    let same = c.trail-trail.ensures.value in
    let b : p < length s.trail.literals = omega (arith, c.walk.invariant.within, c.walk.invariant.inside) in
    let fits : SFits w32 (at c.trail-trail.result.now p) = search rules in
    let var : c.variable-var.result ≡ signed_variable (at s.trail.literals p) = rw (to_z-of_z, same) at c.variable-var.ensures in
    let room : c.variable-var.result < length c.self.inside.seen = omega (arith, var, ((trail_of c.args.propagator.now c.requires.sound).in_range p b).1, c.walk.invariant.analysis.sizes.0, ap (λ (a : AnalysisView). length a.seen) c.self.view_is) in
    let below : c.walk.self.lowest < p = omega (arith, c.walk-test.true, ap (λ (a : AnalysisView). a.lowest) c.self.view_is) in
    let one : c.walk.place ≡ p + 1 = omega arith in
    let within : p ≤ length s.trail.literals = omega arith in
    let refutes = subst (Refutes s c.walk.self) one c.walk.invariant.refutes in
    let not_seen : slice_index_or c.walk.self.seen (signed_variable (at s.trail.literals p)) false ≡ false = subst (λ (a : AnalysisView). slice_index_or a.seen (signed_variable (at s.trail.literals p)) false ≡ false) c.self.view_is (subst (λ v. slice_index_or c.self.inside.seen v false ≡ false) var (sym c.has.ensures ∙ c.if-has.false)) in
    record {
      analysis = c.walk.invariant.analysis;
      level = c.walk.invariant.level;
      inside = below;
      within = within;
      refutes = refutes_unseen s c.walk.self p not_seen refutes;
    }

pub walk-preserved-in-Continue-1 : goal.walk-preserved-in-Continue-1
walk-preserved-in-Continue-1 c =
    let s = c.args.propagator.now in
    let p : ℕ = c.walk.place - 1 in
    let same = c.trail-trail.ensures.value in
    let b : p < length s.trail.literals = omega (arith, c.walk.invariant.within, c.walk.invariant.inside) in
    let fits : SFits w32 (at c.trail-trail.result.now p) = search rules in
    let var : c.variable-var.result ≡ signed_variable (at s.trail.literals p) = rw (to_z-of_z, same) at c.variable-var.ensures in
    let below : c.walk.self.lowest < p = omega (arith, c.walk-test.true, ap (λ (a : AnalysisView). a.lowest) c.self.view_is) in
    let one : c.walk.place ≡ p + 1 = omega arith in
    let within : p ≤ length s.trail.literals = omega arith in
    let refutes = subst (Refutes s c.walk.self) one c.walk.invariant.refutes in
    let is : IsReasonOf s.trail (signed_variable (at s.trail.literals p)) (Some c.in-Some.reason) = rw (var, c.in-Some.is) at c.reason.ensures in
    let reason = reason_place s p c.in-Some.reason c.requires.sound b is in
    let marks = c.in_ok-mark.ensures.marks in
    let less = marks.2.less in
    record {
      analysis = c.in_ok-mark.ensures.analysis;
      level = marks.2.level ∙ c.walk.invariant.level;
      inside = omega (arith, less, below);
      within = within;
      refutes = refutes_resolved s c.walk.self c.mark.new.self p c.in-Some.reason marks.0 c.requires.sound b reason marks.1 marks.2 refutes;
    }

pub walk-preserved-in_default : goal.walk-preserved-in_default
walk-preserved-in_default c =
    let s = c.args.propagator.now in
    let p : ℕ = c.walk.place - 1 in
    let same = c.trail-trail.ensures.value in
    let b : p < length s.trail.literals = omega (arith, c.walk.invariant.within, c.walk.invariant.inside) in
    let fits : SFits w32 (at c.trail-trail.result.now p) = search rules in
    let var : c.variable-var.result ≡ signed_variable (at s.trail.literals p) = rw (to_z-of_z, same) at c.variable-var.ensures in
    let below : c.walk.self.lowest < p = omega (arith, c.walk-test.true, ap (λ (a : AnalysisView). a.lowest) c.self.view_is) in
    let one : c.walk.place ≡ p + 1 = omega arith in
    let within : p ≤ length s.trail.literals = omega arith in
    let refutes = subst (Refutes s c.walk.self) one c.walk.invariant.refutes in
    let is : IsReasonOf s.trail (signed_variable (at s.trail.literals p)) None = rw (var, c.in_default.is) at c.reason.ensures in
    absurd (c.requires.forced p (omega (arith, below, c.walk.invariant.analysis.low.0, c.walk.invariant.level)) b (is p b refl))

pub returns : goal.returns
returns c =
    let lowest = ap (λ (a : AnalysisView). a.lowest) c.self.view_is in
    record {
      resolved = record {
        analysis = c.walk.invariant.analysis;
        inside = omega (arith, c.walk.invariant.inside, c.walk.invariant.within);
        refutes = subst (Refutes c.args.propagator.now c.walk.self) (omega (arith, lowest, c.walk-test.false, c.walk.invariant.inside)) c.walk.invariant.refutes;
      };
      level = c.walk.invariant.level;
    }
