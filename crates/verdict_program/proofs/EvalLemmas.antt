-- What `eval` says of a graph that was read is due.
use Rattle.std.proofs.Common.{ℕ, ◌≤◌, List, true, false, length, ap, refl, subst, sym, arith, inl, inr}
use Rattle.std.specs.Prelude.{IfSome}
use Rattle.aiger_reader.specs.Refusals.{SpellsWithin}
use Rattle.command_line.specs.declared.point.Point.{Point}
use Rattle.graph_core.specs.Aiger.Sizes.{IsSizedAs}
use Rattle.graph_core.specs.Graph.{Aig}
use Rattle.graph_core.specs.Graph.Operands.{profile_of}
use Rattle.graph_core.specs.declared.widths.Widths.{Widths}
use Rattle.graph_core.specs.declared.widths.Widths.TheVariants.{Equal, Given}
use Rattle.mv_desk.specs.View.{View, bytes_under}
use Rattle.verdict_program.specs.declared.evaluated.Evaluated.{Evaluated}
use Rattle.verdict_program.specs.declared.evaluated.Evaluated.TheVariants as evaluated
use Rattle.verdict_program.specs.Evaluation.{IsEvaluated, IsValueOf, profile_at}

-- of a graph that the file spells
pub value_is_due : (limit : ℕ) (name : List ℕ) (g : Aig) (point : Point) (a b : View) (v : Evaluated) →
    IfSome (bytes_under a name) (λ bytes. SpellsWithin (profile_at point) limit bytes g) → IsValueOf g point v → IsEvaluated limit name point a b v
value_is_due limit name g point a b (evaluated.Value value) s h = inr (g, s, inr (h.0, ap evaluated.Value h.1))
value_is_due limit name g point a b evaluated.TooGreat s h = inr (g, s, inl (h, refl))
value_is_due limit name g point a b (evaluated.Stopped why) s h = subst (λ x. IsEvaluated limit name point a b (evaluated.Stopped x)) (sym h) tt

-- a graph that is evaluated has few outputs
pub few_outputs : (w : Widths) (g : Aig) → IsSizedAs (profile_of w) g → length g.outputs ≤ 128
few_outputs (Equal false) g sized = omega (arith, sized.shape.outputs, sized.narrow)
few_outputs (Equal true) g sized = omega (arith, sized.shape.outputs, sized.narrow)
few_outputs (Given a b add) g sized = omega (arith, sized.shape.outputs, sized.narrow_a, sized.narrow_b)
