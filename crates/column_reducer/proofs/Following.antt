-- Steps that follow one another.
use Rattle.std.specs.Prelude.{◌≡◌, ℕ, ◌+◌, ◌<◌, ◌≤◌, List, [], ◌∷◌, map, length, take, get_or, ◌≢◌}
use Rattle.std.proofs.Common.{sym, ap, subst, ◌∙◌, true≢false}
use Rattle.std.proofs.lemmas.List.{take_more}
use Rattle.std.proofs.lemmas.List.Elements.{recursion_from_All}
use Rattle.std.proofs.lemmas.Option.{slice_get-get_or}
use Rattle.graph_core.specs.Graph.{IsFree}
use Rattle.graph_core.specs.Graph.Extended.{Extended}
use Rattle.ripple_graft.specs.Extension.{IsExtension}
use Rattle.frontier_core.specs.declared.step.Step.{Step}
use Rattle.frontier_core.specs.declared.step.Step.TheVariants.{Eliminate}
use Rattle.frontier_core.specs.Plan.{Taken, AreSteps, CanEliminate, CanFollow, IsFrontierOf, nothing, step, taken}
use Rattle.frontier_core.proofs.Everywhere.{all_from_map, all_has, has_none}
use Rattle.frontier_core.proofs.Plans.{plan_leaves_frontiers, taken_append}

-- a step that can follow, by what it is
pub can_eliminate : (e : Extended) (f : Taken) (this : Step) (v : ℕ) → this ≡ Eliminate v → CanFollow e f this → CanEliminate e f v
can_eliminate e f this v is h = subst (CanFollow e f) is h

pub gate_within : (e : Extended) (f : Taken) (v : ℕ) → IsExtension e → CanEliminate e f v → v ≤ e.max
gate_within e f v made h = all_has (λ w. w ≤ e.max) (map (λ x. x.v) e.gates) v (all_from_map (λ w. w ≤ e.max) (λ x. x.v) e.gates (recursion_from_All (λ x. x.v ≤ e.max) e.gates made.gates_in_range)) h.gate

pub gate_not_free : (e : Extended) (f : Taken) (v : ℕ) → CanEliminate e f v → IsFree e.gates v → ⊥
gate_not_free e f v h free = true≢false (sym h.gate ∙ has_none e.gates v (recursion_from_All (λ x. x.v ≢ v) e.gates free))

pub eliminated_is : (f : Taken) (this : Step) (v u : ℕ) (P : Taken → Type 0) → this ≡ Eliminate v → u ≡ v → P (step f (Eliminate u)) → P (step f this)
eliminated_is f this v u P is same h = subst (λ x. P (step f x)) (ap (λ k. Eliminate k) same ∙ sym is) h

-- ---- from step to step

pub follows_at : (e : Extended) (plan : List Step) (i : ℕ) (d : Step) → AreSteps e nothing plan → i < length plan → CanFollow e (taken nothing (take i plan)) (get_or plan i d)
follows_at e plan i d h low = (plan_leaves_frontiers e plan i h).1 (get_or plan i d) (slice_get-get_or plan i d low)

pub taken_more : (plan : List Step) (i : ℕ) (d : Step) → i < length plan → taken nothing (take (i + 1) plan) ≡ step (taken nothing (take i plan)) (get_or plan i d)
taken_more plan i d low = ap (taken nothing) (take_more plan i d low) ∙ taken_append nothing (take i plan) (get_or plan i d ∷ [])

-- the same of a graph and steps that are those of a plan
pub follows_in : (e other : Extended) (f : Taken) (plan steps : List Step) (i : ℕ) (d : Step) → other ≡ e → steps ≡ plan → CanFollow e f (get_or plan i d) → CanFollow other f (get_or steps i d)
follows_in e other f plan steps i d same all h =
    subst (λ x. CanFollow x f (get_or steps i d)) (sym same) (subst (λ ss. CanFollow e f (get_or ss i d)) (sym all) h)

-- from before a step to after it
pub step_on : (e other : Extended) (plan steps : List Step) (i : ℕ) (d : Step) (P Q : Extended → Taken → Type 0) → other ≡ e → steps ≡ plan → AreSteps e nothing plan → i < length plan →
    ((f : Taken) → IsFrontierOf other f → CanFollow other f (get_or steps i d) → P other f → Q other (step f (get_or steps i d))) →
    P e (taken nothing (take i plan)) → Q e (taken nothing (take (i + 1) plan))
step_on e other plan steps i d P Q same all follow low steps_on h =
    let f = taken nothing (take i plan) in
    let here : (g : Taken) → IsFrontierOf e g → CanFollow e g (get_or steps i d) → P e g → Q e (step g (get_or steps i d)) =
    subst (λ x. (g : Taken) → IsFrontierOf x g → CanFollow x g (get_or steps i d) → P x g → Q x (step g (get_or steps i d))) same steps_on in
    let there : (g : Taken) → IsFrontierOf e g → CanFollow e g (get_or plan i d) → P e g → Q e (step g (get_or plan i d)) =
    subst (λ ss. (g : Taken) → IsFrontierOf e g → CanFollow e g (get_or ss i d) → P e g → Q e (step g (get_or ss i d))) all here in
    subst (Q e) (sym (taken_more plan i d low)) (there f (plan_leaves_frontiers e plan i follow).0 (follows_at e plan i d follow low) h)
