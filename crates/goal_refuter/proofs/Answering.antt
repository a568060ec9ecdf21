-- What a solver's answer on the negated literals says of a clause.
use Rattle.std.specs.Prelude.{◌≡◌, ◌≢◌, ℕ, zero, suc, ◌≤◌, Bool, true, false, not, ◌||◌, List, [], ◌∷◌, ◌++◌, map, ℤ, pos, negsuc, neg_ℤ, nat_abs}
use Rattle.std.specs.List.{All, AllByRecursion}
use Rattle.std.proofs.Common.{refl, sym, ap, ap₂, subst, ◌∙◌}
use Rattle.std.proofs.lemmas.List.Elements.{All-map, recursion_from_All}
use Rattle.graph_core.specs.Graph.Assignments.{Assignment}
use Rattle.clause_core.specs.Clause.{Clause, IsClauseInRange, holds, signed}
use Rattle.clause_core.specs.UnitPropagation.{IsRup}
use Rattle.cdcl_solver.specs.Logs.{Continues, LogView, with_added}
use Rattle.cdcl_solver.specs.Solving.{IsAnswer, assignment_of}
use Rattle.cdcl_solver.specs.declared.solved.Solved.{Solved}
use Rattle.cdcl_solver.specs.declared.solved.Solved.TheVariants.{Refuted, Model, Spent}
use Rattle.goal_refuter.specs.Refuting.{IsRefutation, IsShownNext}

neg_neg : (l : ℤ) → neg_ℤ (neg_ℤ l) ≡ l
neg_neg (pos zero) = refl
neg_neg (pos (suc v)) = refl
neg_neg (negsuc v) = refl

map_neg_neg : (c : Clause) → map neg_ℤ (map neg_ℤ c) ≡ c
map_neg_neg [] = refl
map_neg_neg (l ∷ c) = ap₂ ◌∷◌ (neg_neg l) (map_neg_neg c)

neg_in_range : (max : ℕ) (l : ℤ) → (l ≢ pos 0) × (nat_abs l ≤ max) → (neg_ℤ l ≢ pos 0) × (nat_abs (neg_ℤ l) ≤ max)
neg_in_range max (pos zero) h = absurd (h.0 refl)
neg_in_range max (pos (suc v)) h = (λ e. cc, h.1)
neg_in_range max (negsuc v) h = (λ e. cc, h.1)

-- The negated literals are in range.
pub negated_range : (max : ℕ) (c : Clause) → IsClauseInRange max c → IsClauseInRange max (map neg_ℤ c)
negated_range max c h = All-map (λ l. (l ≢ pos 0) × (nat_abs l ≤ max)) neg_ℤ c (λ k d below. neg_in_range max _ (h k d below))

negated_false : (σ : Assignment) (l : ℤ) → signed σ (neg_ℤ l) ≡ true → signed σ l ≡ false
negated_false σ (pos zero) h = refl
negated_false σ (pos (suc v)) h = false_of (σ (suc v)) h
  where
    false_of : (b : Bool) → not b ≡ true → b ≡ false
    false_of true h = sym h
    false_of false h = refl
negated_false σ (negsuc v) h = ap not h

none_hold : (σ : Assignment) (c : Clause) → AllByRecursion (λ l. signed σ l ≡ true) (map neg_ℤ c) → holds σ c ≡ false
none_hold σ [] h = refl
none_hold σ (l ∷ c) h = ap₂ ◌||◌ (negated_false σ l h.0) (none_hold σ c h.1)

-- What the negated literals' answer says, but for a refutation.
pub answered : (max : ℕ) (given : List Clause) (goal : Clause) (conflicts : ℕ) (old new : LogView) (assumptions : List ℤ) (solved : Solved) → assumptions ≡ map neg_ℤ goal → solved ≢ Refuted →
    Continues max given conflicts old new → IsAnswer max given assumptions conflicts old new solved → IsRefutation max given goal conflicts old new solved
answered max given goal conflicts old new assumptions Refuted is other continues h = absurd (other refl)
answered max given goal conflicts old new assumptions (Model values) is other continues h =
    let σ = assignment_of values.items in
    record {
      all = h.0;
      satisfies = h.1;
      fails = none_hold σ goal (recursion_from_All (λ l. signed σ l ≡ true) (map neg_ℤ goal) (subst (All (λ l. signed σ l ≡ true)) is h.2));
    }
answered max given goal conflicts old new assumptions Spent is other continues h = record {
  continues = continues;
  spent = h.0;
  next = λ r. h.1 (subst (IsRup (new.left ++ given)) (sym (ap (map neg_ℤ) is ∙ map_neg_neg goal)) r);
}

pub shown_next : (max : ℕ) (given : List Clause) (goal : Clause) (conflicts : ℕ) (old between new : LogView) (assumptions : List ℤ) (added : Clause) → assumptions ≡ map neg_ℤ goal → added ≡ goal →
    Continues max given conflicts old between → IsAnswer max given assumptions conflicts old between Refuted → new ≡ with_added between added → IsShownNext max given goal conflicts old new
shown_next max given goal conflicts old between new assumptions added is same continues h pushed = record {
  between = between;
  continues = continues;
  rup = subst (IsRup (between.left ++ given)) (ap (map neg_ℤ) is ∙ map_neg_neg goal) h;
  added_is = pushed ∙ ap (with_added between) same;
}
