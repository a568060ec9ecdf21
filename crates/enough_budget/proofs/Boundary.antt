-- What some gates of one adder compute depends on at most five variables.
use Rattle.std.specs.declared.option.Option.TheVariants.{None, Some}
use Rattle.std.specs.Prelude.{◌≡◌, ℕ, ◌+◌, ◌%◌, ◌<◌, ◌≤◌, true, false, not, cond, ◌&&◌, List, [], ◌∷◌, length, ◌==◌}
use Rattle.std.specs.List.{AllByRecursion}
use Rattle.std.proofs.Common.{sym, ap, ap₂, subst, ◌∙◌, arith, inl, inr, ⊎_elim, true≢false}
use Rattle.std.proofs.lemmas.Bool.{cases_Bool, cases_eq, cases_lt}
use Rattle.graph_core.specs.declared.literal.Lit.{Lit}
use Rattle.graph_core.specs.declared.gate.Gate.{Gate}
use Rattle.graph_core.specs.Graph.Assignments.{Assignment, variable, literal}
use Rattle.graph_core.specs.Graph.Literals.{variable_of, negation_of, plain, inverted}
use Rattle.graph_core.proofs.OfGraphs.CallerLemmas.{variable_of-negated, variable_same}
use Rattle.frontier_core.specs.Sets.{has}
use Rattle.enough_budget.proofs.Network.{gates_at}
use Rattle.enough_budget.proofs.Needed.{IsReader}

-- each gate reads variables below its own
abbrev pub ReadsBelow : Gate → Type 0
ReadsBelow q = (variable_of q.left < q.v) × (variable_of q.right < q.v)

module _ (part : List ℕ) (ρ : Assignment → Assignment) (kept : (σ : Assignment) (w : ℕ) → has part w ≡ false → ρ σ w ≡ σ w) where
  abbrev pub IsComputed : Assignment → Gate → Type 0
  IsComputed σ q = has part q.v ≡ true → variable (ρ σ) q.v ≡ (literal (ρ σ) q.left && literal (ρ σ) q.right)

  -- the variables that determine what the gates compute
  pub record IsBounded : Type 0 where
    pub variables : List ℕ
    pub few : length variables ≤ 5
    pub determine : (σ υ : Assignment) → AllByRecursion (λ v. variable σ v ≡ variable υ v) variables → (w : ℕ) → has part w ≡ true → variable (ρ σ) w ≡ variable (ρ υ) w

  module _ (σ υ : Assignment) where
    abbrev A : ℕ → Type 0
    A w = variable (ρ σ) w ≡ variable (ρ υ) w

    from_kept : (w : ℕ) → has part w ≡ false → variable σ w ≡ variable υ w → A w
    from_kept w h e = variable_same (ρ σ) σ w (kept σ w h) ∙ e ∙ sym (variable_same (ρ υ) υ w (kept υ w h))

    literal_agrees : (l : Lit) → A (variable_of l) → literal (ρ σ) l ≡ literal (ρ υ) l
    literal_agrees l h = ap (λ b. cond (l.0 % 2 == 0) b (not b)) h

    gate_agrees : (q : Gate) → IsComputed σ q → IsComputed υ q → A (variable_of q.left) → A (variable_of q.right) → has part q.v ≡ true → A q.v
    gate_agrees q c d l r t = c t ∙ ap₂ ◌&&◌ (literal_agrees q.left l) (literal_agrees q.right r) ∙ sym (d t)

    at : (v w : ℕ) → v ≡ w → A v → A w
    at v w e h = subst A e h

    at_negated : (l : Lit) → A (variable_of l) → A (variable_of (negation_of l))
    at_negated l h = subst A (sym (variable_of-negated l)) h

  module _ (u : ℕ) (x y : Lit) where
    -- ---- half adders

    module _ (inside : (w : ℕ) → has part w ≡ true → (u < w) × (w ≤ u + 3)) (below : AllByRecursion ReadsBelow (gates_at u x y None))
        (computed : (σ : Assignment) → AllByRecursion (IsComputed σ) (gates_at u x y None)) where
      outside : (w : ℕ) → w ≤ u → has part w ≡ false
      outside w low = ⊎_elim (λ t. absurd (omega (arith, (inside w t).0))) (λ s. s) (cases_Bool (has part w))

      pub half_bounded : IsBounded
      half_bounded = record {
        variables = variable_of x ∷ variable_of y ∷ (u + 1) ∷ (u + 2) ∷ [];
        few = omega arith;
        determine = λ σ υ h w t.
            let xa : A σ υ (variable_of x) = from_kept σ υ (variable_of x) (outside (variable_of x) (omega (arith, below.0.0))) h.0 in
            let ya : A σ υ (variable_of y) = from_kept σ υ (variable_of y) (outside (variable_of y) (omega (arith, below.0.1))) h.1.0 in
            let ua : A σ υ (u + 1) = ⊎_elim (λ s. gate_agrees σ υ _ (computed σ).0 (computed υ).0 xa ya s) (λ s. from_kept σ υ (u + 1) s h.1.1.0) (cases_Bool (has part (u + 1))) in
            let wa : A σ υ (u + 2) = ⊎_elim (λ s. gate_agrees σ υ _ (computed σ).1.0 (computed υ).1.0 (at_negated σ υ x xa) (at_negated σ υ y ya) s) (λ s. from_kept σ υ (u + 2) s h.1.1.1.0) (cases_Bool (has part (u + 2))) in
            ⊎_elim (λ e. at σ υ (u + 1) w (sym e) ua)
            (λ n. ⊎_elim (λ e. at σ υ (u + 2) w (sym e) wa)
            (λ k. let e : (u + 3) ≡ w = omega (arith, (inside w t).0, (inside w t).1) in
            at σ υ (u + 3) w e (gate_agrees σ υ _ (computed σ).1.1.0 (computed υ).1.1.0 (at σ υ (u + 1) (variable_of (inverted (u + 1))) (omega arith) ua) (at σ υ (u + 2) (variable_of (inverted (u + 2))) (omega arith) wa) (ap (has part) e ∙ t)))
            (cases_eq w (u + 2)))
            (cases_eq w (u + 1));
      }

    -- ---- full adders

    module _ (c : Lit) (inside : (w : ℕ) → has part w ≡ true → (u < w) × (w ≤ u + 7)) (below : AllByRecursion ReadsBelow (gates_at u x y (Some c)))
        (computed : (σ : Assignment) → AllByRecursion (IsComputed σ) (gates_at u x y (Some c))) (closed : AllByRecursion (IsReader part) (gates_at u x y (Some c))) where
      out : (w : ℕ) → w ≤ u → has part w ≡ false
      out w low = ⊎_elim (λ t. absurd (omega (arith, (inside w t).0))) (λ s. s) (cases_Bool (has part w))

      -- one of seven
      pub seventh : (P : ℕ → Type 0) (w : ℕ) → u < w → w ≤ u + 7 → P (u + 1) → P (u + 2) → P (u + 3) → P (u + 4) → P (u + 5) → P (u + 6) → P (u + 7) → P w
      seventh P w low high p₁ p₂ p₃ p₄ p₅ p₆ p₇ =
          ⊎_elim (λ e. subst P (sym e) p₁) (λ n₁. ⊎_elim (λ e. subst P (sym e) p₂) (λ n₂. ⊎_elim (λ e. subst P (sym e) p₃) (λ n₃. ⊎_elim (λ e. subst P (sym e) p₄)
          (λ n₄. ⊎_elim (λ e. subst P (sym e) p₅) (λ n₅. ⊎_elim (λ e. subst P (sym e) p₆) (λ n₆. let e : (u + 7) ≡ w = omega arith in subst P e p₇)
          (cases_eq w (u + 6))) (cases_eq w (u + 5))) (cases_eq w (u + 4))) (cases_eq w (u + 3))) (cases_eq w (u + 2))) (cases_eq w (u + 1))

      -- the upper gates follow where u, w and t are known
      upper : (σ υ : Assignment) → A σ υ (u + 1) → A σ υ (u + 3) → A σ υ (variable_of c) → (has part (u + 4) ≡ false → A σ υ (u + 4)) → (has part (u + 5) ≡ false → A σ υ (u + 5)) →
          A σ υ (u + 4) × A σ υ (u + 5) × (has part (u + 6) ≡ true → A σ υ (u + 6)) × (has part (u + 7) ≡ true → A σ υ (u + 7))
      upper σ υ ua ta ca e_kept f_kept =
          let s = computed σ in
          let r = computed υ in
          let t_plain : A σ υ (variable_of (plain (u + 3))) = at σ υ (u + 3) (variable_of (plain (u + 3))) (omega arith) ta in
          let t_inverted : A σ υ (variable_of (inverted (u + 3))) = at σ υ (u + 3) (variable_of (inverted (u + 3))) (omega arith) ta in
          let ea : A σ υ (u + 4) = ⊎_elim (λ t. gate_agrees σ υ _ s.1.1.1.0 r.1.1.1.0 t_plain ca t) e_kept (cases_Bool (has part (u + 4))) in
          let fa : A σ υ (u + 5) = ⊎_elim (λ t. gate_agrees σ υ _ s.1.1.1.1.0 r.1.1.1.1.0 t_inverted (at_negated σ υ c ca) t) f_kept (cases_Bool (has part (u + 5))) in
          let e_inverted : A σ υ (variable_of (inverted (u + 4))) = at σ υ (u + 4) (variable_of (inverted (u + 4))) (omega arith) ea in
          let f_inverted : A σ υ (variable_of (inverted (u + 5))) = at σ υ (u + 5) (variable_of (inverted (u + 5))) (omega arith) fa in
          let u_inverted : A σ υ (variable_of (inverted (u + 1))) = at σ υ (u + 1) (variable_of (inverted (u + 1))) (omega arith) ua in
          (ea, fa, (λ t. gate_agrees σ υ _ s.1.1.1.1.1.0 r.1.1.1.1.1.0 e_inverted f_inverted t), (λ t. gate_agrees σ υ _ s.1.1.1.1.1.1.0 r.1.1.1.1.1.1.0 u_inverted e_inverted t))

      t_out : has part (u + 3) ≡ false → IsBounded
      t_out none =
          let u_out : has part (u + 1) ≡ false = ⊎_elim (λ t. absurd (true≢false (sym (closed.1.1.0 (inl (ap (has part) (omega arith) ∙ t))) ∙ none))) (λ s. s) (cases_Bool (has part (u + 1))) in
          let w_out : has part (u + 2) ≡ false = ⊎_elim (λ t. absurd (true≢false (sym (closed.1.1.0 (inr (ap (has part) (omega arith) ∙ t))) ∙ none))) (λ s. s) (cases_Bool (has part (u + 2))) in
          let c_out : has part (variable_of c) ≡ false =
          ⊎_elim (λ low. out (variable_of c) (omega arith))
          (λ high. ⊎_elim (λ e. ap (has part) e ∙ u_out) (λ n. ⊎_elim (λ e. ap (has part) e ∙ w_out) (λ k. let e : variable_of c ≡ u + 3 = omega (arith, below.1.1.1.0.1) in ap (has part) e ∙ none) (cases_eq (variable_of c) (u + 2))) (cases_eq (variable_of c) (u + 1)))
          (cases_lt (variable_of c) (u + 1)) in
          record {
            variables = (u + 1) ∷ (u + 3) ∷ (u + 4) ∷ (u + 5) ∷ variable_of c ∷ [];
            few = omega arith;
            determine = λ σ υ h w t.
                let ua = from_kept σ υ (u + 1) u_out h.0 in
                let ta = from_kept σ υ (u + 3) none h.1.0 in
                let ca = from_kept σ υ (variable_of c) c_out h.1.1.1.1.0 in
                let up = upper σ υ ua ta ca (λ s. from_kept σ υ (u + 4) s h.1.1.0) (λ s. from_kept σ υ (u + 5) s h.1.1.1.0) in
                seventh (λ w. has part w ≡ true → A σ υ w) w (inside w t).0 (inside w t).1 (λ s. ua) (λ s. absurd (true≢false (sym s ∙ w_out))) (λ s. ta) (λ s. up.0) (λ s. up.1) up.2 up.3 t;
          }

      t_in : has part (u + 3) ≡ true → IsBounded
      t_in t_part =
          let e_part : has part (u + 4) ≡ true = closed.1.1.1.0 (inl (ap (has part) (omega arith) ∙ t_part)) in
          let f_part : has part (u + 5) ≡ true = closed.1.1.1.1.0 (inl (ap (has part) (omega arith) ∙ t_part)) in
          record {
            variables = variable_of x ∷ variable_of y ∷ (u + 1) ∷ (u + 2) ∷ variable_of c ∷ [];
            few = omega arith;
            determine = λ σ υ h w t.
                let xa : A σ υ (variable_of x) = from_kept σ υ (variable_of x) (out (variable_of x) (omega (arith, below.0.0))) h.0 in
                let ya : A σ υ (variable_of y) = from_kept σ υ (variable_of y) (out (variable_of y) (omega (arith, below.0.1))) h.1.0 in
                let ua : A σ υ (u + 1) = ⊎_elim (λ s. gate_agrees σ υ _ (computed σ).0 (computed υ).0 xa ya s) (λ s. from_kept σ υ (u + 1) s h.1.1.0) (cases_Bool (has part (u + 1))) in
                let wa : A σ υ (u + 2) = ⊎_elim (λ s. gate_agrees σ υ _ (computed σ).1.0 (computed υ).1.0 (at_negated σ υ x xa) (at_negated σ υ y ya) s) (λ s. from_kept σ υ (u + 2) s h.1.1.1.0) (cases_Bool (has part (u + 2))) in
                let ta : A σ υ (u + 3) = gate_agrees σ υ _ (computed σ).1.1.0 (computed υ).1.1.0 (at σ υ (u + 1) (variable_of (inverted (u + 1))) (omega arith) ua) (at σ υ (u + 2) (variable_of (inverted (u + 2))) (omega arith) wa) t_part in
                let ca : A σ υ (variable_of c) =
                ⊎_elim (λ low. from_kept σ υ (variable_of c) (out (variable_of c) (omega arith)) h.1.1.1.1.0)
                (λ high. ⊎_elim (λ e. at σ υ (u + 1) (variable_of c) (sym e) ua) (λ n. ⊎_elim (λ e. at σ υ (u + 2) (variable_of c) (sym e) wa)
                (λ k. at σ υ (u + 3) (variable_of c) (omega (arith, below.1.1.1.0.1)) ta) (cases_eq (variable_of c) (u + 2))) (cases_eq (variable_of c) (u + 1)))
                (cases_lt (variable_of c) (u + 1)) in
                let up = upper σ υ ua ta ca (λ s. absurd (true≢false (sym e_part ∙ s))) (λ s. absurd (true≢false (sym f_part ∙ s))) in
                seventh (λ w. has part w ≡ true → A σ υ w) w (inside w t).0 (inside w t).1 (λ s. ua) (λ s. wa) (λ s. ta) (λ s. up.0) (λ s. up.1) up.2 up.3 t;
          }

      pub full_bounded : IsBounded
      full_bounded = ⊎_elim t_in t_out (cases_Bool (has part (u + 3)))
