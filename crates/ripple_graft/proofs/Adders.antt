-- An adder, made position by position after gates.
use Rattle.std.specs.Prelude.{◌≡◌, ℕ, suc, ◌+◌, ◌*◌, ◌<◌, ◌≤◌, List, [], ◌∷◌, ◌++◌, length, drop}
use Rattle.std.proofs.Common.{refl, sym, ap, ap₂, ◌∙◌, subst, arith, append_assoc, append-nil, get_or, drop-cons, w32, Fits}
use Rattle.std.proofs.lemmas.List.{get_or_default}
use Rattle.graph_core.specs.declared.literal.Lit.{Lit}
use Rattle.graph_core.specs.declared.gate.Gate.{Gate}
use Rattle.graph_core.specs.Graph.Literals.{constant_false}
use Rattle.graph_core.specs.Graph.Positions.{carry_after, position, sum_after}
use Rattle.ripple_graft.specs.declared.adder.Adder.{Adder}
use Rattle.ripple_graft.specs.Grafts.{IsAdderBehind}
use Rattle.ripple_graft.specs.Ripple.{ripple_gates, ripple_outputs}

-- so many pairs are added; what is left comes after
pub record IsAdding (max : ℕ) (before : List Gate) (pairs : List (Lit × Lit)) (i top : ℕ) (carry : Lit) (gates : List Gate) (outputs : List Lit) : Type 0 where
  pub top_is : top ≡ max + 7 * i
  pub gates_are : gates ++ ripple_gates top carry (drop i pairs) ≡ before ++ ripple_gates max constant_false pairs
  pub outputs_are : outputs ++ ripple_outputs top carry (drop i pairs) ≡ ripple_outputs max constant_false pairs

pub adding_goes_on : (max : ℕ) (before : List Gate) (pairs : List (Lit × Lit)) (i top : ℕ) (carry : Lit) (gates : List Gate) (outputs : List Lit) (p : Lit × Lit) → i < length pairs → get_or pairs i p ≡ p →
    IsAdding max before pairs i top carry gates outputs → IsAdding max before pairs (i + 1) (top + 7) (carry_after top) (gates ++ position top p.0 p.1 carry) (outputs ++ sum_after top ∷ [])
adding_goes_on max before pairs i top carry gates outputs p below is h =
    let next : suc i ≡ i + 1 = omega arith in
    let first : drop i pairs ≡ p ∷ drop (i + 1) pairs = drop-cons pairs i p below ∙ ap₂ (λ q n. q ∷ drop n pairs) is next in
    record {
      top_is = omega (arith, h.top_is);
      gates_are = append_assoc gates (position top p.0 p.1 carry) (ripple_gates (top + 7) (carry_after top) (drop (i + 1) pairs)) ∙ ap (λ ps. gates ++ ripple_gates top carry ps) (sym first) ∙ h.gates_are;
      outputs_are = append_assoc outputs (sum_after top ∷ []) (ripple_outputs (top + 7) (carry_after top) (drop (i + 1) pairs)) ∙ ap (λ ps. outputs ++ ripple_outputs top carry ps) (sym first) ∙ h.outputs_are;
    }

-- the same where the step's values are only known to be equal
pub adding_step : (max : ℕ) (before : List Gate) (pairs : List (Lit × Lit)) (i top : ℕ) (carry next d e : Lit) (gates more made : List Gate) (outputs longer : List Lit) → i < length pairs →
    made ≡ position top (get_or pairs i (d, e)).0 (get_or pairs i (d, e)).1 carry → more ≡ gates ++ made → longer ≡ outputs ++ sum_after top ∷ [] → next ≡ carry_after top →
    IsAdding max before pairs i top carry gates outputs → IsAdding max before pairs (i + 1) (top + 7) next more longer
adding_step max before pairs i top carry next d e gates more made outputs longer below made_is more_is longer_is next_is h =
    let p = get_or pairs i (d, e) in
    let goes_on = adding_goes_on max before pairs i top carry gates outputs p below (get_or_default pairs i p (d, e) below) h in
    let all : more ≡ gates ++ position top p.0 p.1 carry = more_is ∙ ap (λ x. gates ++ x) made_is in
    subst (λ c. IsAdding max before pairs (i + 1) (top + 7) c more longer) (sym next_is)
    (subst (λ x. IsAdding max before pairs (i + 1) (top + 7) (carry_after top) x longer) (sym all)
    (subst (IsAdding max before pairs (i + 1) (top + 7) (carry_after top) (gates ++ position top p.0 p.1 carry)) (sym longer_is) goes_on))

-- there is room for one position more
pub adding_fits : (max : ℕ) (pairs : List (Lit × Lit)) (i top : ℕ) → max + 7 * length pairs < 2147483648 → i < length pairs → top ≡ max + 7 * i → top + 7 < 2147483648
adding_fits max pairs i top room below top_is = omega (arith, room, below, top_is)

pub adding_fits_word : (top : ℕ) → top + 7 < 2147483648 → Fits w32 (top + 7)
adding_fits_word top h = omega (arith, h)

drop_all : {X : Type 0} (xs : List X) → drop (length xs) xs ≡ []
drop_all [] = refl
drop_all (x ∷ xs) = drop_all xs

-- with all pairs added, and the last carry after the sums
pub adding_ends : (max : ℕ) (before : List Gate) (pairs : List (Lit × Lit)) (i top : ℕ) (carry : Lit) (gates : List Gate) (outputs : List Lit) (a : Adder) → length pairs ≤ i → i ≤ length pairs →
    a.max ≡ top → a.gates.items ≡ gates → a.outputs.items ≡ outputs ++ carry ∷ [] → IsAdding max before pairs i top carry gates outputs → IsAdderBehind max before pairs a
adding_ends max before pairs i top carry gates outputs a far near max_is gates_are outputs_are h =
    let end : i ≡ length pairs = omega (arith, far, near) in
    let none : drop i pairs ≡ [] = ap (λ n. drop n pairs) end ∙ drop_all pairs in
    record {
      max_is = max_is ∙ h.top_is ∙ ap (λ n. max + 7 * n) end;
      gates_are = gates_are ∙ sym (append-nil gates) ∙ ap (λ ps. gates ++ ripple_gates top carry ps) (sym none) ∙ h.gates_are;
      outputs_are = outputs_are ∙ ap (λ ps. outputs ++ ripple_outputs top carry ps) (sym none) ∙ h.outputs_are;
    }
