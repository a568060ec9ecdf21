-- How many gates a plan eliminates.
use Rattle.std.specs.Prelude.{◌≡◌, ◌||◌, ℕ, suc, ◌≤◌, Bool, true, false, List, [], ◌∷◌, length, map}
use Rattle.std.specs.List.{AllByRecursion, IsDistinct}
use Rattle.std.specs.Set.{is_member}
use Rattle.std.proofs.Common.{refl, sym, ap, ap₂, subst, ◌∙◌, arith, eq-eqb, eqb, eqb-true, ne_eqb, true≢false}
use Rattle.std.proofs.lemmas.Map.Made.{length-le_from_is_member}
use Rattle.std.specs.Cmp.{IsEquivalence}
use Rattle.graph_core.specs.declared.gate.Gate.{Gate}
use Rattle.graph_core.specs.Graph.Extended.{Extended}
use Rattle.frontier_core.specs.declared.step.Step.{Step}
use Rattle.frontier_core.specs.declared.step.Step.TheVariants.{Add, Eliminate}
use Rattle.frontier_core.specs.Sets.{has}
use Rattle.frontier_core.specs.Plan.{Taken, AreSteps, nothing, step, taken}

eqb_turned : (u v : ℕ) → eqb u v ≡ eqb v u
eqb_turned u v = go (eqb u v) refl
  where
    go : (b : Bool) → eqb u v ≡ b → eqb u v ≡ eqb v u
    go true t = t ∙ sym (eq-eqb v u (sym (eqb-true u v t)))
    go false t = t ∙ sym (ne_eqb v u (λ e. true≢false (sym (eq-eqb u v (sym e)) ∙ t)))

same_from : (x y z : ℕ) → eqb x y ≡ true → eqb x z ≡ eqb y z
same_from x y z t = ap (λ u. eqb u z) (eqb-true x y t)

numbers_equal : IsEquivalence eqb
numbers_equal = record { refl = λ x. eq-eqb x x refl; symm = eqb_turned; congr = same_from }

any_turned : (q : ℕ) (xs : List ℕ) → has xs q ≡ is_member eqb xs q
any_turned q [] = refl
any_turned q (x ∷ xs) = ap₂ ◌||◌ (eqb_turned x q) (any_turned q xs)

or_false : (a b : Bool) → (a || b) ≡ false → (a ≡ false) × (b ≡ false)
or_false true b h = absurd (true≢false h)
or_false false b h = (refl, h)

apart_from : (v : ℕ) (xs : List ℕ) → has xs v ≡ false → AllByRecursion (λ y. eqb v y ≡ false) xs
apart_from v [] h = tt
apart_from v (x ∷ xs) h = let parts = or_false (eqb x v) (has xs v) h in (eqb_turned v x ∙ parts.0, apart_from v xs parts.1)

-- the eliminated gates are gates, and none is there twice
record AreGates (all vs : List ℕ) : Type 0 where
  pub once : IsDistinct eqb vs
  pub gates : AllByRecursion (λ v. has all v ≡ true) vs

none_yet : (gates : List ℕ) → AreGates gates []
unfolding IsDistinct
none_yet gates = record { once = tt; gates = tt }

one_more : (gates : List ℕ) (v : ℕ) (vs : List ℕ) → has gates v ≡ true → has vs v ≡ false → AreGates gates vs → AreGates gates (v ∷ vs)
unfolding IsDistinct
one_more gates v vs is new h = record { once = (apart_from v vs new, h.once); gates = (is, h.gates) }

gates_after : (e : Extended) (f : Taken) (steps : List Step) → AreSteps e f steps → AreGates (map (λ x. x.v) e.gates) f.eliminated → AreGates (map (λ x. x.v) e.gates) (taken f steps).eliminated
gates_after e f [] h g = g
gates_after e f (Add k ∷ steps) h g = gates_after e (step f (Add k)) steps h.1 g
gates_after e f (Eliminate v ∷ steps) h g = gates_after e (step f (Eliminate v)) steps h.1 (one_more (map (λ x. x.v) e.gates) v f.eliminated h.0.gate h.0.new g)

found : (gates vs : List ℕ) (q : ℕ) → AllByRecursion (λ v. has gates v ≡ true) vs → is_member eqb vs q ≡ true → is_member eqb gates q ≡ true
found gates [] q h t = cc
found gates (v ∷ vs) q h t = go (eqb q v) refl (λ other. found gates vs q h.1 other)
  where
    go : (b : Bool) → eqb q v ≡ b → (is_member eqb vs q ≡ true → is_member eqb gates q ≡ true) → is_member eqb gates q ≡ true
    go true is rest = sym (any_turned q gates) ∙ subst (λ u. has gates u ≡ true) (sym (eqb-true q v is)) h.0
    go false is rest = rest (ap (λ b. b || is_member eqb vs q) (sym is) ∙ t)

as_many : (gates : List Gate) → length (map (λ g. g.v) gates) ≡ length gates
as_many [] = refl
as_many (g ∷ gates) = ap suc (as_many gates)

pub eliminated_few : (e : Extended) (steps : List Step) → AreSteps e nothing steps → length (taken nothing steps).eliminated ≤ length e.gates
eliminated_few e steps h =
    let gates = map (λ x. x.v) e.gates in
    let vs = (taken nothing steps).eliminated in
    let all = gates_after e nothing steps h (none_yet gates) in
    let few : length vs ≤ length gates = length-le_from_is_member numbers_equal vs gates all.once (λ q t. found gates vs q all.gates t) in
    omega (arith, few, as_many e.gates)
