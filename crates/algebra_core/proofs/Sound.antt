-- Each line of a lawful algebra certificate vanishes on every evaluation.
use Rattle.std.specs.Prelude.{◌≡◌, ℕ, zero, suc, ◌*◌, ◌%◌, ◌<◌, Bool, true, false, not, cond, ◌&&◌, List, [], ◌∷◌, ◌++◌, map, length, ◌==◌}
use Rattle.std.specs.declared.option.Option.TheVariants.{Some}
use Rattle.std.specs.List.{AllByRecursion, filter}
use Rattle.std.proofs.Common.{refl, sym, ap, ◌∙◌, arith}
use Rattle.std.proofs.Math.Nat.{zero-mod, zero-mul}
use Rattle.std.proofs.lemmas.List.Elements.{All-from_recursion, recursion_from_All}
use Rattle.graph_core.specs.declared.gate.Gate.{Gate}
use Rattle.graph_core.specs.Graph.Assignments.{Assignment, variable, literal, bit, word}
use Rattle.graph_core.specs.Graph.{IsEvaluation}
use Rattle.algebra_core.specs.Polynomials.{value, difference}
use Rattle.graph_core.specs.Graph.Extended.{Extended, Column, modulus, AgreeOnColumns}
use Rattle.algebra_core.specs.AlgebraLines.{LiveLine, Part, Line, Sum, Product, Combination, Import, Delete, Ledger, Premises, import_of, import_or_zero, value_of, value_or_zero, line_of, combined, IsLawfulLine, AreLawfulLines, after, after_all, gate_axiom, AreLawful, AreMet, axioms, beginning, column_axiom, specification, AlgebraIsSound, AxiomsVanish, VanishingMeansClaim}
use Rattle.std.proofs.lemmas.Nat.{pow_pos}
use Rattle.graph_core.specs.Graph.Operands.{Sides, claimed}
use Rattle.graph_core.proofs.OfGraphs.CallerLemmas.{word_below}
use Rattle.algebra_core.proofs.Differences.{claim_from_difference, difference_same}

-- every live line is 0 at the assignment
abbrev pub Vanish : Assignment → List LiveLine → Type 0
Vanish σ live = AllByRecursion (λ l. l.value σ ≡ 0) live

pub value_of-zero : (σ : Assignment) (live : List LiveLine) (id : ℕ) → Vanish σ live → value_of live id σ ≡ 0
value_of-zero σ [] id v = refl
value_of-zero σ (l ∷ live) id v =
    elim (l.id == id) as (λ b. value_or_zero (cond b (Some l) (line_of live id)) σ ≡ 0) [ true ↦ v.0 | false ↦ value_of-zero σ live id v.1 ]

combined-zero : (m : ℕ) (σ : Assignment) (live : List LiveLine) (parts : List Part) → Vanish σ live → combined m live parts σ ≡ 0
combined-zero m σ live [] v = refl
combined-zero m σ live (p ∷ ps) v =
    let first : value_of live p.id σ * value m p.factor σ ≡ 0 = ap (λ z. z * value m p.factor σ) (value_of-zero σ live p.id v) ∙ zero-mul (value m p.factor σ) in
    omega (arith, first, combined-zero m σ live ps v)

filter-vanish : (σ : Assignment) (p : LiveLine → Bool) (live : List LiveLine) → Vanish σ live → Vanish σ (filter p live)
filter-vanish σ p [] v = v
filter-vanish σ p (l ∷ live) v =
    elim (p l) as (λ b. Vanish σ (cond b (l ∷ filter p live) (filter p live))) [ true ↦ (v.0, filter-vanish σ p live v.1) | false ↦ filter-vanish σ p live v.1 ]

import-zero : (σ : Assignment) (imports : List (Assignment → ℕ)) (number : ℕ) → AllByRecursion (λ f. f σ ≡ 0) imports → import_or_zero (import_of imports number) σ ≡ 0
import-zero σ imports zero h = refl
import-zero σ [] (suc i) h = refl
import-zero σ (f ∷ imports) (suc zero) h = h.0
import-zero σ (f ∷ imports) (suc (suc i)) h = import-zero σ imports (suc i) h.1

-- what may be imported is 0
abbrev pub AreZero : Assignment → Ledger → Type 0
AreZero σ l = AllByRecursion (λ f. f σ ≡ 0) l.imports

-- a lawful line keeps that every live line vanishes, and that what may be imported does
pub after-vanish : (m : ℕ) (σ : Assignment) (l : Ledger) (x : Line) → IsLawfulLine m l x → AreZero σ l → Vanish σ l.live → Vanish σ (after m l x).live
after-vanish m σ l (Sum id i j p) h zs v = (h.equal σ ∙ ap (λ z. z % m) (omega (arith, value_of-zero σ l.live i v, value_of-zero σ l.live j v)) ∙ zero-mod m, v)
after-vanish m σ l (Product id i q p) h zs v = (h.equal σ ∙ ap (λ z. z * value m q σ % m) (value_of-zero σ l.live i v) ∙ ap (λ z. z % m) (zero-mul (value m q σ)) ∙ zero-mod m, v)
after-vanish m σ l (Combination id parts p) h zs v = (h.equal σ ∙ ap (λ z. z % m) (combined-zero m σ l.live parts v) ∙ zero-mod m, v)
after-vanish m σ l (Import id number p) h zs v = (h.equal σ ∙ ap (λ z. z % m) (import-zero σ l.imports number zs) ∙ zero-mod m, v)
after-vanish m σ l (Delete id) h zs v = filter-vanish σ (λ x. not (x.id == id)) l.live v

after-zero : (m : ℕ) (σ : Assignment) (l : Ledger) (x : Line) → AreZero σ l → AreZero σ (after m l x)
after-zero m σ l (Sum id i j p) z = z
after-zero m σ l (Product id i q p) z = z
after-zero m σ l (Combination id parts p) z = z
after-zero m σ l (Import id number p) z = z
after-zero m σ l (Delete id) z = z

-- the axiom of a gate vanishes where its variable has the AND of its operands
pub gate_axiom-zero : (m : ℕ) (σ : Assignment) (g : Gate) → 0 < m → variable σ g.v ≡ (literal σ g.left && literal σ g.right) → (gate_axiom m g).value σ ≡ 0
gate_axiom-zero m σ g h e = ap (λ b. difference m (bit (literal σ g.left) * bit (literal σ g.right)) (bit b)) e ∙ product_of (literal σ g.left) (literal σ g.right)
  where
    product_of : (x y : Bool) → difference m (bit x * bit y) (bit (x && y)) ≡ 0
    product_of true true = difference_same m 1 h
    product_of true false = difference_same m 0 h
    product_of false true = difference_same m 0 h
    product_of false false = difference_same m 0 h

pub column_axiom-zero : (e : Extended) (σ : Assignment) (c : Column) → 0 < modulus e → literal σ c.old ≡ literal σ c.new → (column_axiom e c).value σ ≡ 0
column_axiom-zero e σ c h same = ap (λ b. difference (modulus e) (bit b) (bit (literal σ c.new))) same ∙ difference_same (modulus e) (bit (literal σ c.new)) h

append-vanish : (σ : Assignment) (xs ys : List LiveLine) → Vanish σ xs → Vanish σ ys → Vanish σ (xs ++ ys)
append-vanish σ [] ys v w = w
append-vanish σ (x ∷ xs) ys v w = (v.0, append-vanish σ xs ys v.1 w)

gates-vanish : (m : ℕ) (σ : Assignment) (gates : List Gate) → 0 < m → AllByRecursion (λ g. variable σ g.v ≡ (literal σ g.left && literal σ g.right)) gates → Vanish σ (map (gate_axiom m) gates)
gates-vanish m σ [] h v = v
gates-vanish m σ (g ∷ gates) h v = (gate_axiom-zero m σ g h v.0, gates-vanish m σ gates h v.1)

columns-vanish : (e : Extended) (σ : Assignment) (cs : List Column) → 0 < modulus e → AllByRecursion (λ c. literal σ c.old ≡ literal σ c.new) cs → Vanish σ (map (column_axiom e) cs)
columns-vanish e σ [] h v = v
columns-vanish e σ (c ∷ cs) h v = (column_axiom-zero e σ c h v.0, columns-vanish e σ cs h v.1)

pub modulus_pos : (e : Extended) → 0 < modulus e
modulus_pos e = pow_pos (length e.graph.outputs)

pub axioms-vanish : (e : Extended) (σ : Assignment) → IsEvaluation e.gates σ → AgreeOnColumns e σ → Vanish σ (axioms e).live
axioms-vanish e σ h c =
    append-vanish σ (map (gate_axiom (modulus e)) e.gates) (map (column_axiom e) e.replaced)
    (gates-vanish (modulus e) σ e.gates (modulus_pos e) (recursion_from_All _ e.gates h))
    (columns-vanish e σ e.replaced (modulus_pos e) (recursion_from_All _ e.replaced c))

-- lawful lines keep that every live line vanishes
pub after_all-vanish : (m : ℕ) (σ : Assignment) (l : Ledger) (lines : List Line) → AreLawfulLines m l lines → AreZero σ l → Vanish σ l.live → Vanish σ (after_all m l lines).live
after_all-vanish m σ l [] h z v = v
after_all-vanish m σ l (x ∷ xs) h z v = after_all-vanish m σ (after m l x) xs h.1 (after-zero m σ l x z) (after-vanish m σ l x h.0 z v)

pub met-zero : (p : Premises) (σ : Assignment) → AreMet p σ → AreZero σ (beginning p)
met-zero p σ met = recursion_from_All (λ f. f σ ≡ 0) p.imports met.imports

-- the specification vanishes wherever the axioms do and what may be imported does
pub specification-zero : (p : Premises) (s : Sides) (σ : Assignment) (lines : List Line) (closing : ℕ) →
    AreLawful p s lines closing → AreZero σ (beginning p) → Vanish σ (axioms p.extended).live → specification p.extended s σ ≡ 0
specification-zero p s σ lines closing h z v =
    sym (h.1.1 σ) ∙ value_of-zero σ (after_all (modulus p.extended) (beginning p) lines).live closing (after_all-vanish (modulus p.extended) σ (beginning p) lines h.0 z v)

pub vanishing_means_claim : VanishingMeansClaim
vanishing_means_claim e s σ zero_there = claim_from_difference (modulus e) (word σ e.graph.outputs) (claimed (modulus e) s σ) (word_below σ e.graph.outputs) zero_there

pub axioms_vanish : AxiomsVanish
axioms_vanish e σ evaluates agree = All-from_recursion (λ l. l.value σ ≡ 0) (axioms e).live (axioms-vanish e σ evaluates agree)

pub algebra_is_sound : AlgebraIsSound
algebra_is_sound p s lines closing σ lawful evaluates met =
    vanishing_means_claim p.extended s σ (specification-zero p s σ lines closing lawful (met-zero p σ met) (axioms-vanish p.extended σ evaluates met.columns))
