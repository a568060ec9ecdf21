-- Functions that hang on no variable above the greatest one.
use Rattle.std.specs.Prelude.{◌≡◌, ◌≢◌, ◌==◌, ℕ, suc, ◌+◌, ◌*◌, ◌%◌, ◌<◌, ◌≤◌, Bool, true, false, List, [], ◌∷◌, ◌++◌, map, slice_get, slice_index_or}
use Rattle.std.specs.declared.option.Option.TheVariants.{Some}
use Rattle.std.specs.List.{All, AllByRecursion, Contains, flat_map}
use Rattle.std.proofs.Common.{refl, sym, ap, ap₂, subst, ◌∙◌, arith, ⊎_elim, eq-eqb, cond}
use Rattle.std.proofs.Math.Path.{fun_ext}
use Rattle.std.proofs.lemmas.Bool.{cases_eq}
use Rattle.std.proofs.lemmas.Option.{get_or_from_slice_get, slice_get_within}
use Rattle.std.proofs.lemmas.List.Elements.{All-contains, All-from_recursion, recursion_from_All}
use Rattle.graph_core.specs.declared.literal.Lit.{Lit}
use Rattle.graph_core.specs.declared.gate.Gate.{Gate}
use Rattle.graph_core.specs.Graph.Literals.{variable_of}
use Rattle.graph_core.specs.Graph.Assignments.{Assignment, literal, bit, variable}
use Rattle.graph_core.specs.Graph.{Aig, IsWellFormed, read_literals}
use Rattle.graph_core.specs.Graph.Operands.{Sides, ReadInputs, operand_literals}
use Rattle.graph_core.specs.Graph.Extended.{Extended, modulus}
use Rattle.algebra_core.specs.AlgebraLines.{gate_axiom}
use Rattle.algebra_core.specs.Polynomials.{Polynomial, difference, product, sum_of}
use Rattle.graph_core.proofs.OfGraphs.CallerLemmas.{all_split, literal_same, variable_same}
use Rattle.ripple_graft.specs.Extension.{IsExtension, IsReadable, new_outputs, whole}
use Rattle.ripple_graft.proofs.BlockLists.{whole_is_well_formed}
use Rattle.frontier_core.specs.Sets.{has}
use Rattle.frontier_core.specs.Columns.{AgreeOnOperands, column_value, columns_sum}
use Rattle.frontier_core.specs.Frontier.{set_to}
use Rattle.frontier_core.specs.RestLine.{partial_specification}
use Rattle.frontier_core.specs.Pending.{gap}
use Rattle.frontier_core.specs.Substitution.{gate_value, quotient, substituted}
use Rattle.frontier_core.proofs.Everywhere.{all_from_map}
use Rattle.frontier_core.proofs.FrontierSteps.{column_same, set_to-other}
use Rattle.poly_terms.specs.Tables.{Table, Sum, IsOf, monomials_in, value_in}
use Rattle.poly_terms.specs.Tables as table
use Rattle.pac_writer.specs.Writing.{IsOver}
use Rattle.pac_writer.proofs.CallerLemmas.{over_from_values}
use Rattle.column_reducer.specs.Gathering.{IsFixedAbove}

pub literal_fixed : (max : ℕ) (l : Lit) (v : ℕ) (b : Bool) (σ : Assignment) → max < v → variable_of l ≤ max → literal (set_to v b σ) l ≡ literal σ l
literal_fixed max l v b σ above low = literal_same (set_to v b σ) σ l (set_to-other v b σ (variable_of l) (λ e. absurd (omega arith)))

pub all_left : {X : Type 0} (P : X → Type 0) (xs ys : List X) → All P (xs ++ ys) → All P xs
all_left P xs ys h = All-from_recursion P xs (all_split P xs ys (recursion_from_All P (xs ++ ys) h)).0

pub all_right : {X : Type 0} (P : X → Type 0) (xs ys : List X) → All P (xs ++ ys) → All P ys
all_right P xs ys h = All-from_recursion P ys (all_split P xs ys (recursion_from_All P (xs ++ ys) h)).1

-- the operands are inputs
operands_fixed : (e : Extended) (s : Sides) (v : ℕ) (b : Bool) (σ : Assignment) → IsExtension e → ReadInputs e.graph s → e.max < v → AgreeOnOperands s σ (set_to v b σ)
operands_fixed e s v b σ made read above k d low =
    let l = slice_index_or (operand_literals s) k d in
    let small : l.0 ≤ 2 * e.graph.max + 1 = All-contains (λ x. x.0 ≤ 2 * e.graph.max + 1) e.graph.inputs l (all_left (λ x. x.0 ≤ 2 * e.graph.max + 1) e.graph.inputs (read_literals e.graph) made.graph.in_range) (read k d low) in
    let room = made.room in
    literal_fixed e.max l v b σ above (omega arith)

graph_outputs_low : (g : Aig) → IsWellFormed g → All (λ l. variable_of l ≤ g.max) g.outputs
graph_outputs_low g formed k d low =
    let reads = all_right (λ x. x.0 ≤ 2 * g.max + 1) g.inputs (read_literals g) formed.in_range in
    let small : (slice_index_or g.outputs k d).0 ≤ 2 * g.max + 1 = all_left (λ x. x.0 ≤ 2 * g.max + 1) g.outputs (flat_map (λ x. x.left ∷ x.right ∷ []) g.gates) reads k d low in
    omega arith

pub outputs_low : (e : Extended) → IsExtension e → All (λ l. variable_of l ≤ e.max) e.graph.outputs
outputs_low e made k d low = let own = graph_outputs_low e.graph made.graph k d low in let room = made.room in omega arith

pub new_outputs_low : (e : Extended) → IsExtension e → All (λ l. variable_of l ≤ e.max) (new_outputs e)
new_outputs_low e made = graph_outputs_low (whole e) (whole_is_well_formed e made)

pub output_low : (os : List Lit) (max k : ℕ) (o : Lit) → All (λ l. variable_of l ≤ max) os → slice_get os k ≡ Some o → variable_of o ≤ max
output_low os max k o low is = subst (λ l. variable_of l ≤ max) (get_or_from_slice_get os k o o is) (low k o (slice_get_within os k o is))

columns_fixed : (e : Extended) (s : Sides) (added : List ℕ) (k : ℕ) (os : List Lit) (v : ℕ) (b : Bool) (σ : Assignment) → AgreeOnOperands s σ (set_to v b σ) → AllByRecursion (λ l. literal (set_to v b σ) l ≡ literal σ l) os →
    columns_sum (modulus e) s added k os (set_to v b σ) ≡ columns_sum (modulus e) s added k os σ
columns_fixed e s added k [] v b σ agree h = refl
columns_fixed e s added k (o ∷ os) v b σ agree h =
    ap₂ (λ x y. cond (has added k) x 0 + y) (column_same (modulus e) s k o σ (set_to v b σ) agree h.0) (columns_fixed e s added (suc k) os v b σ agree h.1)

pub partial_fixed : (e : Extended) (s : Sides) (added : List ℕ) → IsExtension e → ReadInputs e.graph s → IsFixedAbove e.max (partial_specification e s added)
partial_fixed e s added made read v b σ above =
    ap (λ x. x % modulus e)
    (columns_fixed e s added 0 e.graph.outputs v b σ (operands_fixed e s v b σ made read above)
    (recursion_from_All (λ l. literal (set_to v b σ) l ≡ literal σ l) e.graph.outputs (λ k d low. literal_fixed e.max (slice_index_or e.graph.outputs k d) v b σ above (outputs_low e made k d low))))

pub column_fixed : (e : Extended) (s : Sides) (k : ℕ) (o : Lit) → IsExtension e → ReadInputs e.graph s → slice_get (new_outputs e) k ≡ Some o → IsFixedAbove e.max (column_value e s k o)
column_fixed e s k o made read is v b σ above =
    column_same (modulus e) s k o σ (set_to v b σ) (operands_fixed e s v b σ made read above)
    (literal_fixed e.max o v b σ above (output_low (new_outputs e) e.max k o (new_outputs_low e made) is))

pub gap_fixed : (e : Extended) (s : Sides) (added : List ℕ) (rest : Assignment → ℕ) → IsFixedAbove e.max (partial_specification e s added) → IsFixedAbove e.max rest → IsFixedAbove e.max (gap e s added rest)
gap_fixed e s added rest known fixed v b σ above = ap₂ (difference (modulus e)) (known v b σ above) (fixed v b σ above)

-- ---- a gate

-- two variables' values are changed in either order
changed_twice : (u v : ℕ) (a b : Bool) (σ : Assignment) → u ≢ v → set_to u a (set_to v b σ) ≡ set_to v b (set_to u a σ)
changed_twice u v a b σ apart = fun_ext (λ w. ⊎_elim
    (λ is. let other : w ≢ v = λ e. apart (sym is ∙ e) in
    ap (λ t. cond t a (set_to v b σ w)) (eq-eqb w u is) ∙ sym (set_to-other v b (set_to u a σ) w other ∙ ap (λ t. cond t a (σ w)) (eq-eqb w u is)))
    (λ ne. set_to-other u a (set_to v b σ) w ne ∙ ap (λ x. cond (w == v) b x) (sym (set_to-other u a σ w ne)))
    (cases_eq w u))

at_value : (max : ℕ) (f : Assignment → ℕ) (u : ℕ) (a : Bool) → u ≤ max → IsFixedAbove max f → IsFixedAbove max (λ σ. f (set_to u a σ))
at_value max f u a low fixed v b σ above = ap f (changed_twice u v a b σ (λ e. absurd (omega arith))) ∙ fixed v b (set_to u a σ) above

pub quotient_fixed : (max m u : ℕ) (f : Assignment → ℕ) → u ≤ max → IsFixedAbove max f → IsFixedAbove max (quotient m u f)
quotient_fixed max m u f low fixed v b σ above = ap₂ (difference m) (at_value max f u true low fixed v b σ above) (at_value max f u false low fixed v b σ above)

pub substituted_fixed : (e : Extended) (m : ℕ) (x : Gate) (f : Assignment → ℕ) → IsExtension e → Contains e.gates x → IsFixedAbove e.max f → IsFixedAbove e.max (substituted m x.v (gate_value x) f)
substituted_fixed e m x f made is fixed v b σ above =
    let reads = All-contains (λ y. IsReadable e y.left × IsReadable e y.right) e.gates x made.operands is in
    let low = All-contains (λ y. y.v ≤ e.max) e.gates x made.gates_in_range is in
    let gate : gate_value x (set_to v b σ) ≡ gate_value x σ = ap₂ (λ c d. bit c * bit d) (literal_fixed e.max x.left v b σ above reads.0.0) (literal_fixed e.max x.right v b σ above reads.1.0) in
    ap₂ (λ c d. (c + d) % m) (at_value e.max f x.v false low fixed v b σ above) (ap₂ ◌*◌ gate (quotient_fixed e.max m x.v f low fixed v b σ above))

pub variable_fixed : (max u v : ℕ) (b : Bool) (σ : Assignment) → max < v → u ≤ max → variable (set_to v b σ) u ≡ variable σ u
variable_fixed max u v b σ above low = variable_same (set_to v b σ) σ u (set_to-other v b σ u (λ e. absurd (omega arith)))

pub axiom_fixed : (e : Extended) (m : ℕ) (x : Gate) → IsExtension e → Contains e.gates x → IsFixedAbove e.max (gate_axiom m x).value
axiom_fixed e m x made is v b σ above =
    let reads = All-contains (λ y. IsReadable e y.left × IsReadable e y.right) e.gates x made.operands is in
    let low = All-contains (λ y. y.v ≤ e.max) e.gates x made.gates_in_range is in
    ap₂ (difference m) (ap₂ (λ c d. bit c * bit d) (literal_fixed e.max x.left v b σ above reads.0.0) (literal_fixed e.max x.right v b σ above reads.1.0))
    (ap bit (variable_fixed e.max x.v v b σ above low))

-- ---- a polynomial with such a value

product_fixed : (max v : ℕ) (b : Bool) (σ : Assignment) (vs : List ℕ) → max < v → AllByRecursion (λ u. u ≤ max) vs → product (set_to v b σ) vs ≡ product σ vs
product_fixed max v b σ [] above h = refl
product_fixed max v b σ (u ∷ vs) above h = ap₂ (λ c n. bit c * n) (variable_fixed max u v b σ above h.0) (product_fixed max v b σ vs above h.1)

sum_fixed : (max m v : ℕ) (b : Bool) (σ : Assignment) (p : Polynomial) → max < v → AllByRecursion (λ x. All (λ u. u ≤ max) x.variables) p → sum_of m p (set_to v b σ) ≡ sum_of m p σ
sum_fixed max m v b σ [] above h = refl
sum_fixed max m v b σ (x ∷ p) above h =
    ap₂ (λ n k. cond x.negative (difference m 0 (x.coefficient * n)) (x.coefficient * n) + k)
    (product_fixed max v b σ x.variables above (recursion_from_All (λ u. u ≤ max) x.variables h.0)) (sum_fixed max m v b σ p above h.1)

-- a polynomial over variables up to the greatest one
pub fixed_over : (max : ℕ) (t : Table) (p : Sum) → IsOver max t p → IsFixedAbove max (value_in t p)
fixed_over max t p h v b σ above =
    ap (λ n. n % table.modulus_in t) (sum_fixed max (table.modulus_in t) v b σ (monomials_in t p) above (recursion_from_All (λ x. All (λ u. u ≤ max) x.variables) (monomials_in t p) h.1))

over_along : (max : ℕ) (ps qs : Polynomial) → map (λ x. x.variables) qs ≡ map (λ x. x.variables) ps → AllByRecursion (λ x. All (λ u. u ≤ max) x.variables) ps →
    AllByRecursion (λ x. All (λ u. u ≤ max) x.variables) qs
over_along max ps qs same h =
    back qs (subst (AllByRecursion (λ vs. All (λ u. u ≤ max) vs)) (sym same) (all_from_map (λ vs. All (λ u. u ≤ max) vs) (λ x. x.variables) ps h))
  where
    back : (qs : Polynomial) → AllByRecursion (λ vs. All (λ u. u ≤ max) vs) (map (λ x. x.variables) qs) → AllByRecursion (λ x. All (λ u. u ≤ max) x.variables) qs
    back [] h = tt
    back (q ∷ qs) h = (h.0, back qs h.1)

-- and one of the same monomials
pub over_same : (max : ℕ) (t : Table) (p q : Sum) → IsOf t q → map (λ x. x.variables) (monomials_in t q) ≡ map (λ x. x.variables) (monomials_in t p) → IsOver max t p → IsOver max t q
over_same max t p q of same h = (
  of,
  All-from_recursion (λ x. All (λ u. u ≤ max) x.variables) (monomials_in t q)
      (over_along max (monomials_in t p) (monomials_in t q) same (recursion_from_All (λ x. All (λ u. u ≤ max) x.variables) (monomials_in t p) h.1)),
)

pub over_fixed : (max : ℕ) (t : Table) (p : Sum) → IsOf t p → IsFixedAbove max (value_in t p) → IsOver max t p
over_fixed max t p of fixed = over_from_values t max p of (λ v σ above. fixed v true σ above ∙ sym (fixed v false σ above))

pub same_fixed : (max : ℕ) (f g : Assignment → ℕ) → ((σ : Assignment) → f σ ≡ g σ) → IsFixedAbove max g → IsFixedAbove max f
same_fixed max f g same fixed v b σ above = same (set_to v b σ) ∙ fixed v b σ above ∙ sym (same σ)
