-- XOR shapes are XOR, and a gate of XOR shape has one pair.
use Rattle.std.specs.Prelude.{◌≡◌, ◌≢◌, ℕ, ◌+◌, ◌*◌, ◌⊎◌, Bool, true, false, not, ◌&&◌, List, [], ◌∷◌, map}
use Rattle.std.specs.List.{Any, AllByRecursion}
use Rattle.std.proofs.Common.{refl, sym, ap, ap₂, subst, ◌∙◌, arith, inl, inr, ⊎_elim}
use Rattle.std.proofs.lemmas.List.Elements.{recursion_from_All}
use Rattle.graph_core.specs.declared.literal.Lit.{Lit}
use Rattle.graph_core.specs.declared.gate.Gate.{Gate}
use Rattle.graph_core.specs.Graph.Assignments.{Assignment, variable, literal}
use Rattle.graph_core.specs.Graph.Literals.{variable_of, negation_of, plain, inverted}
use Rattle.graph_core.specs.Graph.{Aig, IsDefinedOnce, defined}
use Rattle.graph_core.proofs.OfGraphs.CallerLemmas.{Distinct, any_cases, any_nil, apart_from_pairs, gates_distinct as distinct_gates, literal-even, literal-negated, literal-odd, rest_apart, variable_of-negated}
use Rattle.adder_finder.specs.XorShape.{Computes, HasXorShape, IsGenerating, IsXor, ordered_operands, IsXorGate, IsXorOfPair, exclusive_or, XorShapeIsXor}

-- a gate's equation, for its operands in either order
abbrev pub Equation : Assignment → Gate → Type 0
Equation σ g = variable σ g.v ≡ (literal σ g.left && literal σ g.right)

abbrev pub Operands : Gate → Lit → Lit → Type 0
Operands g x y = ((g.left ≡ x) × (g.right ≡ y)) ⊎ ((g.left ≡ y) × (g.right ≡ x))

and_flip : (a b : Bool) → (a && b) ≡ (b && a)
and_flip true true = refl
and_flip true false = refl
and_flip false true = refl
and_flip false false = refl

-- a gate that computes two literals has their AND
pub computes_and : (gates : List Gate) (σ : Assignment) (v : ℕ) (x y : Lit) → Computes gates v x y → AllByRecursion (Equation σ) gates → variable σ v ≡ (literal σ x && literal σ y)
computes_and [] σ v x y h e = absurd (any_nil (λ g. (g.v ≡ v) × Operands g x y) h)
computes_and (g ∷ gates) σ v x y h e = ⊎_elim here (λ r. computes_and gates σ v x y r e.1) (any_cases (λ k. (k.v ≡ v) × Operands k x y) g gates h)
  where
    here : (g.v ≡ v) × Operands g x y → variable σ v ≡ (literal σ x && literal σ y)
    here k =
        ap (variable σ) (sym k.0) ∙ e.0 ∙
        ⊎_elim (λ s. ap₂ (λ a b. literal σ a && literal σ b) s.0 s.1) (λ s. ap₂ (λ a b. literal σ a && literal σ b) s.0 s.1 ∙ and_flip (literal σ y) (literal σ x)) k.1

pub inverted_is : (σ : Assignment) (v : ℕ) → literal σ (inverted v) ≡ not (variable σ v)
inverted_is σ v = literal-odd σ (inverted v) v refl

pub plain_is : (σ : Assignment) (v : ℕ) → literal σ (plain v) ≡ variable σ v
plain_is σ v = literal-even σ (plain v) v refl

xor_table : (a b : Bool) → (not (a && b) && not (not a && not b)) ≡ exclusive_or a b
xor_table true true = refl
xor_table true false = refl
xor_table false true = refl
xor_table false false = refl

pub xor_shape_is_xor : XorShapeIsXor
xor_shape_is_xor gates v u w x y σ h evaluates =
    let e = recursion_from_All (Equation σ) gates evaluates in
    let u_is = computes_and gates σ u x y h.both e in
    let w_is = computes_and gates σ w (negation_of x) (negation_of y) h.neither e ∙ ap₂ ◌&&◌ (literal-negated σ x) (literal-negated σ y) in
    let top = computes_and gates σ v (inverted u) (inverted w) h.top e in
    (top ∙ ap₂ ◌&&◌ (inverted_is σ u ∙ ap not u_is) (inverted_is σ w ∙ ap not w_is) ∙ xor_table (literal σ x) (literal σ y), u_is, w_is)

-- ---- a variable has one gate

pub one_gate : (gates : List Gate) → Distinct gates → (P Q : Gate → Type 0) (v : ℕ) → Any (λ x. (x.v ≡ v) × P x) gates → Any (λ x. (x.v ≡ v) × Q x) gates → (x : Gate) × (x.v ≡ v) × P x × Q x
one_gate [] d P Q v h i = absurd (any_nil (λ x. (x.v ≡ v) × P x) h)
one_gate (g ∷ gates) d P Q v h i =
    ⊎_elim (λ a. ⊎_elim (λ b. (g, a.0, a.1, b.1)) (λ r. absurd (other Q a.0 gates d.0 r)) (any_cases (λ x. (x.v ≡ v) × Q x) g gates i))
    (λ r. ⊎_elim (λ b. absurd (other P b.0 gates d.0 r)) (λ s. one_gate gates d.1 P Q v r s) (any_cases (λ x. (x.v ≡ v) × Q x) g gates i)) (any_cases (λ x. (x.v ≡ v) × P x) g gates h)
  where
    other : (R : Gate → Type 0) → g.v ≡ v → (xs : List Gate) → AllByRecursion (λ y. g.v ≢ y.v) xs → Any (λ x. (x.v ≡ v) × R x) xs → ⊥
    other R e [] a r = absurd (any_nil (λ x. (x.v ≡ v) × R x) r)
    other R e (x ∷ xs) a r = ⊎_elim (λ k. a.0 (e ∙ sym k.0)) (λ k. other R e xs a.1 k) (any_cases (λ y. (y.v ≡ v) × R y) x xs r)

pub gates_distinct : (g : Aig) → IsDefinedOnce g → Distinct g.gates
gates_distinct g once = distinct_gates g.gates (rest_apart (map variable_of g.inputs) (map (λ x. x.v) g.gates) (apart_from_pairs (defined g) once.once))

-- two literals as one pair of operands and as another
abbrev pub SameTwo : Lit → Lit → Lit → Lit → Type 0
SameTwo x y a b = ((x ≡ a) × (y ≡ b)) ⊎ ((x ≡ b) × (y ≡ a))

pub same_operands : (g : Gate) (x y a b : Lit) → Operands g x y → Operands g a b → SameTwo x y a b
same_operands g x y a b h i =
    ⊎_elim (λ p. ⊎_elim (λ q. inl (sym p.0 ∙ q.0, sym p.1 ∙ q.1)) (λ q. inr (sym p.0 ∙ q.0, sym p.1 ∙ q.1)) i)
    (λ p. ⊎_elim (λ q. inr (sym p.1 ∙ q.1, sym p.0 ∙ q.0)) (λ q. inl (sym p.1 ∙ q.1, sym p.0 ∙ q.0)) i) h

-- ---- one pair

pub inverted_one : (a b : ℕ) → inverted a ≡ inverted b → a ≡ b
inverted_one a b e = let f : 2 * a + 1 ≡ 2 * b + 1 = ap (λ l. l.0) e in omega arith

negated_variable : (l : Lit) → variable_of (negation_of l) ≡ variable_of l
negated_variable l = variable_of-negated l

-- the two gates below a gate of XOR shape are the same two
same_below : (g : Aig) → IsDefinedOnce g → (v u w a b : ℕ) (x y p q : Lit) → HasXorShape g.gates v u w x y → HasXorShape g.gates v a b p q → ((u ≡ a) × (w ≡ b)) ⊎ ((u ≡ b) × (w ≡ a))
same_below g once v u w a b x y p q h i =
    let gate = one_gate g.gates (gates_distinct g once) (λ k. Operands k (inverted u) (inverted w)) (λ k. Operands k (inverted a) (inverted b)) v h.top i.top in
    ⊎_elim (λ s. inl (inverted_one u a s.0, inverted_one w b s.1)) (λ s. inr (inverted_one u b s.0, inverted_one w a s.1)) (same_operands gate.0 (inverted u) (inverted w) (inverted a) (inverted b) gate.2 gate.3)

-- and so are the variables of the two sides
abbrev pub SameSides : Lit → Lit → Lit → Lit → Type 0
SameSides x y p q = ((variable_of x ≡ variable_of p) × (variable_of y ≡ variable_of q)) ⊎ ((variable_of x ≡ variable_of q) × (variable_of y ≡ variable_of p))

sides_of : (x y p q : Lit) → SameTwo x y p q → SameSides x y p q
sides_of x y p q h = ⊎_elim (λ s. inl (ap variable_of s.0, ap variable_of s.1)) (λ s. inr (ap variable_of s.0, ap variable_of s.1)) h

pub same_sides : (g : Aig) → IsDefinedOnce g → (v u w a b : ℕ) (x y p q : Lit) → HasXorShape g.gates v u w x y → HasXorShape g.gates v a b p q → SameSides x y p q
same_sides g once v u w a b x y p q h i = ⊎_elim straight crossed (same_below g once v u w a b x y p q h i)
  where
    straight : (u ≡ a) × (w ≡ b) → SameSides x y p q
    straight e =
        let gate = one_gate g.gates (gates_distinct g once) (λ k. Operands k x y) (λ k. Operands k p q) u h.both (subst (λ z. Computes g.gates z p q) (sym e.0) i.both) in
        sides_of x y p q (same_operands gate.0 x y p q gate.2 gate.3)

    crossed : (u ≡ b) × (w ≡ a) → SameSides x y p q
    crossed e =
        let gate = one_gate g.gates (gates_distinct g once) (λ k. Operands k x y) (λ k. Operands k (negation_of p) (negation_of q)) u h.both (subst (λ z. Computes g.gates z (negation_of p) (negation_of q)) (sym e.0) i.neither) in
        ⊎_elim (λ s. inl (s.0 ∙ negated_variable p, s.1 ∙ negated_variable q)) (λ s. inr (s.0 ∙ negated_variable q, s.1 ∙ negated_variable p))
        (sides_of x y (negation_of p) (negation_of q) (same_operands gate.0 x y (negation_of p) (negation_of q) gate.2 gate.3))

-- not both gates generate
one_generates : (g : Aig) (v u w : ℕ) → IsGenerating g v u w → IsGenerating g v w u → ⊥
one_generates g v u w h i =
    ⊎_elim (λ a. ⊎_elim (λ b. b.1 a.0) (λ b. ⊎_elim (λ c. a.1 c.0) (λ c. c.1 a.0) b.0) i)
    (λ a. ⊎_elim (λ b. ⊎_elim (λ c. b.1 c.0) (λ c. c.1 b.0) a.0) (λ b. let l = a.1 in let m = b.1 in absurd (omega arith)) i) h

-- so a gate has one generating gate
pub generating_one : (g : Aig) → IsDefinedOnce g → (v u w a b : ℕ) (x y p q : Lit) (one other : Lit × Lit) → IsXor g v u w x y one → IsXor g v a b p q other → u ≡ a
generating_one g once v u w a b x y p q one other h i =
    ⊎_elim (λ e. e.0)
    (λ e. absurd (one_generates g v u w h.generates (subst (λ z. IsGenerating g v z u) (sym e.1) (subst (λ z. IsGenerating g v a z) (sym e.0) i.generates))))
    (same_below g once v u w a b x y p q h.shape i.shape)

pub pair_one : (g : Aig) → IsDefinedOnce g → (v : ℕ) (p q : Lit × Lit) → IsXorOfPair g v p → IsXorOfPair g v q → p ≡ q
pair_one g once v p q h i = ⊎_elim straight crossed (same_below g once v h.0 h.1 i.0 i.1 h.2 h.3 i.2 i.3 h.4.shape i.4.shape)
  where
    straight : (h.0 ≡ i.0) × (h.1 ≡ i.1) → p ≡ q
    straight e =
        let gate = one_gate g.gates (gates_distinct g once) (λ k. p ≡ ordered_operands k) (λ k. q ≡ ordered_operands k) h.0 h.4.operands (subst (λ z. Any (λ k. (k.v ≡ z) × (q ≡ ordered_operands k)) g.gates) (sym e.0) i.4.operands) in
        gate.2 ∙ sym gate.3

    crossed : (h.0 ≡ i.1) × (h.1 ≡ i.0) → p ≡ q
    crossed e = absurd (one_generates g v h.0 h.1 h.4.generates (subst (λ z. IsGenerating g v z h.0) (sym e.1) (subst (λ z. IsGenerating g v i.0 z) (sym e.0) i.4.generates)))

pub pair_has_shape : (g : Aig) (v : ℕ) (p : Lit × Lit) → IsXorOfPair g v p → IsXorGate g v
pair_has_shape g v p h = (h.0, h.1, h.2, h.3, h.4.shape)
