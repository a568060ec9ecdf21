-- What is claimed on every evaluation holds for all values of the inputs, and of two operands it is their product.
use Rattle.std.specs.Prelude.{◌≡◌, ◌≢◌, ℕ, zero, suc, ◌+◌, ◌*◌, ◌%◌, ◌^◌, ◌<◌, Bool, true, false, List, [], ◌∷◌, ◌++◌, map, length, take, drop, ⊤}
use Rattle.std.specs.List.{All, AllByRecursion, AllPairs, Contains}
use Rattle.std.proofs.Common.{refl, sym, ap, ap₂, subst, ◌∙◌, arith, length-append, append-nil, mod-eq_of_lt, take-append-drop, append_assoc}
use Rattle.std.proofs.lemmas.List.Elements.{All-contains_itself, All-from_recursion, recursion_from_All, All-append}
use Rattle.std.proofs.lemmas.Nat.{mul-lt, pow-add}
use Rattle.graph_core.specs.declared.literal.Lit.{Lit}
use Rattle.graph_core.specs.declared.gate.Gate.{Gate}
use Rattle.graph_core.specs.declared.order.Order.{Order}
use Rattle.graph_core.specs.declared.order.Order.TheVariants.{Separate, Interleaved}
use Rattle.graph_core.specs.declared.widths.Widths.{Widths}
use Rattle.graph_core.specs.declared.widths.Widths.TheVariants.{Equal, Given as OfWidths}
use Rattle.graph_core.specs.Graph.Literals.{variable_of}
use Rattle.graph_core.specs.Graph.Assignments.{Assignment, literal, word}
use Rattle.graph_core.specs.Graph.{Aig, IsEvaluation, IsDefinedOnce, IsAcyclic, defined, of_inputs, evaluated, evaluation}
use Rattle.graph_core.specs.Graph.Operands.{HasMultiplierShape, width, sum_width, a_bits, b_bits, a_part, b_part, bits_of, inputs_of, sides_of, sides_for, claimed, output_modulus, operand_literals, value_at_inputs, EvaluationsSuffice, SidesReadInputs, ClaimIsProduct, WholeProducts, evens, odds, alternate, in_order, inputs_in, HasShapeFor, SidesAreInputs}
use Rattle.graph_core.proofs.OfGraphs.Evaluation.{Distinct, evaluation_is, rounds-free, finds_none}
use Rattle.graph_core.proofs.OfGraphs.OperandBits.{DistinctLits, inputs_are, word_is, number_of, number_of-bits_of, length-bits_of, length-alternate, evens-alternate, odds-alternate, map-evens, map-odds, map-take, map-drop}
use Rattle.graph_core.proofs.OfGraphs.OperandPlaces.{length-a_part, length-b_part, number_of-low, parts_are, alternate-parts}

-- no two numbers are one
abbrev pub Apart : List ℕ → Type 0
Apart [] = ⊤
Apart (x ∷ xs) = AllByRecursion (λ y. x ≢ y) xs × Apart xs

pub apart_from_pairs : (xs : List ℕ) → AllPairs ◌≢◌ xs → Apart xs
apart_from_pairs [] h = tt
apart_from_pairs (x ∷ xs) h =
    (recursion_from_All (λ y. x ≢ y) xs (λ k d l. h 0 (suc k) d (omega arith) (omega arith)), apart_from_pairs xs (λ i j d p q. h (suc i) (suc j) d (omega arith) (omega arith)))

all-map : {X Y : Type 0} (P : Y → Type 0) (f : X → Y) (xs : List X) → AllByRecursion P (map f xs) → AllByRecursion (λ x. P (f x)) xs
all-map P f [] h = tt
all-map P f (x ∷ xs) h = (h.0, all-map P f xs h.1)

all_left : {X : Type 0} (P : X → Type 0) (xs ys : List X) → AllByRecursion P (xs ++ ys) → AllByRecursion P xs
all_left P [] ys h = tt
all_left P (x ∷ xs) ys h = (h.0, all_left P xs ys h.1)

all_right : {X : Type 0} (P : X → Type 0) (xs ys : List X) → AllByRecursion P (xs ++ ys) → AllByRecursion P ys
all_right P [] ys h = h
all_right P (x ∷ xs) ys h = all_right P xs ys h.1

pub lits_apart : (ls : List Lit) (ys : List ℕ) → Apart (map variable_of ls ++ ys) → DistinctLits ls
lits_apart [] ys h = tt
lits_apart (l ∷ ls) ys h = (all-map (λ y. variable_of l ≢ y) variable_of ls (all_left (λ y. variable_of l ≢ y) (map variable_of ls) ys h.0), lits_apart ls ys h.1)

pub rest_apart : (xs ys : List ℕ) → Apart (xs ++ ys) → Apart ys
rest_apart [] ys h = h
rest_apart (x ∷ xs) ys h = rest_apart xs ys h.1

pub gates_distinct : (gates : List Gate) → Apart (map (λ x. x.v) gates) → Distinct gates
gates_distinct [] h = tt
gates_distinct (x ∷ gates) h = (all-map (λ y. x.v ≢ y) (λ y. y.v) gates h.0, gates_distinct gates h.1)

-- an input's variable keeps its value
inputs_kept : (gates : List Gate) (σ : Assignment) (ls : List Lit) → Apart (map variable_of ls ++ map (λ x. x.v) gates) →
    AllByRecursion (λ l. evaluation gates σ (variable_of l) ≡ σ (variable_of l)) ls
inputs_kept gates σ [] h = tt
inputs_kept gates σ (l ∷ ls) h = (
  rounds-free gates σ (length gates) (variable_of l)
      (finds_none gates (variable_of l) (all-map (λ y. variable_of l ≢ y) (λ x. x.v) gates (all_right (λ y. variable_of l ≢ y) (map variable_of ls) (map (λ x. x.v) gates) h.0))),
  inputs_kept gates σ ls h.1,
)

-- the inputs have the values that they were given
pub inputs_have : (g : Aig) (bits : List Bool) → IsDefinedOnce g → length g.inputs ≡ length bits → map (literal (evaluated g bits)) g.inputs ≡ bits
inputs_have g bits once same =
    let apart = apart_from_pairs (defined g) once.once in
    inputs_are (evaluated g bits) g.inputs bits same (lits_apart g.inputs (map (λ x. x.v) g.gates) apart) (recursion_from_All _ g.inputs once.inputs)
    (inputs_kept g.gates (of_inputs g.inputs bits) g.inputs apart)

pub evaluated_is : (g : Aig) (bits : List Bool) → IsDefinedOnce g → IsAcyclic g.gates → IsEvaluation g.gates (evaluated g bits)
evaluated_is g bits once acyclic =
    evaluation_is g.gates acyclic.0 acyclic.1
    (gates_distinct g.gates (rest_apart (map variable_of g.inputs) (map (λ x. x.v) g.gates) (apart_from_pairs (defined g) once.once))) once.gates (of_inputs g.inputs bits)

pub take-length-append : {X : Type 0} (xs ys : List X) → take (length xs) (xs ++ ys) ≡ xs
take-length-append [] ys = refl
take-length-append (x ∷ xs) ys = ap (λ zs. x ∷ zs) (take-length-append xs ys)

pub drop-length-append : {X : Type 0} (xs ys : List X) → drop (length xs) (xs ++ ys) ≡ ys
drop-length-append [] ys = refl
drop-length-append (x ∷ xs) ys = drop-length-append xs ys

pub length-inputs_of : (order : Order) (n a b : ℕ) → length (inputs_of order n a b) ≡ 2 * n
length-inputs_of Separate n a b = omega (arith, length-append (bits_of n a) (bits_of n b), length-bits_of n a, length-bits_of n b)
length-inputs_of Interleaved n a b = omega (arith, length-alternate (bits_of n a) (bits_of n b), length-bits_of n a, length-bits_of n b)

-- the inputs that stand for a have its bits
pub a_bits_have : (order : Order) (g : Aig) (σ : Assignment) (a b : ℕ) → map (literal σ) g.inputs ≡ inputs_of order (width g) a b → map (literal σ) (a_bits order g) ≡ bits_of (width g) a
a_bits_have Separate g σ a b h =
    map-take (literal σ) (width g) g.inputs ∙ ap (take (width g)) h ∙
    ap (λ k. take k (bits_of (width g) a ++ bits_of (width g) b)) (sym (length-bits_of (width g) a)) ∙ take-length-append (bits_of (width g) a) (bits_of (width g) b)
a_bits_have Interleaved g σ a b h =
    map-evens (literal σ) g.inputs ∙ ap evens h ∙ evens-alternate (bits_of (width g) a) (bits_of (width g) b) (length-bits_of (width g) a ∙ sym (length-bits_of (width g) b))

pub b_bits_have : (order : Order) (g : Aig) (σ : Assignment) (a b : ℕ) → map (literal σ) g.inputs ≡ inputs_of order (width g) a b → map (literal σ) (b_bits order g) ≡ bits_of (width g) b
b_bits_have Separate g σ a b h =
    map-drop (literal σ) (width g) g.inputs ∙ ap (drop (width g)) h ∙
    ap (λ k. drop k (bits_of (width g) a ++ bits_of (width g) b)) (sym (length-bits_of (width g) a)) ∙ drop-length-append (bits_of (width g) a) (bits_of (width g) b)
b_bits_have Interleaved g σ a b h =
    map-odds (literal σ) g.inputs ∙ ap odds h ∙ odds-alternate (bits_of (width g) a) (bits_of (width g) b) (length-bits_of (width g) a ∙ sym (length-bits_of (width g) b))

pub evaluations_suffice : EvaluationsSuffice
evaluations_suffice g s once acyclic meets bits same = meets (evaluated g bits) (evaluated_is g bits once acyclic)

-- ---- the operands under an order

taken_from : {X : Type 0} (P : X → Type 0) (n : ℕ) (xs : List X) → AllByRecursion P xs → AllByRecursion P (take n xs)
taken_from P zero xs h = tt
taken_from P (suc n) [] h = tt
taken_from P (suc n) (x ∷ xs) h = (h.0, taken_from P n xs h.1)

dropped_from : {X : Type 0} (P : X → Type 0) (n : ℕ) (xs : List X) → AllByRecursion P xs → AllByRecursion P (drop n xs)
dropped_from P zero xs h = h
dropped_from P (suc n) [] h = tt
dropped_from P (suc n) (x ∷ xs) h = dropped_from P n xs h.1

evens_from : {X : Type 0} (P : X → Type 0) (xs : List X) → AllByRecursion P xs → AllByRecursion P (evens xs)
evens_from P [] h = tt
evens_from P (x ∷ []) h = h
evens_from P (x ∷ y ∷ xs) h = (h.0, evens_from P xs h.1.1)

odds_from : {X : Type 0} (P : X → Type 0) (xs : List X) → AllByRecursion P xs → AllByRecursion P (odds xs)
odds_from P [] h = tt
odds_from P (x ∷ []) h = tt
odds_from P (x ∷ y ∷ xs) h = (h.1.0, odds_from P xs h.1.1)

a_part_from : {X : Type 0} (P : X → Type 0) (order : Order) (n : ℕ) (xs : List X) → AllByRecursion P xs → AllByRecursion P (a_part order n xs)
a_part_from P Separate n xs h = taken_from P n xs h
a_part_from P Interleaved n xs h = evens_from P xs h

b_part_from : {X : Type 0} (P : X → Type 0) (order : Order) (n : ℕ) (xs : List X) → AllByRecursion P xs → AllByRecursion P (b_part order n xs)
b_part_from P Separate n xs h = dropped_from P n xs h
b_part_from P Interleaved n xs h = odds_from P xs h

-- the three lists one after the other
three_from : {X : Type 0} (P : X → Type 0) (xs ys zs : List X) → AllByRecursion P xs → AllByRecursion P ys → AllByRecursion P zs → All P (xs ++ (ys ++ zs))
three_from P xs ys zs h k l =
    All-append P xs (ys ++ zs) (All-from_recursion P xs h) (All-append P ys zs (All-from_recursion P ys k) (All-from_recursion P zs l))

pub sides_read_inputs : SidesReadInputs
sides_read_inputs g k = go k.widths k.order
  where
    members : AllByRecursion (Contains g.inputs) g.inputs
    members = recursion_from_All (Contains g.inputs) g.inputs (All-contains_itself g.inputs)

    front : AllByRecursion (Contains g.inputs) (take (2 * sum_width g) g.inputs)
    front = taken_from (Contains g.inputs) (2 * sum_width g) g.inputs members

    rest : (a : ℕ) → AllByRecursion (Contains g.inputs) (drop a g.inputs)
    rest a = dropped_from (Contains g.inputs) a g.inputs members

    go : (w : Widths) (order : Order) → All (Contains g.inputs) (operand_literals (sides_for (record { order = order; sign = k.sign; widths = w }) g))
    go (Equal false) Separate =
        three_from (Contains g.inputs) (take (width g) g.inputs) (drop (width g) g.inputs) [] (taken_from (Contains g.inputs) (width g) g.inputs members) (rest (width g)) tt
    go (Equal false) Interleaved = three_from (Contains g.inputs) (evens g.inputs) (odds g.inputs) [] (evens_from (Contains g.inputs) g.inputs members) (odds_from (Contains g.inputs) g.inputs members) tt
    go (Equal true) order =
        three_from (Contains g.inputs) (a_part order (sum_width g) (take (2 * sum_width g) g.inputs)) (b_part order (sum_width g) (take (2 * sum_width g) g.inputs)) (drop (2 * sum_width g) g.inputs)
        (a_part_from (Contains g.inputs) order (sum_width g) (take (2 * sum_width g) g.inputs) front)
        (b_part_from (Contains g.inputs) order (sum_width g) (take (2 * sum_width g) g.inputs) front) (rest (2 * sum_width g))
    go (OfWidths a b add) order =
        three_from (Contains g.inputs) (take a g.inputs) (take b (drop a g.inputs)) (drop b (drop a g.inputs)) (taken_from (Contains g.inputs) a g.inputs members)
        (taken_from (Contains g.inputs) b (drop a g.inputs) (rest a)) (dropped_from (Contains g.inputs) b (drop a g.inputs) (rest a))

pub sides_are_inputs : SidesAreInputs
sides_are_inputs g k = go k.widths k.order
  where
    parts : (order : Order) (n : ℕ) (xs : List Lit) → in_order order (a_part order n xs) (b_part order n xs) ≡ xs
    parts Separate n xs = take-append-drop n xs
    parts Interleaved n xs = alternate-parts xs

    go : (w : Widths) (order : Order) → HasShapeFor w g → inputs_in (sides_for (record { order = order; sign = k.sign; widths = w }) g) ≡ g.inputs
    go (Equal false) Separate shape = append-nil (take (width g) g.inputs ++ drop (width g) g.inputs) ∙ take-append-drop (width g) g.inputs
    go (Equal false) Interleaved shape = append-nil (alternate (evens g.inputs) (odds g.inputs)) ∙ alternate-parts g.inputs
    go (Equal true) order shape =
        ap (λ xs. xs ++ drop (2 * sum_width g) g.inputs) (parts order (sum_width g) (take (2 * sum_width g) g.inputs)) ∙ take-append-drop (2 * sum_width g) g.inputs
    go (OfWidths a b add) order shape =
        append_assoc (take a g.inputs) (take b (drop a g.inputs)) (drop b (drop a g.inputs)) ∙
        ap (λ xs. take a g.inputs ++ xs) (take-append-drop b (drop a g.inputs)) ∙ take-append-drop a g.inputs

-- the operands are the numbers that the inputs stand for
pub a_is : (g : Aig) (order : Order) (a b : ℕ) → HasMultiplierShape g → IsDefinedOnce g → a < 2 ^ width g → word (evaluated g (inputs_of order (width g) a b)) (a_bits order g) ≡ a
a_is g order a b shape once below =
    let σ = evaluated g (inputs_of order (width g) a b) in
    let have = inputs_have g (inputs_of order (width g) a b) once (shape.inputs ∙ sym (length-inputs_of order (width g) a b)) in
    word_is σ (a_bits order g) ∙ ap number_of (a_bits_have order g σ a b have) ∙ number_of-bits_of (width g) a below

pub b_is : (g : Aig) (order : Order) (a b : ℕ) → HasMultiplierShape g → IsDefinedOnce g → b < 2 ^ width g → word (evaluated g (inputs_of order (width g) a b)) (b_bits order g) ≡ b
b_is g order a b shape once below =
    let σ = evaluated g (inputs_of order (width g) a b) in
    let have = inputs_have g (inputs_of order (width g) a b) once (shape.inputs ∙ sym (length-inputs_of order (width g) a b)) in
    word_is σ (b_bits order g) ∙ ap number_of (b_bits_have order g σ a b have) ∙ number_of-bits_of (width g) b below

-- what is claimed there is their product
pub claim_is : (g : Aig) (order : Order) (a b : ℕ) → HasMultiplierShape g → IsDefinedOnce g → a < 2 ^ width g → b < 2 ^ width g →
    claimed (output_modulus g) (sides_of order g) (evaluated g (inputs_of order (width g) a b)) ≡ a * b
claim_is g order a b shape once below_a below_b = ap₂ ◌*◌ (a_is g order a b shape once below_a) (b_is g order a b shape once below_b)

pub claim_is_product : ClaimIsProduct
claim_is_product g order shape once = (
  λ meets a b below_a below_b.
      meets (inputs_of order (width g) a b) (length-inputs_of order (width g) a b ∙ sym shape.inputs) ∙
      ap (λ x. x % output_modulus g) (claim_is g order a b shape once below_a below_b),
  λ multiplies bits same.
      let size : length bits ≡ 2 * width g = same ∙ shape.inputs in
      let a = number_of (a_part order (width g) bits) in
      let b = number_of (b_part order (width g) bits) in
      let below_a : a < 2 ^ width g = subst (λ k. a < 2 ^ k) (length-a_part order (width g) bits size) (number_of-low (a_part order (width g) bits)) in
      let below_b : b < 2 ^ width g = subst (λ k. b < 2 ^ k) (length-b_part order (width g) bits size) (number_of-low (b_part order (width g) bits)) in
      subst (λ xs. value_at_inputs g xs ≡ claimed (output_modulus g) (sides_of order g) (evaluated g xs) % output_modulus g) (sym (parts_are order (width g) bits size))
      (multiplies a b below_a below_b ∙ ap (λ x. x % output_modulus g) (sym (claim_is g order a b shape once below_a below_b))),
)

pub whole_products : WholeProducts
whole_products g order full = (
  λ multiplies a b below_a below_b. multiplies a b below_a below_b ∙ fits a b below_a below_b,
  λ whole a b below_a below_b. whole a b below_a below_b ∙ sym (fits a b below_a below_b),
)
  where
    fits : (a b : ℕ) → a < 2 ^ width g → b < 2 ^ width g → a * b % 2 ^ length g.outputs ≡ a * b
    fits a b below_a below_b =
        let below : a * b < 2 ^ width g * 2 ^ width g = mul-lt _ _ _ _ below_a below_b in
        let size : width g + width g ≡ length g.outputs = omega (arith, full) in
        mod-eq_of_lt (subst (λ z. a * b < z) (sym (pow-add 2 (width g) (width g)) ∙ ap (λ k. 2 ^ k) size) below)
