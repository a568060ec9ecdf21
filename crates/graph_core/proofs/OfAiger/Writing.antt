-- What is written for a graph spells it.
use Rattle.std.specs.Prelude.{◌≡◌, ◌≢◌, ℕ, zero, suc, ◌+◌, ◌*◌, ◌-◌, ◌/◌, ◌%◌, ◌<◌, ◌≤◌, ◌⊎◌, Bool, true, false, cond, List, [], ◌∷◌, ◌++◌, map, length, codes, nat_lt}
use Rattle.std.specs.List.{AllByRecursion, AllPairs, Contains, concat, flat_map}
use Rattle.std.proofs.Common.{refl, sym, ap, ap₂, subst, ◌∙◌, arith, append_assoc, append-nil, length-append, inl, inr, ⊎_elim, ltb-true}
use Rattle.std.proofs.lemmas.Bool.{ltb-false}
use Rattle.std.proofs.lemmas.List.{length-map}
use Rattle.std.proofs.lemmas.List.Sums.{fold_push}
use Rattle.std.proofs.lemmas.List.Elements.{All-from_recursion, recursion_from_All, All-append}
use Rattle.graph_core.specs.declared.bounds.TheConstants.{MOST_VARIABLES, MOST_OUTPUTS}
use Rattle.graph_core.specs.declared.literal.Lit.{Lit}
use Rattle.graph_core.specs.declared.gate.Gate.{Gate}
use Rattle.graph_core.specs.declared.profile.Profile.{Profile}
use Rattle.graph_core.specs.declared.profile.Profile.TheVariants.{Multiplier, MultiplyAdd, Given, Any}
use Rattle.graph_core.specs.Graph.Literals.{variable_of}
use Rattle.graph_core.specs.Text.{IsDigit, IsNumeral, IsLine, AreLines, decimal}
use Rattle.graph_core.specs.Graph.{Aig, IsWellFormed, IsAcyclic, greater_first, SameUpToOperands, read_literals, defined}
use Rattle.graph_core.specs.Aiger.{graph_of, body, IsGroups, AreBinaryGates, ArePackedGates, IsPacked, most_inputs, most_outputs, HasCounts, IsFaultless, Lists}
use Rattle.graph_core.specs.Aiger.Writing.{digits_upto, numeral, number_line, written_gate, written, header_of, ascii_text, groups_upto, gate_bytes, binary_text, AsciiTextSpells, BinaryTextSpells}
use Rattle.graph_core.proofs.OfTexts.Numerals.{not_below}
use Rattle.graph_core.proofs.OfGraphs.Levels.{In, all_in, all_from_in}
use Rattle.graph_core.proofs.OfGraphs.Faults.{in_left, in_right, in_parts}
use Rattle.graph_core.proofs.OfAiger.GivenWidths.{few_given_outputs}
use Rattle.graph_core.proofs.OfAiger.Packed.{packed_is_faultless}

-- ---- numerals

-- the numbers below 10 ^ (k + 1)
abbrev IsShort : ℕ → ℕ → Type 0
IsShort zero n = n < 10
IsShort (suc k) n = IsShort k (n / 10)

digit_ok : (n : ℕ) → n < 10 → IsDigit (48 + n)
digit_ok n h = (omega arith, omega arith)

one_digit : (d n : ℕ) → n < 10 → IsNumeral (suc d) ((48 + n) ∷ []) n
one_digit d n h = record { some = omega arith; few = omega arith; digits = All-from_recursion IsDigit ((48 + n) ∷ []) (digit_ok n h, tt); number = omega arith }

more_digits : (d n : ℕ) (front : List ℕ) → IsNumeral (suc d) front (n / 10) → IsNumeral (suc (suc d)) (front ++ (48 + n % 10) ∷ []) n
more_digits d n front h =
    let some = h.some in
    let few = h.few in
    let long = length-append front ((48 + n % 10) ∷ []) in
    let pushed : decimal (front ++ (48 + n % 10) ∷ []) ≡ 10 * decimal front + (48 + n % 10 - 48) = fold_push (λ m b. 10 * m + (b - 48)) 0 front (48 + n % 10) in
    let number = h.number in
    record {
      some = omega arith;
      few = omega arith;
      digits = All-append IsDigit front ((48 + n % 10) ∷ []) h.digits (All-from_recursion IsDigit ((48 + n % 10) ∷ []) (digit_ok (n % 10) (omega arith), tt));
      number = omega arith;
    }

digits_spell : (k n : ℕ) → IsShort k n → IsNumeral (suc k) (digits_upto k n) n
digits_spell zero n h = one_digit 0 n h
digits_spell (suc k) n h = go (nat_lt n 10) refl (digits_spell k (n / 10) h)
  where
    go : (b : Bool) → nat_lt n 10 ≡ b → IsNumeral (suc k) (digits_upto k (n / 10)) (n / 10) → IsNumeral (suc (suc k)) (cond b ((48 + n) ∷ []) (digits_upto k (n / 10) ++ (48 + n % 10) ∷ [])) n
    go true e more = one_digit (suc k) n (ltb-true n 10 e)
    go false e more = more_digits k n (digits_upto k (n / 10)) more

-- the numbers of a graph are below 2 ^ 24
abbrev IsSmall : ℕ → Type 0
IsSmall n = n < 16777216

numeral_spells : (n : ℕ) → IsSmall n → IsNumeral 10 (numeral n) n
numeral_spells n h = digits_spell 9 n (omega arith)

-- ---- lines

line_spells : (ns : List ℕ) → 0 < length ns → AllByRecursion IsSmall ns → IsLine (number_line ns) ns
line_spells [] some h = absurd (omega arith)
line_spells (n ∷ []) some h = (numeral n, numeral_spells n h.0, refl)
line_spells (n ∷ k ∷ ns) some h = (numeral n, number_line (k ∷ ns), numeral_spells n h.0, line_spells (k ∷ ns) (omega arith) h.1, refl)

abbrev IsGood : List ℕ → Type 0
IsGood ns = (0 < length ns) × AllByRecursion IsSmall ns

lines_spell : (lines : List (List ℕ)) (after : List ℕ) → AllByRecursion IsGood lines → AreLines (concat (map number_line lines) ++ after) lines after
lines_spell [] after h = refl
lines_spell (ns ∷ lines) after h =
    (number_line ns, concat (map number_line lines) ++ after, line_spells ns h.0.0 h.0.1, lines_spell lines after h.1, append_assoc (number_line ns) (concat (map number_line lines)) after)

-- ---- groups

abbrev IsNarrow : ℕ → ℕ → Type 0
IsNarrow zero n = n < 128
IsNarrow (suc k) n = IsNarrow k (n / 128)

groups_spell : (k n : ℕ) → IsNarrow k n → IsGroups (groups_upto k n) n × (length (groups_upto k n) ≤ suc k)
groups_spell zero n h = ((h, refl), omega arith)
groups_spell (suc k) n h = go (nat_lt n 128) refl (groups_upto k (n / 128)) (groups_spell k (n / 128) h)
  where
    go : (b : Bool) → nat_lt n 128 ≡ b → (high : List ℕ) → IsGroups high (n / 128) × (length high ≤ suc k) → IsGroups (cond b (n ∷ []) ((128 + n % 128) ∷ high)) n × (length (cond b (n ∷ []) ((128 + n % 128) ∷ high)) ≤ suc (suc k))
    go true e high more = ((ltb-true n 128 e, refl), omega arith)
    go false e [] more = absurd (more.0)
    go false e (c ∷ high) more = let few = more.1 in ((omega arith, omega arith, n / 128, omega arith, more.0), omega arith)

number_spells : (n : ℕ) → IsSmall n → IsGroups (groups_upto 4 n) n × (length (groups_upto 4 n) ≤ 5)
number_spells n h = groups_spell 4 n (omega arith)

-- gates in order, each with its greater operand first
abbrev AreSorted : ℕ → List (Lit × Lit × Lit) → Type 0
AreSorted left [] = Unit {0}
AreSorted left (t ∷ ts) = (t.0.0 ≡ left) × (t.1.0 < left) × (t.2.0 ≤ t.1.0) × IsSmall left × AreSorted (left + 2) ts

gates_spell : (left : ℕ) (ts : List (Lit × Lit × Lit)) → AreSorted left ts → AreBinaryGates left (concat (map gate_bytes ts)) ts []
gates_spell left [] h = refl
gates_spell left (t ∷ ts) h =
    let at = h.0 in
    let below = h.1 in
    let sorted = h.2 in
    let small = h.3 in
    let first = number_spells (t.0.0 - t.1.0) (omega arith) in
    let second = number_spells (t.1.0 - t.2.0) (omega arith) in (
      groups_upto 4 (t.0.0 - t.1.0),
      groups_upto 4 (t.1.0 - t.2.0),
      concat (map gate_bytes ts),
      t.0.0 - t.1.0,
      t.1.0 - t.2.0,
      first.1,
      second.1,
      first.0,
      second.0,
      at,
      omega arith,
      omega arith,
      omega arith,
      gates_spell (left + 2) ts h.4,
      refl,
    )

-- ---- the graph that is written

-- the gate of what is written for a gate
abbrev sorted : Gate → Gate
sorted x = record { v = variable_of (written_gate x).0; left = (written_gate x).1; right = (written_gate x).2 }

abbrev swapped : Gate → Gate
swapped x = record { v = x.v; left = x.right; right = x.left }

half : (v : ℕ) → 2 * v / 2 ≡ v
half v = omega arith

sorted_cases : (x : Gate) → (sorted x ≡ greater_first x) × ((greater_first x ≡ x) ⊎ (greater_first x ≡ swapped x)) × ((greater_first x).right.0 ≤ (greater_first x).left.0)
sorted_cases x = go (nat_lt x.left.0 x.right.0) refl
  where
    go : (b : Bool) → nat_lt x.left.0 x.right.0 ≡ b →
        (◌≡◌ {A = Gate} (record { v = 2 * x.v / 2; left = (cond b (swapped x) x).left; right = (cond b (swapped x) x).right }) (cond b (swapped x) x)) ×
        ((cond b (swapped x) x ≡ x) ⊎ (cond b (swapped x) x ≡ swapped x)) × ((cond b (swapped x) x).right.0 ≤ (cond b (swapped x) x).left.0)
    go true e = let less = ltb-true x.left.0 x.right.0 e in (ap (λ n. record { v = n; left = x.right; right = x.left }) (half x.v), inr refl, omega arith)
    go false e = (ap (λ n. record { v = n; left = x.left; right = x.right }) (half x.v), inl refl, ltb-false x.left.0 x.right.0 e)

-- a gate as it is, or with its operands swapped
sorted_or : (x : Gate) → (sorted x ≡ x) ⊎ (sorted x ≡ swapped x)
sorted_or x = let c = sorted_cases x in ⊎_elim (λ e. inl (c.0 ∙ e)) (λ e. inr (c.0 ∙ e)) c.1

sorted_v : (x : Gate) → (sorted x).v ≡ x.v
sorted_v x = half x.v

greater_twice : (x : Gate) → greater_first (greater_first x) ≡ greater_first x
greater_twice x = let c = sorted_cases x in ap (λ b. cond b (swapped (greater_first x)) (greater_first x)) (not_below (greater_first x).left.0 (greater_first x).right.0 c.2)

same_gates : (xs : List Gate) → map greater_first xs ≡ map greater_first (map sorted xs)
same_gates [] = refl
same_gates (x ∷ xs) = ap₂ ◌∷◌ (sym (greater_twice x) ∙ ap greater_first (sym (sorted_cases x).0)) (same_gates xs)

graph_gates : (xs : List Gate) → map (λ t. record { v = variable_of t.0; left = t.1; right = t.2 }) (map written_gate xs) ≡ map sorted xs
graph_gates [] = refl
graph_gates (x ∷ xs) = ap (λ ys. sorted x ∷ ys) (graph_gates xs)

same_graph : (g : Aig) → SameUpToOperands g (graph_of (written g))
same_graph g = (refl, refl, refl, same_gates g.gates ∙ ap (map greater_first) (sym (graph_gates g.gates)))

-- ---- it is well formed

sorted_all : (P Q : Gate → Type 0) → ((x : Gate) → P x → Q (sorted x)) → (xs : List Gate) → AllByRecursion P xs → AllByRecursion Q (map sorted xs)
sorted_all P Q f [] h = tt
sorted_all P Q f (x ∷ xs) h = (f x h.0, sorted_all P Q f xs h.1)

abbrev operands : Gate → List Lit
operands x = x.left ∷ x.right ∷ []

one_operand : (l : Lit) (x : Gate) (here there : List Lit) → (In l here → In l there) → In l (operands (sorted x) ++ here) → In l (operands x ++ there)
one_operand l x here there more h = ⊎_elim (λ e. straight (subst (λ y. In l (operands y ++ here)) e h)) (λ e. crossed (subst (λ y. In l (operands y ++ here)) e h)) (sorted_or x)
  where
    straight : In l (x.left ∷ x.right ∷ here) → In l (x.left ∷ x.right ∷ there)
    straight (inl e) = inl e
    straight (inr (inl e)) = inr (inl e)
    straight (inr (inr i)) = inr (inr (more i))

    crossed : In l (x.right ∷ x.left ∷ here) → In l (x.left ∷ x.right ∷ there)
    crossed (inl e) = inr (inl e)
    crossed (inr (inl e)) = inl e
    crossed (inr (inr i)) = inr (inr (more i))

operands_in : (l : Lit) (xs : List Gate) → In l (flat_map operands (map sorted xs)) → In l (flat_map operands xs)
operands_in l [] h = absurd h
operands_in l (x ∷ xs) h = one_operand l x (flat_map operands (map sorted xs)) (flat_map operands xs) (operands_in l xs) h

sorted_variables : (xs : List Gate) → map (λ x. x.v) (map sorted xs) ≡ map (λ x. x.v) xs
sorted_variables [] = refl
sorted_variables (x ∷ xs) = ap₂ ◌∷◌ (sorted_v x) (sorted_variables xs)

abbrev with_sorted : Aig → Aig
with_sorted g = record { max = g.max; inputs = g.inputs; outputs = g.outputs; gates = map sorted g.gates }

module _ (g : Aig) (w : IsWellFormed g) where
  read_in : (l : Lit) → In l (read_literals (with_sorted g)) → In l (read_literals g)
  read_in l i =
      ⊎_elim (λ j. in_left l g.outputs (flat_map operands g.gates) j) (λ j. in_right l g.outputs (flat_map operands g.gates) (operands_in l g.gates j))
      (in_parts l g.outputs (flat_map operands (map sorted g.gates)) i)

  all_in_g : (l : Lit) → In l (g.inputs ++ read_literals (with_sorted g)) → In l (g.inputs ++ read_literals g)
  all_in_g l i =
      ⊎_elim (λ j. in_left l g.inputs (read_literals g) j) (λ j. in_right l g.inputs (read_literals g) (read_in l j)) (in_parts l g.inputs (read_literals (with_sorted g)) i)

  same_defined : defined g ≡ defined (with_sorted g)
  same_defined = ap (λ vs. map variable_of g.inputs ++ vs) (sym (sorted_variables g.gates))

  abbrev IsLow : Lit → Type 0
  IsLow l = l.0 ≤ 2 * g.max + 1

  abbrev IsKnown : List ℕ → Lit → Type 0
  IsKnown vs l = (variable_of l ≡ 0) ⊎ Contains vs (variable_of l)

  sorted_acyclic : IsAcyclic (map sorted g.gates)
  sorted_acyclic =
      let number = w.acyclic.0 in
      let order = w.acyclic.1 in (
        w.acyclic.0,
        record {
          left = All-from_recursion (λ x. w.acyclic.0 (variable_of x.left) < w.acyclic.0 x.v) (map sorted g.gates) (lefts g.gates (recursion_from_All _ g.gates order.left) (recursion_from_All _ g.gates order.right));
          right = All-from_recursion (λ x. w.acyclic.0 (variable_of x.right) < w.acyclic.0 x.v) (map sorted g.gates) (rights g.gates (recursion_from_All _ g.gates order.left) (recursion_from_All _ g.gates order.right));
          few = All-from_recursion (λ x. w.acyclic.0 x.v ≤ length (map sorted g.gates)) (map sorted g.gates)
              (sorted_all (λ x. w.acyclic.0 x.v ≤ length g.gates) (λ x. w.acyclic.0 x.v ≤ length (map sorted g.gates)) (λ x h. let e = ap w.acyclic.0 (sorted_v x) in let len = length-map g.gates sorted in omega arith) g.gates (recursion_from_All _ g.gates order.few));
        },
      )
    where
      lefts : (xs : List Gate) → AllByRecursion (λ x. w.acyclic.0 (variable_of x.left) < w.acyclic.0 x.v) xs → AllByRecursion (λ x. w.acyclic.0 (variable_of x.right) < w.acyclic.0 x.v) xs →
          AllByRecursion (λ x. w.acyclic.0 (variable_of x.left) < w.acyclic.0 x.v) (map sorted xs)
      lefts [] a b = tt
      lefts (x ∷ xs) a b = (
        ⊎_elim (λ e. subst (λ y. w.acyclic.0 (variable_of y.left) < w.acyclic.0 y.v) (sym e) a.0) (λ e. subst (λ y. w.acyclic.0 (variable_of y.left) < w.acyclic.0 y.v) (sym e) b.0) (sorted_or x),
        lefts xs a.1 b.1,
      )

      rights : (xs : List Gate) → AllByRecursion (λ x. w.acyclic.0 (variable_of x.left) < w.acyclic.0 x.v) xs → AllByRecursion (λ x. w.acyclic.0 (variable_of x.right) < w.acyclic.0 x.v) xs →
          AllByRecursion (λ x. w.acyclic.0 (variable_of x.right) < w.acyclic.0 x.v) (map sorted xs)
      rights [] a b = tt
      rights (x ∷ xs) a b = (
        ⊎_elim (λ e. subst (λ y. w.acyclic.0 (variable_of y.right) < w.acyclic.0 y.v) (sym e) b.0) (λ e. subst (λ y. w.acyclic.0 (variable_of y.right) < w.acyclic.0 y.v) (sym e) a.0) (sorted_or x),
        rights xs a.1 b.1,
      )

  sorted_well : IsWellFormed (with_sorted g)
  sorted_well = record {
    in_range = All-from_recursion IsLow (g.inputs ++ read_literals (with_sorted g)) (all_from_in IsLow (g.inputs ++ read_literals (with_sorted g))
        (λ l i. all_in IsLow (g.inputs ++ read_literals g) l (recursion_from_All IsLow (g.inputs ++ read_literals g) w.in_range) (all_in_g l i)));
    gates_in_range = All-from_recursion (λ x. x.v ≤ g.max) (map sorted g.gates)
        (sorted_all (λ x. x.v ≤ g.max) (λ x. x.v ≤ g.max) (λ x h. subst (λ v. v ≤ g.max) (sym (sorted_v x)) h) g.gates (recursion_from_All (λ x. x.v ≤ g.max) g.gates w.gates_in_range));
    defined_once = record {
      inputs = w.defined_once.inputs;
      gates = All-from_recursion (λ x. 0 < x.v) (map sorted g.gates)
          (sorted_all (λ x. 0 < x.v) (λ x. 0 < x.v) (λ x h. subst (λ v. 0 < v) (sym (sorted_v x)) h) g.gates (recursion_from_All (λ x. 0 < x.v) g.gates w.defined_once.gates));
      once = subst (AllPairs ◌≢◌) same_defined w.defined_once.once;
    };
    known = All-from_recursion (IsKnown (defined (with_sorted g))) (read_literals (with_sorted g)) (all_from_in (IsKnown (defined (with_sorted g))) (read_literals (with_sorted g))
        (λ l i. subst (λ vs. IsKnown vs l) same_defined (all_in (IsKnown (defined g)) (read_literals g) l (recursion_from_All (IsKnown (defined g)) (read_literals g) w.known) (read_in l i))));
    acyclic = sorted_acyclic;
  }

even_lefts : (xs : List Gate) → AllByRecursion (λ t. t.0.0 % 2 ≡ 0) (map written_gate xs)
even_lefts [] = tt
even_lefts (x ∷ xs) = (omega arith, even_lefts xs)

written_faultless : (g : Aig) → IsWellFormed g → IsFaultless (written g)
written_faultless g w = record {
  left = All-from_recursion (λ t. t.0.0 % 2 ≡ 0) (written g).gates (even_lefts g.gates);
  graph = subst (λ xs. IsWellFormed (record { max = g.max; inputs = g.inputs; outputs = g.outputs; gates = xs })) (sym (graph_gates g.gates)) (sorted_well g w);
}

-- ---- the texts

small_lit : (max : ℕ) (l : Lit) → max ≤ MOST_VARIABLES → l.0 ≤ 2 * max + 1 → IsSmall l.0
small_lit max l a b = omega arith

singles_good : (ls : List Lit) → AllByRecursion (λ l. IsSmall l.0) ls → AllByRecursion IsGood (map (λ l. l.0 ∷ []) ls)
singles_good [] h = tt
singles_good (l ∷ ls) h = ((omega arith, (h.0, tt)), singles_good ls h.1)

good_append : (xs ys : List (List ℕ)) → AllByRecursion IsGood xs → AllByRecursion IsGood ys → AllByRecursion IsGood (xs ++ ys)
good_append [] ys a b = b
good_append (x ∷ xs) ys a b = (a.0, good_append xs ys a.1 b)

few_outputs : (p : Profile) (i : ℕ) → i ≤ most_inputs p → most_outputs p i ≤ MOST_OUTPUTS
few_outputs Multiplier i h = omega (arith, h)
few_outputs MultiplyAdd i h = omega (arith, h)
few_outputs (Given a b add) i h = few_given_outputs a b add i h
few_outputs Any i h = omega arith

header_good : (p : Profile) (g : Aig) → HasCounts p (written g) → IsGood (header_of g)
header_good p g c =
    let max = c.max in
    let outs = c.outputs in
    let most = few_outputs p (length g.inputs) c.few in
    let room = c.room in
    let len = length-map g.gates written_gate in
    (omega arith, (omega arith, (omega arith, (omega arith, (omega arith, (omega arith, tt))))))

header_is : (g : Aig) → header_of g ≡ ((written g).max ∷ length (written g).inputs ∷ 0 ∷ length (written g).outputs ∷ length (written g).gates ∷ []) ++ []
header_is g = ap (λ n. g.max ∷ length g.inputs ∷ 0 ∷ length g.outputs ∷ n ∷ []) (sym (length-map g.gates written_gate))

triples_good : (max : ℕ) (xs : List Gate) → max ≤ MOST_VARIABLES → AllByRecursion (λ x. x.v ≤ max) xs → AllByRecursion (λ l. l.0 ≤ 2 * max + 1) (flat_map operands (map sorted xs)) → AllByRecursion IsGood (map (λ t. t.0.0 ∷ t.1.0 ∷ t.2.0 ∷ []) (map written_gate xs))
triples_good max [] a v l = tt
triples_good max (x ∷ xs) a v l =
    let below = v.0 in
    ((omega arith, (omega arith, (small_lit max (sorted x).left a l.0, (small_lit max (sorted x).right a l.1.0, tt)))), triples_good max xs a v.1 l.1.1)

small_all : (max : ℕ) (ls : List Lit) → max ≤ MOST_VARIABLES → AllByRecursion (λ l. l.0 ≤ 2 * max + 1) ls → AllByRecursion (λ l. IsSmall l.0) ls
small_all max [] a h = tt
small_all max (l ∷ ls) a h = (small_lit max l a h.0, small_all max ls a h.1)

pub ascii_text_spells : AsciiTextSpells
ascii_text_spells p g w c =
    let max : g.max ≤ MOST_VARIABLES = c.max in
    let well = sorted_well g w in
    let low : (l : Lit) → In l (g.inputs ++ read_literals (with_sorted g)) → l.0 ≤ 2 * g.max + 1 =
    λ l i. all_in (λ x. x.0 ≤ 2 * g.max + 1) (g.inputs ++ read_literals (with_sorted g)) l (recursion_from_All (λ x. x.0 ≤ 2 * g.max + 1) (g.inputs ++ read_literals (with_sorted g)) well.in_range) i in
    let inputs = all_from_in (λ l. l.0 ≤ 2 * g.max + 1) g.inputs (λ l i. low l (in_left l g.inputs (read_literals (with_sorted g)) i)) in
    let outputs = all_from_in (λ l. l.0 ≤ 2 * g.max + 1) g.outputs (λ l i. low l (in_right l g.inputs (read_literals (with_sorted g)) (in_left l g.outputs (flat_map operands (map sorted g.gates)) i))) in
    let reads = all_from_in (λ l. l.0 ≤ 2 * g.max + 1) (flat_map operands (map sorted g.gates)) (λ l i. low l (in_right l g.inputs (read_literals (with_sorted g)) (in_right l g.outputs (flat_map operands (map sorted g.gates)) i))) in
    let gates = triples_good g.max g.gates max (recursion_from_All (λ x. x.v ≤ g.max) g.gates w.gates_in_range) reads in
    (graph_of (written g), (written g, ascii_lists p g c (singles_good g.inputs (small_all g.max g.inputs max inputs)) (singles_good g.outputs (small_all g.max g.outputs max outputs)) gates, written_faultless g w, refl), same_graph g)
  where
    ascii_lists : (p : Profile) (g : Aig) → HasCounts p (written g) → AllByRecursion IsGood (map (λ l. l.0 ∷ []) g.inputs) → AllByRecursion IsGood (map (λ l. l.0 ∷ []) g.outputs) →
        AllByRecursion IsGood (map (λ t. t.0.0 ∷ t.1.0 ∷ t.2.0 ∷ []) (map written_gate g.gates)) → Lists p (ascii_text g) (written g)
    ascii_lists p g c a b d =
        let lines : List (List ℕ) = header_of g ∷ body (written g) in
        let good : AllByRecursion IsGood (header_of g ∷ body (written g)) =
        (header_good p g c, good_append (map (λ l. l.0 ∷ []) g.inputs ++ map (λ l. l.0 ∷ []) g.outputs) (map (λ t. t.0.0 ∷ t.1.0 ∷ t.2.0 ∷ []) (map written_gate g.gates)) (good_append (map (λ l. l.0 ∷ []) g.inputs) (map (λ l. l.0 ∷ []) g.outputs) a b) d) in (
          [],
          ([], [], tt, tt, refl),
          c,
          inl (
            header_of g,
            concat (map number_line (header_of g ∷ body (written g))),
            ([], omega arith, tt, header_is g),
            subst (λ ys. AreLines ys (header_of g ∷ body (written g)) []) (append-nil (concat (map number_line (header_of g ∷ body (written g))))) (lines_spell (header_of g ∷ body (written g)) [] good),
            refl,
          ),
        )

-- packed gates are sorted once they are written
packed_sorted : (max left : ℕ) (xs : List Gate) → max ≤ MOST_VARIABLES → left + 2 * length xs ≤ 2 * max + 2 → ArePackedGates left (map written_gate xs) → AreSorted left (map written_gate xs)
packed_sorted max left [] a b h = tt
packed_sorted max left (x ∷ xs) a b h = (h.0, h.1, (sorted_cases x).2, omega arith, packed_sorted max (left + 2) xs a (omega arith) h.3)

pub binary_text_spells : BinaryTextSpells
binary_text_spells p g packed c =
    let max : g.max ≤ MOST_VARIABLES = c.max in
    let full : g.max ≡ length g.inputs + length (map written_gate g.gates) = packed.max in
    let len : length (map written_gate g.gates) ≡ length g.gates = length-map g.gates written_gate in
    let gates = packed_sorted g.max (2 * length g.inputs + 2) g.gates max (omega arith) packed.gates in
    let outputs = singles_good g.outputs (small_all g.max g.outputs max (recursion_from_All (λ l. l.0 ≤ 2 * g.max + 1) g.outputs packed.outputs)) in
    (graph_of (written g), (written g, binary_lists p g packed c outputs gates, packed_is_faultless (written g) packed, refl), same_graph g)
  where
    binary_lists : (p : Profile) (g : Aig) → IsPacked (written g) → HasCounts p (written g) → AllByRecursion IsGood (map (λ l. l.0 ∷ []) g.outputs) → AreSorted (2 * length g.inputs + 2) (map written_gate g.gates) → Lists p (binary_text g) (written g)
    binary_lists p g packed c b d =
        let after : List ℕ = concat (map gate_bytes (map written_gate g.gates)) in (
          [],
          ([], [], tt, tt, refl),
          c,
          inr (
            (
              header_of g,
              concat (map number_line (header_of g ∷ map (λ l. l.0 ∷ []) g.outputs)) ++ concat (map gate_bytes (map written_gate g.gates)),
              concat (map gate_bytes (map written_gate g.gates)),
              ([], omega arith, tt, header_is g),
              packed.inputs,
              lines_spell (header_of g ∷ map (λ l. l.0 ∷ []) g.outputs) (concat (map gate_bytes (map written_gate g.gates))) (header_good p g c, b),
              gates_spell (2 * length g.inputs + 2) (map written_gate g.gates) d,
              append_assoc (codes "aig ") (concat (map number_line (header_of g ∷ map (λ l. l.0 ∷ []) g.outputs))) (concat (map gate_bytes (map written_gate g.gates))),
            ),
            packed.max,
          ),
        )
