-- The bits of words as truth values, lane by lane.
use Rattle.std.specs.Prelude.{◌≡◌, ◌≢◌, ℕ, zero, suc, ◌+◌, ◌-◌, ◌%◌, ◌<◌, ◌^◌, Bool, true, false, not, ◌&&◌, List, [], ◌∷◌, ◌++◌, take, replicate, length, get_or, slice_set, ◌==◌, min, ◌⊎◌}
use Rattle.std.specs.Int.{bit_at, bit_not}
use Rattle.std.specs.Int.Bits.{bit_and}
use Rattle.std.proofs.Common.{refl, sym, ap, ap₂, subst, ◌∙◌, arith, inl, inr, ⊎_elim, true≢false, w64}
use Rattle.std.proofs.lemmas.Bool.{cases_lt}
use Rattle.std.proofs.lemmas.List.{map-set, get_or-map, length-map, set-get_or, take_more, take_more_set, get_or_past, get_or-replicate, length-replicate, length_push, get_or_append_left, get_or_push}
use Rattle.std.proofs.lemmas.Nat.Bits.{bit_at_and, bit_at_not, bit_at-lt, bit_at-zero}
use Rattle.graph_core.specs.declared.Lit.{Lit}
use Rattle.graph_core.specs.Graph.Literals.{variable_of}
use Rattle.graph_core.specs.Graph.Assignments.{Assignment, variable, literal, listed, word}
use Rattle.graph_core.specs.Graph.{Aig, evaluated}
use Rattle.graph_core.specs.Graph.Operands.{Sides, inputs_at, value_at_inputs}
use Rattle.graph_core.specs.declared.numbers.Numbers.{Numbers}
use Rattle.graph_core.proofs.OfGraphs.CallerLemmas.{literal-even, literal-odd, word_is_evaluated}
use Rattle.operand_search.specs.Lanes.{truth, lane, AreWords, AreLanes, StandFor}

zero_or_one : (n : ℕ) → n < 2 → (n ≡ 0) ⊎ (n ≡ 1)
zero_or_one n h = ⊎_elim (λ lt. inl (omega arith)) (λ ge. inr (omega arith)) (cases_lt n 1)

min_truth : (m n : ℕ) → m < 2 → n < 2 → (min m n == 1) ≡ ((m == 1) && (n == 1))
min_truth m n a b =
    ⊎_elim
    (λ e. ⊎_elim (λ f. ap₂ (λ x y. min x y == 1) e f ∙ sym (ap₂ (λ x y. (x == 1) && (y == 1)) e f)) (λ f. ap₂ (λ x y. min x y == 1) e f ∙ sym (ap₂ (λ x y. (x == 1) && (y == 1)) e f)) (zero_or_one n b))
    (λ e. ⊎_elim (λ f. ap₂ (λ x y. min x y == 1) e f ∙ sym (ap₂ (λ x y. (x == 1) && (y == 1)) e f)) (λ f. ap₂ (λ x y. min x y == 1) e f ∙ sym (ap₂ (λ x y. (x == 1) && (y == 1)) e f)) (zero_or_one n b))
    (zero_or_one m a)

pub truth_and : (a b i : ℕ) → truth i (bit_and a b) ≡ (truth i a && truth i b)
truth_and a b i = ap (λ n. n == 1) (bit_at_and a b i) ∙ min_truth (bit_at a i) (bit_at b i) (bit_at-lt a i) (bit_at-lt b i)

one_less : (n : ℕ) → n < 2 → (1 - n == 1) ≡ not (n == 1)
one_less n h =
    ⊎_elim (λ e. ap (λ x. 1 - x == 1) e ∙ sym (ap (λ x. not (x == 1)) e)) (λ e. ap (λ x. 1 - x == 1) e ∙ sym (ap (λ x. not (x == 1)) e)) (zero_or_one n h)

pub truth_not : (a i : ℕ) → a < 2 ^ 64 → i < 64 → truth i (bit_not w64 a) ≡ not (truth i a)
truth_not a i low within = ap (λ n. n == 1) (bit_at_not w64 a i low within) ∙ one_less (bit_at a i) (bit_at-lt a i)

pub truth-zero : (i : ℕ) → truth i 0 ≡ false
truth-zero i = ap (λ n. n == 1) (bit_at-zero i)

-- a lane's value at a place
pub lane_at : (i : ℕ) (words : List ℕ) (v : ℕ) → get_or (lane i words) v false ≡ truth i (get_or words v 0)
lane_at i words v =
    ⊎_elim (λ lt. get_or-map (truth i) words v 0 false lt)
    (λ ge. get_or_past (lane i words) v false (omega (arith, length-map words (truth i))) ∙ sym (ap (truth i) (get_or_past words v 0 ge) ∙ truth-zero i))
    (cases_lt v (length words))

pub lane_set : (i : ℕ) (words : List ℕ) (k w : ℕ) → lane i (slice_set words k w) ≡ slice_set (lane i words) k (truth i w)
lane_set i words k w = map-set (truth i) words k w

-- a write that keeps a lane's bit
pub lane_kept : (i : ℕ) (words : List ℕ) (k w : ℕ) → truth i w ≡ truth i (get_or words k 0) → lane i (slice_set words k w) ≡ lane i words
lane_kept i words k w e =
    lane_set i words k w ∙ ap (slice_set (lane i words) k) (e ∙ sym (lane_at i words k)) ∙ set-get_or (lane i words) k false

-- one more bit of a lane
pub lane_more : (i : ℕ) (words : List ℕ) (bits : List Bool) (k w : ℕ) → k < length words → k < length bits → take k (lane i words) ≡ take k bits → truth i w ≡ get_or bits k false →
    take (k + 1) (lane i (slice_set words k w)) ≡ take (k + 1) bits
lane_more i words bits k w low within front e =
    ap (take (k + 1)) (lane_set i words k w) ∙ take_more_set (lane i words) k (truth i w) (omega (arith, length-map words (truth i))) ∙
    ap₂ (λ xs b. xs ++ b ∷ []) front e ∙ sym (take_more bits k false within)

-- ---- literals

plain_value : (σ : Assignment) → σ 0 ≡ false → (v : ℕ) → variable σ v ≡ σ v
plain_value σ constant zero = sym constant
plain_value σ constant (suc v) = refl

-- the words of a literal and of its variable
pub literal_word : (i : ℕ) (words : List ℕ) (l : Lit) (w : ℕ) → listed (lane i words) 0 ≡ false → w ≡ get_or words (variable_of l) 0 → l.0 % 2 ≡ 0 → truth i w ≡ literal (listed (lane i words)) l
literal_word i words l w constant is even =
    ap (truth i) is ∙ sym (lane_at i words (variable_of l)) ∙ sym (plain_value (listed (lane i words)) constant (variable_of l)) ∙
    sym (literal-even (listed (lane i words)) l (variable_of l) (omega arith))

pub literal_word_negated : (i : ℕ) (words : List ℕ) (l : Lit) (w : ℕ) → w < 2 ^ 64 → i < 64 → listed (lane i words) 0 ≡ false → w ≡ get_or words (variable_of l) 0 → l.0 % 2 ≡ 1 →
    truth i (bit_not w64 w) ≡ literal (listed (lane i words)) l
literal_word_negated i words l w low within constant is odd =
    truth_not w i low within ∙ ap not (ap (truth i) is ∙ sym (lane_at i words (variable_of l)) ∙ sym (plain_value (listed (lane i words)) constant (variable_of l))) ∙
    sym (literal-odd (listed (lane i words)) l (variable_of l) (omega arith))

-- words that are all 0
pub lane_zeros : (i n : ℕ) (words : List ℕ) (v : ℕ) → words ≡ replicate n 0 → listed (lane i words) v ≡ false
lane_zeros i n words v e =
    lane_at i words v ∙ ap (λ ws. truth i (get_or ws v 0)) e ∙
    ap (truth i) (⊎_elim (λ lt. get_or-replicate n v 0 0 lt) (λ ge. get_or_past (replicate n 0) v 0 (omega (arith, length-replicate {A = ℕ} n 0))) (cases_lt v n)) ∙ truth-zero i

-- ---- a lane's numbers

-- one more lane
pub lanes_more : (s : Sides) (xs : List Numbers) (x : Numbers) (old new : List ℕ) (bits : List Bool) → length xs < 64 → AreLanes s xs old → StandFor s bits x →
    lane (length xs) new ≡ bits → ((i : ℕ) → i < 64 → i ≢ length xs → lane i new ≡ lane i old) → AreLanes s (xs ++ x ∷ []) new
lanes_more s xs x old new bits few lanes stand here others j d low =
    let size = length_push xs x in
    ⊎_elim
    (λ lt. let ne : j ≢ length xs = omega arith in
    subst (StandFor s (lane j new)) (sym (get_or_append_left xs (x ∷ []) d j lt)) (subst (λ bs. StandFor s bs (get_or xs j d)) (sym (others j (omega arith) ne)) (lanes j d lt)))
    (λ ge. let same : length xs ≡ j = omega arith in
    subst (StandFor s (lane j new)) (sym (get_or_push xs x d j same)) (subst (λ bs. StandFor s bs x) (sym (ap (λ i. lane i new) (sym same) ∙ here)) stand))
    (cases_lt j (length xs))

-- the outputs' number in a lane is the graph's value there
pub lane_value : (g : Aig) (s : Sides) (xs : List Numbers) (inputs words : List ℕ) → AreWords g inputs words → AreLanes s xs inputs →
    (j : ℕ) (d : Numbers) → j < length xs → j < 64 → (ls : List Lit) → ls ≡ g.outputs → word (listed (lane j words)) ls ≡ value_at_inputs g (inputs_at s (get_or xs j d))
lane_value g s xs inputs words are lanes j d low within ls same =
    ap (word (listed (lane j words))) same ∙ word_is_evaluated g (lane j inputs) (lane j words) (are j within) g.outputs ∙ ap (λ bits. word (evaluated g bits) g.outputs) (lanes j d low).is

-- not negated
pub not_odd : (l : Lit) → (l.0 % 2 ≡ 1 → false ≡ true) → l.0 % 2 ≡ 0
not_odd l h = ⊎_elim (λ e. e) (λ odd. absurd (true≢false (sym (h odd)))) (zero_or_one (l.0 % 2) (omega arith))
