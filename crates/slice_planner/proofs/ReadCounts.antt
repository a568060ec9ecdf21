-- What reads a variable, as gates are eliminated and columns added.
use Rattle.std.specs.Prelude.{◌≡◌, ◌≢◌, ℕ, zero, suc, ◌+◌, ◌*◌, ◌<◌, ◌≤◌, ◌⊎◌, Bool, true, false, cond, ◌||◌, List, [], ◌∷◌, map, length, take, slice_get, slice_index_or, ◌==◌}
use Rattle.std.specs.declared.option.Option.TheVariants.{Some}
use Rattle.std.specs.List.{All, AllByRecursion}
use Rattle.std.proofs.Common.{refl, sym, ap, ap₂, subst, ◌∙◌, arith, inl, inr, ⊎_elim, eqb-true, eq-eqb, ne_eqb, true≢false}
use Rattle.std.proofs.lemmas.Bool.{cases_Bool, or_left}
use Rattle.graph_core.specs.declared.gate.Gate.{Gate}
use Rattle.graph_core.specs.declared.literal.Lit.{Lit}
use Rattle.graph_core.specs.Graph.Literals.{variable_of}
use Rattle.graph_core.specs.Graph.{IsAcyclic}
use Rattle.frontier_core.specs.Sets.{has}
use Rattle.frontier_core.proofs.PlainOrders.{Pairs}
use Rattle.slice_planner.specs.Taking.{is_one, read_by_columns, read_by_gate, read_by_gates}
use Rattle.slice_planner.proofs.Words.{left_count}

pub one_same : (u v : ℕ) → u ≡ v → is_one u v ≡ 1
one_same u v e = ap (λ b. cond b 1 0) (eq-eqb u v e)

one_most : (b : Bool) → cond b 1 0 ≤ 1
one_most true = omega arith
one_most false = omega arith

pub one_at_most : (u v : ℕ) → is_one u v ≤ 1
one_at_most u v = one_most (u == v)

-- ---- gates

-- one more gate
pub gates_more : (gates : List Gate) (i v : ℕ) (d : Gate) → i < length gates → read_by_gates (take (suc i) gates) [] v ≡ read_by_gate (slice_index_or gates i d) v + read_by_gates (take i gates) [] v
gates_more [] i v d low = absurd (omega arith)
gates_more (x ∷ gates) zero v d low = refl
gates_more (x ∷ gates) (suc i) v d low = let rest = gates_more gates i v d (omega arith) in omega arith

-- a gate has two operands
pub gates_few : (gates : List Gate) (eliminated : List ℕ) (v : ℕ) → read_by_gates gates eliminated v ≤ 2 * length gates
gates_few [] eliminated v = omega arith
gates_few (x ∷ gates) eliminated v =
    let left = one_most (variable_of x.left == v) in
    let right = one_most (variable_of x.right == v) in
    let rest = gates_few gates eliminated v in
    at (has eliminated x.v) left right rest
  where
    at : (b : Bool) → is_one (variable_of x.left) v ≤ 1 → is_one (variable_of x.right) v ≤ 1 → read_by_gates gates eliminated v ≤ 2 * length gates → cond b 0 (read_by_gate x v) + read_by_gates gates eliminated v ≤ 2 * suc (length gates)
    at true l r h = omega arith
    at false l r h = omega arith

-- a variable that isn't among those of the gates makes no difference
gates_other : (gates : List Gate) (eliminated : List ℕ) (u v : ℕ) → AllByRecursion (λ w. u ≢ w) (map (λ x. x.v) gates) → read_by_gates gates (u ∷ eliminated) v ≡ read_by_gates gates eliminated v
gates_other [] eliminated u v h = refl
gates_other (x ∷ gates) eliminated u v h =
    ap₂ (λ b n. cond (b || has eliminated x.v) 0 (read_by_gate x v) + n) (ne_eqb u x.v h.0) (gates_other gates eliminated u v h.1)

-- Eliminating a gate takes its operands away.
pub gates_less : (gates : List Gate) (eliminated : List ℕ) (x : Gate) (v k : ℕ) (d : Gate) → Pairs ◌≢◌ (map (λ y. y.v) gates) → k < length gates → slice_index_or gates k d ≡ x → has eliminated x.v ≡ false →
    read_by_gates gates eliminated v ≡ read_by_gate x v + read_by_gates gates (x.v ∷ eliminated) v
gates_less [] eliminated x v k d apart low is new = absurd (omega arith)
gates_less (y ∷ gates) eliminated x v zero d apart low is new =
    let before : cond (has eliminated y.v) 0 (read_by_gate y v) ≡ read_by_gate x v = ap (λ b. cond b 0 (read_by_gate y v)) (ap (λ z. has eliminated z.v) is ∙ new) ∙ ap (λ z. read_by_gate z v) is in
    let after : cond (has (x.v ∷ eliminated) y.v) 0 (read_by_gate y v) ≡ 0 = ap (λ b. cond (b || has eliminated y.v) 0 (read_by_gate y v)) (eq-eqb x.v y.v (ap (λ z. z.v) (sym is))) in
    let others : AllByRecursion (λ w. x.v ≢ w) (map (λ z. z.v) gates) = subst (λ (z : Gate). AllByRecursion (λ w. z.v ≢ w) (map (λ g. g.v) gates)) is apart.0 in
    let rest = gates_other gates eliminated x.v v others in
    omega arith
gates_less (y ∷ gates) eliminated x v (suc k) d apart low is new =
    let rest = gates_less gates eliminated x v k d apart.1 (omega arith) is new in
    let other : y.v ≢ x.v = later gates k apart.0 (omega arith) is in
    let same : cond (has (x.v ∷ eliminated) y.v) 0 (read_by_gate y v) ≡ cond (has eliminated y.v) 0 (read_by_gate y v) = ap (λ b. cond (b || has eliminated y.v) 0 (read_by_gate y v)) (ne_eqb x.v y.v (λ e. other (sym e))) in
    omega arith
  where
    later : (gs : List Gate) (j : ℕ) → AllByRecursion (λ w. y.v ≢ w) (map (λ z. z.v) gs) → j < length gs → slice_index_or gs j d ≡ x → y.v ≢ x.v
    later [] j h l e = absurd (omega arith)
    later (z ∷ gs) zero h l e = subst (λ g. y.v ≢ g.v) e h.0
    later (z ∷ gs) (suc j) h l e = later gs j h.1 (omega arith) e

-- Where no gate reads a variable any more, its readers were eliminated.
pub gates_none : (gates : List Gate) (eliminated : List ℕ) (v : ℕ) → read_by_gates gates eliminated v ≡ 0 →
    AllByRecursion (λ x. (variable_of x.left ≡ v) ⊎ (variable_of x.right ≡ v) → has eliminated x.v ≡ true) gates
gates_none [] eliminated v h = tt
gates_none (x ∷ gates) eliminated v h =
    (λ reads. ⊎_elim (λ t. t) (λ f. absurd (never reads (ap (λ b. cond b 0 (read_by_gate x v) + read_by_gates gates eliminated v) (sym f) ∙ h))) (cases_Bool (has eliminated x.v)), gates_none gates eliminated v (omega arith))
  where
    never : (variable_of x.left ≡ v) ⊎ (variable_of x.right ≡ v) → read_by_gate x v + read_by_gates gates eliminated v ≡ 0 → ⊥
    never (inl e) z = let one = one_same (variable_of x.left) v e in omega arith
    never (inr e) z = let one = one_same (variable_of x.right) v e in omega arith

-- a gate that reads a variable and isn't eliminated
pub record Reader (gates : List Gate) (eliminated : List ℕ) (v : ℕ) : Type 0 where
  pub place : ℕ
  pub low : place < length gates
  pub reads : (d : Gate) → (variable_of (slice_index_or gates place d).left ≡ v) ⊎ (variable_of (slice_index_or gates place d).right ≡ v)
  pub new : (d : Gate) → has eliminated (slice_index_or gates place d).v ≡ false

-- Where gates still read a variable, there is such a gate.
pub gates_some : (gates : List Gate) (eliminated : List ℕ) (v : ℕ) → 0 < read_by_gates gates eliminated v → Reader gates eliminated v
gates_some [] eliminated v h = absurd (omega arith)
gates_some (x ∷ gates) eliminated v h =
    at (λ some. gates_some gates eliminated v some) (has eliminated x.v) refl (variable_of x.left == v) refl (variable_of x.right == v) refl h
  where
    behind : (0 < read_by_gates gates eliminated v → Reader gates eliminated v) → 0 < read_by_gates gates eliminated v → Reader (x ∷ gates) eliminated v
    behind on some = let r = on some in record { place = suc r.place; low = omega (arith, r.low); reads = r.reads; new = r.new }

    at : (0 < read_by_gates gates eliminated v → Reader gates eliminated v) → (b : Bool) → has eliminated x.v ≡ b → (l : Bool) → (variable_of x.left == v) ≡ l → (r : Bool) → (variable_of x.right == v) ≡ r →
        0 < cond b 0 (cond l 1 0 + cond r 1 0) + read_by_gates gates eliminated v → Reader (x ∷ gates) eliminated v
    at on true f l le r re some = behind on (omega arith)
    at on false f true le r re some = record { place = 0; low = omega arith; reads = λ d. inl (eqb-true (variable_of x.left) v le); new = λ d. f }
    at on false f false le true re some = record { place = 0; low = omega arith; reads = λ d. inr (eqb-true (variable_of x.right) v re); new = λ d. f }
    at on false f false le false re some = behind on (omega arith)

-- ---- columns

pub columns_zero : (ls : List Lit) (v : ℕ) → read_by_columns ls 0 v ≡ 0
columns_zero [] v = refl
columns_zero (l ∷ ls) v = refl

-- one more column
pub columns_more : (ls : List Lit) (k v : ℕ) (l : Lit) → slice_get ls k ≡ Some l → read_by_columns ls (suc k) v ≡ is_one (variable_of l) v + read_by_columns ls k v
columns_more [] k v l is = absurd (cc)
columns_more (x ∷ ls) zero v l is = ap₂ (λ y n. is_one (variable_of y) v + n) (some_same is) (columns_zero ls v)
  where
    some_same : {y z : Lit} → Some y ≡ Some z → y ≡ z
    some_same h = cc
columns_more (x ∷ ls) (suc k) v l is = let rest = columns_more ls k v l is in omega arith

pub columns_few : (ls : List Lit) (k v : ℕ) → read_by_columns ls k v ≤ k
columns_few [] k v = omega arith
columns_few (l ∷ ls) zero v = omega arith
columns_few (l ∷ ls) (suc k) v = let first = one_most (variable_of l == v) in let rest = columns_few ls k v in omega arith

-- Where none of the first columns has a variable as output, those that have it come later.
pub columns_none : (ls : List Lit) (below v : ℕ) → read_by_columns ls below v ≡ 0 → (k : ℕ) (l : Lit) → slice_get ls k ≡ Some l → variable_of l ≡ v → below ≤ k
columns_none [] below v h k l is same = absurd (cc)
columns_none (x ∷ ls) zero v h k l is same = omega arith
columns_none (x ∷ ls) (suc below) v h zero l is same = let one = one_same (variable_of x) v (ap variable_of (some_same is) ∙ same) in absurd (omega arith)
  where
    some_same : {y z : Lit} → Some y ≡ Some z → y ≡ z
    some_same e = cc
columns_none (x ∷ ls) (suc below) v h (suc k) l is same = let rest = columns_none ls below v (omega arith) k l is same in omega arith

-- ---- what is left

-- Where each gate that isn't eliminated is read by one that isn't either, all are eliminated, since none reads itself in a circle.
pub all_gone : (gates : List Gate) (eliminated : List ℕ) → IsAcyclic gates → All (λ x. (has eliminated x.v ≡ true) ⊎ (0 < read_by_gates gates eliminated x.v)) gates → All (λ x. has eliminated x.v ≡ true) gates
all_gone gates eliminated acyclic h k d low = above (suc (length gates)) k d low (omega arith)
  where
    above : (n k : ℕ) (d : Gate) → k < length gates → length gates < acyclic.0 (slice_index_or gates k d).v + n → has eliminated (slice_index_or gates k d).v ≡ true
    above zero k d low late = let few = acyclic.1.few k d low in absurd (omega arith)
    above (suc n) k d low late =
        ⊎_elim (λ t. t)
        (λ some.
        let r = gates_some gates eliminated (slice_index_or gates k d).v some in
        let y : Gate = slice_index_or gates r.place d in
        let up : acyclic.0 (slice_index_or gates k d).v < acyclic.0 y.v =
        ⊎_elim (λ e. subst (λ u. acyclic.0 u < acyclic.0 y.v) e (acyclic.1.left r.place d r.low)) (λ e. subst (λ u. acyclic.0 u < acyclic.0 y.v) e (acyclic.1.right r.place d r.low)) (r.reads d) in
        absurd (true≢false (sym (above n r.place d r.low (omega arith)) ∙ r.new d)))
        (h k d low)

no_more : (gates : List Gate) (eliminated : List ℕ) (v : ℕ) → left_count gates (v ∷ eliminated) ≤ left_count gates eliminated
no_more [] eliminated v = omega arith
no_more (y ∷ gates) eliminated v = each (v == y.v) (has eliminated y.v) (no_more gates eliminated v)
  where
    each : (a b : Bool) → left_count gates (v ∷ eliminated) ≤ left_count gates eliminated → cond (a || b) 0 1 + left_count gates (v ∷ eliminated) ≤ cond b 0 1 + left_count gates eliminated
    each true true r = omega arith
    each true false r = omega arith
    each false true r = omega arith
    each false false r = omega arith

-- Eliminating a gate leaves fewer.
pub left_less : (gates : List Gate) (eliminated : List ℕ) (v k : ℕ) (d : Gate) → k < length gates → (slice_index_or gates k d).v ≡ v → has eliminated v ≡ false → left_count gates (v ∷ eliminated) < left_count gates eliminated
left_less [] eliminated v k d low is new = absurd (omega arith)
left_less (x ∷ gates) eliminated v zero d low is new =
    first (has (v ∷ eliminated) x.v) (has eliminated x.v) (left_count gates (v ∷ eliminated)) (left_count gates eliminated) (or_left (v == x.v) (has eliminated x.v) (eq-eqb v x.v (sym is))) (ap (has eliminated) is ∙ new)
    (no_more gates eliminated v)
  where
    first : (a b : Bool) (m n : ℕ) → a ≡ true → b ≡ false → m ≤ n → cond a 0 1 + m < cond b 0 1 + n
    first true true m n e f h = absurd (true≢false f)
    first true false m n e f h = omega arith
    first false b m n e f h = absurd (true≢false (sym e))
left_less (x ∷ gates) eliminated v (suc k) d low is new = rest (v == x.v) (has eliminated x.v) (left_count gates (v ∷ eliminated)) (left_count gates eliminated) (left_less gates eliminated v k d (omega arith) is new)
  where
    rest : (a b : Bool) (m n : ℕ) → m < n → cond (a || b) 0 1 + m < cond b 0 1 + n
    rest true true m n h = omega arith
    rest true false m n h = omega arith
    rest false true m n h = omega arith
    rest false false m n h = omega arith
