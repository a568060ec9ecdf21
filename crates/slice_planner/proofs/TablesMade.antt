-- The table of what is read, as it is made.
use Rattle.std.specs.Prelude.{◌≡◌, ℕ, zero, suc, ◌+◌, ◌*◌, ◌<◌, ◌≤◌, List, [], ◌∷◌, length, take, slice_get, slice_index_or}
use Rattle.std.specs.declared.option.Option.TheVariants.{Some}
use Rattle.std.specs.List.{Contains}
use Rattle.std.proofs.Common.{sym, ap, ◌∙◌, arith}
use Rattle.std.proofs.lemmas.Option.{slice_get-get_or, slice_get_within}
use Rattle.graph_core.specs.declared.gate.Gate.{Gate}
use Rattle.graph_core.specs.declared.literal.Lit.{Lit}
use Rattle.graph_core.specs.Graph.Literals.{variable_of}
use Rattle.graph_core.specs.Graph.Extended.{Extended}
use Rattle.graph_core.proofs.OfGraphs.CallerLemmas.{few_distinct, output_in_range}
use Rattle.ripple_graft.specs.Extension.{IsExtension, new_outputs, whole}
use Rattle.ripple_graft.proofs.BlockLists.{whole_is_well_formed}
use Rattle.frontier_core.proofs.OrderMade.{gates_of_defined}
use Rattle.slice_planner.specs.Taking.{Raises, is_one, read_by_columns, read_by_gates}
use Rattle.slice_planner.proofs.ReadCounts.{columns_few, columns_more, gates_few, gates_more}

-- both operands of one more gate
pub operands_more : (gates : List Gate) (i : ℕ) (d : Gate) (a b : ℕ) (old between now : List ℕ) → i < length gates → a ≡ variable_of (slice_index_or gates i d).left → b ≡ variable_of (slice_index_or gates i d).right →
    Raises a old between → Raises b between now → ((v : ℕ) → slice_index_or old v 0 ≡ read_by_gates (take i gates) [] v) → (v : ℕ) → slice_index_or now v 0 ≡ read_by_gates (take (i + 1) gates) [] v
operands_more gates i d a b old between now low left right first second so_far v =
    let all = so_far v in
    let one = first.each v in
    let other = second.each v in
    let more = gates_more gates i v d low in
    let a_is : is_one a v ≡ is_one (variable_of (slice_index_or gates i d).left) v = ap (λ u. is_one u v) left in
    let b_is : is_one b v ≡ is_one (variable_of (slice_index_or gates i d).right) v = ap (λ u. is_one u v) right in
    let up : i + 1 ≡ suc i = omega arith in
    let next : read_by_gates (take (i + 1) gates) [] v ≡ read_by_gates (take (suc i) gates) [] v = ap (λ n. read_by_gates (take n gates) [] v) up in
    omega arith

-- one more output
pub outputs_more : (ls : List Lit) (reads : ℕ → ℕ) (k : ℕ) (l : Lit) (a : ℕ) (old now : List ℕ) → slice_get ls k ≡ Some l → a ≡ variable_of l → Raises a old now →
    ((v : ℕ) → slice_index_or old v 0 ≡ reads v + read_by_columns ls k v) → (v : ℕ) → slice_index_or now v 0 ≡ reads v + read_by_columns ls (k + 1) v
outputs_more ls reads k l a old now is same more so_far v =
    let all = so_far v in
    let one = more.each v in
    let next = columns_more ls k v l is in
    let a_is : is_one a v ≡ is_one (variable_of l) v = ap (λ u. is_one u v) same in
    let up : k + 1 ≡ suc k = omega arith in
    let then : read_by_columns ls (k + 1) v ≡ read_by_columns ls (suc k) v = ap (λ n. read_by_columns ls n v) up in
    omega arith

-- ---- bounds

module _ (e : Extended) (made : IsExtension e) where
  few_gates : length e.gates ≤ e.max
  few_gates = few_distinct e.gates e.max (gates_of_defined e made) (λ k d low. (made.defined_once.gates k d low, made.gates_in_range k d low))

  pub output_low : (k : ℕ) (l : Lit) → slice_get (new_outputs e) k ≡ Some l → variable_of l ≤ e.max
  output_low k l is =
      let low = slice_get_within (new_outputs e) k l is in
      let there : Contains (new_outputs e) l = (k, low, some_same (sym (slice_get-get_or (new_outputs e) k l low) ∙ is)) in
      let small = output_in_range (whole e) (whole_is_well_formed e made) l there in
      omega arith
    where
      some_same : {y z : Lit} → Some y ≡ Some z → y ≡ z
      some_same h = cc

  pub operands_low : (i v : ℕ) → read_by_gates (take i e.gates) [] v ≤ 2 * e.max
  operands_low i v = let few = gates_few (take i e.gates) [] v in let all = few_gates in omega (arith, length_take i e.gates)
    where
      length_take : (n : ℕ) (gates : List Gate) → length (take n gates) ≤ length gates
      length_take zero gates = omega arith
      length_take (suc n) [] = omega arith
      length_take (suc n) (x ∷ gates) = let rest = length_take n gates in omega arith

  pub reads_low : (k v : ℕ) → read_by_gates e.gates [] v + read_by_columns (new_outputs e) k v ≤ 2 * e.max + k
  reads_low k v = let few = gates_few e.gates [] v in let all = few_gates in let columns = columns_few (new_outputs e) k v in omega arith
