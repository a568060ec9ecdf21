-- A product of operands of two widths: its rows, where its gates stand, what its outputs are, and how many variables are used for it.
use Rattle.std.specs.Prelude.{◌≡◌, ℕ, ◌+◌, ◌*◌, ◌<◌, ◌≤◌, List, length}
use Rattle.std.proofs.Common.{refl, subst, ◌∙◌, arith}
use Rattle.graph_core.specs.declared.literal.Lit.{Lit}
use Rattle.graph_core.specs.Graph.Assignments.{Assignment, word}
use Rattle.graph_maker.specs.declared.kind.Kind.{Kind}
use Rattle.graph_maker.specs.declared.kind.Kind.TheVariants.{Array, Dadda}
use Rattle.graph_maker.specs.declared.adder.Adder.{Adder}
use Rattle.graph_maker.specs.Builder.{Builder, no_gates, literals_from}
use Rattle.graph_maker.specs.Ripple.{Outputs}
use Rattle.graph_maker.specs.Products.{Products, products}
use Rattle.graph_maker.specs.Made.{outputs_of, product_behind, whole_graph}
use Rattle.graph_maker.proofs.CellFacts.{Holds}
use Rattle.graph_maker.proofs.ArrayAdds.{rows_sum, AreLong, array_adds, length-array, length-literals_from, length-products, products_long, products_multiply}
use Rattle.graph_maker.proofs.DaddaAdds.{dadda_adds, length-dadda}
use Rattle.graph_maker.proofs.Numbered.{IsNumbered}
use Rattle.graph_maker.proofs.Places.{IsProducts, IsOutputs, products_placed, outputs_placed, up-literals_from}
use Rattle.graph_maker.proofs.Sizes.{made_few, products_few}

outputs_add : (kind : Kind) (m : ℕ) (adder : Adder) (σ : Assignment) (b : Builder) (rows : List (List Lit)) → 0 < m → AreLong m rows → Holds σ (outputs_of kind adder b rows).builder →
    Holds σ b × (word σ (outputs_of kind adder b rows).outputs ≡ rows_sum σ rows)
outputs_add Array m adder σ b rows pos long h = array_adds m adder σ b rows pos long h
outputs_add Dadda m adder σ b rows pos long h = dadda_adds m b rows pos long adder σ h

length-outputs : (kind : Kind) (m : ℕ) (adder : Adder) (b : Builder) (rows : List (List Lit)) → 0 < m → 0 < length rows → AreLong m rows → length (outputs_of kind adder b rows).outputs ≡ m + length rows
length-outputs Array m adder b rows pos some long = length-array m adder b rows pos some long
length-outputs Dadda m adder b rows pos some long = length-dadda m b rows pos long some adder

module _ (inputs : ℕ) (kind : Kind) (m n : ℕ) (adder : Adder) (pos : 0 < m) (some : 0 < n) where
  abbrev as' : List Lit
  as' = literals_from 1 m

  abbrev bs : List Lit
  bs = literals_from (m + 1) n

  abbrev p : Products
  p = products (no_gates inputs) as' bs

  abbrev r : Outputs
  r = product_behind inputs kind m n adder

  pub rows_count : length p.rows ≡ n
  rows_count = length-products (no_gates inputs) as' bs ∙ length-literals_from (m + 1) n

  pub rows_long : AreLong m p.rows
  rows_long = subst (λ k. AreLong k p.rows) (length-literals_from 1 m) (products_long (no_gates inputs) as' bs)

  pub product_long : length r.outputs ≡ m + n
  product_long = omega (arith, length-outputs kind m adder p.builder p.rows pos (omega (arith, rows_count)) rows_long, rows_count)

  pub product_few : m ≤ 64 → n ≤ 64 → r.builder.last ≤ inputs + 4000000
  product_few narrow small =
      let before = products_few (no_gates inputs) as' bs (omega (arith, length-literals_from 1 m)) in
      omega (arith, before, length-literals_from (m + 1) n, made_few kind m adder p.builder p.rows pos narrow (omega (arith, rows_count)) rows_long)

  -- on each evaluation of the gates
  pub product_is : (σ : Assignment) → Holds σ r.builder → word σ r.outputs ≡ word σ as' * word σ bs
  product_is σ h =
      let sum = outputs_add kind m adder σ p.builder p.rows pos rows_long h in
      sum.1 ∙ (products_multiply σ (no_gates inputs) as' bs sum.0).1

  module _ (within : m + n ≤ inputs) where
    pub rows_placed : IsProducts inputs (no_gates inputs) p
    rows_placed =
        products_placed inputs (no_gates inputs) as' bs (record { placed = tt; last = omega arith }) (up-literals_from 1 m inputs (omega arith)) (up-literals_from (m + 1) n inputs (omega arith))

    pub product_placed : IsOutputs inputs p.builder r
    product_placed = outputs_placed inputs kind adder p.builder p.rows rows_placed.next.built rows_placed.rows

    pub product_numbered : IsNumbered inputs (whole_graph inputs r)
    product_numbered = record { inputs = refl; gates = product_placed.next.built.placed; max = product_placed.next.built.last; outputs = product_placed.outputs }
