-- Each made graph multiplies.
use Rattle.std.specs.Prelude.{◌≡◌, ℕ, ◌+◌, ◌*◌, ◌<◌, ◌&&◌, List, [], length, take, drop}
use Rattle.std.proofs.Common.{sym, ap, ap₂, subst, ◌∙◌, arith}
use Rattle.std.proofs.lemmas.List.Elements.{recursion_from_All}
use Rattle.graph_core.specs.declared.literal.Lit.{Lit}
use Rattle.graph_maker.specs.declared.kind.Kind.{Kind}
use Rattle.graph_maker.specs.declared.adder.Adder.{Adder}
use Rattle.graph_core.specs.declared.order.Order.TheVariants.{Separate}
use Rattle.graph_core.specs.Graph.Assignments.{Assignment, variable, literal, word}
use Rattle.graph_core.specs.Graph.{Aig, IsEvaluation}
use Rattle.graph_core.specs.Graph.Operands.{width, a_bits, b_bits, HasMultiplierShape}
use Rattle.graph_maker.specs.Builder.{Builder, literals_from}
use Rattle.graph_maker.specs.Ripple.{Outputs}
use Rattle.graph_maker.specs.Products.{Products, products}
use Rattle.graph_maker.specs.Made.{outputs_of, made, IsMadeMultiplier, MadeMultiplies}
use Rattle.graph_core.proofs.OfGraphs.CallerLemmas.{whole_from_evaluations, whole_products}
use Rattle.graph_maker.proofs.ArrayAdds.{AreLong, length-literals_from}
use Rattle.graph_maker.proofs.Numbered.{IsNumbered, numbered_well_formed, take-literals, drop-literals}
use Rattle.graph_maker.proofs.Places.{IsProducts}
use Rattle.graph_maker.proofs.ProductOfWidths.{product_is, product_long, product_numbered, rows_count, rows_long, rows_placed}

module _ (kind : Kind) (n : ℕ) (adder : Adder) (pos : 0 < n) where
  abbrev pub g : Aig
  g = made kind n adder

  abbrev pub a_literals : List Lit
  a_literals = literals_from 1 n

  abbrev pub b_literals : List Lit
  b_literals = literals_from (n + 1) n

  abbrev pub no_gates : Builder
  no_gates = record { last = 2 * n; gates = [] }

  abbrev pub all_products : Products
  all_products = products no_gates a_literals b_literals

  abbrev pub whole_outputs : Outputs
  whole_outputs = outputs_of kind adder all_products.builder all_products.rows

  pub count : length all_products.rows ≡ n
  count = rows_count (2 * n) kind n n adder pos pos

  pub long : AreLong (length all_products.rows) all_products.rows
  long = subst (λ k. AreLong k all_products.rows) (sym count) (rows_long (2 * n) kind n n adder pos pos)

  pub placed : IsProducts (2 * n) no_gates all_products
  placed = rows_placed (2 * n) kind n n adder pos pos (omega arith)

  pub numbered : IsNumbered (2 * n) g
  numbered = product_numbered (2 * n) kind n n adder pos pos (omega arith)

  pub width_is : width g ≡ n
  width_is = omega (arith, length-literals_from 1 (2 * n))

  pub full : length g.outputs ≡ 2 * n
  full = omega (arith, product_long (2 * n) kind n n adder pos pos)

  pub shape : HasMultiplierShape g
  shape = record {
    inputs = omega (arith, length-literals_from 1 (2 * n));
    some_outputs = omega (arith, full);
    outputs = omega (arith, full, width_is);
  }

  pub a_is : a_bits Separate g ≡ a_literals
  a_is = ap (λ k. take k (literals_from 1 (2 * n))) width_is ∙ take-literals 1 n n (2 * n) (omega arith)

  pub b_is : b_bits Separate g ≡ b_literals
  b_is = ap (λ k. drop k (literals_from 1 (2 * n))) width_is ∙ drop-literals 1 n n (2 * n) (omega arith) ∙ ap (λ v. literals_from v n) (omega arith)

  on_evaluations : (σ : Assignment) → IsEvaluation g.gates σ → word σ g.outputs ≡ word σ (a_bits Separate g) * word σ (b_bits Separate g)
  on_evaluations σ evaluates =
      product_is (2 * n) kind n n adder pos pos σ (recursion_from_All (λ x. variable σ x.v ≡ (literal σ x.left && literal σ x.right)) g.gates evaluates) ∙
      ap₂ (λ x y. word σ x * word σ y) (sym a_is) (sym b_is)

  is_multiplier : IsMadeMultiplier n g
  is_multiplier =
      let well_formed = numbered_well_formed (2 * n) g numbered in
      record { width = width_is; shape = shape; whole = full; well_formed = well_formed; multiplies = (whole_products g Separate (omega (arith, full, width_is))).1 (whole_from_evaluations g Separate shape well_formed.defined_once well_formed.acyclic on_evaluations) }

pub made_multiplies : MadeMultiplies
made_multiplies kind n adder pos = is_multiplier kind n adder pos
