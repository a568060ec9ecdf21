-- Each made graph with an addend multiplies and adds.
use Rattle.std.specs.Prelude.{◌≡◌, ℕ, ◌+◌, ◌*◌, ◌%◌, ◌^◌, ◌<◌, ◌&&◌, List, length, take, drop}
use Rattle.std.proofs.Common.{refl, sym, ap, ap₂, subst, ◌∙◌, arith, mod-eq_of_lt}
use Rattle.std.proofs.Math.Nat.{add-mul-mod_self_left}
use Rattle.std.proofs.lemmas.List.Elements.{recursion_from_All}
use Rattle.graph_core.specs.declared.literal.Lit.{Lit}
use Rattle.graph_core.specs.declared.order.Order.TheVariants.{Separate}
use Rattle.graph_core.specs.declared.sign.Sign.TheVariants.{Unsigned}
use Rattle.graph_core.specs.Graph.Literals.{constant_false}
use Rattle.graph_core.specs.Graph.Assignments.{Assignment, variable, literal, word}
use Rattle.graph_core.specs.Graph.{Aig}
use Rattle.graph_core.specs.Graph.Operands.{a_part, b_part, sum_width, HasSumShape, adding, sides_for, output_modulus, MeetsClaimOnEvaluations}
use Rattle.graph_core.proofs.OfGraphs.CallerLemmas.{claim_is_done, evaluations_suffice, plus_word_is, word_below}
use Rattle.graph_maker.specs.declared.kind.Kind.{Kind}
use Rattle.graph_maker.specs.declared.adder.Adder.{Adder}
use Rattle.graph_maker.specs.Builder.{no_gates, literals_from}
use Rattle.graph_maker.specs.Ripple.{Outputs, add_words}
use Rattle.graph_maker.specs.Products.{Products, products}
use Rattle.graph_maker.specs.Made.{product_behind}
use Rattle.graph_maker.specs.WithAddend.{made_sum, IsMultiplyAdder, MadeSumsAdd}
use Rattle.graph_maker.proofs.CellFacts.{Holds}
use Rattle.graph_maker.proofs.AddWords.{length-add_words, words_add, words_placed}
use Rattle.graph_maker.proofs.ArrayAdds.{length-literals_from}
use Rattle.graph_maker.proofs.Numbered.{IsNumbered, numbered_well_formed, take-literals, drop-literals}
use Rattle.graph_maker.proofs.Places.{IsNext, IsOutputs, up-literals_from}
use Rattle.graph_maker.proofs.ProductOfWidths.{product_is, product_long, product_placed, rows_placed}

-- what is above n bits is a multiple of 2 ^ n
low_part : (n o h x y : ℕ) → o + 2 ^ n * h ≡ x + y → o % 2 ^ n ≡ (x + y) % 2 ^ n
low_part n o h x y e = sym (add-mul-mod_self_left o (2 ^ n) h) ∙ ap (λ z. z % 2 ^ n) e

module _ (kind : Kind) (n : ℕ) (adder : Adder) (pos : 0 < n) where
  abbrev g : Aig
  g = made_sum kind n adder

  abbrev as' : List Lit
  as' = literals_from 1 n

  abbrev bs : List Lit
  bs = literals_from (n + 1) n

  abbrev cs : List Lit
  cs = literals_from (2 * n + 1) (2 * n)

  abbrev p : Products
  p = products (no_gates (4 * n)) as' bs

  abbrev r : Outputs
  r = product_behind (4 * n) kind n n adder

  abbrev s : Outputs
  s = add_words r.builder r.outputs cs constant_false

  wide : length r.outputs ≡ 2 * n
  wide = omega (arith, product_long (4 * n) kind n n adder pos pos)

  pub full : length g.outputs ≡ 2 * n
  full = length-add_words r.builder r.outputs cs constant_false ∙ length-literals_from (2 * n + 1) (2 * n)

  -- ---- no fault

  placed_products : IsNext (4 * n) (no_gates (4 * n)) p.builder
  placed_products = (rows_placed (4 * n) kind n n adder pos pos (omega arith)).next

  placed_product : IsOutputs (4 * n) p.builder r
  placed_product = product_placed (4 * n) kind n n adder pos pos (omega arith)

  placed_sum : IsOutputs (4 * n) r.builder s
  placed_sum =
      words_placed (4 * n) r.builder r.outputs cs constant_false placed_product.next.built placed_product.outputs
      (up-literals_from (2 * n + 1) (2 * n) r.builder.last (omega (arith, placed_products.up, placed_product.next.up))) (omega arith)

  pub numbered : IsNumbered (4 * n) g
  numbered = record { inputs = refl; gates = placed_sum.next.built.placed; max = placed_sum.next.built.last; outputs = placed_sum.outputs }

  pub width_is : sum_width g ≡ n
  width_is = omega (arith, length-literals_from 1 (4 * n))

  pub shape : HasSumShape g
  shape = record {
    inputs = omega (arith, length-literals_from 1 (4 * n));
    some_outputs = omega (arith, full, pos);
    outputs = omega (arith, full, width_is);
  }

  operands : take (2 * sum_width g) (literals_from 1 (4 * n)) ≡ literals_from 1 (2 * n)
  operands = ap (λ k. take (2 * k) (literals_from 1 (4 * n))) width_is ∙ take-literals 1 (2 * n) (2 * n) (4 * n) (omega arith)

  a_is : a_part Separate (sum_width g) (take (2 * sum_width g) g.inputs) ≡ as'
  a_is = ap₂ take width_is operands ∙ take-literals 1 n n (2 * n) (omega arith)

  b_is : b_part Separate (sum_width g) (take (2 * sum_width g) g.inputs) ≡ bs
  b_is = ap₂ drop width_is operands ∙ drop-literals 1 n n (2 * n) (omega arith) ∙ ap (λ v. literals_from v n) (omega arith)

  c_is : drop (2 * sum_width g) g.inputs ≡ cs
  c_is = ap (λ k. drop (2 * k) (literals_from 1 (4 * n))) width_is ∙ drop-literals 1 (2 * n) (2 * n) (4 * n) (omega arith) ∙ ap (λ v. literals_from v (2 * n)) (omega arith)

  -- ---- the sum

  sum_is : (σ : Assignment) → Holds σ s.builder → word σ g.outputs % 2 ^ (2 * n) ≡ (word σ as' * word σ bs + word σ cs) % 2 ^ (2 * n)
  sum_is σ holds =
      let size = length-literals_from (2 * n + 1) (2 * n) in
      let sum = words_add σ r.builder r.outputs cs constant_false (omega (arith, wide, size)) holds in
      let product = product_is (4 * n) kind n n adder pos pos σ sum.0 in
      let whole : word σ g.outputs + 2 ^ (2 * n) * sum.1.0 ≡ word σ r.outputs + word σ cs + 0 =
      subst (λ k. word σ g.outputs + 2 ^ k * sum.1.0 ≡ word σ r.outputs + word σ cs + 0) size sum.1.1 in
      let added : word σ r.outputs + word σ cs + 0 ≡ word σ as' * word σ bs + word σ cs = ap (λ z. z + word σ cs + 0) product ∙ omega arith in
      low_part (2 * n) (word σ g.outputs) sum.1.0 (word σ as' * word σ bs) (word σ cs) (whole ∙ added)

  meets : MeetsClaimOnEvaluations g (sides_for (adding Separate Unsigned) g)
  meets σ evaluates =
      let holds = recursion_from_All (λ x. variable σ x.v ≡ (literal σ x.left && literal σ x.right)) g.gates evaluates in
      let at : word σ g.outputs % output_modulus g ≡ (word σ as' * word σ bs + word σ cs) % output_modulus g =
      subst (λ k. word σ g.outputs % 2 ^ k ≡ (word σ as' * word σ bs + word σ cs) % 2 ^ k) (sym full) (sum_is σ holds) in
      sym (mod-eq_of_lt (word_below σ g.outputs)) ∙ at ∙
      ap₂ (λ xs ys. (word σ xs * word σ ys + word σ cs) % output_modulus g) (sym a_is) (sym b_is) ∙
      ap (λ zs. (word σ (a_part Separate (sum_width g) (take (2 * sum_width g) g.inputs)) * word σ (b_part Separate (sum_width g) (take (2 * sum_width g) g.inputs)) + word σ zs) % output_modulus g) (sym c_is) ∙
      ap (λ z. z % output_modulus g)
      (sym (plus_word_is (word σ (a_part Separate (sum_width g) (take (2 * sum_width g) g.inputs)) * word σ (b_part Separate (sum_width g) (take (2 * sum_width g) g.inputs))) σ (drop (2 * sum_width g) g.inputs)))

  is_adder : IsMultiplyAdder n g
  is_adder =
      let well_formed = numbered_well_formed (4 * n) g numbered in
      record {
        width = width_is;
        shape = shape;
        whole = full;
        well_formed = well_formed;
        adds = (claim_is_done g (adding Separate Unsigned) shape well_formed.defined_once).0
            (evaluations_suffice g (sides_for (adding Separate Unsigned) g) well_formed.defined_once well_formed.acyclic meets);
      }

pub made_sums_add : MadeSumsAdd
made_sums_add kind n adder pos = is_adder kind n adder pos
