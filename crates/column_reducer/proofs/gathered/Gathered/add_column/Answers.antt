use Rattle.std.proofs.Common.{◌≡◌, ◌<◌, ◌+◌, ◌∷◌, ◌++◌, [], Some, slice_get, refl, ap, sym, subst, ◌∙◌, arith}
use Rattle.column_reducer.proofs.Columns.{column_taken}
use Rattle.column_reducer.proofs.Grown.{exponent_stays}
use Rattle.column_reducer.proofs.gathered.Gathered.add_column.Goals as goal

pub power_poly-requires : goal.power_poly-requires
power_poly-requires c = subst (λ n. c.args.k < n) (sym (exponent_stays c.args.terms.now c.equal_poly.new.terms c.in_ok-axiom.ensures.extends)) c.requires.weight

pub returns-clause-column : goal.returns-clause-column
returns-clause-column c =
    let k = c.args.k in
    let old : slice_get c.args.extended.now.graph.outputs k ≡ Some c.output-old.result = subst (λ g. slice_get g.outputs k ≡ Some c.output-old.result) c.graph.ensures c.output-old.ensures in
    let id : c.from.result + 1 + c.from-2.result ≡ c.args.extended.now.max + 1 + k = omega (arith, c.from.ensures, c.from-2.ensures, c.max.ensures.value) in
    column_taken c.args.terms.now c.equal_poly.new.terms c.power_poly.new.terms c.combine.new.self c.args.extended.now k c.output-old.result c.new_output.result c.in_ok-axiom.axiom c.in_ok-weight.weight
    c.args.self.now _ c.in_ok-axiom.ensures.extends c.in_ok-weight.ensures.extends c.in_ok-self.ensures.extends c.requires.replaced old c.new_output.ensures c.in_ok-axiom.ensures.of
    c.in_ok-axiom.ensures.value c.in_ok-weight.ensures.of c.in_ok-weight.ensures.value c.in_ok-self.ensures.of c.in_ok-self.ensures.value refl
    (c.in_ok-push.ensures.items ∙ ap (λ n. c.args.self.now.columns.items ++ (n, c.in_ok-weight.weight) ∷ []) id) refl refl refl
