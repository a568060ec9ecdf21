use Rattle.std.proofs.Common.{◌+◌, ◌%◌, ◌∷◌, ◌++◌, [], ap, refl, ◌∙◌}
use Rattle.poly_terms.specs.Tables.{modulus_in, value_in}
use Rattle.column_reducer.proofs.gathered.Gathered.push.Goals as goal

pub returns : goal.returns
returns c =
    let t = c.args.terms.now in
    let factor = c.args.part.factor in
    record {
      batches = refl;
      columns = refl;
      total = refl;
      power = refl;
      parts = c.in_ok-push.ensures.items ∙ ap (λ v. c.args.self.now.parts.items ++ (v, factor) ∷ []) c.from.ensures;
      of = c.in_ok-add-2.ensures.of;
      stated = λ σ. c.in_ok-add-2.ensures.value σ ∙ ap (λ n. (n + value_in t c.args.part.variable σ) % modulus_in t) (c.in_ok-add.ensures.value σ);
    }
