use Rattle.std.proofs.Common.{◌∷◌, ◌++◌, [], ap, refl, ◌∙◌}
use Rattle.poly_terms.specs.Laws.{extends_itself}
use Rattle.column_reducer.proofs.Taken.{batch_ended}
use Rattle.column_reducer.proofs.gathered.Gathered.close_batch.Goals as goal

pub take-requires : goal.take-requires
take-requires c = c.requires.gathered.4.of

pub power_poly-requires : goal.power_poly-requires
power_poly-requires c = c.requires.gathered.4.low

pub returns-clause-ended : goal.returns-clause-ended
returns-clause-ended c =
    let t0 = c.args.terms.now in
    batch_ended t0 t0 c.power_poly.new.terms c.combine.new.self c.args.self.now _ c.in_ok-poly.poly c.in_ok-weight.weight
    (extends_itself t0) c.in_ok-weight.ensures.extends c.in_ok-self.ensures.extends c.requires.some c.in_ok-poly.ensures.of c.in_ok-weight.ensures.of c.in_ok-self.ensures.of c.in_ok-poly.ensures.value
    c.in_ok-weight.ensures.value c.in_ok-self.ensures.value (c.in_ok-push.ensures.items ∙ ap (λ parts. c.args.self.now.batches.items ++ record { parts = parts; poly = c.in_ok-poly.poly; weight = c.in_ok-weight.weight } ∷ []) c.replace-parts.ensures.value) refl
    (ap (λ parts. parts.items) c.replace-parts.ensures.after ∙ c.new-2.ensures.items) c.new.ensures refl
