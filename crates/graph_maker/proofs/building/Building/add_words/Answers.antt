use Rattle.std.proofs.Common.{length, ap, arith}
use Rattle.std.specs.declared.option.Option.TheVariants.{Some}
use Rattle.graph_maker.proofs.AddersAdd.{length-ripple}
use Rattle.graph_maker.proofs.building.Building.add_words.Goals as goal

pub split_at-requires : goal.split_at-requires
split_at-requires c =
    omega (
      arith,
      ap length c.as_slice.ensures,
      ap (λ r. length r.outputs) c.in_ok-outputs.ensures.value,
      length-ripple c.args.self.now c.deref.result.now c.args.ys.now (Some c.args.first),
    )
