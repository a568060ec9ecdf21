use Rattle.std.specs.Prelude.{◌∷◌, [], ◌++◌}
use Rattle.std.proofs.Common.{refl, ap, ◌∙◌}
use Rattle.ripple_graft.proofs.Adders.{adding_ends, adding_fits, adding_fits_word, adding_step}
use Rattle.ripple_graft.proofs.adder.adder_behind.Goals as goal

pub position-requires : goal.position-requires
position-requires c = adding_fits c.args.from c.args.pairs.now c.loop-x.x-index c.loop-x.max c.requires c.loop-x-test.true c.loop-x.invariant.top_is

pub sum_after-requires : goal.sum_after-requires
sum_after-requires c = adding_fits c.args.from c.args.pairs.now c.loop-x.x-index c.loop-x.max c.requires c.loop-x-test.true c.loop-x.invariant.top_is

pub carry_after-carry-requires : goal.carry_after-carry-requires
carry_after-carry-requires c = adding_fits c.args.from c.args.pairs.now c.loop-x.x-index c.loop-x.max c.requires c.loop-x-test.true c.loop-x.invariant.top_is

pub overflow_add-max : goal.overflow_add-max
overflow_add-max c = adding_fits_word c.loop-x.max (adding_fits c.args.from c.args.pairs.now c.loop-x.x-index c.loop-x.max c.requires c.loop-x-test.true c.loop-x.invariant.top_is)

pub loop-x-preserved : goal.loop-x-preserved
loop-x-preserved c =
    adding_step c.args.from c.args.before.items c.args.pairs.now c.loop-x.x-index c.loop-x.max c.loop-x.carry c.carry_after-carry.result (record { 0 = 0 }) (record { 0 = 0 })
    c.loop-x.gates.items c.extend_from_slice.new.self.items c.position.result c.loop-x.outputs.items c.push.new.self.items
    c.loop-x-test.true c.position.ensures c.in_ok-extend_from_slice.ensures.items (c.in_ok-push.ensures.items ∙ ap (λ l. c.loop-x.outputs.items ++ l ∷ []) c.sum_after.ensures) c.carry_after-carry.ensures c.loop-x.invariant

pub returns : goal.returns
returns c =
    adding_ends c.args.from c.args.before.items c.args.pairs.now c.loop-x.x-index c.loop-x.max c.loop-x.carry c.loop-x.gates.items c.loop-x.outputs.items
    (record { max = c.loop-x.max; gates = c.loop-x.gates; outputs = c.push-2.new.self })
    c.loop-x-test.false c.loop-x.auto.x-index-end refl refl c.in_ok-push-2.ensures.items c.loop-x.invariant
