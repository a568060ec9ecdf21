use Rattle.std.proofs.Common.{◌≡◌, ◌<◌, ◌≤◌, ◌++◌, ◌∷◌, [], take, length, arith, refl, sym, ap, ap₂, ◌∙◌, false, rules}
use Rattle.std.proofs.lemmas.List.{length-take, take_all, take_more, take_more_set}
use Rattle.witness_finder.specs.Positions.{bits_at}
use Rattle.witness_finder.proofs.Places.{length-bits_at}
use Rattle.witness_finder.proofs.ones.numbers_at.Goals as goal

pub is_one-requires-clause-in_range : goal.is_one-requires-clause-in_range
is_one-requires-clause-in_range c =
    let low = c.loop-i-test.true in
    let count = c.loop-i.invariant.count in
    omega arith

pub loop-i-init : goal.loop-i-init
loop-i-init c = record { count = c.inputs-count.ensures.value; few = c.inputs-count.ensures.few; room = refl; done = refl }

pub loop-i-preserved : goal.loop-i-preserved
loop-i-preserved c =
    let s = c.args.operands.now in
    let i = c.loop-i.i in
    let bits = bits_at s c.args.variables.now in
    let room = c.loop-i.invariant.room in
    let few = c.loop-i.invariant.few in
    let count = c.loop-i.invariant.count in
    let test = c.loop-i-test.true in
    let low : i < length c.loop-i.values = omega arith in
    let below : i < length bits = omega (arith, length-bits_at s c.args.variables.now) in
    record {
      count = count;
      few = few;
      room = search rules;
      done = take_more_set c.loop-i.values i c.is_one.result low ∙ ap₂ (λ xs b. xs ++ b ∷ []) c.loop-i.invariant.done c.is_one.ensures ∙ sym (take_more bits i false below);
    }

pub numbers_of-requires : goal.numbers_of-requires
numbers_of-requires c = record {
  as_many =
      let room = c.loop-i.invariant.room in
      let few = c.loop-i.invariant.few in
      let literals = c.inputs-count.ensures.literals in
      omega (arith, length-take c.inputs-count.result c.loop-i.values);
}

pub returns-clause-inputs : goal.returns-clause-inputs
returns-clause-inputs c =
    let s = c.args.operands.now in
    let i = c.loop-i.i in
    let bits = bits_at s c.args.variables.now in
    let count = c.loop-i.invariant.count in
    let test = c.loop-i-test.false in
    let end = c.loop-i.auto.i-end in
    let at_end : c.inputs-count.result ≡ i = omega arith in
    let all : length bits ≤ i = omega (arith, length-bits_at s c.args.variables.now) in
    sym c.numbers_of.ensures.inputs ∙ ap (λ n. take n c.loop-i.values) at_end ∙ c.loop-i.invariant.done ∙ take_all i bits all
