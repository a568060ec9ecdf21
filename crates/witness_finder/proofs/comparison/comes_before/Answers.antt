use Rattle.std.proofs.Common.{◌<◌, ◌≤◌, length, arith, sym, ◌∙◌}
use Rattle.witness_finder.specs.Positions.{bits_at}
use Rattle.witness_finder.proofs.Counts.{length-positions}
use Rattle.witness_finder.proofs.Differences.{first_difference_says, same_positions, shorter_precedes}
use Rattle.witness_finder.proofs.Places.{length-bits_at}
use Rattle.witness_finder.proofs.comparison.comes_before.Goals as goal

pub returns-then-first-second : goal.returns-then-first-second
returns-then-first-second c =
    let s = c.args.operands.now in
    shorter_precedes _ _ _ _ (length-positions s c.args.first.now c.requires.inputs c.requires.first) (length-positions s c.args.second.now c.requires.inputs c.requires.second) c.if-first-second.true

pub returns-then-in_first-is_one : goal.returns-then-in_first-is_one
returns-then-in_first-is_one c =
    let s = c.args.operands.now in
    let i = c.loop-i.i in
    let first = c.args.first.now in
    let second = c.args.second.now in
    let test = c.loop-i-test.true in
    let all = c.inputs-i-end.ensures.value in
    let first_low : i < length (bits_at s first) = omega (arith, length-bits_at s first) in
    let second_low : i < length (bits_at s second) = omega (arith, length-bits_at s second) in
    first_difference_says (bits_at s first) (bits_at s second) i c.is_one-in_first.result c.is_one.result c.loop-i.invariant first_low second_low
    (sym c.is_one-in_first.ensures) (sym c.is_one.ensures) c.if-in_first-is_one.true
    (length-positions s first c.requires.inputs c.requires.first ∙ c.if-first-second.false ∙ sym (length-positions s second c.requires.inputs c.requires.second))

pub returns : goal.returns
returns c =
    let s = c.args.operands.now in
    let i = c.loop-i.i in
    let first = c.args.first.now in
    let second = c.args.second.now in
    let test = c.loop-i-test.false in
    let all = c.inputs-i-end.ensures.value in
    let first_all : length (bits_at s first) ≤ i = omega (arith, length-bits_at s first) in
    let second_all : length (bits_at s second) ≤ i = omega (arith, length-bits_at s second) in
    same_positions (bits_at s first) (bits_at s second) i c.loop-i.invariant first_all second_all
