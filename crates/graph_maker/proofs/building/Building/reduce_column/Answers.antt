use Rattle.std.proofs.Common.{◌≡◌, ◌+◌, ◌-◌, ◌≤◌, ◌∷◌, [], ◌++◌, drop, take, length, ap, ap₂, ◌∙◌, arith, length-append}
use Rattle.std.proofs.lemmas.List.{length-drop, take_rest}
use Rattle.graph_maker.proofs.MakingSteps.{once_step, reduced_end}
use Rattle.graph_maker.proofs.building.Building.reduce_column.Goals as goal

pub loop-used-preserved : goal.loop-used-preserved
loop-used-preserved c =
    let used = c.loop-used.used in
    let taken = c.in_ok-taken.taken in
    let ls = c.loop-used.literals.items in
    let slice = c.deref.result.now in
    let once = c.in_ok-taken.ensures in
    let pushed = c.in_ok-push.ensures.items in
    let before = c.loop-used.invariant in
    let from_is : take (length slice - used) (drop used slice) ≡ drop used ls = take_rest slice used ∙ ap (drop used) c.deref.ensures.value in
    let within : used + taken ≤ length ls = omega (arith, before.within, once.taken.1, ap length from_is, length-drop used ls) in
    let long : length c.push.new.self.items ≡ length ls + 1 = ap length pushed ∙ length-append ls (c.in_ok-taken.sum ∷ []) in
    record {
      whole = before.whole ∙ once_step c.args.height c.loop-used.carries c.push-in-loop-used.new.self c.loop-used.self c.reduce_once.new.self ls (take (length slice - used) (drop used slice)) c.push.new.self.items used taken
          c.in_ok-taken.sum c.in_ok-taken.carry from_is within once.value pushed c.in_ok-push-2.ensures;
      within = omega (arith, within, long);
      few = omega (arith, before.few, within, long, once.few);
    }

pub reduce_once-requires-clause-many : goal.reduce_once-requires-clause-many
reduce_once-requires-clause-many c =
    let used = c.loop-used.used in
    let ls = c.loop-used.literals.items in
    let slice = c.deref.result.now in
    omega (arith, ap length (take_rest slice used ∙ ap (drop used) c.deref.ensures.value), length-drop used ls, c.loop-used-test.true, c.len.ensures)

pub reduce_once-requires-clause-room : goal.reduce_once-requires-clause-room
reduce_once-requires-clause-room c = omega (arith, c.loop-used.invariant.few, c.requires.two, c.requires.room, c.loop-used-test.true, c.len.ensures)

pub returns-clause-value : goal.returns-clause-value
returns-clause-value c =
    let used = c.loop-used.used in
    let ls = c.loop-used.literals.items in
    let slice = c.deref-2.result.now in
    let rest : c.extend.new.self ≡ drop used ls = c.in_ok-extend.ensures ∙ ap₂ ◌++◌ c.new-rest.ensures (take_rest slice used ∙ ap (drop used) c.deref-2.ensures.value) in
    c.loop-used.invariant.whole ∙ reduced_end c.args.height c.loop-used.carries c.loop-used.self (drop used ls) c.extend.new.self (omega (arith, c.loop-used-test.false, length-drop used ls, c.len.ensures)) rest
