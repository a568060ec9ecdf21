use Rattle.std.proofs.Common.{arith, subst, sym, ◌∙◌, All}
use Rattle.std.specs.Option.{IfSome}
use Rattle.graph_core.proofs.OfGraphs.CallerLemmas.{length-literals}
use Rattle.operand_search.specs.Lanes.{AreLanes}
use Rattle.operand_search.specs.Runs.{IsFirstWrong, IsRightOn}
use Rattle.operand_search.proofs.Running.{IsClear, all_passed, found_is_least, run_clear}
use Rattle.operand_search.proofs.search.least_from.Goals as goal

pub next_numbers-requires-clause-size : goal.next_numbers-requires-clause-size
next_numbers-requires-clause-size c = c.loop-numbers.invariant.size ∙ sym (length-literals c.args.graph.now c.args.operands.now c.requires.shape c.requires.operands)

pub next_numbers-requires-clause-as_many : goal.next_numbers-requires-clause-as_many
next_numbers-requires-clause-as_many c =
    let size = c.loop-numbers.invariant.size in
    let kept = c.loop-numbers.auto.lanes in
    let lanes = c.requires.lanes in
    omega arith

pub returns-in-Some-clause-some : goal.returns-in-Some-clause-some
returns-in-Some-clause-some c =
    (found_is_least c.args.graph.now c.args.operands.now c.requires.shape c.requires.once c.requires.operands c.args.most_ones
    c.loop-numbers.inputs c.loop-numbers.invariant.clear c.loop-numbers.invariant.few c.in_ok-numbers.numbers.items c.deref.result.now c.deref.ensures.value
    c.in_ok-numbers.goes_on c.next_numbers.new.inputs c.in_ok-numbers.ensures.run c.in-Some.j c.index.result.now c.index.ensures
    (subst (λ o. IfSome o (λ j. AreLanes c.args.operands.now c.deref.result.now c.next_numbers.new.lanes → IsFirstWrong c.args.graph.now c.args.operands.now c.deref.result.now j)) c.in-Some.is c.first_wrong.ensures.some
    (subst (λ xs. AreLanes c.args.operands.now xs c.next_numbers.new.lanes) (sym c.deref.ensures.value) c.in_ok-numbers.ensures.lanes))).least

pub returns-in-Some-clause-range : goal.returns-in-Some-clause-range
returns-in-Some-clause-range c =
    (found_is_least c.args.graph.now c.args.operands.now c.requires.shape c.requires.once c.requires.operands c.args.most_ones
    c.loop-numbers.inputs c.loop-numbers.invariant.clear c.loop-numbers.invariant.few c.in_ok-numbers.numbers.items c.deref.result.now c.deref.ensures.value
    c.in_ok-numbers.goes_on c.next_numbers.new.inputs c.in_ok-numbers.ensures.run c.in-Some.j c.index.result.now c.index.ensures
    (subst (λ o. IfSome o (λ j. AreLanes c.args.operands.now c.deref.result.now c.next_numbers.new.lanes → IsFirstWrong c.args.graph.now c.args.operands.now c.deref.result.now j)) c.in-Some.is c.first_wrong.ensures.some
    (subst (λ xs. AreLanes c.args.operands.now xs c.next_numbers.new.lanes) (sym c.deref.ensures.value) c.in_ok-numbers.ensures.lanes))).range

pub returns-in-Some-clause-few : goal.returns-in-Some-clause-few
returns-in-Some-clause-few c =
    (found_is_least c.args.graph.now c.args.operands.now c.requires.shape c.requires.once c.requires.operands c.args.most_ones
    c.loop-numbers.inputs c.loop-numbers.invariant.clear c.loop-numbers.invariant.few c.in_ok-numbers.numbers.items c.deref.result.now c.deref.ensures.value
    c.in_ok-numbers.goes_on c.next_numbers.new.inputs c.in_ok-numbers.ensures.run c.in-Some.j c.index.result.now c.index.ensures
    (subst (λ o. IfSome o (λ j. AreLanes c.args.operands.now c.deref.result.now c.next_numbers.new.lanes → IsFirstWrong c.args.graph.now c.args.operands.now c.deref.result.now j)) c.in-Some.is c.first_wrong.ensures.some
    (subst (λ xs. AreLanes c.args.operands.now xs c.next_numbers.new.lanes) (sym c.deref.ensures.value) c.in_ok-numbers.ensures.lanes))).few

pub returns-then-not-goes_on-clause-none : goal.returns-then-not-goes_on-clause-none
returns-then-not-goes_on-clause-none c e =
    let g = c.args.graph.now in
    let s = c.args.operands.now in
    let right : All (IsRightOn g s) c.in_ok-numbers.numbers.items =
    subst (All (IsRightOn g s)) c.deref.ensures.value
    (c.first_wrong.ensures.none c.in_default.is (subst (λ xs. AreLanes s xs c.next_numbers.new.lanes) (sym c.deref.ensures.value) c.in_ok-numbers.ensures.lanes)) in
    all_passed g s c.requires.shape c.requires.once c.requires.operands c.args.most_ones c.next_numbers.new.inputs
    (subst (λ b. IsClear g s c.requires.shape c.requires.once c.requires.operands c.args.most_ones b c.next_numbers.new.inputs) c.if-not-goes_on.true
    (run_clear g s c.requires.shape c.requires.once c.requires.operands c.args.most_ones c.loop-numbers.inputs c.loop-numbers.invariant.clear c.in_ok-numbers.numbers.items c.in_ok-numbers.goes_on
    c.next_numbers.new.inputs c.in_ok-numbers.ensures.run right))

pub loop-numbers-preserved : goal.loop-numbers-preserved
loop-numbers-preserved c =
    let g = c.args.graph.now in
    let s = c.args.operands.now in
    let right : All (IsRightOn g s) c.in_ok-numbers.numbers.items =
    subst (All (IsRightOn g s)) c.deref.ensures.value
    (c.first_wrong.ensures.none c.in_default.is (subst (λ xs. AreLanes s xs c.next_numbers.new.lanes) (sym c.deref.ensures.value) c.in_ok-numbers.ensures.lanes)) in
    let kept = c.next_numbers.auto.inputs in
    let size = c.loop-numbers.invariant.size in
    record {
      size = omega arith;
      few = c.in_ok-numbers.ensures.few c.if-not-goes_on.false;
      clear =
          subst (λ b. IsClear g s c.requires.shape c.requires.once c.requires.operands c.args.most_ones b c.next_numbers.new.inputs) c.if-not-goes_on.false
          (run_clear g s c.requires.shape c.requires.once c.requires.operands c.args.most_ones c.loop-numbers.inputs c.loop-numbers.invariant.clear c.in_ok-numbers.numbers.items c.in_ok-numbers.goes_on
          c.next_numbers.new.inputs c.in_ok-numbers.ensures.run right);
    }
