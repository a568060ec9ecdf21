use Rattle.std.proofs.Common.{◌+◌, ◌-◌, ◌∷◌, [], ◌++◌, sym, ap, ◌∙◌, arith, length, length-append}
use Rattle.graph_maker.specs.Corrected.{inverted_from}
use Rattle.graph_maker.proofs.Inverted.{inverted_step, length-inverted_from}
use Rattle.graph_maker.proofs.literals.inverted_variables.Goals as goal

pub loop-v-preserved : goal.loop-v-preserved
loop-v-preserved c =
    let v = c.loop-v.v in
    let end = c.args.first + c.args.count in
    let pushed = c.in_ok-push.ensures ∙ ap (λ lit. c.loop-v.lits ++ lit ∷ []) c.inverted_of.ensures in
    c.loop-v.invariant ∙ inverted_step c.loop-v.lits v (end - v) (end - (v + 1)) (omega (arith, c.loop-v-test.true)) ∙
    ap (λ lits. lits ++ inverted_from (v + 1) (end - (v + 1))) (sym pushed)

pub returns-clause-all : goal.returns-clause-all
returns-clause-all c =
    let v = c.loop-v.v in
    let left = c.args.first + c.args.count - v in
    omega (
      arith,
      c.loop-v-test.false,
      ap length c.loop-v.invariant,
      length-append c.loop-v.lits (inverted_from v left),
      length-inverted_from c.args.first c.args.count,
      length-inverted_from v left,
    )
