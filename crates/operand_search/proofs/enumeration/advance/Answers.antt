use Rattle.std.proofs.Common.{arith, inl, inr}
use Rattle.operand_search.proofs.Advancing.{moved_on, one_more_on, ended}
use Rattle.operand_search.proofs.enumeration.advance.Goals as goal
use Rattle.operand_search.proofs.enumeration.advance.Goals.{else-zeros-gt0-via-then-zeros-gt0+else-ones-most_ones, else-zeros-gt0-via-else-zeros-gt0}

pub returns-then-front-gt0-clause-step : goal.returns-then-front-gt0-clause-step
returns-then-front-gt0-clause-step c =
    (moved_on c.args.most_ones c.args.bits.now c.rewrite.new.bits c.run_at_end-ones.result c.run_at_end-zeros.result c.run_at_end-ones.ensures c.run_at_end-zeros.ensures
    c.requires.few c.if-front-gt0.true c.rewrite.ensures).0

pub returns-then-front-gt0-clause-smaller : goal.returns-then-front-gt0-clause-smaller
returns-then-front-gt0-clause-smaller c e =
    (moved_on c.args.most_ones c.args.bits.now c.rewrite.new.bits c.run_at_end-ones.result c.run_at_end-zeros.result c.run_at_end-ones.ensures c.run_at_end-zeros.ensures
    c.requires.few c.if-front-gt0.true c.rewrite.ensures).1

pub returns-then-ones-most_ones-clause-step : goal.returns-then-ones-most_ones-clause-step
returns-then-ones-most_ones-clause-step c =
    (one_more_on c.args.most_ones c.args.bits.now c.rewrite-then-ones-most_ones.new.bits c.run_at_end-ones.result c.run_at_end-zeros.result c.run_at_end-ones.ensures
    c.run_at_end-zeros.ensures c.if-front-gt0.false c.if-zeros-gt0.true c.if-ones-most_ones.true c.rewrite-then-ones-most_ones.ensures).0

pub returns-then-ones-most_ones-clause-smaller : goal.returns-then-ones-most_ones-clause-smaller
returns-then-ones-most_ones-clause-smaller c e =
    (one_more_on c.args.most_ones c.args.bits.now c.rewrite-then-ones-most_ones.new.bits c.run_at_end-ones.result c.run_at_end-zeros.result c.run_at_end-ones.ensures
    c.run_at_end-zeros.ensures c.if-front-gt0.false c.if-zeros-gt0.true c.if-ones-most_ones.true c.rewrite-then-ones-most_ones.ensures).1

pub returns-else-zeros-gt0-clause-step : goal.returns-else-zeros-gt0-clause-step
returns-else-zeros-gt0-clause-step c =
    ended c.args.most_ones c.args.bits.now c.args.bits.now c.run_at_end-ones.result c.run_at_end-zeros.result c.run_at_end-ones.ensures c.run_at_end-zeros.ensures c.if-front-gt0.false
    (elim c.else-zeros-gt0.branch [ else-zeros-gt0-via-then-zeros-gt0+else-ones-most_ones w ↦ inr w.if-ones-most_ones.false | else-zeros-gt0-via-else-zeros-gt0 w ↦ inl (omega arith) ])
