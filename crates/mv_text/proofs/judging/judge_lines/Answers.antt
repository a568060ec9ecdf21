use Rattle.std.proofs.Common.{◌≡◌, ◌^◌, ℕ, subst, arith}
use Rattle.mv_text.proofs.judging.judge_lines.Goals as goal

pub too_many-requires : goal.too_many-requires
too_many-requires g c =
    let seen = g.D.Desk.seen in
    let all : c.loop-count.count ≡ 2 ^ 63 = omega (arith, c.loop-count-test.false, c.loop-count.auto.count-end) in
    (c.args.judge.now, seen c.args.desk.now, subst (λ (n : ℕ). g.J.JudgeLines.reached c.args.judge.now (seen c.args.desk.now) n c.loop-count.judge (seen c.loop-count.desk)) all c.loop-count.invariant.reached)
