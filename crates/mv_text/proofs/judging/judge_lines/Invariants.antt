use Rattle.mv_desk.specs.Calls.{ReadsOnly}
use Rattle.mv_desk.specs.View.{KeepsTelling}
use Rattle.mv_text.proofs.judging.judge_lines.Given as goal

abbrev pub invariant-loop-count : goal.invariant-loop-count
invariant-loop-count g l = record {
  reached : g.J.JudgeLines.reached l.fn.judge (g.D.Desk.seen l.fn.desk) l.count l.judge (g.D.Desk.seen l.desk);
  only : ReadsOnly g.J.JudgeLines.slot (g.D.Desk.seen l.fn.desk) (g.D.Desk.seen l.desk);
  tells : KeepsTelling (g.D.Desk.seen l.fn.desk) (g.D.Desk.seen l.desk);
}
