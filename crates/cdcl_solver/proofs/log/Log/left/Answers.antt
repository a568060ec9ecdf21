use Rattle.std.proofs.Common.{◌≡◌, length, arith, ap, sym, ◌∙◌}
use Rattle.cdcl_solver.proofs.LogLemmas.{left_more_no, left_more_yes}
use Rattle.cdcl_solver.proofs.log.Log.left.Goals.{then-index+in_ok-copy+in_ok-push, else-index}
use Rattle.cdcl_solver.proofs.log.Log.left.Goals as goal

pub loop-place-preserved : goal.loop-place-preserved
loop-place-preserved c =
    let lines = c.deref-line-items.result.now in
    let marks = c.self.inside.live.items in
    let even : length marks ≡ length lines = c.self.invariant.even ∙ ap length (sym c.deref-line-items.ensures.value) in
    elim c.if-index.branch [
      | then-index+in_ok-copy+in_ok-push w ↦
          left_more_yes lines marks c.loop-place.place c.line-item.result c.index.result.now w.in_ok-copy.field-0 c.loop-place.clauses c.if-index.clauses even (omega arith) c.line-item.is c.index.ensures w.if-index.true
          (w.in_ok-copy.ensures ∙ w.clause_of.ensures) (w.clauses-is ∙ w.in_ok-push.ensures.ok) c.loop-place.invariant
      | else-index w ↦
          left_more_no lines marks c.loop-place.place c.line-item.result c.index.result.now c.loop-place.clauses c.if-index.clauses even (omega arith) c.line-item.is c.index.ensures w.if-index.false w.clauses-is c.loop-place.invariant
    ]
