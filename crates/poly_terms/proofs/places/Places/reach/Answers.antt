use Rattle.std.proofs.Common.{◌+◌, ◌∷◌, [], get_or, length, ap, ◌∙◌, length-append, arith}
use Rattle.poly_terms.proofs.Entering.{with_one_more}
use Rattle.poly_terms.proofs.Ends.{not_done}
use Rattle.poly_terms.proofs.places.Places.reach.Goals as goal

pub loop-preserved : goal.loop-preserved
loop-preserved c =
    let before = c.loop.self-inside.by_variable.items in
    let is = c.in_ok-push.ensures.items in
    record {
      same = with_one_more _ before c.push.new.self.items c.new.result is c.new.ensures c.loop.invariant.same;
      counter = ap length is ∙ length-append before (c.new.result ∷ []) ∙ ap (λ n. n + 1) c.loop.invariant.counter;
    }

pub returns-clause-same : goal.returns-clause-same
returns-clause-same c u = c.loop.invariant.same u ∙ ap (λ ps. get_or ps u []) c.self.view_is

pub returns-in_ok-push-clause-same : goal.returns-in_ok-push-clause-same
returns-in_ok-push-clause-same c u =
    with_one_more _ c.loop.self-inside.by_variable.items c.push.new.self.items c.new.result c.in_ok-push.ensures.items c.new.ensures c.loop.invariant.same u ∙ ap (λ ps. get_or ps u []) c.self.view_is

pub returns-in_err-push-clause-same : goal.returns-in_err-push-clause-same
returns-in_err-push-clause-same c = not_done _ _ c.from_residual.result c.from_residual.ensures.1

pub returns-in_err-push-clause-long : goal.returns-in_err-push-clause-long
returns-in_err-push-clause-long c = not_done _ _ c.from_residual.result c.from_residual.ensures.1

pub returns-in_ok-push-clause-long : goal.returns-in_ok-push-clause-long
returns-in_ok-push-clause-long c =
    let before = c.loop.self-inside.by_variable.items in
    let more = ap length c.in_ok-push.ensures.items ∙ length-append before (c.new.result ∷ []) in
    omega (arith, more, c.loop.invariant.counter)
