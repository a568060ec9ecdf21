use Rattle.std.proofs.lemmas.Result.{on_ok_weaker}
use Rattle.pac_checker.specs.Rules.{product_line}
use Rattle.pac_checker.proofs.LineKinds.{product_is_combination}
use Rattle.pac_checker.proofs.judge.Judge.product.Goals as goal

pub returns-clause-taken : goal.returns-clause-taken
returns-clause-taken c =
    let old = c.args.self.now in
    on_ok_weaker c.introduce.result (λ takes. takes (product_line old.table c.args.id c.args.i c.args.factor.now c.args.poly.now) (product_is_combination old c.args.id c.args.i c.args.factor.now c.args.poly.now)) c.introduce.ensures.taken
