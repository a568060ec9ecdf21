use Rattle.std.proofs.lemmas.Result.{IfErr-weaker, on_ok_weaker}
use Rattle.algebra_core.specs.AlgebraLines.{Line}
use Rattle.pac_checker.specs.Rules.{sum_line}
use Rattle.pac_checker.proofs.LineKinds.{sum_is_combination, takes_grown, refused_grown}
use Rattle.pac_checker.proofs.judge.Judge.sum.Goals as goal

pub returns-clause-taken : goal.returns-clause-taken
returns-clause-taken c =
    let old = c.args.self.now in
    let line : Line = sum_line old.table c.args.id c.args.i c.args.j c.args.poly.now in
    on_ok_weaker c.introduce.result
    (λ takes. takes_grown old c.one.new.self c.introduce.new.self line c.one.ensures.grows (takes line (sum_is_combination old c.one.new.self c.args.id c.args.i c.args.j c.in_ok-one.one c.args.poly.now c.one.ensures.grows c.in_ok-one.ensures.one c.requires)))
    c.introduce.ensures.taken

pub returns-clause-refused : goal.returns-clause-refused
returns-clause-refused c =
    let old = c.args.self.now in
    let line : Line = sum_line old.table c.args.id c.args.i c.args.j c.args.poly.now in
    IfErr-weaker c.introduce.result _ _
    (λ fault refused. refused_grown old c.one.new.self line fault c.one.ensures.grows (refused line (sum_is_combination old c.one.new.self c.args.id c.args.i c.args.j c.in_ok-one.one c.args.poly.now c.one.ensures.grows c.in_ok-one.ensures.one c.requires)))
    c.introduce.ensures.refused
