use Rattle.std.proofs.Common.{sym, ap, subst, ◌∙◌}
use Rattle.std.specs.List.{All}
use Rattle.std.proofs.lemmas.Result.{IfErr-weaker, on_ok_weaker}
use Rattle.algebra_core.specs.AlgebraLines.{Line}
use Rattle.poly_terms.specs.Tables.{IsOf}
use Rattle.pac_checker.specs.Rules.{IsStatingLine, lent, combination_line}
use Rattle.pac_checker.proofs.Sums.{all_lent}
use Rattle.pac_checker.proofs.LineKinds.{combination_is_combination}
use Rattle.pac_checker.proofs.judge.Judge.combination.Goals as goal

pub introduce-requires-clause-parts_of_table : goal.introduce-requires-clause-parts_of_table
introduce-requires-clause-parts_of_table c =
    all_lent c.args.self.now.table c.deref.result.now (subst (All (λ part. IsOf c.args.self.now.table part.1)) (sym (ap lent c.deref.ensures.value ∙ c.in_ok-parts.ensures)) c.requires.parts_of_table)

pub returns-clause-taken : goal.returns-clause-taken
returns-clause-taken c =
    let old = c.args.self.now in
    let line : Line = combination_line old.table c.args.id c.args.parts.now c.args.poly.now in
    let says : IsStatingLine old c.args.id (lent c.deref.result.now) c.args.poly.now line =
    subst (λ parts. IsStatingLine old c.args.id parts c.args.poly.now line) (sym (ap lent c.deref.ensures.value ∙ c.in_ok-parts.ensures)) (combination_is_combination old c.args.id c.args.parts.now c.args.poly.now) in
    on_ok_weaker c.introduce.result (λ takes. takes line says) c.introduce.ensures.taken

pub returns-clause-refused : goal.returns-clause-refused
returns-clause-refused c =
    let old = c.args.self.now in
    let line : Line = combination_line old.table c.args.id c.args.parts.now c.args.poly.now in
    let says : IsStatingLine old c.args.id (lent c.deref.result.now) c.args.poly.now line =
    subst (λ parts. IsStatingLine old c.args.id parts c.args.poly.now line) (sym (ap lent c.deref.ensures.value ∙ c.in_ok-parts.ensures)) (combination_is_combination old c.args.id c.args.parts.now c.args.poly.now) in
    IfErr-weaker c.introduce.result _ _ (λ fault refused. refused line says) c.introduce.ensures.refused
