use Rattle.std.proofs.Common.{List, sym, subst}
use Rattle.algebra_core.specs.AlgebraLines.{AreLawful, Line}
use Rattle.pac_checker.specs.Checking.{checker_premises}
use Rattle.poly_text.specs.WrittenLines.{IsWritable}
use Rattle.algebra_judge.proofs.algebra_line.judge_text.Goals as goal

pub returns-in-Ok-clause-closes : goal.returns-in-Ok-clause-closes
returns-in-Ok-clause-closes c =
    let old = c.args.checker.now in
    let stays = c.close.ensures.unchanged.recorded in (
      stays,
      λ version. record {
        is_id = subst IsWritable c.in-Close.is c.requires.recordable.writable;
        lawful = λ yes. subst (λ (rs : List Line). AreLawful (checker_premises version old) old.sides rs c.in-Close.id) (sym stays) (c.in-Ok.ensures.recorded yes version);
      },
    )
