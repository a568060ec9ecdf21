use Rattle.std.proofs.Common.{Err, arith, ⊎_elim}
use Rattle.std.proofs.lemmas.Bool.{cases_lt}
use Rattle.std.proofs.lemmas.List.Sorted.{searched}
use Rattle.pair_trim.proofs.PacOperands.{rising_weak}
use Rattle.pair_trim.proofs.operands.place_in.Goals as goal

pub returns-in-Err : goal.returns-in-Err
returns-in-Err c =
    let s = searched c.args.ids.now c.args.id (Err c.in-Err.field-0) c.in-Err.ensures.position (rising_weak c.args.ids.now c.requires) in
    λ p low e. ⊎_elim (λ before. let less = s.1 p before in omega arith) (λ behind. let more = s.2 p behind low in omega arith) (cases_lt p c.in-Err.field-0)
