use Rattle.std.proofs.Common.{ap, sym, ◌∙◌}
use Rattle.std.proofs.lemmas.Bool.Decides.{Decides-int_eq}
use Rattle.std.proofs.lemmas.List.{get_or_default}
use Rattle.std.proofs.lemmas.Slice.Eq.{slice_eq-Decides}
use Rattle.clause_core.specs.Clause.{Clause}
use Rattle.clause_core.specs.declared.line.Line.TheVariants.{Add}
use Rattle.std.proofs.Common.{◌≡◌, ◌<◌, arith, length}
use Rattle.cdcl_solver.proofs.log.is_live_at.Goals as goal

pub returns-in-Add-clause-line : goal.returns-in-Add-clause-line
returns-in-Add-clause-line c t x =
    let same : c.lits.result.now ≡ c.lits-in-Add.result.now = (slice_eq-Decides Decides-int_eq c.lits.result.now c.lits-in-Add.result.now c.eq.result c.eq.ensures).0 t in
    let own : c.in-Add.own ≡ c.args.clause.now = sym c.lits.ensures.value ∙ same ∙ c.lits-in-Add.ensures.value in
    let below : c.args.place < length c.args.lines.now = omega arith in
    get_or_default c.args.lines.now c.args.place x c.index-lines-place.result below ∙ sym c.index-lines-place.is ∙ c.in-Add.is ∙ ap (λ (d : Clause). Add d) own
