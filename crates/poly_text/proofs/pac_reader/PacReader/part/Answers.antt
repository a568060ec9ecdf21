use Rattle.std.proofs.Common.{sym, subst}
use Rattle.algebra_core.specs.Reading.{part_at}
use Rattle.mv_text.specs.Steps.{Takes}
use Rattle.poly_text.specs.Values.{IsPartInRange, IsPartOf}
use Rattle.poly_text.proofs.PartSteps.{part_taken}
use Rattle.poly_text.proofs.pac_reader.PacReader.part.Goals as goal

pub returns-clause-ok : goal.returns-clause-ok
returns-clause-ok c =
    subst (Takes part_at (IsPartInRange c.args.self.now.max) (IsPartOf c.ended_poly.new.terms) c.args.scanner.now c.ended_poly.new.scanner) (sym c.zip.ensures)
    (part_taken c.ended_poly.new.terms c.args.self.now.max c.args.scanner.now c.ended_id.new.scanner c.ended_poly.new.scanner c.in_ok-id.id c.in_ok-factor.factor c.in_ok-id.ensures.ok c.in_ok-factor.ensures.ok)
