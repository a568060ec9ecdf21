use Rattle.std.proofs.Common.{refl}
use Rattle.gate_axioms.proofs.AxiomLines.{one_deleted}
use Rattle.gate_axioms.proofs.left_axioms.LeftAxioms.delete.Goals as goal

pub returns-clause-deletes : goal.returns-clause-deletes
returns-clause-deletes c =
    rw (← c.self.view_is) (record { extended = refl; lines = one_deleted c.self.inside.extended.now c.self.inside.deleted.keys c.insert.new.self.keys c.args.id c.in-Ok.ensures.updates.0 })
