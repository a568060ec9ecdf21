use Rattle.std.specs.Prelude.{ℕ}
use Rattle.std.specs.Global.{Global}
use Rattle.std.specs.declared.vec.Vec.{Vec}
use Rattle.graph_core.specs.declared.literal.Lit.{Lit}
use Rattle.graph_core.specs.Graph.Extended.{Extended}
use Rattle.ripple_graft.specs.declared.beside.Beside.{Beside}
use Rattle.drup_text.proofs.BesideSteps.{gates_not_read, outputs_not_read, parts_read}
use Rattle.drup_text.proofs.beside.beside.Goals as goal

pub returns-in-Ok-outputs-clause-beside : goal.returns-in-Ok-outputs-clause-beside
returns-in-Ok-outputs-clause-beside g c =
    let gates : Extended × Vec (Lit × Lit) Global = (c.in-Ok.extended, c.in-Ok.gates) in
    let outputs : Extended × Vec (ℕ × Lit) Global = (c.in-Ok-outputs.field-0-0, c.in-Ok-outputs.outputs) in
    let beside : Beside = record { gates = c.from_vec-gates.result; outputs = c.from_vec-outputs.result } in
    parts_read c.args.graph.now gates outputs beside c.in-Ok.ensures.made c.from_vec-gates.ensures c.from_vec-outputs.ensures c.in-Ok.ensures.keeps.lengths c.in-Ok.ensures.gates c.in-Ok-outputs.ensures.outputs

pub returns-in-Err-outputs-clause-beside : goal.returns-in-Err-outputs-clause-beside
returns-in-Err-outputs-clause-beside g c =
    let gates : Extended × Vec (Lit × Lit) Global = (c.in-Ok.extended, c.in-Ok.gates) in
    outputs_not_read c.args.graph.now gates c.in-Err-outputs.fail c.requires.first c.in-Ok.ensures.made c.in-Ok.ensures.keeps.lengths c.in-Ok.ensures.reads.stands c.in-Ok.ensures.gates c.in-Err-outputs.ensures.outputs

pub returns-in-Err-clause-beside : goal.returns-in-Err-clause-beside
returns-in-Err-clause-beside g c = gates_not_read c.args.graph.now c.in-Err.fail c.requires.first c.in-Err.ensures.gates
