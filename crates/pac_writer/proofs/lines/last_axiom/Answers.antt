use Rattle.std.specs.Prelude.{◌≤◌, ◌<◌}
use Rattle.std.specs.List.{All}
use Rattle.std.proofs.Common.{◌≡◌, ◌+◌, length, subst}
use Rattle.algebra_core.specs.AlgebraLines.{axioms}
use Rattle.pac_writer.proofs.FirstLines.{axiom_ids}
use Rattle.pac_writer.proofs.lines.last_axiom.Goals as goal

pub returns-clause-ids : goal.returns-clause-ids
returns-clause-ids c =
    let e = c.args.extended.now in
    let last : e.max + length e.graph.outputs ≡ c.from.result + c.from-2.result = cc (c.from.ensures, c.from-2.ensures, c.max.ensures.value, c.graph.ensures, c.outputs.ensures.value) in
    subst (λ n. All (λ line. (0 < line.id) × (line.id ≤ n)) (axioms e).live) last (axiom_ids e c.gates-gates.ensures.extension)
