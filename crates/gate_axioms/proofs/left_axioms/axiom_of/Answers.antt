use Rattle.std.proofs.Common.{◌≡◌, length, sym, ap, ◌∙◌, arith}
use Rattle.std.specs.declared.option.Option.TheVariants.{None}
use Rattle.algebra_core.specs.AlgebraLines.{axioms, line_of}
use Rattle.algebra_core.proofs.CallerLemmas.{same_of}
use Rattle.gate_axioms.proofs.AxiomLines.{no_axiom}
use Rattle.gate_axioms.proofs.left_axioms.axiom_of.Goals as goal

pub returns-then-k-from : goal.returns-then-k-from
returns-then-k-from c =
    let e = c.args.extended.now in
    let outputs : length e.graph.outputs ≡ c.outputs.result = sym (c.outputs.ensures.value ∙ ap (λ g. length g.outputs) c.graph.ensures) in
    same_of (line_of (axioms e).live c.args.id) None
    (no_axiom e c.args.id c.max.ensures.extension (omega (arith, outputs, c.from.ensures, c.from-max.ensures, c.max.ensures.value, c.if-k-from.true, c.if-id-max.false)))
