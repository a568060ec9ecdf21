use Rattle.std.proofs.Common.{◌∙◌}
use Rattle.poly_terms.specs.Laws.{modulus_stays}
use Rattle.line_drafts.proofs.Leaving.{gate_known}
use Rattle.line_drafts.proofs.axiom_lines.gate_line.Goals as goal

pub returns-clause-known : goal.returns-clause-known
returns-clause-known c =
    let t0 = c.args.terms.now in
    let t = c.gate_poly.new.terms in
    gate_known c.args.extended.now t c.args.gate.now _ c.in_ok-poly.poly c.gates-gates.ensures.extension (modulus_stays t0 t c.in_ok-poly.ensures.extends ∙ c.requires.same_modulus) c.requires.gate c.from.ensures
    c.in_ok-poly.ensures.of c.in_ok-poly.ensures.value
