use Rattle.gate_axioms.proofs.Adding.{pair_adds}
use Rattle.gate_axioms.proofs.form.Form.push_pair.Goals as goal

pub returns : goal.returns
returns c =
    rw (c.in_ok-push.ensures.items, ← c.self.view_is)
    (pair_adds c.args.coefficient.width c.args.coefficient.value c.args.u c.args.v c.self.inside.parts.items (c.value.result, c.in_ok-variables.variables) c.value.ensures.value c.in_ok-variables.ensures)
