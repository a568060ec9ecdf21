use Rattle.std.proofs.Common.{◌++◌, ◌∷◌, [], ℕ, List, take, slice_index, sym, ap, subst, ◌∙◌}
use Rattle.std.proofs.lemmas.List.{take_more}
use Rattle.pair_trim.specs.Lines.{AreUsesOf}
use Rattle.pair_trim.proofs.PacOperands.{rising_once, uses_more, uses_other}
use Rattle.pair_trim.proofs.operands.uses_among.Goals.{in-Some+in_ok-push, in_default}
use Rattle.pair_trim.proofs.operands.uses_among.Goals as goal

pub loop-operand-preserved : goal.loop-operand-preserved
loop-operand-preserved c =
    let ids = c.args.ids.now in
    let ops = c.args.operands.now in
    let i = c.loop-operand.operand-index in
    let o = slice_index ops i in
    subst (λ (xs : List ℕ). AreUsesOf ids xs c.match-place_in.uses.items) (sym (take_more ops i 0 c.loop-operand-test.true))
    (elim c.match-place_in.branch [
      | in-Some+in_ok-push w ↦
          subst (AreUsesOf ids (take i ops ++ o ∷ [])) (sym (ap (λ v. v.items) w.uses-is ∙ w.in_ok-push.ensures.items))
          (uses_more ids (take i ops) c.loop-operand.uses.items o c.loop-operand.invariant w.in-Some.place w.in-Some.ensures.0 w.in-Some.ensures.1 (rising_once ids c.requires))
      | in_default w ↦
          subst (AreUsesOf ids (take i ops ++ o ∷ [])) (sym (ap (λ v. v.items) w.uses-is))
          (uses_other ids (take i ops) c.loop-operand.uses.items o c.loop-operand.invariant (rw w.in_default.is at c.place_in.ensures))
    ])
