use Rattle.std.proofs.Common.{◌≡◌, ◌+◌, ◌++◌, ◌∷◌, [], ℕ, List, map, take, sym, ap, subst, ◌∙◌}
use Rattle.std.proofs.lemmas.List.{map_more}
use Rattle.poly_text.specs.declared.line.PacLine.{PacLine}
use Rattle.poly_text.specs.Recorded.{operands_in}
use Rattle.pair_trim.specs.Lines.{AreAllUses}
use Rattle.pair_trim.proofs.PacOperands.{all_more}
use Rattle.pair_trim.proofs.operands.all_uses.Goals as goal

pub loop-line-preserved : goal.loop-line-preserved
loop-line-preserved c =
    let ids = c.args.ids.now in
    let lines = c.args.lines.now in
    let i = c.loop-line.line-index in
    let line = c.line-item.result in
    let more : map operands_in (take (i + 1) lines) ≡ map operands_in (take i lines) ++ operands_in line ∷ [] =
    map_more operands_in lines i line c.loop-line-test.true ∙ ap (λ (x : PacLine). map operands_in (take i lines) ++ operands_in x ∷ []) (sym c.line-item.is) in
    subst (λ (os : List (List ℕ)). AreAllUses ids os c.push.new.self.items) (sym more)
    (subst (AreAllUses ids (map operands_in (take i lines) ++ operands_in line ∷ [])) (sym {A = List (List ℕ)} c.in_ok-push.ensures.items)
    (all_more ids (map operands_in (take i lines)) c.loop-line.uses.items (operands_in line) c.in_ok-uses_of.field-0 c.loop-line.invariant c.in_ok-uses_of.ensures))
