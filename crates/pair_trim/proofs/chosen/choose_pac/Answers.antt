use Rattle.std.proofs.Common.{◌≡◌, ◌<◌, ◌++◌, ◌∷◌, [], List, false, length, slice_index_or, refl, sym, ap, ◌∙◌, append_assoc, append-nil, cond, arith}
use Rattle.std.proofs.lemmas.List.{length_push, length-append, nil_from_length}
use Rattle.std.specs.Vec.Iter.{into_iter_items}
use Rattle.poly_text.specs.declared.line.PacLine.{PacLine}
use Rattle.clause_core.specs.KeptClauses.{chosen}
use Rattle.pair_trim.proofs.KeptClauses.{chosen_more, chosen_none}
use Rattle.pair_trim.proofs.chosen.choose_pac.Goals as goal

pub loop-line-init : goal.loop-line-init
loop-line-init c =
    let left = c.into_iter-line-iterator.ensures.into_iter_gives in
    record { rest = refl; len = left.1 ∙ c.args.lines.ok.0 ∙ sym (ap length left.0); count = refl; kept = c.new-kept.ensures.items ∙ sym (chosen_none c.args.marks.now) }

pub loop-line-preserved : goal.loop-line-preserved
loop-line-preserved c =
    let at = c.loop-line in
    let line = c.in-Some.line in
    let rest = into_iter_items c.next.new.self in
    let steps : into_iter_items at.line-iterator ≡ line ∷ rest = c.in-Some.ensures.steps.0 in
    let gone = c.in-Some.ensures.steps.1 in
    let was = at.invariant.len in
    let short = ap length steps in
    let count = at.invariant.count in
    let all = simp length-append at (ap length at.invariant.rest) in
    let whole = ap length c.into_iter-line-iterator.ensures.into_iter_gives.0 in
    let low : length at.yielded < length c.args.marks.now = omega (arith, c.requires) in
    record {
      rest = append_assoc at.yielded (line ∷ []) _ ∙ rw (← steps) at.invariant.rest;
      len = omega arith;
      count = omega (arith, length_push at.yielded line);
      kept = c.in_ok-push_pac_if.ensures ∙ (ap (λ (ks : List PacLine). ks ++ cond (slice_index_or c.args.marks.now at.place false) (line ∷ []) []) at.invariant.kept ∙
          (ap (λ n. chosen c.args.marks.now at.yielded ++ cond (slice_index_or c.args.marks.now n false) (line ∷ []) []) count ∙ sym (chosen_more c.args.marks.now at.yielded line low)));
    }

pub returns : goal.returns
returns c =
    let at = c.loop-line in
    let empty : into_iter_items at.line-iterator ≡ [] = nil_from_length (into_iter_items at.line-iterator) (omega (arith, at.invariant.len, c.in-None.ensures.steps.0)) in
    let all : at.yielded ≡ c.args.lines.items = sym (append-nil at.yielded) ∙ (ap (λ (xs : List PacLine). at.yielded ++ xs) (sym empty) ∙ (at.invariant.rest ∙ c.into_iter-line-iterator.ensures.into_iter_gives.0)) in
    at.invariant.kept ∙ ap (chosen c.args.marks.now) all
