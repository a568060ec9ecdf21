use Rattle.std.proofs.Common.{◌≡◌, ◌<◌, ◌++◌, ◌∷◌, [], ℕ, Bool, List, cond, map, take, length, slice_index, slice_index_or, sym, ap, ap₂, ◌∙◌, append-nil, arith}
use Rattle.std.proofs.lemmas.List.{get_or_default, get_or-map, length-map}
use Rattle.clause_core.specs.KeptClauses.{chosen}
use Rattle.pair_trim.proofs.KeptClauses.{chosen_none, chosen_step}
use Rattle.pair_trim.proofs.chosen.choose_uses.Goals.{then-marks-place+in_ok-renamed+in_ok-push, else-marks-place}
use Rattle.pair_trim.proofs.chosen.choose_uses.Goals as goal

pub loop-place-init : goal.loop-place-init
loop-place-init c = c.new-kept.ensures.items ∙ sym (chosen_none c.args.marks.now)

pub loop-place-preserved : goal.loop-place-preserved
loop-place-preserved c =
    let marks = c.args.marks.now in
    let uses = c.args.uses.now in
    let n = c.loop-place.place in
    let f = slice_index c.args.ranks.now in
    let all : List (List ℕ) = map (map f) uses in
    let low : n < length uses = omega arith in
    let here : slice_index_or all n [] ≡ map f (slice_index_or uses n []) = get_or-map (map f) uses n [] [] low in
    let step = chosen_step marks all n [] (omega (arith, length-map uses (map f))) (omega (arith, length-map uses (map f), c.requires.long)) in
    elim c.if-marks-place.branch [
      | then-marks-place+in_ok-renamed+in_ok-push w ↦
          let item = w.in_ok-renamed.ensures ∙ (ap (map f) (w.index-uses-place.is ∙ get_or_default uses n w.index-uses-place.result [] low) ∙ sym here) in
          ap (λ v. v.items) w.kept-is ∙ (w.in_ok-push.ensures.items ∙ (ap₂ (λ (ks : List (List ℕ)) (r : List ℕ). ks ++ r ∷ []) c.loop-place.invariant item ∙
          sym (step ∙ ap (λ (b : Bool). chosen marks (take n all) ++ cond b (slice_index_or all n [] ∷ []) []) w.if-marks-place.true)))
      | else-marks-place w ↦
          ap (λ v. v.items) w.kept-is ∙ (c.loop-place.invariant ∙
          sym (step ∙ (ap (λ (b : Bool). chosen marks (take n all) ++ cond b (slice_index_or all n [] ∷ []) []) w.if-marks-place.false ∙ append-nil (chosen marks (take n all)))))
    ]
