use Rattle.std.proofs.Common.{ℕ, ◌+◌, ◌<◌, ◌^◌, [], length, refl, take, sym, ap, subst, ◌∙◌, true≢false, arith}
use Rattle.std.proofs.lemmas.List.{take_all}
use Rattle.std.proofs.lemmas.Option.{slice_get_within}
use Rattle.graph_core.specs.Graph.Assignments.{Assignment}
use Rattle.poly_terms.specs.Entries.{Sum}
use Rattle.poly_terms.specs.Laws.{all_in_grown, grows_itself, in_grown, grows_on}
use Rattle.poly_terms.specs.Monomials.{Adds, replaced, total_in}
use Rattle.poly_terms.proofs.Adding.{adds_none, all_at}
use Rattle.poly_terms.proofs.Placing.{IsReplaced, replaced_at, replaced_past}
use Rattle.poly_terms.proofs.Ends.{not_given}
use Rattle.poly_terms.proofs.substitution.replacements.Goals as goal
use Rattle.poly_terms.proofs.substitution.replacements.Goals.{then-is_place+in_ok-replace_behind, else-is_place}

pub loop-entry-init : goal.loop-entry-init
loop-entry-init c =
    let old = c.args.table.now in
    let before : Assignment → ℕ = λ σ. replaced old c.args.v σ (total_in old σ c.args.by.now) (take 0 c.args.entries.now) in
    record {
      grows = grows_itself old;
      adds = adds_none (2 ^ c.args.exponent) old old [] c.new-out.result.items before (grows_itself old) c.new-out.ensures.items (λ σ. refl);
      left = c.requires.places;
    }

pub replace_behind-requires-clause-entry : goal.replace_behind-requires-clause-entry
replace_behind-requires-clause-entry c =
    let old = c.args.table.now in
    let e = c.entry-item.result in
    in_grown old c.loop-entry.table e.0 c.loop-entry.invariant.grows
    (all_at (λ x. x.0 < length old) c.args.entries.now c.loop-entry.entry-index e c.loop-entry-test.true c.entry-item.is c.requires.entries)

pub replace_behind-requires-clause-by : goal.replace_behind-requires-clause-by
replace_behind-requires-clause-by c = all_in_grown c.args.table.now c.loop-entry.table c.args.by.now c.loop-entry.invariant.grows c.requires.by

pub loop-entry-preserved : goal.loop-entry-preserved
loop-entry-preserved c =
    let old = c.args.table.now in
    let mid = c.loop-entry.table in
    let m = 2 ^ c.args.exponent in
    let v = c.args.v in
    let by = c.args.by.now in
    let places = c.args.places.now in
    let es = c.args.entries.now in
    let out = c.loop-entry.out.items in
    let i = c.loop-entry.entry-index in
    let j = c.loop-entry.j in
    let e = c.entry-item.result in
    let inv = c.loop-entry.invariant in
    let before : IsReplaced m v old mid places by es out i j = record { grows = inv.grows; adds = inv.adds; left = inv.left } in
    let after : IsReplaced m v old c.if-is_place.table places by es c.if-is_place.out.items (i + 1) c.if-is_place.j =
    elim c.if-is_place.branch [
      | then-is_place+in_ok-replace_behind w ↦
          replaced_at m v old mid places by es out i j e c.requires.order c.requires.entries c.requires.by c.loop-entry-test.true c.entry-item.is before w.replace_behind.new.table c.if-is_place.table
          w.replace_behind.new.out.items c.if-is_place.out.items c.if-is_place.j w.table-is (ap (λ o. o.items) w.out-is) w.j-is (c.is_place.ensures.0 w.if-is_place.true)
          w.replace_behind.ensures.grows w.in_ok-replace_behind.ensures.adds
      | else-is_place w ↦
          replaced_past m v old mid places by es out i j e c.requires.order c.requires.entries c.requires.by c.loop-entry-test.true c.entry-item.is before c.if-is_place.table
          c.if-is_place.out.items c.if-is_place.j w.table-is (ap (λ o. o.items) w.out-is) w.j-is (λ is. true≢false (sym (c.is_place.ensures.1 is) ∙ w.if-is_place.false))
    ] in
    record { grows = after.grows; adds = after.adds; left = after.left }

pub returns-clause-adds : goal.returns-clause-adds
returns-clause-adds c =
    let old = c.args.table.now in
    let P : Sum → Type 0 = λ es. Adds (2 ^ c.args.exponent) old c.loop-entry.table [] c.loop-entry.out.items (λ σ. replaced old c.args.v σ (total_in old σ c.args.by.now) es) in
    subst P (take_all c.loop-entry.entry-index c.args.entries.now c.loop-entry-test.false) c.loop-entry.invariant.adds

pub returns-in_err-replace_behind-clause-grows : goal.returns-in_err-replace_behind-clause-grows
returns-in_err-replace_behind-clause-grows c = grows_on c.args.table.now c.loop-entry.table c.replace_behind.new.table c.loop-entry.invariant.grows c.replace_behind.ensures.grows

pub returns-in_err-replace_behind-clause-adds : goal.returns-in_err-replace_behind-clause-adds
returns-in_err-replace_behind-clause-adds c = not_given _ _ c.from_residual.result c.from_residual.ensures.1

pub returns-clause-grows : goal.returns-clause-grows
returns-clause-grows c = c.loop-entry.invariant.grows

pub overflow_add-j : goal.overflow_add-j
overflow_add-j c =
    let low : c.loop-entry.j < length c.args.places.now = slice_get_within c.args.places.now c.loop-entry.j c.entry-item.result.0 (c.is_place.ensures.0 c.if-is_place.true) in
    omega (arith, low)
