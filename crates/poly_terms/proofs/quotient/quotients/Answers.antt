use Rattle.std.proofs.Common.{ℕ, ◌≡◌, ◌<◌, ◌%◌, ◌*◌, ◌+◌, [], length, take, sym, ap, subst, ◌∙◌, true≢false, refl, arith}
use Rattle.graph_core.specs.Graph.Assignments.{Assignment}
use Rattle.algebra_core.specs.Polynomials.{product}
use Rattle.poly_terms.specs.Monomials.{Adds, replaced, replaced_one, without_variable}
use Rattle.std.proofs.lemmas.List.{take_all}
use Rattle.std.proofs.lemmas.Option.{slice_get_within}
use Rattle.poly_terms.specs.Entries.{Sum}
use Rattle.poly_terms.specs.Laws.{grows_on, stands_in_grown, grows_itself}
use Rattle.poly_terms.proofs.Adding.{adds_on, adds_same, all_at, adds_none}
use Rattle.poly_terms.proofs.Placing.{at_place, at_no_place, replaced_here, replaced_not}
use Rattle.poly_terms.proofs.Ends.{not_given}
use Rattle.poly_terms.proofs.quotient.quotients.Goals as goal
use Rattle.poly_terms.proofs.quotient.quotients.Goals.{then-is_place+in_ok-divide_behind, else-is_place}

pub loop-entry-preserved : goal.loop-entry-preserved
loop-entry-preserved c =
    let old = c.args.table.now in
    let mid = c.loop-entry.table in
    let v = c.args.v in
    let places = c.args.places.now in
    let es = c.args.entries.now in
    let i = c.loop-entry.entry-index in
    let j = c.loop-entry.j in
    let e = c.entry-item.result in
    let h = c.loop-entry-test.true in
    let at = c.entry-item.is in
    let inv = c.loop-entry.invariant in
    let there = at_place old v places es i j e c.requires.order h at inv.left in
    let elsewhere = at_no_place old v places es i j e c.requires.order h at inv.left in
    let before : Assignment → ℕ = λ σ. replaced old v σ 1 (take i es) in
    let after : Assignment → ℕ = λ σ. replaced old v σ 1 (take (i + 1) es) in
    let step : (σ : Assignment) → replaced_one mid v σ 1 e ≡ replaced_one old v σ 1 e =
    λ σ. ap (λ us. e.1 * product σ (without_variable v us) * 1) (stands_in_grown old mid e.0 inv.grows (all_at (λ x. x.0 < length old) es i e h at c.requires.entries)) in
    record {
      grows = elim c.if-is_place.branch [
        | then-is_place+in_ok-divide_behind w ↦ rw w.table-is (grows_on old mid w.divide_behind.new.table inv.grows w.divide_behind.ensures.grows)
        | else-is_place w ↦ rw w.table-is inv.grows
      ];
      adds = λ m. elim c.if-is_place.branch [
        | then-is_place+in_ok-divide_behind w ↦
            rw (w.table-is, w.out-is)
            (adds_on m old mid w.divide_behind.new.table [] c.loop-entry.out.items w.divide_behind.new.out.items before (λ σ. replaced_one mid v σ 1 e) after (inv.adds m)
            (w.in_ok-divide_behind.ensures.adds m)
            (λ σ. ap (λ n. before σ + n) (step σ) ∙ replaced_here old v es i e h at σ 1 (there (c.is_place.ensures.0 w.if-is_place.true)).0))
        | else-is_place w ↦
            rw (w.table-is, w.out-is)
            (adds_same m old mid [] c.loop-entry.out.items before after (inv.adds m)
            (λ σ. ap (λ n. n % m) (replaced_not old v es i e h at σ 1 (elsewhere (λ is. true≢false (sym (c.is_place.ensures.1 is) ∙ w.if-is_place.false))).0)))
      ];
      left = elim c.if-is_place.branch [
        | then-is_place+in_ok-divide_behind w ↦ rw w.j-is (there (c.is_place.ensures.0 w.if-is_place.true)).1
        | else-is_place w ↦ rw w.j-is (elsewhere (λ is. true≢false (sym (c.is_place.ensures.1 is) ∙ w.if-is_place.false))).1
      ];
    }

pub returns-clause-adds : goal.returns-clause-adds
returns-clause-adds c m =
    let old = c.args.table.now in
    let P : Sum → Type 0 = λ es. Adds m old c.loop-entry.table [] c.loop-entry.out.items (λ σ. replaced old c.args.v σ 1 es) in
    subst P (take_all c.loop-entry.entry-index c.args.entries.now c.loop-entry-test.false) (c.loop-entry.invariant.adds m)

pub returns-in_err-out-clause-grows : goal.returns-in_err-out-clause-grows
returns-in_err-out-clause-grows c = grows_itself c.args.table.now

pub returns-in_err-out-clause-adds : goal.returns-in_err-out-clause-adds
returns-in_err-out-clause-adds c = not_given _ _ c.from_residual.result c.from_residual.ensures.1

pub loop-entry-init : goal.loop-entry-init
loop-entry-init c =
    let old = c.args.table.now in
    record {
      grows = grows_itself old;
      adds = λ m. adds_none m old old [] _ (λ σ. replaced old c.args.v σ 1 (take 0 c.args.entries.now)) (grows_itself old) c.in_ok-out.ensures.items (λ σ. refl);
      left = c.requires.places;
    }

pub returns-in_err-divide_behind-clause-grows : goal.returns-in_err-divide_behind-clause-grows
returns-in_err-divide_behind-clause-grows c = grows_on c.args.table.now c.loop-entry.table c.divide_behind.new.table c.loop-entry.invariant.grows c.divide_behind.ensures.grows

pub returns-in_err-divide_behind-clause-adds : goal.returns-in_err-divide_behind-clause-adds
returns-in_err-divide_behind-clause-adds c = not_given _ _ c.from_residual-in_err-divide_behind.result c.from_residual-in_err-divide_behind.ensures.1

pub returns-clause-grows : goal.returns-clause-grows
returns-clause-grows c = c.loop-entry.invariant.grows

pub overflow_add-j : goal.overflow_add-j
overflow_add-j c =
    let low : c.loop-entry.j < length c.args.places.now = slice_get_within c.args.places.now c.loop-entry.j c.entry-item.result.0 (c.is_place.ensures.0 c.if-is_place.true) in
    omega (arith, low)
