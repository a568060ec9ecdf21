use Rattle.std.proofs.Common.{◌+◌, ◌*◌, [], ◌<◌, get_or, length, refl, take, sym, subst}
use Rattle.std.proofs.lemmas.List.{take_all}
use Rattle.algebra_core.specs.Polynomials.{product}
use Rattle.poly_terms.specs.Entries.{Sum}
use Rattle.poly_terms.specs.Laws.{grows_itself, grows_on}
use Rattle.poly_terms.specs.Monomials.{Adds, total_in}
use Rattle.poly_terms.proofs.Adding.{adds_none, adds_on, all_at, total-take}
use Rattle.poly_terms.proofs.Ends.{not_given}
use Rattle.poly_terms.proofs.carrying.carry_all.Goals as goal

pub loop-term-init : goal.loop-term-init
loop-term-init c =
    let old = c.args.table.now in
    record {
      grows = grows_itself old;
      adds = λ m. adds_none m old old [] _ (λ σ. total_in c.args.from.now σ (take 0 c.args.terms.now)) (grows_itself old) c.in_ok-out.ensures.items (λ σ. refl);
    }

pub carry_behind-requires : goal.carry_behind-requires
carry_behind-requires c =
    all_at (λ x. x.0 < length c.args.from.now) c.args.terms.now c.loop-term.term-index c.term-item.result c.loop-term-test.true c.term-item.is c.requires

pub loop-term-preserved : goal.loop-term-preserved
loop-term-preserved c =
    let old = c.args.table.now in
    let mid = c.loop-term.table in
    let new = c.carry_behind.new.table in
    let ms = c.args.from.now in
    let es = c.args.terms.now in
    let i = c.loop-term.term-index in
    let e = c.term-item.result in
    let inv = c.loop-term.invariant in
    record {
      grows = grows_on old mid new inv.grows c.carry_behind.ensures.grows;
      adds = λ m.
          adds_on m old mid new [] c.loop-term.out.items c.carry_behind.new.out.items (λ σ. total_in ms σ (take i es)) (λ σ. e.1 * product σ (get_or ms e.0 [])) (λ σ. total_in ms σ (take (i + 1) es))
          (inv.adds m) (c.in_ok-carry_behind.ensures.adds m) (λ σ. sym (total-take (λ k. product σ (get_or ms k [])) es i e c.loop-term-test.true c.term-item.is));
    }

pub returns-clause-adds : goal.returns-clause-adds
returns-clause-adds c m =
    let P : Sum → Type 0 = λ es. Adds m c.args.table.now c.loop-term.table [] c.loop-term.out.items (λ σ. total_in c.args.from.now σ es) in
    subst P (take_all c.loop-term.term-index c.args.terms.now c.loop-term-test.false) (c.loop-term.invariant.adds m)

pub returns-in_err-out-clause-grows : goal.returns-in_err-out-clause-grows
returns-in_err-out-clause-grows c = grows_itself c.args.table.now

pub returns-in_err-out-clause-adds : goal.returns-in_err-out-clause-adds
returns-in_err-out-clause-adds c = not_given _ _ c.from_residual.result c.from_residual.ensures.1

pub returns-in_err-carry_behind-clause-grows : goal.returns-in_err-carry_behind-clause-grows
returns-in_err-carry_behind-clause-grows c = grows_on c.args.table.now c.loop-term.table c.carry_behind.new.table c.loop-term.invariant.grows c.carry_behind.ensures.grows

pub returns-in_err-carry_behind-clause-adds : goal.returns-in_err-carry_behind-clause-adds
returns-in_err-carry_behind-clause-adds c = not_given _ _ c.from_residual-in_err-carry_behind.result c.from_residual-in_err-carry_behind.ensures.1

pub returns-clause-grows : goal.returns-clause-grows
returns-clause-grows c = c.loop-term.invariant.grows
