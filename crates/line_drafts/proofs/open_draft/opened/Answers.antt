use Rattle.std.proofs.Common.{subst, sym, arith}
use Rattle.poly_terms.specs.Laws.{extends_itself, extends_on}
use Rattle.poly_terms.specs.Tables.{IsOf}
use Rattle.std.specs.Prelude.{IfSome, List}
use Rattle.algebra_core.specs.AlgebraLines.{LiveLine}
use Rattle.line_drafts.specs.Drafts.{IsKnownIn, IsOpen}
use Rattle.line_drafts.proofs.OpenDrafts.{known_stays, none_open}
use Rattle.line_drafts.proofs.open_draft.opened.Goals as goal

pub loop-place-init : goal.loop-place-init
loop-place-init c = record {
  table = extends_itself c.args.terms.now;
  of = subst (IsOf c.args.terms.now) (sym c.new-open.ensures.sum) c.new-open.ensures.of;
  opens = λ live all. none_open c.args.max c.args.terms.now live c.new-open.result c.new-open.ensures.parts c.new-open.ensures.sum c.new-open.ensures.of;
}

pub loop-place-preserved : goal.loop-place-preserved
loop-place-preserved c =
    let t0 = c.args.terms.now in
    let t1 = c.loop-place.terms in
    let t2 = c.with_part.new.terms in
    let line = c.index-known-place.result in
    record {
      table = extends_on t0 t1 t2 c.loop-place.invariant.table c.in_ok-with_part.ensures.extends;
      of = subst (λ r. IfSome r (λ o. IsOf t2 o.sum)) c.in-Some.is c.in_ok-with_part.ensures.of;
      opens = λ live all.
          let at : IsKnownIn t0 live line = subst (IsKnownIn t0 live) (sym c.index-known-place.is) (all _ line (omega (arith, c.if-place-known.false))) in
          subst (λ r. IfSome r (λ o. (live : List LiveLine) → IsKnownIn t1 live line → IsOpen c.args.max t1 live c.loop-place.open → IsOpen c.args.max t2 live o)) c.in-Some.is c.in_ok-with_part.ensures.opened live
          (known_stays t0 t1 live line c.loop-place.invariant.table at) (c.loop-place.invariant.opens live all);
    }
