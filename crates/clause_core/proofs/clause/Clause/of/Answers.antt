use Rattle.std.proofs.Common.{subst}
use Rattle.clause_core.specs.Clause.{IsRising}
use Rattle.clause_core.proofs.Places.{is_clause}
use Rattle.clause_core.proofs.clause.Clause.of.Goals.{then-not-is_rising, else-not-is_rising}
use Rattle.clause_core.proofs.clause.Clause.of.Goals as goal

pub invariant_of-result : goal.invariant_of-result
invariant_of-result c =
    elim c.if-not-is_rising.branch [
      | then-not-is_rising w ↦ rw w.items-is (is_clause _ c.args.items.items c.requires w.put_in_order.ensures.rising (λ l h. w.put_in_order.ensures.same.0 l h))
      | else-not-is_rising w ↦ rw w.items-is (is_clause _ c.args.items.items c.requires (subst IsRising c.as_slice.ensures (c.is_rising.ensures w.if-not-is_rising.false)) (λ l h. h))
    ]

pub returns : goal.returns
returns c =
    elim c.if-not-is_rising.branch [
      | then-not-is_rising w ↦ rw w.items-is w.put_in_order.ensures.same
      | else-not-is_rising w ↦ rw w.items-is (λ l h. h, λ l h. h)
    ]
