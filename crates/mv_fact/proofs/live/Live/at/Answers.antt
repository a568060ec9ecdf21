use Rattle.std.specs.Prelude.{nat_eq, IfSome}
use Rattle.std.proofs.Common.{subst}
use Rattle.std.proofs.lemmas.Map.Views.{IfSome-lookup_from_All}
use Rattle.mv_fact.specs.Facts.{IsKept}
use Rattle.mv_fact.proofs.live.Live.at.Goals as goal

pub returns-clause-kept : goal.returns-clause-kept
returns-clause-kept g c =
    let P = λ (f : g.row.F.Denot). IsKept g.F.Fact.belongs g.F.Fact.holds c.self.inside.gates.now c.self.inside.table f in
    rw (← c.self.view_is) (subst (λ o. IfSome o P) c.in-Some.ensures.value (IfSome-lookup_from_All P (nat_eq c.in-Some.id.now) c.self.inside.facts.entries c.self.invariant))
