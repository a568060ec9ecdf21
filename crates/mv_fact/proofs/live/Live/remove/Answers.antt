use Rattle.std.specs.Prelude.{nat_eq}
use Rattle.std.proofs.Common.{IfOk, IfSome, None, Some, Option}
use Rattle.std.specs.Option.{ok_or}
use Rattle.std.proofs.lemmas.Map.Views.{IfSome-lookup_from_All}
use Rattle.mv_fact.specs.Facts.{IsKept}
use Rattle.mv_fact.proofs.Lookups.{All-updated}
use Rattle.mv_fact.proofs.live.Live.remove.Goals as goal

IfOk-ok_or : {X E : Type 0} (o : Option X) (e : E) (P : X → Type 0) → IfSome o P → IfOk (ok_or o e) P
IfOk-ok_or None e P h = h
IfOk-ok_or (Some x) e P h = h

pub invariant_of-self : goal.invariant_of-self
invariant_of-self g c =
    let P = λ (f : g.row.F.Denot). IsKept g.F.Fact.belongs g.F.Fact.holds c.self.inside.gates.now c.self.inside.table f in
    All-updated P c.self.inside.facts c.swap_remove.new.self c.args.id None c.swap_remove.ensures.unique c.swap_remove.ensures.updates c.self.invariant tt

pub returns-clause-kept : goal.returns-clause-kept
returns-clause-kept g c =
    let P = λ (f : g.row.F.Denot). IsKept g.F.Fact.belongs g.F.Fact.holds c.self.inside.gates.now c.self.inside.table f in
    let found = IfSome-lookup_from_All P (nat_eq c.args.id) c.self.inside.facts.entries c.self.invariant in
    rw (c.ok_or.ensures.value, c.swap_remove.ensures.value, ← c.self.view_is) (IfOk-ok_or _ _ P found)
