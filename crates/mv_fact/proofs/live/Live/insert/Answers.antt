use Rattle.std.specs.declared.option.Option.TheVariants.{Some}
use Rattle.mv_fact.specs.Facts.{IsKept}
use Rattle.mv_fact.proofs.Lookups.{All-updated}
use Rattle.mv_fact.proofs.live.Live.insert.Goals as goal

pub invariant_of-self : goal.invariant_of-self
invariant_of-self g c =
    let P = λ (f : g.row.F.Denot). IsKept g.F.Fact.belongs g.F.Fact.holds c.self.inside.gates.now c.self.inside.table f in
    All-updated P c.self.inside.facts c.insert.new.self c.args.id (Some c.args.fact) c.insert.ensures.unique c.in-Ok.ensures.updates c.self.invariant (rw (← c.self.view_is) at c.requires)
