use Rattle.std.proofs.Common.{◌≡◌, [], subst}
use Rattle.std.specs.List.{All}
use Rattle.clause_core.specs.Facts.{IsClauseFact}
use Rattle.clause_core.specs.GateClauses.{gate_clauses}
use Rattle.clause_core.specs.KeptClauses.{AreEarlier, HaveTightChains}
use Rattle.drup_checker.specs.Checking.{Checking}
use Rattle.drup_checker.specs.declared.keeps.Keeps.TheVariants as keep
use Rattle.drup_checker.proofs.Kept.{are_earlier}
use Rattle.drup_checker.proofs.checker.Checker.into_record.Goals as goal

pub returns-clause-facts : goal.returns-clause-facts
returns-clause-facts c = subst (λ (k : Checking). All (IsClauseFact k.gates) k.added) c.self.view_is c.self.invariant.added_facts

pub returns-clause-chains : goal.returns-clause-chains
returns-clause-chains c =
    subst (λ (k : Checking). k.keeps ≡ keep.Chains → HaveTightChains (gate_clauses k.gates) [] k.added k.uses) c.self.view_is (λ is. (c.self.invariant.chained is).chains)

pub returns-clause-earlier : goal.returns-clause-earlier
returns-clause-earlier c =
    let i = c.self.inside in
    subst (λ (k : Checking). AreEarlier k.uses) c.self.view_is (are_earlier i.gates.now i.store i.goals.now i.shown.items i.keeps i.recorded.added i.recorded.uses.items i.count c.self.invariant)
