use Rattle.std.proofs.Common.{[], List, subst, sym, ap, arith}
use Rattle.std.proofs.lemmas.List.{take_all}
use Rattle.std.specs.List.{All}
use Rattle.graph_core.specs.declared.gate.Gate.{Gate}
use Rattle.clause_core.specs.Clause.{IsClauseInRange}
use Rattle.miter_encoder.proofs.GateRanges.{within_range}
use Rattle.drup_checker.specs.Checking.{Held, HoldsGates}
use Rattle.drup_checker.proofs.GateStores.{holds_more, one_within}
use Rattle.drup_checker.proofs.store.Store.new.Goals as goal

abbrev none : Gate
none = record { v = 0; left = record { 0 = 0 }; right = record { 0 = 0 } }

pub loop-gate-init : goal.loop-gate-init
loop-gate-init c = ([], tt, c.in_ok-store.ensures)

pub append_all-requires : goal.append_all-requires
append_all-requires c =
    let one = one_within c.args.max c.args.gates.now c.loop-gate.gate-index none (omega arith) c.requires.within in
    subst (λ m. All (IsClauseInRange m) c.in_ok-clauses.clauses) (sym (ap (λ (h : Held). h.max) c.loop-gate.invariant.2))
    (within_range c.args.max _ c.in_ok-clauses.clauses one c.in_ok-clauses.ensures.sets)

pub loop-gate-preserved : goal.loop-gate-preserved
loop-gate-preserved c =
    holds_more c.args.max c.args.gates.now c.loop-gate.gate-index none c.loop-gate.store c.append_all.new.self c.in_ok-clauses.clauses (omega arith) c.loop-gate.invariant c.in_ok-clauses.ensures.sets c.in_ok-append_all.ensures

pub returns : goal.returns
returns c = subst (λ (gates : List Gate). HoldsGates c.args.max gates c.loop-gate.store) (take_all c.loop-gate.gate-index c.args.gates.now (omega arith)) c.loop-gate.invariant
