use Rattle.std.proofs.Common.{◌∙◌, arith, rules, w32, SFits, to_z, of_z}
use Rattle.std.proofs.lemmas.Int.{to_z-of_z}
use Rattle.clause_core.specs.GateClauses.{signed_of}
use Rattle.goal_refuter.proofs.Beginning.{begun_known, begun_more, begun_range, live_stays, shown_now}
use Rattle.goal_refuter.proofs.showing.show.Goals as goal

pub show-requires-clause-known : goal.show-requires-clause-known
show-requires-clause-known c = begun_known c.requires.0 c.requires.1 c.args.conflicts c.args.solver.now c.args.log.now c.requires.2

pub show-requires-clause-log : goal.show-requires-clause-log
show-requires-clause-log c = begun_range c.requires.0 c.requires.1 c.args.conflicts c.args.solver.now c.args.log.now c.requires.2

pub returns-clause-begun : goal.returns-clause-begun
returns-clause-begun c max given begun =
    begun_more max given c.args.conflicts c.min.result c.args.solver.now c.show.new.self c.args.log.now c.show.new.log begun (let added = c.added.ensures in let least = c.min.ensures in omega arith)
    c.in_ok-shown.ensures.max c.show.ensures.adds c.in_ok-shown.ensures.log c.in_ok-shown.ensures.in_range c.in_ok-shown.ensures.live

pub returns-clause-live : goal.returns-clause-live
returns-clause-live c = live_stays c.args.solver.now.live c.show.new.self.live c.show.new.log c.in_ok-shown.ensures.live

pub returns-clause-shown : goal.returns-clause-shown
returns-clause-shown c =
    let first_fits : SFits w32 c.signed-first.result = search rules in
    let second_fits : SFits w32 c.signed-second.result = search rules in
    let first = to_z-of_z w32 c.signed-first.result first_fits ∙ c.signed-first.ensures in
    let second = to_z-of_z w32 c.signed-second.result second_fits ∙ c.signed-second.ensures in
    shown_now c.args.solver.now.live c.show.new.self.live c.show.new.log (to_z w32 (of_z w32 c.signed-first.result)) (to_z w32 (of_z w32 c.signed-second.result)) (signed_of c.args.one) (signed_of c.args.other) c.in_ok-shown.shown
    c.in_ok-shown.ensures.live first second c.in_ok-shown.ensures.shown
