use Rattle.std.proofs.Common.{arith}
use Rattle.cdcl_solver.proofs.LogLemmas.{log_added, log_small, view_push}
use Rattle.cdcl_solver.proofs.log.Log.push.Goals as goal

pub overflow_add-self : goal.overflow_add-self
overflow_add-self c =
    let i = c.self.inside in
    let small = log_small i.lines.items i.live.items i.added i.runs c.self.invariant in
    let ok = i.lines.ok in
    omega arith

pub add-requires : goal.add-requires
add-requires c =
    let i = c.self.inside in
    let small = log_small i.lines.items i.live.items i.added i.runs c.self.invariant in
    let ok = i.lines.ok in
    omega arith

pub invariant_of-self-2 : goal.invariant_of-self-2
invariant_of-self-2 c =
    let i = c.self.inside in
    rw (c.in_ok-append.ensures.ok.0, c.in_ok-append.ensures.ok.1) (log_added i.lines.items i.live.items i.added i.runs c.add.new.self c.args.clause c.self.invariant (c.add.ensures c.args.clause))

pub returns-clause-ok : goal.returns-clause-ok
returns-clause-ok c =
    let i = c.self.inside in
    rw (c.in_ok-append.ensures.ok.0, c.in_ok-append.ensures.ok.1, ← c.self.view_is) (view_push i.lines.items i.live.items c.args.clause c.self.invariant.even)
