use Rattle.std.specs.Prelude.{slice_index}
use Rattle.drup_checker.proofs.Leading.{first_out, leads_past}
use Rattle.drup_checker.proofs.chains.unlink.Goals as goal

pub returns-then-head-place-clause-others : goal.returns-then-head-place-clause-others
returns-then-head-place-clause-others c = first_out c.args.heads.now c.args.next.now c.args.chain c.args.place c.requires.chain c.if-head-place.true

pub returns-in-Some-clause-others : goal.returns-in-Some-clause-others
returns-in-Some-clause-others c i r n h =
    leads_past c.args.next.now c.args.place c.in-Some.before c.requires.falls c.in-Some.ensures.0 c.in-Some.ensures.1 (slice_index c.args.heads.now i) r n h
