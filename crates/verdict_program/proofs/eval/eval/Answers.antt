use Rattle.std.proofs.Common.{subst}
use Rattle.std.specs.Option.{IfSome}
use Rattle.aiger_reader.specs.Refusals.{SpellsWithin}
use Rattle.command_core.specs.Stopping.{IsGraphStop, IsStop}
use Rattle.graph_core.specs.Aiger.Sizes.{IsSizedAs}
use Rattle.mv_desk.specs.View.{bytes_under}
use Rattle.mv_desk.specs.declared.slot.Slot.TheVariants as slot
use Rattle.verdict_program.proofs.EvalLemmas.{value_is_due}
use Rattle.verdict_program.proofs.eval.eval.Goals as goal

pub evaluate-requires : goal.evaluate-requires
evaluate-requires g c = subst (λ p. IsSizedAs p c.in-Ok.graph) c.profile.ensures c.in-Ok.ensures.sized

pub returns-in-Ok : goal.returns-in-Ok
returns-in-Ok g c =
    let a = g.D.Desk.seen c.args.desk.now in
    let b = g.D.Desk.seen c.read_graph.new.desk in
    let limit = c.args.limits.now.graph in
    let read = c.in-Ok.ensures in
    let told = subst (λ p. IfSome (bytes_under a c.args.name.now) (λ bytes. SpellsWithin p limit bytes c.in-Ok.graph)) c.profile.ensures read.spelled in
    record {
      outcome = value_is_due limit c.args.name.now c.in-Ok.graph c.args.point a b c.evaluate.result told c.evaluate.ensures;
      opens = record { opened = read.opens.opened; others = read.opens.others };
      inspects = read.inspects;
      tells = read.opens.tells;
    }

pub returns-in-Err : goal.returns-in-Err
returns-in-Err g c =
    let a = g.D.Desk.seen c.args.desk.now in
    let b = g.D.Desk.seen c.read_graph.new.desk in
    let read = c.in-Err.ensures in
    record {
      outcome = subst (λ p. IsStop (IsGraphStop slot.Graph p c.args.limits.now.graph (bytes_under a c.args.name.now)) a b c.in-Err.why) c.profile.ensures read.refused;
      opens = record { opened = read.opens.opened; others = read.opens.others };
      inspects = read.inspects;
      tells = read.opens.tells;
    }
