use Rattle.std.proofs.Common.{Result, Ok, Err, ◌≡◌, ap}
use Rattle.std.specs.Result.{is_ok}
use Rattle.std.proofs.lemmas.Bool.{true≢false}
use Rattle.gate_axioms.proofs.CallerLemmas.{keeps_lines}
use Rattle.pac_checker.proofs.Compacting.{brought_vanishes, line_carried, line_there}
use Rattle.pac_checker.proofs.compaction.carry.Goals as goal

err_ok : {T E : Type 0} {x : T} {e : E} → ◌≡◌ {A = Result T E} (Ok x) (Err e) → ⊥
err_ok h = true≢false (ap is_ok h)

pub insert-requires : goal.insert-requires
insert-requires c =
    brought_vanishes c.args.live.now.gates c.grow.new.self c.args.from.now c.args.line.now c.in_ok-brought.brought c.grow.ensures.grows.gates c.in_ok-brought.ensures.did c.requires.vanishes

pub returns-in-Ok : goal.returns-in-Ok
returns-in-Ok c =
    line_carried c.args.live.now c.grow.new.self c.insert.new.self c.args.from.now c.args.id c.args.line.now c.in_ok-brought.brought (keeps_lines c.args.live.now c.grow.new.self c.grow.ensures.grows c.grow.ensures.kept)
    c.in_ok-brought.ensures.did (λ s. err_ok (c.in-Ok.ensures.used.1 s)) c.in-Ok.ensures.ok

pub returns-in-Err-IdUsed : goal.returns-in-Err-IdUsed
returns-in-Err-IdUsed c =
    line_there c.args.live.now c.grow.new.self c.insert.new.self c.args.from.now c.args.id c.args.line.now (keeps_lines c.args.live.now c.grow.new.self c.grow.ensures.grows c.grow.ensures.kept)
    c.in-Err-IdUsed.ensures.unchanged (c.in-Err-IdUsed.ensures.used.0 (ap Err c.in-Err-IdUsed.field-0-is))
