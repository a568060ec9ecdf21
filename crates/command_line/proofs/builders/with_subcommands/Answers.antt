use Rattle.std.proofs.Common.{◌∙◌, ◌+◌, [], ap, sym, drop}
use Rattle.std.proofs.lemmas.List.{at_drop_more}
use Rattle.clap.specs.Words.{app_of}
use Rattle.command_line.specs.Reading.{with_subcommands}
use Rattle.command_line.proofs.builders.with_subcommands.Goals as goal

pub loop-sub-preserved : goal.loop-sub-preserved
loop-sub-preserved c =
    let subs = c.args.subcommands.now in
    let at = c.loop-sub.sub-index in
    record {
      rest = ap (with_subcommands (drop (at + 1) subs)) c.in_ok-command.ensures.app
          ∙ sym (at_drop_more (λ rest. with_subcommands rest (app_of c.loop-sub.command)) subs at
          (record { ref_ptr = (0, 0); now = [] }, record { ref_ptr = (0, 0); now = [] }) c.loop-sub-test.true)
          ∙ c.loop-sub.invariant.rest;
      local = c.in_ok-command.ensures.local;
    }
