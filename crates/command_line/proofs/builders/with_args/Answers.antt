use Rattle.std.proofs.Common.{◌∙◌, ◌+◌, [], ap, sym, drop}
use Rattle.std.proofs.lemmas.List.{at_drop_more}
use Rattle.clap.specs.Words.{app_of}
use Rattle.command_line.specs.declared.builders.Form.TheVariants.{Word}
use Rattle.command_line.specs.Reading.{with_args}
use Rattle.command_line.proofs.builders.with_args.Goals as goal

pub loop-arg-preserved : goal.loop-arg-preserved
loop-arg-preserved c =
    let args = c.args.args.now in
    let at = c.loop-arg.arg-index in
    record {
      rest = ap (with_args (drop (at + 1) args)) c.in_ok-command.ensures.app
          ∙ sym (at_drop_more (λ rest. with_args rest (app_of c.loop-arg.command)) args at (Word, record { ref_ptr = (0, 0); now = [] }) c.loop-arg-test.true)
          ∙ c.loop-arg.invariant.rest;
      local = c.in_ok-command.ensures.local;
    }
