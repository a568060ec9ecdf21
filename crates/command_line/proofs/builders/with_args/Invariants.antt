use Rattle.std.proofs.Common.{◌≡◌, false, drop}
use Rattle.clap.specs.Words.{app_of}
use Rattle.clap.specs.declared.builder.Command.TheViews.{out-Command}
use Rattle.command_line.specs.Reading.{with_args}
use Rattle.command_line.proofs.builders.with_args.Given as goal

abbrev pub invariant-loop-arg : goal.invariant-loop-arg
invariant-loop-arg l = record {
  rest : with_args (drop l.arg-index l.args) (app_of l.command) ≡ with_args l.args (app_of l.initial.command);
  local : (out-Command l.command).has_globals ≡ false;
}
