use Rattle.std.proofs.Common.{◌≡◌, false, drop}
use Rattle.clap.specs.Words.{app_of}
use Rattle.clap.specs.declared.builder.Command.TheViews.{out-Command}
use Rattle.command_line.specs.Reading.{with_subcommands}
use Rattle.command_line.proofs.builders.with_subcommands.Given as goal

abbrev pub invariant-loop-sub : goal.invariant-loop-sub
invariant-loop-sub l = record {
  rest : with_subcommands (drop l.sub-index l.subcommands) (app_of l.command)
      ≡ with_subcommands l.subcommands (app_of l.initial.command);
  local : (out-Command l.command).has_globals ≡ false;
}
