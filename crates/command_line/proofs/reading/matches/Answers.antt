use Rattle.std.proofs.Common.{◌∙◌}
use Rattle.command_line.proofs.Answering.{nothing_where_refused}
use Rattle.command_line.proofs.Usage.{only_memory_at, rows_at, taken_at}
use Rattle.command_line.proofs.reading.matches.Goals as goal

pub returns-clause-usage : goal.returns-clause-usage
returns-clause-usage c = λ _. nothing_where_refused _ (λ none.
    let memory = only_memory_at _ _ c.in-Err.error c.in_ok-command.ensures.app none c.in-Err.ensures.kinds in
    c.in_default.not-OutOfMemory (c.kind.ensures ∙ memory))

pub returns-in-Ok-clause-ok : goal.returns-in-Ok-clause-ok
returns-in-Ok-clause-ok c = record {
  taken = taken_at _ _ c.in_ok-command.ensures.app c.in-Ok.ensures.kinds;
  rows = rows_at _ _ c.in-Ok.matches c.in_ok-command.ensures.app c.in-Ok.ensures.matches;
}
