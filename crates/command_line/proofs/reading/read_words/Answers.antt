use Rattle.std.proofs.Common.{Result, Ok, Err, ◌≡◌, Some, List, ℕ}
use Rattle.std.specs.Prelude.{IfOk}
use Rattle.command_line.specs.declared.command.Command.{Command}
use Rattle.command_line.specs.declared.fail.WordsFail.{WordsFail}
use Rattle.command_line.specs.Asked.{IsCommandInRange, asked, texts}
use Rattle.command_line.proofs.Answering.{asked_where_taken}
use Rattle.command_line.proofs.Ranges.{asked_range}
use Rattle.command_line.proofs.reading.read_words.Goals as goal

in_range : (words : List (List ℕ)) (r : Result Command WordsFail) → IfOk r (λ command. asked words ≡ Some command) → IfOk r IsCommandInRange
in_range words (Ok command) is = asked_range words command is
in_range words (Err fail) is = tt

pub returns-clause-ok : goal.returns-clause-ok
returns-clause-ok c = rw (asked_where_taken _ _ c.in_ok-found.ensures.ok) c.met.ensures.ok

pub returns-clause-usage : goal.returns-clause-usage
returns-clause-usage c = rw (asked_where_taken _ _ c.in_ok-found.ensures.ok) c.met.ensures.usage

pub returns-clause-range : goal.returns-clause-range
returns-clause-range c = in_range (texts c.args.words.now) c.met.result (rw (asked_where_taken _ _ c.in_ok-found.ensures.ok) c.met.ensures.ok)
