use Rattle.std.proofs.Common.{sym, subst}
use Rattle.clap.specs.declared.parser.matches.ArgMatches.TheViews.{out-ArgMatches}
use Rattle.clap.specs.Words.{found_of, rows_of}
use Rattle.command_line.specs.Asked.{met}
use Rattle.command_line.specs.Reading.{ReadsAsked}
use Rattle.command_line.proofs.Answering.{by_parts}
use Rattle.command_line.proofs.reading.met.Goals as goal

pub returns-in-Some : goal.returns-in-Some
returns-in-Some c =
    let is = by_parts (out-ArgMatches c.args.matches.now).subcommand c.in-Some.name.now (rows_of (found_of c.in-Some.inner.now))
    c.in-Some.ensures.name c.in-Some.ensures.rows in
    subst (λ s. ReadsAsked (met s) c.named.result) (sym is) c.named.ensures
