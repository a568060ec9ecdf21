-- What private calls say of their answers.
use Rattle.std.specs.Prelude.{◌≡◌, List, [], ◌∷◌, false, Result, Option, Some, None, IfOk, IsErrOf}
use Rattle.std.specs.Borrow.{Bor}
use Rattle.clap.specs.declared.builder.Command.{Command}
use Rattle.clap.specs.declared.builder.Command.TheViews.{out-Command}
use Rattle.clap.specs.declared.ArgMatches.{ArgMatches}
use Rattle.clap.specs.Words.{App, Rule, Text, app_of, fault_of, new_app, subcommand_of, subcommand_rows_of, with_rule, with_subcommand}
use Rattle.command_line.specs.declared.builders.Form.{Form}
use Rattle.command_line.specs.declared.builders.Form.TheVariants.{Word, Choice, Needed, Flag}
use Rattle.command_line.specs.declared.fail.WordsFail.{WordsFail}
use Rattle.command_line.specs.declared.fail.WordsFail.TheVariants.{Usage}
use Rattle.command_line.specs.FixedCommand.{choice, flag, mulver, needed, word_rule}

-- the rule of an argument of this form
abbrev pub rule_for : Form → Text → Rule
rule_for Word id = word_rule id
rule_for Choice id = choice id
rule_for Needed id = needed id
rule_for Flag id = flag id

-- a command with more arguments, in turn
abbrev pub with_args : List (Form × Bor Text) → App → App
with_args [] app = app
with_args ((form, id) ∷ args) app = with_args args (with_rule app (rule_for form id.now))

-- a command with more subcommands, in turn, each by its name and its arguments
abbrev pub with_subcommands : List (Bor Text × Bor (List (Form × Bor Text))) → App → App
with_subcommands [] app = app
with_subcommands ((name, args) ∷ rest) app =
    with_subcommands rest (with_subcommand app (with_args args.now (new_app name.now)).top)

-- the command that was built is this one
pub record IsCommand (wanted : App) (c : Command) : Type 0 where
  pub app : app_of c ≡ wanted
  pub local : (out-Command c).has_globals ≡ false

-- the command takes the words, and this is what they say
pub record TakesAs (words : List Text) (m : ArgMatches) : Type 0 where
  pub taken : fault_of mulver words ≡ []
  pub rows : subcommand_rows_of m ≡ subcommand_of mulver words

-- What there is to read is read, and where there is nothing, that is usage; memory may be wanting.
pub record ReadsAsked {A : Type 0} (there : Option A) (result : Result A WordsFail) : Type 0 where
  pub ok : IfOk result (λ read. there ≡ Some read)
  pub usage : IsErrOf result Usage → there ≡ None
