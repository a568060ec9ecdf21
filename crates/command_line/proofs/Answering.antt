-- What a parse says is what the words ask for.
use Rattle.std.proofs.Common.{◌≡◌, ◌≢◌, List, [], ◌∷◌, Option, Some, None, refl}
use Rattle.std.specs.Prelude.{option_map, Box}
use Rattle.std.specs.Box.{box_value}
use Rattle.clap.specs.declared.ArgMatches.{ArgMatches}
use Rattle.clap.specs.declared.parser.matches.SubCommand.{SubCommand}
use Rattle.clap.specs.declared.parser.matches.ArgMatches.TheViews.{out-SubCommand}
use Rattle.clap.specs.Words.{Kinds, Row, Text, fault_of, subcommand_of, subcommand_rows, subcommand_rows_of}
use Rattle.command_line.specs.declared.command.Command.{Command}
use Rattle.command_line.specs.Asked.{asked, met, where_taken}
use Rattle.command_line.specs.FixedCommand.{mulver}
use Rattle.command_line.specs.Reading.{TakesAs}

-- where the words are taken, they ask for what the subcommand says
pub asked_where_taken : (words : List Text) (m : ArgMatches) → TakesAs words m → asked words ≡ met (subcommand_rows_of m)
unfolding asked
asked_where_taken words m takes = rw (takes.taken, takes.rows) refl

none_where_refused : (kinds : Kinds) (there : Option Command) → kinds ≢ [] → where_taken kinds there ≡ None
none_where_refused [] there refused = absurd (refused refl)
none_where_refused (kind ∷ kinds) there refused = refl

-- where they are refused, they ask for nothing
pub nothing_where_refused : (words : List Text) → fault_of mulver words ≢ [] → asked words ≡ None
unfolding asked
nothing_where_refused words refused = none_where_refused (fault_of mulver words) (met (subcommand_of mulver words)) refused

module _ {Z : Type 0} where
  -- a subcommand by its name and its rows
  pub by_parts : (s : Option (Box SubCommand Z)) (name : Text) (rows : List Row)
      → Some name ≡ option_map (λ b. (out-SubCommand (box_value b)).name.now) s → Some rows ≡ option_map (λ p. p.1) (subcommand_rows s)
      → subcommand_rows s ≡ Some (name, rows)
  by_parts None name rows name_is rows_is = cc
  by_parts (Some b) name rows name_is rows_is = cc
