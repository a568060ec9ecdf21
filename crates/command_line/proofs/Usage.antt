-- The fixed command is one of which clap's clauses are exact, so its answers are those of the definition.
use Rattle.clap.specs.declared.ArgMatches.{ArgMatches}
use Rattle.std.proofs.Common.{◌≡◌, [], true, ap, ◌∙◌, inl, inr, refl, sym}
use Rattle.clap.specs.Words.{App, HasKind, HasMatchesOf, subcommand_of, subcommand_rows_of, Kinds, Text, fault_of, is_simple, is_simple_and_free, kind_of}
use Rattle.clap.specs.declared.Error.{Error}
use Rattle.clap.specs.declared.error.ErrorKind.TheVariants.{OutOfMemory}
use Rattle.clap.proofs.OnLiterals.{clap_on_literals}
use Rattle.command_line.specs.FixedCommand.{mulver}
use Rattle.std.specs.Prelude.{List}

pub mulver_is_free : is_simple_and_free mulver ≡ true
unfolding clap_on_literals
mulver_is_free = refl

pub mulver_is_simple : is_simple mulver ≡ true
unfolding clap_on_literals
mulver_is_simple = refl

pub only_memory : (e : Error) (kinds : Kinds) → kinds ≡ [] → HasKind kinds e → kind_of e ≡ OutOfMemory
only_memory e kinds none (inl memory) = memory
only_memory e kinds none (inr among) = absurd (rw none at among)

-- a command that is this one gives no other error where nothing is refused
pub only_memory_at : (app : App) (words : List Text) (e : Error) → app ≡ mulver → fault_of mulver words ≡ []
    → (is_simple_and_free app ≡ true → HasKind (fault_of app words) e) → kind_of e ≡ OutOfMemory
only_memory_at app words e same none kinds =
    only_memory e (fault_of app words) (ap (λ a. fault_of a words) same ∙ none) (kinds (ap is_simple_and_free same ∙ mulver_is_free))

-- where the command takes the words nothing is refused
pub taken_at : (app : App) (words : List Text) → app ≡ mulver → (is_simple_and_free app ≡ true → fault_of app words ≡ []) → fault_of mulver words ≡ []
taken_at app words same kinds = ap (λ (a : App). fault_of a words) (sym same) ∙ kinds (ap is_simple_and_free same ∙ mulver_is_free)

-- and its rows are those of this command
pub rows_at : (app : App) (words : List Text) (m : ArgMatches) → app ≡ mulver → HasMatchesOf app words m → subcommand_rows_of m ≡ subcommand_of mulver words
rows_at app words m same rows = (rows (ap is_simple same ∙ mulver_is_simple)).1 ∙ ap (λ (a : App). subcommand_of a words) same
