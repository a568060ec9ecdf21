-- `check` with three names that are plain words: the walk over the words, one at a time.
use Rattle.std.proofs.Common.{◌≡◌, ◌≢◌, ◌==◌, ℕ, Bool, true, false, List, [], ◌∷◌, Some, None, refl, ap, ◌∙◌, arith, codes}
use Rattle.std.specs.Prelude.{get_or, is_some}
use Rattle.std.specs.Str.{bytes_eq}
use Rattle.std.proofs.lemmas.Bool.Decides.{nat_tests}
use Rattle.clap.specs.Lexer.{long_of, short_of}
use Rattle.clap.specs.Words.{Kinds, Rule, Shape, Text, built, fault_of, subcommand_of}
use Rattle.clap.specs.Simple.{entered, names_of}
use Rattle.clap.specs.Walk.{Held, Walk, arg_by_index, finished, idle, nothing_held, settled, to_positional, value, walk, walk_from, walked}
use Rattle.clap.specs.Faults.{check_fault, defaults_fault, entered_fault, level_fault, settle_fault, step_fault, turn_fault, walk_fault}
use Rattle.clap.specs.Kinds.{or_else}
use Rattle.clap.proofs.OnLiterals.{clap_on_literals}
use Rattle.command_core.specs.Files.{Files}
use Rattle.command_line.specs.Asked.{asked, met, where_taken}
use Rattle.command_line.specs.Examples.{BeginsPlain, NamesAreChecked}
use Rattle.command_line.specs.FixedCommand.{mulver}

-- ---- one plain word

record IsPlain (word : Text) : Type 0 where
  dashes : bytes_eq word (45 ∷ 45 ∷ []) ≡ false
  long : long_of word ≡ None
  short : short_of word ≡ None

is_plain : (word : Text) → BeginsPlain word → IsPlain word
is_plain [] begins = record { dashes = refl; long = refl; short = refl }
is_plain (x ∷ xs) begins =
    let no_hyphen : x ≢ 45 = λ e. begins (ap (λ n. Some n) e) in
    let test : (x == 45) ≡ false = grind (arith, nat_tests) in
    record { dashes = rw test refl; long = rw test refl; short = rw test refl }

-- where a walk stands between two words
abbrev at : Held → ℕ → Walk
at held position = record { held = held; waiting = idle; position = position; is_trailing = false; stopped = None }

-- where it stands after one more plain word
abbrev behind : List Rule → Held → ℕ → Text → Walk
behind rules held position word = to_positional rules (arg_by_index rules position) word (at held position) held

walked-plain : (rules : List Rule) (held : Held) (position : ℕ) (word : Text) → IsPlain word
    → walked rules [] (at held position) word ≡ behind rules held position word
unfolding walked
walked-plain rules held position word plain = rw (plain.dashes, plain.long, plain.short) refl

turn_fault-plain : (s : Shape) (held : Held) (position : ℕ) (word : Text) → IsPlain word
    → turn_fault s [] (at held position) word ≡ step_fault s position held value
turn_fault-plain s held position word plain = rw (plain.dashes, plain.long, plain.short) refl

walk_fault-plain : (s : Shape) (held : Held) (position : ℕ) (word : Text) (rest : List Text) → IsPlain word → step_fault s position held value ≡ []
    → walk_fault s [] (at held position) (word ∷ rest) ≡ walk_fault s [] (behind s.rules held position word) rest
unfolding walk_fault
walk_fault-plain s held position word rest plain none =
    rw (turn_fault-plain s held position word plain, none, walked-plain s.rules held position word plain) refl

walk_fault-nil : (s : Shape) (w : Walk) → walk_fault s [] w [] ≡ []
unfolding walk_fault
walk_fault-nil s w = refl

-- ---- the three names of `check`

abbrev check_shape : Shape
check_shape = get_or (built mulver).subs 0 (built mulver).top

abbrev one : Text → Walk
one graph = behind check_shape.rules nothing_held 1 graph

abbrev two : Text → Text → Walk
two graph clauses = behind check_shape.rules (one graph).held 2 clauses

abbrev three : Files → Walk
three files = behind check_shape.rules (two files.graph files.clauses).held 3 files.algebra

abbrev names_in : Files → List Text
names_in files = files.graph ∷ files.clauses ∷ files.algebra ∷ []

abbrev ArePlain : Files → Type 0
ArePlain files = IsPlain files.graph × IsPlain files.clauses × IsPlain files.algebra

names_walk : (files : Files) → ArePlain files → walk check_shape.rules [] nothing_held (names_in files) ≡ three files
names_walk files plain =
    let rules = check_shape.rules in
    ap (λ w. walked rules [] (walked rules [] w files.clauses) files.algebra) (walked-plain rules nothing_held 1 files.graph plain.0)
    ∙ ap (λ w. walked rules [] w files.algebra) (walked-plain rules (one files.graph).held 2 files.clauses plain.1)
    ∙ walked-plain rules (two files.graph files.clauses).held 3 files.algebra plain.2

names_fault : (files : Files) → ArePlain files → walk_fault check_shape [] (walk_from nothing_held) (names_in files) ≡ []
names_fault files plain =
    walk_fault-plain check_shape nothing_held 1 files.graph (files.clauses ∷ files.algebra ∷ []) plain.0 refl
    ∙ walk_fault-plain check_shape (one files.graph).held 2 files.clauses (files.algebra ∷ []) plain.1 refl
    ∙ walk_fault-plain check_shape (two files.graph files.clauses).held 3 files.algebra [] plain.2 refl
    ∙ walk_fault-nil check_shape (three files)

-- a level's fault, from its walk
abbrev level_of : Shape → Bool → Kinds → Walk → Kinds → Kinds
level_of s has_subcommand below w faults =
    or_else faults (or_else below (or_else (settle_fault s.rules s.args_override_self w.held)
    (or_else (defaults_fault (settled s.rules w.held).rows s.rules) (check_fault s (finished s.rules w.held) has_subcommand))))

names_level : (files : Files) → ArePlain files → level_fault check_shape [] nothing_held (names_in files) false [] ≡ []
unfolding defaults_fault
names_level files plain =
    ap (λ w. level_of check_shape false [] w (walk_fault check_shape [] (walk_from nothing_held) (names_in files))) (names_walk files plain)
    ∙ ap (λ faults. level_of check_shape false [] (three files) faults) (names_fault files plain)

-- ---- the whole command

abbrev command_words : Files → List Text
command_words files = codes "check" ∷ names_in files

abbrev stopped : Files → Walk
stopped files = record (walk_from nothing_held) { stopped = Some (codes "check", names_in files) }

command_walk : (files : Files) → walk (built mulver).top.rules (names_of (built mulver)) nothing_held (command_words files) ≡ stopped files
unfolding clap_on_literals
command_walk files = refl

command_fault : (files : Files) → walk_fault (built mulver).top (names_of (built mulver)) (walk_from nothing_held) (command_words files) ≡ []
unfolding clap_on_literals
command_fault files = refl

-- the whole command's fault, from its walk
abbrev command_of : Walk → Kinds → Kinds
command_of w faults =
    level_of (built mulver).top (is_some (entered (built mulver) w.stopped)) (entered_fault (built mulver) w.stopped) w faults

taken : (program : Text) (files : Files) → ArePlain files → fault_of mulver (program ∷ command_words files) ≡ []
unfolding defaults_fault
taken program files plain =
    ap (λ w. command_of w (walk_fault (built mulver).top (names_of (built mulver)) (walk_from nothing_held) (command_words files))) (command_walk files)
    ∙ ap (λ faults. command_of (stopped files) faults) (command_fault files)
    ∙ ap (λ below. level_of (built mulver).top true below (stopped files) []) (names_level files plain)

rows : (program : Text) (files : Files) → ArePlain files
    → subcommand_of mulver (program ∷ command_words files) ≡ Some (codes "check", finished check_shape.rules (three files).held)
rows program files plain =
    ap (λ w. entered (built mulver) w.stopped) (command_walk files)
    ∙ ap (λ w. Some (codes "check", finished check_shape.rules w.held)) (names_walk files plain)

pub names_are_checked : NamesAreChecked
unfolding asked
names_are_checked program files graph clauses algebra =
    let plain : ArePlain files = (is_plain _ graph, is_plain _ clauses, is_plain _ algebra) in
    ap (λ kinds. where_taken kinds (met (subcommand_of mulver (program ∷ command_words files)))) (taken program files plain)
    ∙ ap met (rows program files plain)
