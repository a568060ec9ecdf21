-- The command that `clap` is given: one level of subcommands, each with required words in their places, long options of
-- one text, and flags.
use Rattle.std.specs.Prelude.{true, Some, codes}
use Rattle.clap.specs.declared.builder.ArgAction.TheVariants.{Set, SetTrue}
use Rattle.clap.specs.Words.{App, Rule, Text, new_app, new_rule, with_rule, with_subcommand}

-- a required word in its place
abbrev pub word_rule : Text → Rule
word_rule id = record (new_rule id) { action = Some Set; required = true }

-- an option of this long name, with one text
abbrev pub choice : Text → Rule
choice id = record (new_rule id) { long = Some id; action = Some Set }

-- an option of this long name that is required, with one text
abbrev pub needed : Text → Rule
needed id = record (new_rule id) { long = Some id; action = Some Set; required = true }

-- a flag of this long name, which has no text
abbrev pub flag : Text → Rule
flag id = record (new_rule id) { long = Some id; action = Some SetTrue }

-- `check GRAPH CLAUSES ALGEBRA [--inputs ORDER] [--operands KIND] [--add] [--widths AxB]`
abbrev pub check_files : App
check_files = with_rule (with_rule (with_rule (new_app (codes "check"))
    (word_rule (codes "graph"))) (word_rule (codes "clauses"))) (word_rule (codes "algebra"))

abbrev pub check_app : App
check_app = with_rule (with_rule (with_rule (with_rule check_files
    (choice (codes "inputs"))) (choice (codes "operands"))) (flag (codes "add"))) (choice (codes "widths"))

-- `verify GRAPH --clauses FILE --algebra FILE [--inputs ORDER] [--budget N] [--conflicts N] [--format N] [--operands KIND] [--add]
-- [--widths AxB]`
abbrev pub verify_files : App
verify_files = with_rule (with_rule (with_rule (new_app (codes "verify"))
    (word_rule (codes "graph"))) (needed (codes "clauses"))) (needed (codes "algebra"))

abbrev pub verify_app : App
verify_app = with_rule (with_rule (with_rule (with_rule (with_rule (with_rule (with_rule verify_files
    (choice (codes "inputs"))) (choice (codes "budget"))) (choice (codes "conflicts"))) (choice (codes "format")))
    (choice (codes "operands"))) (flag (codes "add"))) (choice (codes "widths"))

-- `eval GRAPH A B [--inputs ORDER] [--addend C] [--widths AxB]`
abbrev pub eval_words : App
eval_words = with_rule (with_rule (with_rule (new_app (codes "eval"))
    (word_rule (codes "graph"))) (word_rule (codes "a"))) (word_rule (codes "b"))

abbrev pub eval_app : App
eval_app = with_rule (with_rule (with_rule eval_words
    (choice (codes "inputs"))) (choice (codes "addend"))) (choice (codes "widths"))

-- `make KIND BITS ADDER OUT [--add]`
abbrev pub make_app : App
make_app = with_rule (with_rule (with_rule (with_rule (with_rule (new_app (codes "make"))
    (word_rule (codes "kind"))) (word_rule (codes "bits"))) (word_rule (codes "adder"))) (word_rule (codes "out"))) (flag (codes "add"))

-- `trial N`
abbrev pub trial_app : App
trial_app = with_rule (new_app (codes "trial")) (word_rule (codes "number"))

-- a command that asks for a subcommand
abbrev pub must_choose : App → App
must_choose app = record app { top = record app.top { subcommand_required = true } }

-- the command with the subcommands that judge certificates or give a verdict
abbrev pub judging : App
judging = with_subcommand (with_subcommand (must_choose (new_app (codes "mulver"))) check_app.top) verify_app.top

-- `same G H CLAUSES [--conflicts N]`, with the names `graph`, `other` and `clauses`
abbrev pub same_app : App
same_app = with_rule (with_rule (with_rule (with_rule (new_app (codes "same"))
    (word_rule (codes "graph"))) (word_rule (codes "other"))) (word_rule (codes "clauses"))) (choice (codes "conflicts"))

-- `check-same G H CLAUSES`, likewise
abbrev pub check_same_app : App
check_same_app = with_rule (with_rule (with_rule (new_app (codes "check-same"))
    (word_rule (codes "graph"))) (word_rule (codes "other"))) (word_rule (codes "clauses"))

-- the command with those for one graph
abbrev pub of_one_graph : App
of_one_graph = with_subcommand (with_subcommand (with_subcommand judging eval_app.top) make_app.top) trial_app.top

-- the command with those for two graphs besides
abbrev pub of_graphs : App
of_graphs = with_subcommand (with_subcommand of_one_graph same_app.top) check_same_app.top

-- `trim GRAPH CLAUSES ALGEBRA TO-CLAUSES TO-ALGEBRA [--inputs ORDER] [--operands KIND] [--add] [--widths AxB]`
abbrev pub trim_files : App
trim_files = with_rule (with_rule (with_rule (with_rule (with_rule (new_app (codes "trim"))
    (word_rule (codes "graph"))) (word_rule (codes "clauses"))) (word_rule (codes "algebra")))
    (word_rule (codes "to-clauses"))) (word_rule (codes "to-algebra"))

abbrev pub trim_app : App
trim_app = with_rule (with_rule (with_rule (with_rule trim_files
    (choice (codes "inputs"))) (choice (codes "operands"))) (flag (codes "add"))) (choice (codes "widths"))

-- the whole command
abbrev pub mulver : App
mulver = with_subcommand of_graphs trim_app.top
