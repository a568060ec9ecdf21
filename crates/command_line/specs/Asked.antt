-- What the words of a command line ask for.
use Rattle.std.specs.Prelude.{◌≡◌, ◌≢◌, ◌<◌, ◌≤◌, ◌⊎◌, ⊤, ℕ, ◌^◌, ◌==◌, ◌&&◌, ◌||◌, Bool, false, nat_le, nat_lt, List, [], ◌∷◌, map, Option, Some, None, if◌then◌else◌, codes, is_some, string_bytes, option_and_then, option_map}
use Rattle.std.specs.Global.{Global}
use Rattle.std.specs.List.{after_first, before_first}
use Rattle.std.specs.Option.{option_map_or}
use Rattle.std.specs.Str.{all_ascii_digits, bytes_eq}
use Rattle.std.specs.declared.string.String.{String}
use Rattle.clap.specs.Words.{Kinds, Row, Text, fault_of, first_of, subcommand_of}
use Rattle.graph_core.specs.declared.claim.Claim.{Claim}
use Rattle.graph_core.specs.declared.order.Order.{Order}
use Rattle.graph_core.specs.declared.order.Order.TheVariants.{Separate, Interleaved}
use Rattle.graph_core.specs.declared.sign.Sign.{Sign}
use Rattle.graph_core.specs.declared.sign.Sign.TheVariants.{Unsigned, Signed}
use Rattle.graph_core.specs.declared.widths.Widths.{Widths}
use Rattle.graph_core.specs.declared.widths.Widths.TheVariants.{Equal, Given}
use Rattle.graph_maker.specs.declared.adder.Adder.{Adder}
use Rattle.graph_maker.specs.declared.adder.Adder.TheVariants.{Ripple, Kogge, Sklansky}
use Rattle.graph_maker.specs.declared.design.Design.{Design}
use Rattle.graph_maker.specs.declared.design.Design.TheVariants.{Corrected, Multiplier, MultiplyAdd, OfWidths}
use Rattle.graph_maker.specs.declared.kind.Kind.{Kind}
use Rattle.graph_maker.specs.declared.kind.Kind.TheVariants.{Array, Dadda}
use Rattle.graph_maker.specs.Designed.{IsDesign}
use Rattle.command_core.specs.Files.{AreDistinct, ComparedFiles, Files, LeavesFiles, TrimmedFiles}
use Rattle.command_core.specs.declared.task.Task.{Task}
use Rattle.mv_nums.specs.Numeral.{decimal_value}
use Rattle.command_line.specs.declared.command.Command.{Command}
use Rattle.command_line.specs.declared.command.Command.TheVariants.{Check, CheckSame, Eval, Make, Same, Trial, Trim, Verify}
use Rattle.command_line.specs.declared.making.Making.{Making}
use Rattle.command_line.specs.declared.point.Point.{Point}
use Rattle.command_line.specs.FixedCommand.{mulver}

-- the words as texts
abbrev pub texts : List (String Global) → List Text
texts words = map string_bytes words

-- ---- single texts

abbrev pub order_named : Text → Option Order
order_named text =
    if bytes_eq text (codes "separate") then Some Separate
    else (if bytes_eq text (codes "interleaved") then Some Interleaved else None)

abbrev pub sign_named : Text → Option Sign
sign_named text =
    if bytes_eq text (codes "unsigned") then Some Unsigned
    else (if bytes_eq text (codes "signed") then Some Signed else None)

abbrev pub kind_named : Text → Option Kind
kind_named text =
    if bytes_eq text (codes "array") then Some Array
    else (if bytes_eq text (codes "dadda") then Some Dadda else None)

-- `corrected` is made without an addend alone, and the other kinds without one and with one
abbrev pub design_named : Bool → Text → Option Design
design_named add text =
    if bytes_eq text (codes "corrected") then (if add then None else Some Corrected)
    else option_map (λ kind. if add then MultiplyAdd kind else Multiplier kind) (kind_named text)

abbrev pub adder_named : Text → Option Adder
adder_named text =
    if bytes_eq text (codes "ripple") then Some Ripple
    else (if bytes_eq text (codes "kogge") then Some Kogge
    else (if bytes_eq text (codes "sklansky") then Some Sklansky else None))

-- one decimal digit or more, and nothing else
abbrev pub is_numeral : Text → Bool
is_numeral [] = false
is_numeral (byte ∷ bytes) = all_ascii_digits (byte ∷ bytes)

-- the number below 2^128 that a text spells in decimal digits; the first may be zeros
abbrev pub number_of : Text → Option ℕ
number_of text =
    if is_numeral text && nat_lt (decimal_value text) (2 ^ 128) then Some (decimal_value text) else None

-- a number from 1 to 64
abbrev pub bits_asked : Text → Option ℕ
bits_asked text =
    option_and_then (λ bits. if nat_le 1 bits && nat_le bits 64 then Some bits else None) (number_of text)

-- the widths of two operands: two such numbers with an x (120) between them
abbrev pub widths_with : Bool → Option ℕ → Option ℕ → Option Widths
widths_with add (Some a) (Some b) = Some (Given a b add)
widths_with add _ _ = None

abbrev pub is_x : ℕ → Bool
is_x byte = byte == 120

abbrev pub widths_named : Bool → Text → Option Widths
widths_named add text = widths_with add (bits_asked (before_first is_x text)) (bits_asked (after_first is_x text))

-- a design and its bits: of one number of bits any design, and of two a multiplier without an addend
abbrev pub design_with : Bool → Text → Option ℕ → Option Widths → Option (Design × ℕ)
design_with add kind (Some bits) widths = option_map (λ design. (design, bits)) (design_named add kind)
design_with add kind None (Some (Given a b false)) = option_map (λ k. (OfWidths k b, a)) (kind_named kind)
design_with add kind None _ = None

abbrev pub design_asked : Bool → Text → Text → Option (Design × ℕ)
design_asked add kind bits = design_with add kind (bits_asked bits) (widths_named add bits)

-- a number below 2^32, from a least one on
abbrev pub word_from : ℕ → Text → Option ℕ
word_from least text =
    option_and_then (λ n. if nat_le least n && nat_lt n (2 ^ 32) then Some n else None) (number_of text)

-- ---- the texts of a subcommand, each under its name

-- what the text of this name says
abbrev pub read_at : {A : Type 0} → (Text → Option A) → Text → List Row → Option A
read_at read name rows = option_and_then read (first_of name rows)

-- the order that is named, or `separate` where none is
abbrev pub order_at : List Row → Option Order
order_at rows = option_map_or order_named (first_of (codes "inputs") rows) (Some Separate)

-- the kind of operands that is named, or `unsigned` where none is
abbrev pub sign_at : List Row → Option Sign
sign_at rows = option_map_or sign_named (first_of (codes "operands") rows) (Some Unsigned)

-- the flag of this name is given
abbrev pub is_set : Text → List Row → Bool
is_set name rows = option_map_or (λ text. bytes_eq text (codes "true")) (first_of name rows) false

-- a text of this name is given
abbrev pub is_given : Text → List Row → Bool
is_given name rows = is_some (first_of name rows)

-- the widths that are named, or equal ones where none are; with an addend or without it
abbrev pub widths_at : Bool → List Row → Option Widths
widths_at add rows = option_map_or (widths_named add) (first_of (codes "widths") rows) (Some (Equal add))

-- what is claimed: an order, a kind of operands, and their widths; no rule says how operands of given widths interleave
abbrev pub claim_asked : Order → Sign → Widths → Option Claim
claim_asked Interleaved sign (Given a b add) = None
claim_asked order sign widths = Some (record { order = order; sign = sign; widths = widths })

abbrev pub claim_with : Option Order → Option Sign → Option Widths → Option Claim
claim_with (Some order) (Some sign) (Some widths) = claim_asked order sign widths
claim_with _ _ _ = None

abbrev pub claim_at : List Row → Option Claim
claim_at rows = claim_with (order_at rows) (sign_at rows) (widths_at (is_set (codes "add") rows) rows)

-- the names of three files; nothing where one is missing
abbrev pub files_with : Option Text → Option Text → Option Text → Option Files
files_with (Some graph) (Some clauses) (Some algebra) =
    Some (record { graph = graph; clauses = clauses; algebra = algebra })
files_with _ _ _ = None

abbrev pub files_at : List Row → Option Files
files_at rows = files_with
    (first_of (codes "graph") rows)
    (first_of (codes "clauses") rows)
    (first_of (codes "algebra") rows)

-- `check`: the names of three files, and a claim
abbrev pub check_with : Option Files → Option Claim → Option Command
check_with (Some files) (Some claim) = Some (Check files claim)
check_with _ _ = None

abbrev pub check_of : List Row → Option Command
check_of rows = check_with (files_at rows) (claim_at rows)

-- the number of this name, below 2^32 and from a least one on, or a default where none is named
abbrev pub word_at : ℕ → ℕ → Text → List Row → Option ℕ
word_at least default name rows = option_map_or (word_from least) (first_of name rows) (Some default)

-- two of the three names are equal
abbrev pub are_shared : Files → Bool
are_shared files =
    bytes_eq files.graph files.clauses || (bytes_eq files.graph files.algebra || bytes_eq files.clauses files.algebra)

-- the most monomials that a remainder may have, and the most conflicts, where the words give none
abbrev pub default_budget : ℕ
default_budget = 1000000

abbrev pub default_conflicts : ℕ
default_conflicts = 100000

-- the greatest version of certificates that may be written: 1, 2 or 3
abbrev pub version_from : ℕ → Option ℕ
version_from n = if n == 1 then Some 1 else (if n == 2 then Some 2 else (if n == 3 then Some 3 else None))

abbrev pub version_at : List Row → Option ℕ
version_at rows = option_and_then version_from (word_at 1 3 (codes "format") rows)

-- what is asked of a graph: a claim, a budget, a number of conflicts, and a greatest version
abbrev pub task_with : Option Claim → Option ℕ → Option ℕ → Option ℕ → Option Task
task_with (Some claim) (Some budget) (Some conflicts) (Some version) =
    Some (record { claim = claim; budget = budget; conflicts = conflicts; version = version })
task_with _ _ _ _ = None

abbrev pub task_at : List Row → Option Task
task_at rows = task_with
    (claim_at rows)
    (word_at 1 default_budget (codes "budget") rows)
    (word_at 0 default_conflicts (codes "conflicts") rows)
    (version_at rows)

-- `verify`: the names of three files, no two of which are equal, and what is asked
abbrev pub verify_with : Option Files → Option Task → Option Command
verify_with (Some files) (Some task) = if are_shared files then None else Some (Verify files task)
verify_with _ _ = None

abbrev pub verify_of : List Row → Option Command
verify_of rows = verify_with (files_at rows) (task_at rows)

-- the addend that is given, or 0
abbrev pub addend_at : List Row → Option ℕ
addend_at rows = option_map_or number_of (first_of (codes "addend") rows) (Some 0)

-- two operands, and an addend where one is given; which inputs are their bits
abbrev pub point_with : Option ℕ → Option ℕ → Option ℕ → Option Claim → Option Point
point_with (Some a) (Some b) (Some c) (Some claim) = Some (record { claim = claim; a = a; b = b; c = c })
point_with _ _ _ _ = None

abbrev pub point_at : List Row → Option Point
point_at rows = point_with
    (read_at number_of (codes "a") rows)
    (read_at number_of (codes "b") rows)
    (addend_at rows)
    (claim_with (order_at rows) (Some Unsigned) (widths_at (is_given (codes "addend") rows) rows))

-- `eval`: the name of a file, and what its graph is evaluated at
abbrev pub eval_with : Option Text → Option Point → Option Command
eval_with (Some graph) (Some point) = Some (Eval graph point)
eval_with _ _ = None

abbrev pub eval_of : List Row → Option Command
eval_of rows = eval_with (first_of (codes "graph") rows) (point_at rows)

-- the design of the kind and the bits that are named, with an addend or without it
abbrev pub design_at : List Row → Option (Design × ℕ)
design_at rows =
    read_at (λ kind. read_at (design_asked (is_set (codes "add") rows) kind) (codes "bits") rows) (codes "kind") rows

-- what is made: a design with its bits, and an adder
abbrev pub making_of : Design → ℕ → Adder → Making
making_of design bits adder = record { design = design; bits = bits; adder = adder }

abbrev pub making_with : Option (Design × ℕ) → Option Adder → Option Making
making_with (Some (design, bits)) (Some adder) = Some (making_of design bits adder)
making_with _ _ = None

abbrev pub making_at : List Row → Option Making
making_at rows = making_with (design_at rows) (read_at adder_named (codes "adder") rows)

-- `make`: what is made, and the name of a file
abbrev pub make_with : Option Making → Option Text → Option Command
make_with (Some making) (Some out) = Some (Make making out)
make_with _ _ = None

abbrev pub make_of : List Row → Option Command
make_of rows = make_with (making_at rows) (first_of (codes "out") rows)

-- `trial`: a number below 2^32
abbrev pub trial_with : Option ℕ → Option Command
trial_with (Some number) = Some (Trial number)
trial_with None = None

abbrev pub trial_of : List Row → Option Command
trial_of rows = trial_with (read_at (word_from 0) (codes "number") rows)

-- the names of two graphs and of their certificate; nothing where one is missing
abbrev pub pair_with : Option Text → Option Text → Option Text → Option ComparedFiles
pair_with (Some graph) (Some other) (Some clauses) =
    Some (record { graph = graph; other = other; clauses = clauses })
pair_with _ _ _ = None

abbrev pub pair_at : List Row → Option ComparedFiles
pair_at rows = pair_with
    (first_of (codes "graph") rows)
    (first_of (codes "other") rows)
    (first_of (codes "clauses") rows)

-- the certificate has the name of a graph
abbrev pub is_overwriting : ComparedFiles → Bool
is_overwriting files = bytes_eq files.clauses files.graph || bytes_eq files.clauses files.other

-- `same`: the names of three files, of which the last one is neither of the others, and a number of conflicts
abbrev pub same_with : Option ComparedFiles → Option ℕ → Option Command
same_with (Some files) (Some conflicts) = if is_overwriting files then None else Some (Same files conflicts)
same_with _ _ = None

abbrev pub same_of : List Row → Option Command
same_of rows = same_with (pair_at rows) (word_at 0 default_conflicts (codes "conflicts") rows)

-- `check-same`: the names of three files
abbrev pub check_same_with : Option ComparedFiles → Option Command
check_same_with (Some files) = Some (CheckSame files)
check_same_with None = None

abbrev pub check_same_of : List Row → Option Command
check_same_of rows = check_same_with (pair_at rows)

-- the names of three files and of the two that are written; nothing where one is missing
abbrev pub trim_files_with : Option Files → Option Text → Option Text → Option TrimmedFiles
trim_files_with (Some old) (Some to_clauses) (Some to_algebra) =
    Some (record { old = old; to_clauses = to_clauses; to_algebra = to_algebra })
trim_files_with _ _ _ = None

abbrev pub trim_files_at : List Row → Option TrimmedFiles
trim_files_at rows = trim_files_with
    (files_at rows)
    (first_of (codes "to-clauses") rows)
    (first_of (codes "to-algebra") rows)

-- the name is that of a file that is read
abbrev pub is_file_read : Files → Text → Bool
is_file_read files name = bytes_eq name files.graph || (bytes_eq name files.clauses || bytes_eq name files.algebra)

-- the name of a file that is written is that of another file
abbrev pub are_reused : TrimmedFiles → Bool
are_reused files =
    is_file_read files.old files.to_clauses || (is_file_read files.old files.to_algebra || bytes_eq files.to_clauses files.to_algebra)

-- `trim`: the names of five files, of which each of the last two is none of the others, and a claim
abbrev pub trim_with : Option TrimmedFiles → Option Claim → Option Command
trim_with (Some files) (Some claim) = if are_reused files then None else Some (Trim files claim)
trim_with _ _ = None

abbrev pub trim_asked : List Row → Option Command
trim_asked rows = trim_with (trim_files_at rows) (claim_at rows)

-- ---- the words

-- the subcommand of this name, with these texts
abbrev pub command_named : Text → List Row → Option Command
command_named name rows =
    if bytes_eq name (codes "check") then check_of rows
    else (if bytes_eq name (codes "verify") then verify_of rows
    else (if bytes_eq name (codes "eval") then eval_of rows
    else (if bytes_eq name (codes "make") then make_of rows
    else (if bytes_eq name (codes "trial") then trial_of rows
    else (if bytes_eq name (codes "same") then same_of rows
    else (if bytes_eq name (codes "check-same") then check_same_of rows
    else (if bytes_eq name (codes "trim") then trim_asked rows else None)))))))

-- the subcommand that was met
abbrev pub met : Option (Text × List Row) → Option Command
met subcommand = option_and_then (λ s. command_named s.0 s.1) subcommand

-- what is there where nothing refuses it
abbrev pub where_taken : Kinds → Option Command → Option Command
where_taken [] there = there
where_taken (kind ∷ kinds) there = None

-- What the words ask for: nothing where `clap` refuses them for the fixed command, where a text isn't one of
-- those that are named, where it is no number in its range, where two of the names of `verify` are equal, where the
-- certificate of `same` has the name of a graph, and where a certificate that `trim` writes has the name of another file.
unfoldable pub asked : List Text → Option Command
asked words = where_taken (fault_of mulver words) (met (subcommand_of mulver words))

-- The words ask for nothing.
abbrev pub IsUsage : List Text → Type 0
IsUsage words = asked words ≡ None

-- The words ask for `verify` of these files and this task.
abbrev pub IsVerify : List Text → Files → Task → Type 0
IsVerify words files task = asked words ≡ Some (Verify files task)

-- The words ask for `check` of these files and this claim.
abbrev pub IsCheck : List Text → Files → Claim → Type 0
IsCheck words files claim = asked words ≡ Some (Check files claim)

-- The words ask for `same` of these files, with so many conflicts.
abbrev pub AsksSame : List Text → ComparedFiles → ℕ → Type 0
AsksSame words files conflicts = asked words ≡ Some (Same files conflicts)

-- The words ask for `check-same` of these files.
abbrev pub AsksCheckSame : List Text → ComparedFiles → Type 0
AsksCheckSame words files = asked words ≡ Some (CheckSame files)

-- The words ask for `trim` of these files and this claim.
abbrev pub AsksTrim : List Text → TrimmedFiles → Claim → Type 0
AsksTrim words files claim = asked words ≡ Some (Trim files claim)

-- the widths of multipliers
abbrev pub AreBits : ℕ → Type 0
AreBits bits = (1 ≤ bits) × (bits ≤ 64)

-- the certificate is neither of the graphs
pub record LeavesGraphs (files : ComparedFiles) : Type 0 where
  pub graph : files.clauses ≢ files.graph
  pub other : files.clauses ≢ files.other

-- The numbers of `make`, `verify`, `trial` and `same` are in their ranges, no two names of `verify` are equal, `same` writes over no
-- graph, and `trim` writes two files over none that it reads.
abbrev pub IsCommandInRange : Command → Type 0
IsCommandInRange (Make making out) = AreBits making.bits × IsDesign making.design
IsCommandInRange (Verify files task) = AreDistinct files.graph files.clauses files.algebra × (1 ≤ task.budget) × (task.budget < 2 ^ 32) ×
    (task.conflicts < 2 ^ 32) × ((task.version ≡ 1) ⊎ ((task.version ≡ 2) ⊎ (task.version ≡ 3)))
IsCommandInRange (Trial number) = number < 2 ^ 32
IsCommandInRange (Same files conflicts) = LeavesGraphs files × (conflicts < 2 ^ 32)
IsCommandInRange (Trim files claim) = LeavesFiles files
IsCommandInRange _ = ⊤
