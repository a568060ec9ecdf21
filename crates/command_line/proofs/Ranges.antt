-- What is asked for has its numbers in range, and names that differ where they must.
use Rattle.std.proofs.Common.{◌≡◌, ◌≢◌, ◌<◌, ◌≤◌, ◌⊎◌, ◌^◌, ◌==◌, ◌&&◌, ◌||◌, inl, inr, ℕ, Bool, true, false, List, [], ◌∷◌, Option, Some, None, nat_le, nat_lt, refl, sym, ◌∙◌, true≢false, subst, codes, arith}
use Rattle.std.specs.Prelude.{IfSome, if◌then◌else◌, option_and_then, option_map, ⊤}
use Rattle.std.specs.List.{after_first, before_first}
use Rattle.std.specs.Option.{option_map_or}
use Rattle.std.specs.Str.{bytes_eq}
use Rattle.std.proofs.lemmas.Bool.Decides.{nat_tests}
use Rattle.std.proofs.lemmas.Slice.Eq.{bytes_eq-Decides}
use Rattle.clap.specs.Words.{Kinds, Row, Text, fault_of, first_of, subcommand_of}
use Rattle.graph_core.specs.declared.claim.Claim.{Claim}
use Rattle.graph_maker.specs.declared.adder.Adder.{Adder}
use Rattle.graph_core.specs.declared.widths.Widths.{Widths}
use Rattle.graph_core.specs.declared.widths.Widths.TheVariants.{Equal, Given}
use Rattle.graph_maker.specs.Designed.{IsDesign}
use Rattle.graph_maker.specs.declared.design.Design.{Design}
use Rattle.graph_maker.specs.declared.design.Design.TheVariants.{Corrected, Multiplier, MultiplyAdd, OfWidths}
use Rattle.graph_maker.specs.declared.kind.Kind.{Kind}
use Rattle.command_line.specs.declared.command.Command.{Command}
use Rattle.command_line.specs.declared.command.Command.TheVariants.{Check, CheckSame, Eval, Make, Same, Trial, Trim, Verify}
use Rattle.command_line.specs.declared.point.Point.{Point}
use Rattle.command_core.specs.Files.{AreDistinct, ComparedFiles, Files, IsUnread, LeavesFiles, TrimmedFiles}
use Rattle.command_core.specs.declared.task.Task.{Task}
use Rattle.command_line.specs.Asked.{AreBits, IsCommandInRange, LeavesGraphs, adder_named, are_reused, are_shared, asked, bits_asked, check_of, check_same_of, check_same_with, check_with, claim_at, design_asked, design_at, design_named, design_with, is_overwriting, is_file_read, is_set, is_x, kind_named, making_of, making_with, pair_at, same_of, same_with, files_at, task_at, task_with, verify_of, verify_with, version_at, version_from, word_at, word_from, eval_of, eval_with, make_of, make_with, met, command_named, number_of, point_at, read_at, trial_of, trial_with, trim_files_at, trim_asked, trim_with, where_taken, widths_named, widths_with}
use Rattle.command_line.specs.FixedCommand.{mulver}

-- ---- the number

if_in_range : (t u : Bool) (n : ℕ) → nat_le 1 n ≡ t → nat_le n 64 ≡ u → IfSome (if t && u then Some n else None) AreBits
if_in_range true true n low high = grind (arith, nat_tests)
if_in_range true false n low high = tt
if_in_range false u n low high = tt

in_bits : (o : Option ℕ) → IfSome (option_and_then (λ n. if nat_le 1 n && nat_le n 64 then Some n else None) o) AreBits
in_bits None = tt
in_bits (Some n) = if_in_range (nat_le 1 n) (nat_le n 64) n refl refl

bits_in : (text : Text) → IfSome (bits_asked text) AreBits
bits_in text = in_bits (number_of text)

-- ---- a design

abbrev AreOfWidths : Widths → Type 0
AreOfWidths (Equal add) = ⊤
AreOfWidths (Given a b add) = AreBits a × AreBits b

abbrev IsDesignOf : Design × ℕ → Type 0
IsDesignOf d = AreBits d.1 × IsDesign d.0

widths_in : (add : Bool) (a b : Option ℕ) → IfSome a AreBits → IfSome b AreBits → IfSome (widths_with add a b) AreOfWidths
widths_in add (Some a) (Some b) h k = (h, k)
widths_in add (Some a) None h k = tt
widths_in add None b h k = tt

kind_in : (add : Bool) (kind : Option Kind) → IfSome (option_map (λ k. if add then MultiplyAdd k else Multiplier k) kind) IsDesign
kind_in true (Some k) = tt
kind_in false (Some k) = tt
kind_in add None = tt

named_in : (add : Bool) (text : Text) → IfSome (design_named add text) IsDesign
named_in add text = at add (bytes_eq text (codes "corrected"))
  where
    at : (add t : Bool) → IfSome (if t then (if add then None else Some Corrected) else option_map (λ k. if add then MultiplyAdd k else Multiplier k) (kind_named text)) IsDesign
    at true true = tt
    at false true = tt
    at add false = kind_in add (kind_named text)

with_bits : (n : ℕ) (design : Option Design) → AreBits n → IfSome design IsDesign → IfSome (option_map (λ d. (d, n)) design) IsDesignOf
with_bits n (Some d) h k = (h, k)
with_bits n None h k = tt

of_widths_in : (a b : ℕ) (kind : Option Kind) → AreBits a → AreBits b → IfSome (option_map (λ k. (OfWidths k b, a)) kind) IsDesignOf
of_widths_in a b (Some k) h i = (h, i)
of_widths_in a b None h i = tt

design_in : (add : Bool) (kind : Text) (bits : Option ℕ) (widths : Option Widths) → IfSome bits AreBits → IfSome widths AreOfWidths
    → IfSome (design_with add kind bits widths) IsDesignOf
design_in add kind (Some n) widths h k = with_bits n (design_named add kind) h (named_in add kind)
design_in add kind None (Some (Given a b false)) h k = of_widths_in a b (kind_named kind) k.0 k.1
design_in add kind None (Some (Given a b true)) h k = tt
design_in add kind None (Some (Equal sum)) h k = tt
design_in add kind None None h k = tt

asked_in : (add : Bool) (kind bits : Text) → IfSome (design_asked add kind bits) IsDesignOf
asked_in add kind bits =
    design_in add kind (bits_asked bits) (widths_named add bits) (bits_in bits)
    (widths_in add (bits_asked (before_first is_x bits)) (bits_asked (after_first is_x bits)) (bits_in (before_first is_x bits)) (bits_in (after_first is_x bits)))

designs_in : (add : Bool) (kind bits : Option Text)
    → IfSome (option_and_then (λ k. option_and_then (design_asked add k) bits) kind) IsDesignOf
designs_in add (Some kind) (Some bits) = asked_in add kind bits
designs_in add (Some kind) None = tt
designs_in add None bits = tt

-- a number below 2^32 from a least one on
abbrev AreFrom : ℕ → ℕ → Type 0
AreFrom least n = (least ≤ n) × (n < 2 ^ 32)

if_from : (t u : Bool) (least n : ℕ) → nat_le least n ≡ t → nat_lt n (2 ^ 32) ≡ u → IfSome (if t && u then Some n else None) (AreFrom least)
if_from true true least n low high = grind (arith, nat_tests)
if_from true false least n low high = tt
if_from false u least n low high = tt

in_word : (least : ℕ) (o : Option ℕ) → IfSome (option_and_then (λ n. if nat_le least n && nat_lt n (2 ^ 32) then Some n else None) o) (AreFrom least)
in_word least None = tt
in_word least (Some n) = if_from (nat_le least n) (nat_lt n (2 ^ 32)) least n refl refl

word_in : (least default : ℕ) (o : Option Text) → AreFrom least default → IfSome (option_map_or (word_from least) o (Some default)) (AreFrom least)
word_in least default None h = h
word_in least default (Some text) h = in_word least (number_of text)

word_of_in : (o : Option Text) → IfSome (option_and_then (word_from 0) o) (AreFrom 0)
word_of_in None = tt
word_of_in (Some text) = in_word 0 (number_of text)

-- ---- the commands

same_range : (asked there : Command) → IsCommandInRange there → Some there ≡ Some asked → IsCommandInRange asked
same_range asked there h e = let same : there ≡ asked = cc in subst IsCommandInRange same h

check_range : (files : Option Files) (claim : Option Claim) (command : Command) → check_with files claim ≡ Some command → IsCommandInRange command
check_range (Some f) (Some k) command e = same_range command (Check f k) tt e
check_range None claim command e = cc
check_range (Some f) None command e = cc

-- texts of which the test says that they differ
differ : (xs ys : Text) → bytes_eq xs ys ≡ false → xs ≢ ys
differ xs ys test same = true≢false (sym ((bytes_eq-Decides xs ys).1 same) ∙ test)

or_none : (t u : Bool) → (t || u) ≡ false → (t ≡ false) × (u ≡ false)
or_none true u e = absurd (true≢false e)
or_none false u e = (refl, e)

apart : (files : Files) → are_shared files ≡ false → AreDistinct files.graph files.clauses files.algebra
apart files test =
    let one = or_none (bytes_eq files.graph files.clauses) (bytes_eq files.graph files.algebra || bytes_eq files.clauses files.algebra) test in
    let two = or_none (bytes_eq files.graph files.algebra) (bytes_eq files.clauses files.algebra) one.1 in
    record { clauses = differ files.graph files.clauses one.0; algebra = differ files.graph files.algebra two.0; certificates = differ files.clauses files.algebra two.1 }

-- a version is 1, 2 or 3
abbrev IsVersion : ℕ → Type 0
IsVersion v = (v ≡ 1) ⊎ ((v ≡ 2) ⊎ (v ≡ 3))

version_in : (o : Option ℕ) → IfSome (option_and_then version_from o) IsVersion
version_in None = tt
version_in (Some n) = go (n == 1) (n == 2) (n == 3)
  where
    go : (t u w : Bool) → IfSome (if t then Some 1 else (if u then Some 2 else (if w then Some 3 else None))) IsVersion
    go true u w = inl refl
    go false true w = inr (inl refl)
    go false false true = inr (inr refl)
    go false false false = tt

-- the numbers of a task are in their ranges
abbrev IsTaskInRange : Task → Type 0
IsTaskInRange task = (1 ≤ task.budget) × (task.budget < 2 ^ 32) × (task.conflicts < 2 ^ 32) × IsVersion task.version

task_in : (claim : Option Claim) (budget conflicts version : Option ℕ) → IfSome budget (AreFrom 1) → IfSome conflicts (AreFrom 0) → IfSome version IsVersion
    → IfSome (task_with claim budget conflicts version) IsTaskInRange
task_in (Some k) (Some b) (Some c) (Some v) b_range c_range v_range = (b_range.0, b_range.1, c_range.1, v_range)
task_in None budget conflicts version b_range c_range v_range = tt
task_in (Some k) None conflicts version b_range c_range v_range = tt
task_in (Some k) (Some b) None version b_range c_range v_range = tt
task_in (Some k) (Some b) (Some c) None b_range c_range v_range = tt

verify_one : (files : Files) (task : Task) (command : Command) → IsTaskInRange task
    → (shared : Bool) → are_shared files ≡ shared → (if shared then None else Some (Verify files task)) ≡ Some command → IsCommandInRange command
verify_one files task command in_range true test e = cc
verify_one files task command in_range false test e = same_range command (Verify files task) (apart files test, in_range.0, in_range.1, in_range.2, in_range.3) e

verify_range : (files : Option Files) (task : Option Task) (command : Command)
    → IfSome task IsTaskInRange → verify_with files task ≡ Some command → IsCommandInRange command
verify_range (Some f) (Some t) command in_range e = verify_one f t command in_range (are_shared f) refl e
verify_range None task command in_range e = cc
verify_range (Some f) None command in_range e = cc

eval_range : (graph : Option Text) (point : Option Point) (command : Command) → eval_with graph point ≡ Some command → IsCommandInRange command
eval_range (Some g) (Some p) command e = same_range command (Eval g p) tt e
eval_range None point command e = cc
eval_range (Some g) None command e = cc

make_range : (design : Option (Design × ℕ)) (adder : Option Adder) (out : Option Text) (command : Command)
    → IfSome design IsDesignOf → make_with (making_with design adder) out ≡ Some command → IsCommandInRange command
make_range (Some (d, n)) (Some a) (Some o) command in_range e = same_range command (Make (making_of d n a) o) in_range e
make_range None adder out command in_range e = cc
make_range (Some (d, n)) None out command in_range e = cc
make_range (Some (d, n)) (Some a) None command in_range e = cc

trial_range : (number : Option ℕ) (command : Command) → IfSome number (AreFrom 0) → trial_with number ≡ Some command → IsCommandInRange command
trial_range (Some n) command in_range e = same_range command (Trial n) in_range.1 e
trial_range None command in_range e = cc

leaves_graphs : (files : ComparedFiles) → is_overwriting files ≡ false → LeavesGraphs files
leaves_graphs files test =
    let two = or_none (bytes_eq files.clauses files.graph) (bytes_eq files.clauses files.other) test in
    record { graph = differ files.clauses files.graph two.0; other = differ files.clauses files.other two.1 }

same_one : (files : ComparedFiles) (conflicts : ℕ) (command : Command) → conflicts < 2 ^ 32
    → (over : Bool) → is_overwriting files ≡ over → (if over then None else Some (Same files conflicts)) ≡ Some command → IsCommandInRange command
same_one files conflicts command c true test e = cc
same_one files conflicts command c false test e = same_range command (Same files conflicts) (leaves_graphs files test, c) e

pair_range : (files : Option ComparedFiles) (conflicts : Option ℕ) (command : Command)
    → IfSome conflicts (AreFrom 0) → same_with files conflicts ≡ Some command → IsCommandInRange command
pair_range (Some f) (Some c) command c_range e = same_one f c command c_range.1 (is_overwriting f) refl e
pair_range None conflicts command c_range e = cc
pair_range (Some f) None command c_range e = cc

check_same_range : (files : Option ComparedFiles) (command : Command) → check_same_with files ≡ Some command → IsCommandInRange command
check_same_range (Some f) command e = same_range command (CheckSame f) tt e
check_same_range None command e = cc

unread : (files : Files) (name : Text) → is_file_read files name ≡ false → IsUnread files name
unread files name test =
    let one = or_none (bytes_eq name files.graph) (bytes_eq name files.clauses || bytes_eq name files.algebra) test in
    let two = or_none (bytes_eq name files.clauses) (bytes_eq name files.algebra) one.1 in
    record { graph = differ name files.graph one.0; clauses = differ name files.clauses two.0; algebra = differ name files.algebra two.1 }

leaves_files : (files : TrimmedFiles) → are_reused files ≡ false → LeavesFiles files
leaves_files files test =
    let one = or_none (is_file_read files.old files.to_clauses) (is_file_read files.old files.to_algebra || bytes_eq files.to_clauses files.to_algebra) test in
    let two = or_none (is_file_read files.old files.to_algebra) (bytes_eq files.to_clauses files.to_algebra) one.1 in
    record {
      clauses = unread files.old files.to_clauses one.0;
      algebra = unread files.old files.to_algebra two.0;
      apart = differ files.to_clauses files.to_algebra two.1;
    }

trim_one : (files : TrimmedFiles) (claim : Claim) (command : Command)
    → (reused : Bool) → are_reused files ≡ reused → (if reused then None else Some (Trim files claim)) ≡ Some command → IsCommandInRange command
trim_one files claim command true test e = cc
trim_one files claim command false test e = same_range command (Trim files claim) (leaves_files files test) e

trim_range : (files : Option TrimmedFiles) (claim : Option Claim) (command : Command) → trim_with files claim ≡ Some command → IsCommandInRange command
trim_range (Some f) (Some k) command e = trim_one f k command (are_reused f) refl e
trim_range None claim command e = cc
trim_range (Some f) None command e = cc

-- ---- the words

named_range : (name : Text) (rows : List Row) (command : Command) → command_named name rows ≡ Some command → IsCommandInRange command
named_range name rows command =
    pick (bytes_eq name (codes "check")) (bytes_eq name (codes "verify")) (bytes_eq name (codes "eval")) (bytes_eq name (codes "make")) (bytes_eq name (codes "trial"))
    (bytes_eq name (codes "same")) (bytes_eq name (codes "check-same")) (bytes_eq name (codes "trim"))
  where
    pick : (v w x y z s t r : Bool)
        → (if v then check_of rows else (if w then verify_of rows else (if x then eval_of rows else (if y then make_of rows else (if z then trial_of rows
        else (if s then same_of rows else (if t then check_same_of rows else (if r then trim_asked rows else None)))))))) ≡ Some command
        → IsCommandInRange command
    pick true w x y z s t r e = check_range (files_at rows) (claim_at rows) command e
    pick false true x y z s t r e = verify_range (files_at rows) (task_at rows) command
        (task_in (claim_at rows) (word_at 1 1000000 (codes "budget") rows) (word_at 0 100000 (codes "conflicts") rows) (version_at rows) (word_in 1 1000000 (first_of (codes "budget") rows) (omega arith, omega arith)) (word_in 0 100000 (first_of (codes "conflicts") rows) (omega arith, omega arith)) (version_in (word_at 1 3 (codes "format") rows))) e
    pick false false true y z s t r e = eval_range (first_of (codes "graph") rows) (point_at rows) command e
    pick false false false true z s t r e = make_range (design_at rows) (read_at adder_named (codes "adder") rows) (first_of (codes "out") rows) command
        (designs_in (is_set (codes "add") rows) (first_of (codes "kind") rows) (first_of (codes "bits") rows)) e
    pick false false false false true s t r e = trial_range (read_at (word_from 0) (codes "number") rows) command (word_of_in (first_of (codes "number") rows)) e
    pick false false false false false true t r e = pair_range (pair_at rows) (word_at 0 100000 (codes "conflicts") rows) command
        (word_in 0 100000 (first_of (codes "conflicts") rows) (omega arith, omega arith)) e
    pick false false false false false false true r e = check_same_range (pair_at rows) command e
    pick false false false false false false false true e = trim_range (trim_files_at rows) (claim_at rows) command e
    pick false false false false false false false false e = cc

met_range : (subcommand : Option (Text × List Row)) (command : Command) → met subcommand ≡ Some command → IsCommandInRange command
met_range None command e = cc
met_range (Some s) command e = named_range s.0 s.1 command e

taken_range : (kinds : Kinds) (there : Option Command) (command : Command) → ((c : Command) → there ≡ Some c → IsCommandInRange c)
    → where_taken kinds there ≡ Some command → IsCommandInRange command
taken_range [] there command range e = range command e
taken_range (kind ∷ kinds) there command range e = cc

pub asked_range : (words : List Text) (command : Command) → asked words ≡ Some command → IsCommandInRange command
unfolding asked
asked_range words command e = taken_range (fault_of mulver words) (met (subcommand_of mulver words)) command (met_range (subcommand_of mulver words)) e
