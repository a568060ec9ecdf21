-- What the definition says of plain words and numbers.
use Rattle.std.specs.Prelude.{◌≡◌, ◌≢◌, ◌<◌, ◌^◌, ◌↔◌, ℕ, Bool, true, List, [], ◌∷◌, ◌++◌, Some, codes, slice_get}
use Rattle.clap.specs.Words.{Text}
use Rattle.graph_core.specs.declared.claim.Claim.{Claim}
use Rattle.graph_core.specs.declared.order.Order.TheVariants.{Separate}
use Rattle.graph_core.specs.declared.sign.Sign.TheVariants.{Unsigned}
use Rattle.graph_core.specs.declared.widths.Widths.TheVariants.{Given}
use Rattle.graph_core.specs.Graph.Operands.{adding, product_under}
use Rattle.command_core.specs.Files.{Files, TrimmedFiles}
use Rattle.mv_nums.specs.Numeral.{SpellsNumber}
use Rattle.command_line.specs.declared.point.Point.{Point}
use Rattle.command_line.specs.Asked.{AreBits, IsCheck, number_of, widths_named}

-- the text doesn't begin with a hyphen (45)
abbrev pub BeginsPlain : Text → Type 0
BeginsPlain text = slice_get text 0 ≢ Some 45

-- `PROGRAM check GRAPH CLAUSES ALGEBRA`, of names that don't begin with a hyphen, asks for `check` of these files.
abbrev pub NamesAreChecked : Type 0
NamesAreChecked = (program : Text) (files : Files)
    → BeginsPlain files.graph → BeginsPlain files.clauses → BeginsPlain files.algebra
    → IsCheck (program ∷ codes "check" ∷ files.graph ∷ files.clauses ∷ files.algebra ∷ []) files (product_under Separate)

-- The number that a text says is the one that it spells in decimal digits, below 2^128.
abbrev pub NumbersAreNumerals : Type 0
NumbersAreNumerals = (text : Text) (number : ℕ)
    → (number_of text ≡ Some number) ↔ (SpellsNumber text number × (number < 2 ^ 128))

-- two numerals of numbers from 1 to 64, with an x (120) between them
pub record SpellsWidths (text : Text) (a b : ℕ) : Type 0 where
  pub of_a : Text
  pub of_b : Text
  pub between : text ≡ of_a ++ 120 ∷ of_b
  pub first : SpellsNumber of_a a
  pub second : SpellsNumber of_b b
  pub first_bits : AreBits a
  pub second_bits : AreBits b

-- The widths that a text says are those.
abbrev pub WidthsAreNumerals : Type 0
WidthsAreNumerals = (add : Bool) (text : Text) (a b : ℕ) → (widths_named add text ≡ Some (Given a b add)) ↔ SpellsWidths text a b

abbrev pub g_c_a : Files
g_c_a = record { graph = codes "g"; clauses = codes "c"; algebra = codes "a" }

abbrev pub check_interleaved : List Text
check_interleaved =
    codes "mulver" ∷ codes "check" ∷ codes "g" ∷ codes "c" ∷ codes "a" ∷
    codes "--inputs" ∷ codes "interleaved" ∷ []

abbrev pub check_signed_sum : List Text
check_signed_sum =
    codes "mulver" ∷ codes "check" ∷ codes "g" ∷ codes "c" ∷ codes "a" ∷
    codes "--operands" ∷ codes "signed" ∷ codes "--add" ∷ []

abbrev pub check_widths : List Text
check_widths =
    codes "mulver" ∷ codes "check" ∷ codes "g" ∷ codes "c" ∷ codes "a" ∷
    codes "--widths" ∷ codes "24x017" ∷ codes "--add" ∷ []

-- 24 bits and 17 bits, and an addend of 41
abbrev pub adding_to_24x17 : Claim
adding_to_24x17 = record { order = Separate; sign = Unsigned; widths = Given 24 17 true }

abbrev pub check_interleaved_widths : List Text
check_interleaved_widths =
    codes "mulver" ∷ codes "check" ∷ codes "g" ∷ codes "c" ∷ codes "a" ∷
    codes "--widths" ∷ codes "4x4" ∷ codes "--inputs" ∷ codes "interleaved" ∷ []

abbrev pub check_g : List Text
check_g = codes "mulver" ∷ codes "check" ∷ codes "g" ∷ []

abbrev pub make_array : List Text
make_array =
    codes "mulver" ∷ codes "make" ∷ codes "array" ∷ codes "064" ∷ codes "ripple" ∷ codes "x" ∷ []

abbrev pub make_widths : List Text
make_widths =
    codes "mulver" ∷ codes "make" ∷ codes "dadda" ∷ codes "24x17" ∷ codes "kogge" ∷ codes "x" ∷ []

abbrev pub make_widths_add : List Text
make_widths_add =
    codes "mulver" ∷ codes "make" ∷ codes "dadda" ∷ codes "24x17" ∷ codes "kogge" ∷ codes "x" ∷ codes "--add" ∷ []

abbrev pub make_corrected : List Text
make_corrected =
    codes "mulver" ∷ codes "make" ∷ codes "corrected" ∷ codes "8" ∷ codes "kogge" ∷ codes "x" ∷ []

abbrev pub make_dadda_add : List Text
make_dadda_add =
    codes "mulver" ∷ codes "make" ∷ codes "dadda" ∷ codes "8" ∷ codes "kogge" ∷ codes "x" ∷ codes "--add" ∷ []

abbrev pub make_corrected_add : List Text
make_corrected_add =
    codes "mulver" ∷ codes "make" ∷ codes "corrected" ∷ codes "8" ∷ codes "kogge" ∷ codes "x" ∷ codes "--add" ∷ []

abbrev pub eval_addend : List Text
eval_addend =
    codes "mulver" ∷ codes "eval" ∷ codes "g" ∷ codes "1" ∷ codes "2" ∷ codes "--addend" ∷ codes "3" ∷ []

abbrev pub one_two_three : Point
one_two_three = record { claim = adding Separate Unsigned; a = 1; b = 2; c = 3 }

abbrev pub trial_of_21 : List Text
trial_of_21 = codes "mulver" ∷ codes "trial" ∷ codes "21" ∷ []

abbrev pub g_c_a_x_y : TrimmedFiles
g_c_a_x_y = record { old = g_c_a; to_clauses = codes "x"; to_algebra = codes "y" }

abbrev pub trim_interleaved : List Text
trim_interleaved =
    codes "mulver" ∷ codes "trim" ∷ codes "g" ∷ codes "c" ∷ codes "a" ∷ codes "x" ∷ codes "y" ∷
    codes "--inputs" ∷ codes "interleaved" ∷ []

-- of three files that are read, and of two that are written
abbrev pub trim_to : Text → Text → List Text
trim_to to_clauses to_algebra =
    codes "mulver" ∷ codes "trim" ∷ codes "g" ∷ codes "c" ∷ codes "a" ∷ to_clauses ∷ to_algebra ∷ []
