-- Reading a graph text from the front, with the place of its first refusal.
use Rattle.std.specs.Prelude.{◌≡◌, ℕ, zero, suc, ◌+◌, ◌*◌, ◌-◌, Bool, true, ◌&&◌, ◌||◌, List, [], ◌∷◌, length, if◌then◌else◌, ◌==◌, nat_le, nat_lt, map, slice_index, Option, Some, None, Result, Ok, Err, ◌↔◌}
use Rattle.graph_core.specs.declared.literal.Lit.{Lit}
use Rattle.graph_core.specs.Text.{space, newline}
use Rattle.graph_core.specs.declared.fault.Field.{Field}
use Rattle.graph_core.specs.declared.profile.Profile.{Profile}
use Rattle.graph_core.specs.declared.fault.GraphFault.{GraphFault}
use Rattle.graph_core.specs.Graph.{Aig}
use Rattle.graph_core.specs.Aiger.{Form, Ascii, Binary, Counts, Listing, graph_of, symbol_bound, Lists, Spells}
use Rattle.graph_core.specs.Aiger.Refusal.{counts_of, refused_field, Refusal, Text, Header, Faulty, fault_of, shown, IsRefusal}
use Rattle.graph_core.specs.Text.Numerals.{is_digit}

-- Why reading ends: no text goes on with these bytes, or ends here where none are left; or a number out of range begins these bytes.
pub data Stop : Type 0 where
  Stops : List ℕ → Stop
  Wrong : List ℕ → Stop

-- what is left where reading ends
abbrev pub left_of : Stop → List ℕ
left_of (Stops rest) = rest
left_of (Wrong rest) = rest

infixl 10 ◌>>=◌
abbrev pub ◌>>=◌ : {A B : Type 0} → Result A Stop → (A → Result B Stop) → Result B Stop
(Ok x) >>= f = f x
(Err e) >>= f = Err e

-- ---- one byte after the other

-- What a state does at a byte: it goes on, or is done with a value, or refuses the byte, since no text has it here or
-- since a number is too large with it.
pub data Next (S A : Type 0) : Type 0 where
  Go : S → Next S A
  Done : A → Next S A
  No : Next S A
  Bad : Next S A

abbrev pub advance : {S A : Type 0} → (S → Result (A × List ℕ) Stop) → ℕ → List ℕ → Next S A → Result (A × List ℕ) Stop
advance more b bytes (Go s) = more s
advance more b bytes (Done a) = Ok (a, bytes)
advance more b bytes No = Err (Stops (b ∷ bytes))
advance more b bytes Bad = Err (Wrong (b ∷ bytes))

-- a value and the bytes after it
abbrev pub scan : {S A : Type 0} → (S → ℕ → Next S A) → S → List ℕ → Result (A × List ℕ) Stop
scan step s [] = Err (Stops [])
scan step s (b ∷ bytes) = advance (λ t. scan step t bytes) b bytes (step s b)

-- what is out of range is refused at its first byte
abbrev pub from_start : {A : Type 0} → List ℕ → Result A Stop → Result A Stop
from_start bytes (Ok x) = Ok x
from_start bytes (Err (Stops rest)) = Err (Stops rest)
from_start bytes (Err (Wrong rest)) = Err (Wrong bytes)

-- ---- single bytes

abbrev pub done_if : {A : Type 0} → Option A → Next (Unit {0}) A
done_if (Some a) = Done a
done_if None = No

-- one byte that means something
abbrev pub byte_where : {A : Type 0} → (ℕ → Option A) → List ℕ → Result (A × List ℕ) Stop
byte_where meaning bytes = scan (λ s b. done_if (meaning b)) tt bytes

abbrev pub the_byte : ℕ → ℕ → Option (Unit {0})
the_byte x b = if b == x then Some tt else None

abbrev pub byte_at : ℕ → List ℕ → Result (Unit {0} × List ℕ) Stop
byte_at x bytes = byte_where (the_byte x) bytes

-- ---- numerals of up to ten digits

-- before the first digit, or after some, with so many more allowed, and their number
pub data Digits : Type 0 where
  Before : Digits
  Behind : ℕ → ℕ → Digits

abbrev pub judged : (ℕ → Bool) → ℕ → ℕ → Next Digits (ℕ × ℕ)
judged fits k n = if fits n then Go (Behind k n) else Bad

abbrev pub ended : (ℕ → Bool) → ℕ → ℕ → Next Digits (ℕ × ℕ)
ended ends n b = if ends b then Done (n, b) else No

abbrev pub digit_step : (ℕ → Bool) → (ℕ → Bool) → Digits → ℕ → Next Digits (ℕ × ℕ)
digit_step ends fits Before b = if is_digit b then judged fits 9 (10 * 0 + (b - 48)) else No
digit_step ends fits (Behind zero n) b = ended ends n b
digit_step ends fits (Behind (suc k) n) b = if is_digit b then judged fits k (10 * n + (b - 48)) else ended ends n b

-- a numeral and the byte that ends it
abbrev pub numeral_at : (ℕ → Bool) → List ℕ → Result ((ℕ × ℕ) × List ℕ) Stop
numeral_at ends bytes = scan (digit_step ends (λ n. true)) Before bytes

-- a numeral that has the byte x after it
abbrev pub field_at : ℕ → List ℕ → Result (ℕ × List ℕ) Stop
field_at x bytes = numeral_at (λ b. b == x) bytes >>= λ n. Ok (n.0.0, n.1)

-- a numeral below the bound, and the space after it
abbrev pub number_below : ℕ → List ℕ → Result (ℕ × List ℕ) Stop
number_below bound bytes = from_start bytes (scan (digit_step (λ b. b == space) (λ n. nat_lt n bound)) Before bytes) >>= λ n. Ok (n.0.0, n.1)

-- ---- lines of numbers

-- a line of k + 1 numbers
abbrev pub line_at : ℕ → List ℕ → Result (List ℕ × List ℕ) Stop
line_at zero bytes = field_at newline bytes >>= λ n. Ok (n.0 ∷ [], n.1)
line_at (suc k) bytes = field_at space bytes >>= λ n. (line_at k n.1 >>= λ ns. Ok (n.0 ∷ ns.0, ns.1))

-- so many lines, each of k + 1 numbers
abbrev pub lines_at : ℕ → ℕ → List ℕ → Result (List (List ℕ) × List ℕ) Stop
lines_at k zero bytes = Ok ([], bytes)
lines_at k (suc n) bytes = line_at k bytes >>= λ line. (lines_at k n line.1 >>= λ lines. Ok (line.0 ∷ lines.0, lines.1))

-- ---- the header

-- what may stand after a number, where `need` more must come and others may
abbrev pub behind_number : ℕ → ℕ → ℕ → Bool
behind_number need zero b = b == newline
behind_number zero (suc more) b = b == newline || b == space
behind_number (suc need) (suc more) b = b == space

abbrev pub one_less : ℕ → ℕ
one_less zero = zero
one_less (suc n) = n

-- A line of one number, `need` more, and up to `more` in all after the first.
abbrev pub numbers_at : ℕ → ℕ → List ℕ → Result (List ℕ × List ℕ) Stop
numbers_at need zero bytes = field_at newline bytes >>= λ n. Ok (n.0 ∷ [], n.1)
numbers_at need (suc more) bytes = numeral_at (behind_number need (suc more)) bytes >>= λ n.
    (if n.0.1 == newline then Ok (n.0.0 ∷ [], n.1) else (numbers_at (one_less need) more n.1 >>= λ ns. Ok (n.0.0 ∷ ns.0, ns.1)))

-- a stands for the ascii form, i for the binary one
abbrev pub form_of : ℕ → Option Form
form_of b = if b == 97 then Some Ascii else (if b == 105 then Some Binary else None)

-- the form and the numbers of the header line
unfoldable pub header_at : List ℕ → Result ((Form × List ℕ) × List ℕ) Stop
header_at bytes = do
  a ← byte_at 97 bytes
  form ← byte_where form_of a.1
  g ← byte_at 103 form.1
  blank ← byte_at space g.1
  numbers ← numbers_at 4 8 blank.1
  Ok ((form.0, numbers.0), numbers.1)

-- ---- the body

-- the literal of a line of one number, and the three of a gate's line
abbrev pub lit_of : List ℕ → Lit
lit_of ns = record { 0 = slice_index ns 0 }

abbrev pub gate_of : List ℕ → Lit × Lit × Lit
gate_of ns = (record { 0 = slice_index ns 0 }, record { 0 = slice_index ns 1 }, record { 0 = slice_index ns 2 })

unfoldable pub ascii_at : Counts → List ℕ → Result (Listing × List ℕ) Stop
ascii_at c bytes = do
  inputs ← lines_at 0 c.inputs bytes
  outputs ← lines_at 0 c.outputs inputs.1
  gates ← lines_at 2 c.gates outputs.1
  Ok (record { max = c.max; inputs = map lit_of inputs.0; outputs = map lit_of outputs.0; gates = map gate_of gates.0 }, gates.1)

-- a number in groups of seven bits: so many bytes may follow the next one, whose weight is given, and the value so far
pub record Groups : Type 0 where
  pub left : ℕ
  pub weight : ℕ
  pub value : ℕ

abbrev pub group_goes : ℕ → ℕ → ℕ → ℕ → Next Groups ℕ
group_goes zero w v b = No
group_goes (suc k) w v b = if nat_lt b 256 then Go (record { left = k; weight = 128 * w; value = v + w * (b - 128) }) else No

abbrev pub group_step : Groups → ℕ → Next Groups ℕ
group_step s b = if nat_lt b 128 then Done (s.value + s.weight * b) else group_goes s.left s.weight s.value b

abbrev pub groups_at : List ℕ → Result (ℕ × List ℕ) Stop
groups_at bytes = scan group_step (record { left = 4; weight = 1; value = 0 }) bytes

-- a number from `least` on up to `most`, and no byte
abbrev pub in_range : ℕ → ℕ → ℕ → List ℕ → Result (ℕ × List ℕ) Stop
in_range least most n bytes = if nat_le least n && nat_le n most then Ok (n, bytes) else Err (Wrong bytes)

-- It is judged once its last byte is read.
abbrev pub difference_at : ℕ → ℕ → List ℕ → Result (ℕ × List ℕ) Stop
difference_at least most bytes = from_start bytes (groups_at bytes >>= λ n. in_range least most n.0 n.1)

abbrev pub lit : ℕ → Lit
lit n = record { 0 = n }

-- the literals of so many inputs, in steps of 2
abbrev pub consecutive : ℕ → ℕ → List Lit
consecutive l zero = []
consecutive l (suc k) = lit l ∷ consecutive (l + 2) k

-- so many gates, the first with this left side
abbrev pub gates_at : ℕ → ℕ → List ℕ → Result (List (Lit × Lit × Lit) × List ℕ) Stop
gates_at left zero bytes = Ok ([], bytes)
gates_at left (suc k) bytes = difference_at 1 left bytes >>= λ x. (difference_at 0 (left - x.0) x.1 >>= λ y. (gates_at (left + 2) k y.1 >>= λ ts.
    Ok ((lit left, lit (left - x.0), lit (left - x.0 - y.0)) ∷ ts.0, ts.1)))

unfoldable pub binary_at : Counts → List ℕ → Result (Listing × List ℕ) Stop
binary_at c bytes = do
  outputs ← lines_at 0 c.outputs bytes
  gates ← gates_at (2 * c.inputs + 2) c.gates outputs.1
  Ok (record { max = c.max; inputs = consecutive 2 c.inputs; outputs = map lit_of outputs.0; gates = gates.0 }, gates.1)

abbrev pub body_at : Form → Counts → List ℕ → Result (Listing × List ℕ) Stop
body_at Ascii c bytes = ascii_at c bytes
body_at Binary c bytes = binary_at c bytes

-- ---- what follows the gates

-- the bytes up to a line feed
abbrev pub name_step : Unit {0} → ℕ → Next (Unit {0}) (Unit {0})
name_step s b = if b == newline then Done tt else Go tt

-- A symbol line. i and o stand for inputs and outputs, of which there are so many.
unfoldable pub symbol_at : Counts → List ℕ → Result (Unit {0} × List ℕ) Stop
symbol_at c bytes = do
  bound ← byte_where (symbol_bound c) bytes
  number ← number_below bound.0 bound.1
  scan name_step tt number.1

-- Symbol lines, up to the end or a comment, and then the given lists. There are at most k bytes.
abbrev pub tail_at : Counts → Listing → ℕ → List ℕ → Result Listing Stop
tail_at c g k [] = Ok g
tail_at c g zero (b ∷ bytes) = Err (Stops (b ∷ bytes))
tail_at c g (suc k) (b ∷ bytes) = if b == 99 then Ok g else (symbol_at c (b ∷ bytes) >>= λ s. tail_at c g k s.1)

-- all that follows the header
unfoldable pub rest_at : Form → Counts → List ℕ → Result Listing Stop
rest_at form c bytes = body_at form c bytes >>= λ body. tail_at c body.0 (length body.1) body.1

-- ---- lists of literals of 32 bits, as code keeps them: a greater number is the greatest

abbrev pub literals_at : ℕ → List ℕ → Result (List Lit × List ℕ) Stop
literals_at zero bytes = Ok ([], bytes)
literals_at (suc n) bytes = field_at newline bytes >>= λ x. (literals_at n x.1 >>= λ ls. Ok (shown (lit x.0) ∷ ls.0, ls.1))

-- a gate's line
abbrev pub triple_at : List ℕ → Result ((Lit × Lit × Lit) × List ℕ) Stop
triple_at bytes = field_at space bytes >>= λ x.
    (field_at space x.1 >>= λ y.
    (field_at newline y.1 >>= λ z. Ok ((shown (lit x.0), shown (lit y.0), shown (lit z.0)), z.1)))

abbrev pub triples_at : ℕ → List ℕ → Result (List (Lit × Lit × Lit) × List ℕ) Stop
triples_at zero bytes = Ok ([], bytes)
triples_at (suc n) bytes = triple_at bytes >>= λ t. (triples_at n t.1 >>= λ ts. Ok (t.0 ∷ ts.0, ts.1))

-- ---- the whole file

-- the bytes before those that are left
abbrev pub offset_of : List ℕ → List ℕ → ℕ
offset_of bytes left = length bytes - length left

abbrev pub or_text : {A : Type 0} → List ℕ → Result A Stop → Result A Refusal
or_text bytes (Ok x) = Ok x
or_text bytes (Err e) = Err (Text (offset_of bytes (left_of e)))

abbrev pub behind_fields : List ℕ → Form → List ℕ → List ℕ → Option Field → Result Listing Refusal
behind_fields bytes form numbers rest None = or_text bytes (rest_at form (counts_of numbers) rest)
behind_fields bytes form numbers rest (Some f) = Err (Header f)

abbrev pub behind_header : Profile → List ℕ → Result ((Form × List ℕ) × List ℕ) Stop → Result Listing Refusal
behind_header p bytes (Ok x) = behind_fields bytes x.0.0 x.0.1 x.1 (refused_field p x.0.0 x.0.1)
behind_header p bytes (Err e) = Err (Text (offset_of bytes (left_of e)))

-- the lists of a file, or the first refusal before those of its faults
abbrev pub lists_at : Profile → List ℕ → Result Listing Refusal
lists_at p bytes = behind_header p bytes (header_at bytes)

abbrev pub faulty_or : Listing → Option GraphFault → Result Aig Refusal
faulty_or g None = Ok (graph_of g)
faulty_or g (Some f) = Err (Faulty f)

abbrev pub judged_lists : Result Listing Refusal → Result Aig Refusal
judged_lists (Ok g) = faulty_or g (fault_of g)
judged_lists (Err r) = Err r

-- the graph of a file, or its first refusal
abbrev pub graph_at : Profile → List ℕ → Result Aig Refusal
graph_at p bytes = judged_lists (lists_at p bytes)

-- What is read is listed, and what is listed is read.
abbrev pub ListsAreRead : Type 0
ListsAreRead = (p : Profile) (bytes : List ℕ) (g : Listing) → (lists_at p bytes ≡ Ok g) ↔ Lists p bytes g

-- The graph that is read is the one that is spelled, and the refusal is the first.
abbrev pub GraphIsRead : Type 0
GraphIsRead = (p : Profile) (bytes : List ℕ) (graph : Aig) → (graph_at p bytes ≡ Ok graph) ↔ Spells p bytes graph

abbrev pub RefusalIsRead : Type 0
RefusalIsRead = (p : Profile) (bytes : List ℕ) (r : Refusal) → (graph_at p bytes ≡ Err r) ↔ IsRefusal p bytes r
