-- The first refusal of a graph file.
use Rattle.std.specs.Prelude.{◌≡◌, ℕ, ◌+◌, ◌*◌, ◌%◌, ◌<◌, ◌≤◌, ◌⊎◌, not, ◌&&◌, ◌||◌, List, [], ◌∷◌, ◌++◌, map, length, take, codes, if◌then◌else◌, ◌==◌, nat_lt, Bool, slice_index, zero, suc, min, ◌≢◌, ◌↔◌, Option, None, Some}
use Rattle.std.specs.List.{find, flat_map, list_any, list_all, concat, AllByRecursion, AllPairs}
use Rattle.graph_core.specs.declared.bounds.TheConstants.{MOST_VARIABLES}
use Rattle.graph_core.specs.declared.literal.Lit.{Lit}
use Rattle.graph_core.specs.declared.gate.Gate.{Gate}
use Rattle.graph_core.specs.declared.profile.Profile.{Profile}
use Rattle.graph_core.specs.declared.fault.Field.{Field}
use Rattle.graph_core.specs.declared.fault.Field.TheVariants as field
use Rattle.graph_core.specs.declared.fault.GraphFault.{GraphFault}
use Rattle.graph_core.specs.declared.fault.GraphFault.TheVariants.{Range, Left, Twice, Undefined, Cycle}
use Rattle.graph_core.specs.Graph.Literals.{variable_of}
use Rattle.graph_core.specs.Graph.{Aig, IsLevel, defined, read_literals}
use Rattle.graph_core.specs.Text.{IsNumeral, IsLine, AreLines}
use Rattle.graph_core.specs.Aiger.{Form, Ascii, Binary, Counts, counts, Listing, graph_of, input_step, least_inputs, most_inputs, most_outputs, body, IsTail, IsSymbolLine, symbol_bound, IsGroups, AreBinaryGates, AreConsecutive, Lists, Spells, IsFaultless}

-- ---- faults of the lists, in the order in which they are judged

-- the literals in the order of the file, and those among them that define a variable
abbrev pub literals : Listing → List Lit
literals g = g.inputs ++ g.outputs ++ flat_map (λ t. t.0 ∷ t.1 ∷ t.2 ∷ []) g.gates

abbrev pub left_sides : Listing → List Lit
left_sides g = g.inputs ++ map (λ t. t.0) g.gates

abbrev pub first_above : Listing → Option Lit
first_above g = find (λ l. nat_lt (2 * g.max + 1) l.0) (literals g)

abbrev pub first_no_left : Listing → Option Lit
first_no_left g = find (λ l. l.0 == 0 || l.0 % 2 == 1) (left_sides g)

-- the first variable that stands before it too
abbrev pub first_repeated : List ℕ → List ℕ → Option ℕ
first_repeated seen [] = None
first_repeated seen (v ∷ vs) = if list_any (λ w. w == v) seen then Some v else first_repeated (v ∷ seen) vs

abbrev pub first_undefined : Listing → Option Lit
first_undefined g = find (λ l. not (variable_of l == 0) && not (list_any (λ v. v == variable_of l) (defined (graph_of g)))) (read_literals (graph_of g))

-- the variable has a level
abbrev pub HasLevel : List Gate → ℕ → Type 0
HasLevel gates v = (k : ℕ) × IsLevel gates v k

-- a number above 2^32 - 1 is shown as that
abbrev pub shown : Lit → Lit
shown l = record { 0 = min l.0 4294967295 }

-- The first fault of the lists.
abbrev pub IsFault : Listing → GraphFault → Type 0
IsFault g (Range l) = (above : Lit) × (first_above g ≡ Some above) × (l ≡ shown above)
IsFault g (Left l) = (first_above g ≡ None) × (first_no_left g ≡ Some l)
IsFault g (Twice v) = (first_above g ≡ None) × (first_no_left g ≡ None) × (first_repeated [] (map variable_of (left_sides g)) ≡ Some v)
IsFault g (Undefined l) = (first_above g ≡ None) × (first_no_left g ≡ None) ×
    (first_repeated [] (map variable_of (left_sides g)) ≡ None) × (first_undefined g ≡ Some l)
IsFault g (Cycle v) = (first_above g ≡ None) × (first_no_left g ≡ None) ×
    (first_repeated [] (map variable_of (left_sides g)) ≡ None) × (first_undefined g ≡ None) ×
    (v ≤ g.max) × ¬ (HasLevel (graph_of g).gates v) × ((w : ℕ) → w < v → HasLevel (graph_of g).gates w)

-- ---- the first fault by computing

-- no gate has the variable
abbrev pub is_free : List Gate → ℕ → Bool
is_free gates v = list_all (λ x. not (x.v == v)) gates

-- the variable has a level of at most t
abbrev pub levelled : List Gate → ℕ → ℕ → Bool
levelled gates zero v = is_free gates v
levelled gates (suc t) v = is_free gates v || list_any
    (λ x. x.v == v && (levelled gates t (variable_of x.left) && levelled gates t (variable_of x.right))) gates

-- the first of so many numbers of which the test is false
abbrev pub first_without : (ℕ → Bool) → ℕ → ℕ → Option ℕ
first_without test v zero = None
first_without test v (suc k) = if test v then first_without test (suc v) k else Some v

abbrev pub first_unlevelled : Listing → Option ℕ
first_unlevelled g = first_without (levelled (graph_of g).gates (length (graph_of g).gates)) 0 (suc g.max)

-- the fault of what was found, and else another
abbrev pub fault_or : {A : Type 0} → (A → GraphFault) → Option A → Option GraphFault → Option GraphFault
fault_or fault None other = other
fault_or fault (Some x) other = Some (fault x)

unfoldable pub fault_of : Listing → Option GraphFault
fault_of g =
    fault_or (λ l. Range (shown l)) (first_above g) (fault_or Left (first_no_left g) (fault_or Twice (first_repeated [] (map variable_of (left_sides g)))
    (fault_or Undefined (first_undefined g) (fault_or Cycle (first_unlevelled g) None))))

-- ---- the header

-- the first four bytes
abbrev pub letters : Form → List ℕ
letters Ascii = codes "aag "
letters Binary = codes "aig "

-- A header line in one of the two forms, with five to nine numbers.
abbrev pub IsHeaderText : List ℕ → Form → List ℕ → Type 0
IsHeaderText bytes form numbers = (line : List ℕ) × IsLine line numbers × (5 ≤ length numbers) × (length numbers ≤ 9) × (bytes ≡ letters form ++ line)

-- the last four, which may be absent
abbrev pub zero_fields : List Field → List ℕ → List (Field × Bool)
zero_fields [] ns = []
zero_fields (f ∷ fs) [] = []
zero_fields (f ∷ fs) (n ∷ ns) = (f, not (n == 0)) ∷ zero_fields fs ns

-- The inputs and gates are more than the variables, or in the binary form not all of them.
abbrev pub has_wrong_room : Form → ℕ → ℕ → Bool
has_wrong_room Ascii m n = nat_lt m n
has_wrong_room Binary m n = not (m == n)

-- The inputs aren't in the profile's steps, or are too few or too many.
abbrev pub has_wrong_inputs : Profile → ℕ → Bool
has_wrong_inputs p i = not (i % input_step p == 0) || (nat_lt i (least_inputs p) || nat_lt (most_inputs p) i)

-- There is no output, or there are too many for so many inputs.
abbrev pub has_wrong_outputs : Profile → ℕ → ℕ → Bool
has_wrong_outputs p i o = o == 0 || nat_lt (most_outputs p i) o

-- The fields in their order, each with whether it is refused.
abbrev pub fields : Profile → Form → List ℕ → List (Field × Bool)
fields p form (m ∷ i ∷ l ∷ o ∷ a ∷ others) =
    (field.M, nat_lt MOST_VARIABLES m) ∷ (field.I, has_wrong_inputs p i) ∷ (field.L, not (l == 0)) ∷
    (field.O, has_wrong_outputs p i o) ∷ (field.A, has_wrong_room form m (i + a)) ∷
    zero_fields (field.B ∷ field.C ∷ field.J ∷ field.F ∷ []) others
fields p form _ = []

abbrev pub first_refused : List (Field × Bool) → Option Field
first_refused [] = None
first_refused (p ∷ ps) = if p.1 then Some p.0 else first_refused ps

abbrev pub refused_field : Profile → Form → List ℕ → Option Field
refused_field p form numbers = first_refused (fields p form numbers)

-- what a header's numbers say
abbrev pub counts_of : List ℕ → Counts
counts_of numbers = record { max = slice_index numbers 0; inputs = slice_index numbers 1; outputs = slice_index numbers 3; gates = slice_index numbers 4 }

-- ---- the rest

-- The text of the lists, up to the last gate.
abbrev pub IsBody : Form → Listing → List ℕ → List ℕ → Type 0
IsBody Ascii g bytes after = AreLines bytes (body g) after
IsBody Binary g bytes after = AreConsecutive 2 g.inputs ×
    ((gates : List ℕ) × AreLines bytes (map (λ l. l.0 ∷ []) g.outputs) gates × AreBinaryGates (2 * length g.inputs + 2) gates g.gates after)

-- What may follow a header.
abbrev pub IsRest : Form → Counts → Listing → List ℕ → Type 0
IsRest form c g bytes = (counts g ≡ c) × ((after : List ℕ) × IsBody form g bytes after × IsTail c after)

-- ---- numbers out of range, each of which is refused at its first byte

-- A symbol's number: after symbol lines and an i or o, digits that make a number which is too large.
abbrev pub HasWrongSymbol : Counts → List ℕ → List ℕ → Type 0
HasWrongSymbol c after here = (symbols : List (List ℕ)) × (kind bound n : ℕ) × (digits more : List ℕ) × AllByRecursion (IsSymbolLine c) symbols ×
    (symbol_bound c kind ≡ Some bound) × IsNumeral 10 digits n × (bound ≤ n) × (here ≡ digits ++ more) × (after ≡ concat symbols ++ kind ∷ here)

-- A number of a binary gate with this left side: the first is 0 or above it, or the second is above what the first leaves.
abbrev pub HasWrongGate : ℕ → List ℕ → List ℕ → Type 0
HasWrongGate left bytes here = (first rest : List ℕ) × (x : ℕ) × (length first ≤ 5) × IsGroups first x × (bytes ≡ first ++ rest) ×
    ((((x ≡ 0) ⊎ (left < x)) × (here ≡ bytes)) ⊎
    ((0 < x) × (x ≤ left) × ((second more : List ℕ) × (y : ℕ) × (length second ≤ 5) × IsGroups second y ×
    (left < x + y) × (rest ≡ second ++ more) × (here ≡ rest))))

-- The bytes are in order up to a number that is out of range, which begins `here`.
abbrev pub HasWrongNumber : Form → Counts → List ℕ → List ℕ → Type 0
HasWrongNumber form c bytes here =
    ((g : Listing) × (after : List ℕ) × (counts g ≡ c) × IsBody form g bytes after × HasWrongSymbol c after here) ⊎
    ((form ≡ Binary) × ((outputs : List Lit) × (gates : List (Lit × Lit × Lit)) × (middle after : List ℕ) ×
    (length outputs ≡ c.outputs) × (length gates < c.gates) ×
    AreLines bytes (map (λ l. l.0 ∷ []) outputs) middle × AreBinaryGates (2 * c.inputs + 2) middle gates after ×
    HasWrongGate (2 * c.inputs + 2 + 2 * length gates) after here))

-- ---- the first refusal

-- In the order in which a file is judged: its text is refused at a byte, or a field of its header, or its lists have a fault.
pub data Refusal : Type 0 where
  Text : ℕ → Refusal
  Header : Field → Refusal
  Faulty : GraphFault → Refusal

-- The file begins with a header line, and these bytes are after it.
abbrev pub HasHeader : List ℕ → Form → List ℕ → List ℕ → Type 0
HasHeader bytes form numbers rest = (front : List ℕ) × IsHeaderText front form numbers × (bytes ≡ front ++ rest)

-- These bytes and some others make one of the texts.
abbrev pub Begins : (List ℕ → Type 0) → List ℕ → Type 0
Begins IsText bytes = (more : List ℕ) × IsText (bytes ++ more)

-- The longest front of the bytes that begins one of the texts has this length.
abbrev pub IsLongest : (List ℕ → Type 0) → List ℕ → ℕ → Type 0
IsLongest IsText bytes n = (n ≤ length bytes) × Begins IsText (take n bytes) × ((k : ℕ) → n < k → k ≤ length bytes → Begins IsText (take k bytes) → ⊥)

abbrev pub IsHeaderLine : List ℕ → Type 0
IsHeaderLine bytes = (form : Form) × (numbers : List ℕ) × IsHeaderText bytes form numbers

-- what may follow a header, up to its end or with a number out of range
abbrev pub IsRestOrWrong : Form → Counts → List ℕ → Type 0
IsRestOrWrong form c bytes = ((g : Listing) × IsRest form c g bytes) ⊎ ((here : List ℕ) × HasWrongNumber form c bytes here)

-- What follows the header is refused after its first n bytes: at a number out of range, or else where the longest front ends
-- that begins what may follow a header.
abbrev pub IsRestRefusal : Form → Counts → List ℕ → ℕ → Type 0
IsRestRefusal form c rest n =
    ((here : List ℕ) × HasWrongNumber form c rest here × (n + length here ≡ length rest)) ⊎
    (((here : List ℕ) → HasWrongNumber form c rest here → ⊥) × ((g : Listing) → IsRest form c g rest → ⊥) × IsLongest (IsRestOrWrong form c) rest n)

-- The first refusal of a file.
abbrev pub IsRefusal : Profile → List ℕ → Refusal → Type 0
IsRefusal p bytes (Text n) =
    (((form : Form) (numbers rest : List ℕ) → HasHeader bytes form numbers rest → ⊥) × IsLongest IsHeaderLine bytes n) ⊎
    ((form : Form) × (numbers rest : List ℕ) × (m : ℕ) × HasHeader bytes form numbers rest ×
    (refused_field p form numbers ≡ None) × IsRestRefusal form (counts_of numbers) rest m ×
    (n + length rest ≡ length bytes + m))
IsRefusal p bytes (Header f) = (form : Form) × (numbers rest : List ℕ) × HasHeader bytes form numbers rest × (refused_field p form numbers ≡ Some f)
IsRefusal p bytes (Faulty f) = (g : Listing) × Lists p bytes g × IsFault g f

-- The first refusal is one, and a file has one exactly where it spells no graph.
abbrev pub OneRefusal : Type 0
OneRefusal = (p : Profile) (bytes : List ℕ) (r s : Refusal) → IsRefusal p bytes r → IsRefusal p bytes s → r ≡ s

abbrev pub SpelledOrRefused : Type 0
SpelledOrRefused = (p : Profile) (bytes : List ℕ) → ((graph : Aig) × Spells p bytes graph) ⊎ ((r : Refusal) × IsRefusal p bytes r)

abbrev pub NotSpelledAndRefused : Type 0
NotSpelledAndRefused = (p : Profile) (bytes : List ℕ) (graph : Aig) (r : Refusal) → Spells p bytes graph → IsRefusal p bytes r → ⊥

-- No bytes spell two graphs of one profile.
abbrev pub OneGraph : Type 0
OneGraph = (p : Profile) (bytes : List ℕ) (g h : Aig) → Spells p bytes g → Spells p bytes h → g ≡ h

-- The first fault by computing is the first one, and there is none exactly where the lists have no fault.
abbrev pub FaultIsFound : Type 0
FaultIsFound = (g : Listing) (f : GraphFault) → (fault_of g ≡ Some f) ↔ IsFault g f

abbrev pub NoFaultIsFound : Type 0
NoFaultIsFound = (g : Listing) → (fault_of g ≡ None) ↔ IsFaultless g

-- There a variable has one level, and it is at most the number of gates.
abbrev pub OneLevel : Type 0
OneLevel = (gates : List Gate) → AllPairs ◌≢◌ (map (λ x. x.v) gates) → (v k : ℕ) → IsLevel gates v k →
    (k ≤ length gates) × ((j : ℕ) → IsLevel gates v j → j ≡ k)

-- the lists with numbers of 32 bits: a greater one is the greatest
abbrev pub shown_gate : Lit × Lit × Lit → Lit × Lit × Lit
shown_gate t = (shown t.0, shown t.1, shown t.2)

abbrev pub shown_lists : Listing → Listing
shown_lists g = record { max = g.max; inputs = map shown g.inputs; outputs = map shown g.outputs; gates = map shown_gate g.gates }

-- They have the same first fault, and are the same lists where there is none.
abbrev pub ShownFaults : Type 0
ShownFaults = (g : Listing) → g.max ≤ MOST_VARIABLES → (fault_of (shown_lists g) ≡ fault_of g) × (fault_of g ≡ None → shown_lists g ≡ g)
