-- The first refusal of an algebra certificate.
use Rattle.std.specs.Prelude.{◌≡◌, ◌≢◌, ◌⊎◌, ℕ, ◌+◌, ◌%◌, not, is_some, List, [], ◌++◌, length}
use Rattle.std.specs.declared.option.Option.{Option}
use Rattle.std.specs.declared.option.Option.TheVariants.{Some}
use Rattle.std.specs.List.{All, find}
use Rattle.graph_core.specs.Graph.Assignments.{Assignment, HasBound}
use Rattle.graph_core.specs.Text.JudgedLines.{Lengths, IsTooLong, IsWithin, BeginsWith, Behind, Unless, Never, IsExact}
use Rattle.graph_core.specs.Graph.Operands.{Sides}
use Rattle.graph_core.specs.Graph.Extended.{Extended, modulus}
use Rattle.algebra_core.specs.Polynomials.{value}
use Rattle.algebra_core.specs.AlgebraLines.{Line, LiveLine, Ledger, IsNewId, IsLive, IsThere, IsEqual, IsLawfulLine, stated, named, imported, line_of, operands, after, beginning, Premises, value_of, specification, Closes}
use Rattle.algebra_core.specs.Text.{IsLineText, IsCloseText, IsLineInRange, IsId, IsLawfulAlgebraFile, algebra_header}

-- why a line of an algebra certificate is refused
pub data AlgebraCause : Type 0 where
  TooLong : AlgebraCause
  Text : AlgebraCause
  Range : AlgebraCause
  Id : AlgebraCause
  NoSuchLine : ℕ → AlgebraCause
  NoSuchClause : ℕ → AlgebraCause
  NotEqual : AlgebraCause
  NotSpecification : AlgebraCause

-- the first id that isn't live
abbrev pub first_missing : List LiveLine → List ℕ → Option ℕ
first_missing live ids = find (λ id. not (is_some (line_of live id))) ids

-- some assignment tells the stated polynomial's value from the one that the rule names
abbrev pub IsUnequal : Extended → Ledger → Line → Type 0
IsUnequal e l x = (σ : Assignment) × (value (modulus e) (stated x) σ ≢ named (modulus e) l x σ % modulus e)

-- what is imported isn't there, which is the value of a clause; else the values differ
abbrev pub IsRefusedValue : Extended → Ledger → Line → AlgebraCause → Type 0
IsRefusedValue e l x = Unless (IsThere l.imports x) (¬ (IsThere l.imports x)) (NoSuchClause (imported x))
    (Unless (IsEqual (modulus e) l x) (IsUnequal e l x) NotEqual Never)

-- an operand isn't live, and this is the first one; else the value is refused
abbrev pub IsRefusedRule : Extended → Ledger → Line → AlgebraCause → Type 0
IsRefusedRule e l x cause = ((id : ℕ) × (first_missing l.live (operands x) ≡ Some id) × (cause ≡ NoSuchLine id)) ⊎
    (All (IsLive l.live) (operands x) × IsRefusedValue e l x cause)

-- The first cause of a line over a ledger: numbers out of range, an id that isn't new, an operand that isn't live, no clause of that
-- number, a value that differs.
abbrev pub IsRefusedLine : Extended → Ledger → Line → AlgebraCause → Type 0
IsRefusedLine e l x = Unless (IsLineInRange e.max x) (¬ (IsLineInRange e.max x)) Range
    (Unless (IsNewId l.last x) (¬ (IsNewId l.last x)) Id (IsRefusedRule e l x))

-- a line's value is the specification's at every assignment, or some assignment tells them apart
abbrev pub IsSpecification : Extended → Sides → Ledger → ℕ → Type 0
IsSpecification e s l id = (σ : Assignment) → value_of l.live id σ ≡ specification e s σ

abbrev pub IsNoSpecification : Extended → Sides → Ledger → ℕ → Type 0
IsNoSpecification e s l id = (σ : Assignment) × (value_of l.live id σ ≢ specification e s σ)

-- the first cause of a closing line
abbrev pub IsRefusedClose : Extended → Sides → Ledger → ℕ → AlgebraCause → Type 0
IsRefusedClose e s l id =
    Unless (IsId id) (¬ (IsId id)) Range (Unless (IsLive l.live id) (¬ (IsLive l.live id)) (NoSuchLine id)
    (Unless (IsSpecification e s l id) (IsNoSpecification e s l id) NotSpecification Never))

-- A lawful line takes a ledger to the next one.
abbrev pub IsAlgebraStep : Extended → Ledger → Line → Ledger → Type 0
IsAlgebraStep e l x next = IsLineInRange e.max x × IsLawfulLine (modulus e) l x × (next ≡ after (modulus e) l x)

-- What is wrong after a good closing line: a line that is too long, or any byte.
abbrev pub IsRefusedEnd : (List ℕ → Type 0) → List ℕ → ℕ × AlgebraCause → Type 0
IsRefusedEnd IsLong rest = Unless (¬ (IsLong rest)) (IsLong rest) (1, TooLong) (Unless (rest ≡ []) (rest ≢ []) (1, Text) Never)

-- What is wrong where bytes are left after lawful lines, by what stands there: no line, a line, or a closing line. With it, 0 for the
-- line there and 1 for the one after it.
abbrev pub IsRefusedText : ℕ → Extended → Sides → (List ℕ → Type 0) → Ledger → List ℕ → ℕ × AlgebraCause → Type 0
IsRefusedText version e s IsLong l bytes p =
    (((x : Line) (rest : List ℕ) → BeginsWith (IsLineText version) bytes x rest → ⊥) ×
    ((id : ℕ) (rest : List ℕ) → BeginsWith IsCloseText bytes id rest → ⊥) × (p ≡ (0, Text))) ⊎
    (((x : Line) × (rest : List ℕ) × BeginsWith (IsLineText version) bytes x rest ×
    ((cause : AlgebraCause) × IsRefusedLine e l x cause × (p ≡ (0, cause)))) ⊎
    ((id : ℕ) × (rest : List ℕ) × BeginsWith IsCloseText bytes id rest × (((cause : AlgebraCause) × IsRefusedClose e s l id cause × (p ≡ (0, cause))) ⊎
    ((IsId id × Closes e s l.live id) × IsRefusedEnd IsLong rest p))))

abbrev pub IsRefusedNext : ℕ → Extended → Sides → (List ℕ → Type 0) → Ledger → List ℕ → ℕ × AlgebraCause → Type 0
IsRefusedNext version e s IsLong l bytes = Unless (¬ (IsLong bytes)) (IsLong bytes) (0, TooLong) (IsRefusedText version e s IsLong l bytes)

-- the refusal after the header, which is line 1
abbrev pub IsRefusedBody : Premises → Sides → (List ℕ → Type 0) → List ℕ → ℕ × AlgebraCause → Type 0
IsRefusedBody given s IsLong body p =
    (lines : List Line) × (q : ℕ × AlgebraCause) ×
    Behind (IsLineText given.version) (IsAlgebraStep given.extended) IsLong
    (λ l left. IsRefusedNext given.version given.extended s IsLong l left q) lines (beginning given) body ×
    (p ≡ (length lines + 2 + q.0, q.1))

-- The first refusal of an algebra certificate: its line, from 1, and its cause.
abbrev pub IsAlgebraRefusal : Premises → Sides → Lengths → List ℕ → ℕ × AlgebraCause → Type 0
IsAlgebraRefusal given s lengths bytes =
    Unless (¬ (IsTooLong lengths (length bytes) bytes)) (IsTooLong lengths (length bytes) bytes) (1, TooLong)
    (λ p. (((body : List ℕ) → bytes ≢ algebra_header given.version ++ body) × (p ≡ (1, Text))) ⊎
    ((body : List ℕ) × (bytes ≡ algebra_header given.version ++ body) × IsRefusedBody given s (IsTooLong lengths (length bytes)) body p))

-- Where what may be imported depends on finitely many variables, an algebra file is lawful and within the lengths, or it has one first
-- refusal, and never both.
abbrev pub AlgebraIsExact : Type 0
AlgebraIsExact = (given : Premises) (s : Sides) (lengths : Lengths) (bytes : List ℕ) → All HasBound given.imports →
    IsExact (IsLawfulAlgebraFile given s bytes × IsWithin lengths bytes) (IsAlgebraRefusal given s lengths bytes)
