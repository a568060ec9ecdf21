-- The lines of an algebra certificate (the practical algebraic calculus), by their values.
use Rattle.std.specs.Prelude.{◌≡◌, ℕ, zero, suc, ◌+◌, ◌*◌, ◌%◌, ◌<◌, not, List, [], ◌∷◌, ◌++◌, map, length, slice_get, IsSome, ◌==◌}
use Rattle.std.specs.declared.option.Option.{Option}
use Rattle.std.specs.declared.option.Option.TheVariants.{None, Some}
use Rattle.std.specs.List.{All, find, filter}
use Rattle.graph_core.specs.declared.gate.Gate.{Gate}
use Rattle.graph_core.specs.Graph.Assignments.{Assignment, variable, literal, bit, word}
use Rattle.graph_core.specs.Graph.{IsEvaluation}
use Rattle.graph_core.specs.Graph.Operands.{Sides, claimed}
use Rattle.graph_core.specs.Graph.Extended.{Extended, Column, AgreeOnColumns, modulus}
use Rattle.algebra_core.specs.Polynomials.{Polynomial, value, difference}

-- A live line: its id, and its value at each assignment.
pub record LiveLine : Type 0 where
  pub id : ℕ
  pub value : Assignment → ℕ

-- A line times a polynomial.
pub record Part : Type 0 where
  pub id : ℕ
  pub factor : Polynomial

-- The lines: each but Delete introduces an id, and states a polynomial last. An import names a value by its number; it stands in
-- versions above 1.
pub data Line : Type 0 where
  Sum : ℕ → ℕ → ℕ → Polynomial → Line
  Product : ℕ → ℕ → Polynomial → Polynomial → Line
  Combination : ℕ → List Part → Polynomial → Line
  Import : ℕ → ℕ → Polynomial → Line
  Delete : ℕ → Line

-- The live lines, the greatest id in use so far, also of lines that were deleted, and the values that lines may import.
pub record Ledger : Type 0 where
  pub live : List LiveLine
  pub last : ℕ
  pub imports : List (Assignment → ℕ)

-- What an algebra certificate stands on: its version, an extended graph, and the values that its lines may import.
pub record Premises : Type 0 where
  pub version : ℕ
  pub extended : Extended
  pub imports : List (Assignment → ℕ)

-- the axiom -v + A * B of a gate v with the operands A and B
abbrev pub gate_axiom : ℕ → Gate → LiveLine
gate_axiom m g = record { id = g.v; value = λ σ. difference m (bit (literal σ g.left) * bit (literal σ g.right)) (bit (variable σ g.v)) }

-- the axiom o - r of a replaced column with the old output o and the new one r
abbrev pub column_axiom : Extended → Column → LiveLine
column_axiom e c = record { id = e.max + 1 + c.number; value = λ σ. difference (modulus e) (bit (literal σ c.old)) (bit (literal σ c.new)) }

-- the lines that are live from the start
abbrev pub axioms : Extended → Ledger
axioms e = record {
  live = map (gate_axiom (modulus e)) e.gates ++ map (column_axiom e) e.replaced;
  last = e.max + length e.graph.outputs;
  imports = [];
}

-- with values that may be imported
abbrev pub beginning : Premises → Ledger
beginning p = record { live = (axioms p.extended).live; last = (axioms p.extended).last; imports = p.imports }

-- the live line of an id, if there is one
abbrev pub line_of : List LiveLine → ℕ → Option LiveLine
line_of live id = find (λ l. l.id == id) live

abbrev pub IsLive : List LiveLine → ℕ → Type 0
IsLive live id = IsSome (line_of live id)

-- a live line's value; an id that isn't live counts as 0
abbrev pub value_or_zero : Option LiveLine → Assignment → ℕ
value_or_zero None σ = 0
value_or_zero (Some l) σ = l.value σ

abbrev pub value_of : List LiveLine → ℕ → Assignment → ℕ
value_of live id = value_or_zero (line_of live id)

-- the sum of live lines times polynomials
abbrev pub combined : ℕ → List LiveLine → List Part → Assignment → ℕ
combined m live [] σ = 0
combined m live (p ∷ ps) σ = value_of live p.id σ * value m p.factor σ + combined m live ps σ

-- the value with a number, from 1
abbrev pub import_of : List (Assignment → ℕ) → ℕ → Option (Assignment → ℕ)
import_of imports zero = None
import_of imports (suc i) = slice_get imports i

abbrev pub import_or_zero : Option (Assignment → ℕ) → Assignment → ℕ
import_or_zero None σ = 0
import_or_zero (Some f) σ = f σ

-- the number that an import names, and that there is a value with it
abbrev pub imported : Line → ℕ
imported (Sum id i j p) = 0
imported (Product id i q p) = 0
imported (Combination id parts p) = 0
imported (Import id number p) = number
imported (Delete id) = 0

abbrev pub IsThere : List (Assignment → ℕ) → Line → Type 0
IsThere imports (Sum id i j p) = Unit {0}
IsThere imports (Product id i q p) = Unit {0}
IsThere imports (Combination id parts p) = Unit {0}
IsThere imports (Import id number p) = IsSome (import_of imports number)
IsThere imports (Delete id) = Unit {0}

-- the ids that a line names, from left to right
abbrev pub operands : Line → List ℕ
operands (Sum id i j p) = i ∷ j ∷ []
operands (Product id i q p) = i ∷ []
operands (Combination id parts p) = map (λ part. part.id) parts
operands (Import id number p) = []
operands (Delete id) = id ∷ []

-- the id that a line introduces is above all before it
abbrev pub IsNewId : ℕ → Line → Type 0
IsNewId last (Sum id i j p) = last < id
IsNewId last (Product id i q p) = last < id
IsNewId last (Combination id parts p) = last < id
IsNewId last (Import id number p) = last < id
IsNewId last (Delete id) = Unit {0}

-- the polynomial that a line states
abbrev pub stated : Line → Polynomial
stated (Sum id i j p) = p
stated (Product id i q p) = p
stated (Combination id parts p) = p
stated (Import id number p) = p
stated (Delete id) = []

-- the value that the line's rule names, up to multiples of m
abbrev pub named : ℕ → Ledger → Line → Assignment → ℕ
named m l (Sum id i j p) σ = value_of l.live i σ + value_of l.live j σ
named m l (Product id i q p) σ = value_of l.live i σ * value m q σ
named m l (Combination id parts p) σ = combined m l.live parts σ
named m l (Import id number p) σ = import_or_zero (import_of l.imports number) σ
named m l (Delete id) σ = 0

-- At every assignment, an evaluation or not, the stated polynomial has the value that the rule names.
abbrev pub IsEqual : ℕ → Ledger → Line → Type 0
IsEqual m l x = (σ : Assignment) → value m (stated x) σ ≡ named m l x σ % m

-- the same of a combination, over live lines alone
abbrev pub IsCombined : ℕ → List LiveLine → List Part → Polynomial → Type 0
IsCombined m live parts p = (σ : Assignment) → value m p σ ≡ combined m live parts σ % m

-- A lawful line: its id is new, its operands are live, what it imports is there, and its polynomial has the value that the rule names.
pub record IsLawfulLine (m : ℕ) (l : Ledger) (x : Line) : Type 0 where
  pub new_id : IsNewId l.last x
  pub live_operands : All (IsLive l.live) (operands x)
  pub there : IsThere l.imports x
  pub equal : IsEqual m l x

-- the lines that are live after a new one
abbrev pub introduce : ℕ → Ledger → ℕ → Polynomial → Ledger
introduce m l id p = record { live = record { id = id; value = value m p } ∷ l.live; last = id; imports = l.imports }

-- the lines that are live after this one
abbrev pub after : ℕ → Ledger → Line → Ledger
after m l (Sum id i j p) = introduce m l id p
after m l (Product id i q p) = introduce m l id p
after m l (Combination id parts p) = introduce m l id p
after m l (Import id number p) = introduce m l id p
after m l (Delete id) = record { live = filter (λ x. not (x.id == id)) l.live; last = l.last; imports = l.imports }

-- the specification: the outputs' word minus what it is claimed to be
abbrev pub specification : Extended → Sides → Assignment → ℕ
specification e s σ = difference (modulus e) (word σ e.graph.outputs) (claimed (modulus e) s σ)

-- the line q names a live line with the specification's value at every assignment
abbrev pub Closes : Extended → Sides → List LiveLine → ℕ → Type 0
Closes e s live id = IsLive live id × ((σ : Assignment) → value_of live id σ ≡ specification e s σ)

-- each line is lawful after those before it
abbrev pub AreLawfulLines : ℕ → Ledger → List Line → Type 0
AreLawfulLines m l [] = Unit {0}
AreLawfulLines m l (x ∷ xs) = IsLawfulLine m l x × AreLawfulLines m (after m l x) xs

-- the lines that are live after all of some lines
abbrev pub after_all : ℕ → Ledger → List Line → Ledger
after_all m l [] = l
after_all m l (x ∷ xs) = after_all m (after m l x) xs

-- Lawful lines from the beginning on, and a closing line.
abbrev pub AreLawful : Premises → Sides → List Line → ℕ → Type 0
AreLawful p s lines closing =
    AreLawfulLines (modulus p.extended) (beginning p) lines × Closes p.extended s (after_all (modulus p.extended) (beginning p) lines).live closing

-- the replaced columns agree, and what may be imported is 0
pub record AreMet (p : Premises) (σ : Assignment) : Type 0 where
  pub columns : AgreeOnColumns p.extended σ
  pub imports : All (λ f. f σ ≡ 0) p.imports

-- Where the lines are lawful, the outputs' word is what it is claimed to be on every evaluation that meets the premises.
abbrev pub AlgebraIsSound : Type 0
AlgebraIsSound = (p : Premises) (s : Sides) (lines : List Line) (closing : ℕ) (σ : Assignment) →
    AreLawful p s lines closing → IsEvaluation p.extended.gates σ → AreMet p σ →
    word σ p.extended.graph.outputs ≡ claimed (modulus p.extended) s σ % modulus p.extended

-- Where the specification vanishes, the outputs' word is what it is claimed to be.
abbrev pub VanishingMeansClaim : Type 0
VanishingMeansClaim = (e : Extended) (s : Sides) (σ : Assignment) → specification e s σ ≡ 0 → word σ e.graph.outputs ≡ claimed (modulus e) s σ % modulus e

-- The axioms vanish on each evaluation on which the replaced columns agree.
abbrev pub AxiomsVanish : Type 0
AxiomsVanish = (e : Extended) (σ : Assignment) → IsEvaluation e.gates σ → AgreeOnColumns e σ → All (λ l. l.value σ ≡ 0) (axioms e).live
