-- Polynomials in a table: their monomials and values, and how a table grows.
use Rattle.std.specs.Prelude.{Bool, true, ◌+◌, ◌*◌, cond, ◌==◌, ◌≡◌, ℕ, ◌%◌, ◌^◌, ◌<◌, false, None, List, [], map, get_or}
use Rattle.std.specs.Global.{Global}
use Rattle.std.specs.declared.vec.Vec.{Vec}
use Rattle.std.specs.List.{AllByRecursion}
use Rattle.graph_core.specs.Graph.Assignments.{Assignment}
use Rattle.algebra_core.specs.Polynomials.{Polynomial, Term, value, difference}
use Rattle.poly_terms.specs.Merges.{AreAfter}
use Rattle.poly_terms.specs.Entries.{Entry, entry_order}
use Rattle.poly_terms.specs.Monomials.{AreIn, AreMonomials, Grows, places_of}
pub use Rattle.poly_terms.specs.Entries.{Sum}

-- The table of the modulus 2 ^ exponent, and its monomials by number.
pub record Table : Type 0 where
  pub exponent : ℕ
  pub monomials : List (List ℕ)

-- a table by its parts
abbrev pub table_of : ℕ → List (List ℕ) → Table
table_of exponent monomials = record { exponent = exponent; monomials = monomials }

abbrev pub modulus_in : Table → ℕ
modulus_in t = 2 ^ t.exponent

-- the variables of a number's monomial
abbrev pub variables_in : Table → ℕ → List ℕ
variables_in t n = get_or t.monomials n []

abbrev pub monomial_in : Table → Entry → Term
monomial_in t e = record { negative = false; coefficient = e.1; variables = variables_in t e.0 }

-- a polynomial's monomials, in an order of its own
unfoldable pub monomials_in : Table → Sum → Polynomial
monomials_in t p = map (monomial_in t) p

-- a polynomial's value at an assignment
abbrev pub value_in : Table → Sum → Assignment → ℕ
value_in t p σ = value (modulus_in t) (monomials_in t p) σ

-- A polynomial in the table's normal form: numbers of the table, rising, with coefficients from 1 to below the modulus.
pub record IsInNormalForm (t : Table) (p : Sum) : Type 0 where
  pub coefficients : AllByRecursion (λ e. (0 < e.1) × (e.1 < modulus_in t)) p
  pub numbers : AreIn t.monomials p
  pub order : AreAfter entry_order None p
  pub table : AreMonomials t.monomials

unfoldable pub IsOf : Table → Sum → Type 0
IsOf t p = IsInNormalForm t p

-- The new table gives each polynomial of the old one its value: it has the old monomials at their numbers.
unfoldable pub Extends : Table → Table → Type 0
Extends old new = (new.exponent ≡ old.exponent) × Grows old.monomials new.monomials

-- the numbers, rising, of just the monomials with a variable
unfoldable pub ArePlacesOf : Table → Sum → ℕ → List ℕ → Type 0
ArePlacesOf t p v places = places ≡ places_of t.monomials v p

-- a coefficient and variables, as a term
abbrev pub said_term : ℕ × List ℕ → Term
said_term part = record { negative = false; coefficient = part.0; variables = part.1 }

-- what a list of coefficients and variables says
abbrev pub said : List (ℕ × List ℕ) → Polynomial
said parts = map said_term parts

-- the same, of variables that each have a list of their own
abbrev pub given_term : ℕ × Vec ℕ Global → Term
given_term part = said_term (part.0, part.1.items)

abbrev pub given : List (ℕ × Vec ℕ Global) → Polynomial
given parts = map given_term parts

-- A polynomial of a table is one of each table that extends it, with the same values.
abbrev pub ValuesStay : Type 0
ValuesStay = (old new : Table) (p : Sum) → Extends old new → IsOf old p →
    IsOf new p × ((σ : Assignment) → value_in new p σ ≡ value_in old p σ)

-- A table that extends another has its modulus.
abbrev pub ModulusStays : Type 0
ModulusStays = (old new : Table) → Extends old new → modulus_in new ≡ modulus_in old

-- A table extends itself, and what extends an extension extends the table.
abbrev pub TablesExtend : Type 0
TablesExtend = ((t : Table) → Extends t t) × ((a b c : Table) → Extends a b → Extends b c → Extends a c)

-- an assignment with another value of one variable
abbrev pub assigned : Assignment → ℕ → Bool → Assignment
assigned σ v b u = cond (u == v) b (σ u)

-- what a variable adds to a polynomial's value: that with the variable true, minus that with it false
abbrev pub quotient_value : Table → Sum → ℕ → Assignment → ℕ
quotient_value t p v σ = difference (modulus_in t) (value_in t p (assigned σ v true)) (value_in t p (assigned σ v false))

-- a polynomial's value where n stands for a variable: that with the variable false, and n times what the variable adds
abbrev pub replaced_value : Table → Sum → ℕ → ℕ → Assignment → ℕ
replaced_value t p v n σ = (value_in t p (assigned σ v false) + n * quotient_value t p v σ) % modulus_in t
