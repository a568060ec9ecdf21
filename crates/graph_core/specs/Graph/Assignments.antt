-- Truth values of variables, of literals and of words of literals.
use Rattle.std.specs.Prelude.{◌≡◌, ℕ, zero, suc, ◌+◌, ◌*◌, ◌%◌, ◌≤◌, Bool, true, false, not, List, [], ◌∷◌, if◌then◌else◌, ◌==◌, slice_index_or}
use Rattle.graph_core.specs.declared.literal.Lit.{Lit}
use Rattle.graph_core.specs.Graph.Literals.{variable_of}

-- An assignment gives each variable a truth value.
abbrev pub Assignment : Type 0
Assignment = ℕ → Bool

-- a variable's value; variable 0 is the constant false
abbrev pub variable : Assignment → ℕ → Bool
variable σ zero = false
variable σ (suc v) = σ (suc v)

-- a literal's value: that of its variable, negated if the literal is odd
abbrev pub literal : Assignment → Lit → Bool
literal σ l = if l.0 % 2 == 0 then variable σ (variable_of l) else not (variable σ (variable_of l))

-- 1 for true and 0 for false
abbrev pub bit : Bool → ℕ
bit true = 1
bit false = 0

-- the number whose bit k is the k-th literal: the sum of 2 ^ k over the true ones
abbrev pub word : Assignment → List Lit → ℕ
word σ [] = 0
word σ (l ∷ ls) = bit (literal σ l) + 2 * word σ ls

-- the assignment of a list that gives the value of variable v at place v; a variable past its end is false
abbrev pub listed : List Bool → Assignment
listed values v = slice_index_or values v false

-- two assignments agree on the variables up to n
abbrev pub AgreeUpTo : ℕ → Assignment → Assignment → Type 0
AgreeUpTo n σ τ = (v : ℕ) → v ≤ n → σ v ≡ τ v

-- what is computed depends on finitely many variables
abbrev pub HasBound : {A : Type 0} → (Assignment → A) → Type 0
HasBound {A} f = (n : ℕ) × ((σ τ : Assignment) → AgreeUpTo n σ τ → f σ ≡ f τ)
