-- What the loop over a plan's steps keeps: the frontier's function, and what lines are to state.
use Rattle.std.specs.Prelude.{Bool, ◌≡◌, ◌≢◌, ℕ, ◌+◌, ◌*◌, ◌%◌, ◌^◌, ◌<◌, ◌≤◌, true, false, List, [], ◌∷◌, map, ◌++◌, length, slice_get}
use Rattle.std.specs.declared.option.Option.{Option}
use Rattle.std.specs.declared.option.Option.TheVariants.{None, Some}
use Rattle.std.specs.List.{All, AllPairs, Contains}
use Rattle.graph_core.specs.declared.gate.Gate.{Gate}
use Rattle.graph_core.specs.declared.literal.Lit.{Lit}
use Rattle.graph_core.specs.Graph.Assignments.{Assignment}
use Rattle.graph_core.specs.Graph.Operands.{ReadInputs, Sides}
use Rattle.graph_core.specs.Graph.Extended.{Extended}
use Rattle.algebra_core.specs.AlgebraLines.{IsLive, Part, axioms, combined, gate_axiom, line_of, specification}
use Rattle.graph_core.specs.Graph.Extended as graphs
use Rattle.algebra_core.specs.Polynomials.{Term, difference}
use Rattle.ripple_graft.specs.Extension.{IsExtension, new_outputs}
use Rattle.poly_terms.specs.Indexed.{IndexedSum, IsIndexed}
use Rattle.poly_terms.specs.Tables.{Table, Sum, IsOf, modulus_in, monomials_in, value_in}
use Rattle.frontier_core.specs.Columns.{column_value}
use Rattle.frontier_core.specs.Frontier.{set_to}
use Rattle.frontier_core.specs.Sets.{has}
use Rattle.frontier_core.specs.declared.step.Step.TheVariants.{Add, Eliminate}
use Rattle.frontier_core.specs.Plan.{Taken, step, value_of_taken}
use Rattle.frontier_core.specs.Pending.{AreSpare, IsNotZero, IsPending, gap}
use Rattle.frontier_core.specs.RestLine.{partial_specification}
use Rattle.pac_writer.specs.Writing.{IsOver, Made, written_ledger}
use Rattle.frontier_core.specs.Substitution.{gate_value, quotient, substituted}
use Rattle.column_reducer.specs.declared.gate_part.GatePart.{GatePart}
use Rattle.column_reducer.specs.declared.gathered.Gathered.{Gathered}
use Rattle.column_reducer.specs.declared.gathered.Batch.{Batch}
use Rattle.column_reducer.specs.declared.walk.Walk.{Walk}
use Rattle.column_reducer.specs.declared.walk.Ended.{Ended}
use Rattle.column_reducer.specs.declared.walk.Outcome.{Outcome}
use Rattle.column_reducer.specs.declared.walk.Outcome.TheVariants as outcome
use Rattle.column_reducer.specs.Reducing.{AreLinesOver, Planned, IsPassed, KeepsBudget, value_after}
use Rattle.poly_text.specs.Lines.{parts_in}

-- a coefficient times variables
abbrev pub term_of : ℕ → List ℕ → Term
term_of number variables = record { negative = false; coefficient = number; variables = variables }

-- a function that hangs on no variable above the greatest one
abbrev pub IsFixedAbove : ℕ → (Assignment → ℕ) → Type 0
IsFixedAbove max f = (v : ℕ) (b : Bool) (σ : Assignment) → max < v → f (set_to v b σ) ≡ f σ

-- ---- one gate

-- A part whose polynomials are of the table.
pub record IsGatePartOf (t : Table) (p : GatePart) : Type 0 where
  pub factor : IsOf t p.factor
  pub operands : IsOf t p.operands
  pub variable : IsOf t p.variable

-- What is left of a gate's terms: 2^power times the factor is minus a function that isn't 0 everywhere, and what the operands and the variable make of
-- the factor adds up to the gate's axiom times it.
pub record IsGatePart (m : ℕ) (t : Table) (x : Gate) (by : Assignment → ℕ) (p : GatePart) : Type 0 where
  pub of : IsGatePartOf t p
  pub minus : (σ : Assignment) → (2 ^ p.power * value_in t p.factor σ) % m ≡ difference m 0 (by σ)
  pub nonzero : ((σ : Assignment) → by σ ≡ 0) → ⊥
  pub operands : (σ : Assignment) → value_in t p.operands σ ≡ (gate_value x σ * value_in t p.factor σ) % m
  pub product : (σ : Assignment) → (value_in t p.operands σ + value_in t p.variable σ) % m ≡ ((gate_axiom m x).value σ * value_in t p.factor σ) % m
  pub fixed : (max : ℕ) → x.v ≤ max → IsFixedAbove max by → IsFixedAbove max (value_in t p.factor)

-- none where the function is 0 everywhere
abbrev pub IsLeft : ℕ → Table → Gate → (Assignment → ℕ) → Option GatePart → Type 0
IsLeft m t x by None = (σ : Assignment) → by σ ≡ 0
IsLeft m t x by (Some p) = IsGatePart m t x by p

-- A polynomial with the product of a gate's operands in place of its variable, with its index, and what is left of the terms that had it.
pub record IsEliminated (t0 t1 : Table) (x : Gate) (p : Sum) (rest : IndexedSum) (part : Option GatePart) : Type 0 where
  pub of : IsOf t1 rest.sum
  pub indexed : IsIndexed t1 rest
  pub value : (σ : Assignment) → value_in t1 rest.sum σ ≡ substituted (modulus_in t0) x.v (gate_value x) (value_in t0 p) σ
  pub left : IsLeft (modulus_in t0) t1 x (quotient (modulus_in t0) x.v (value_in t0 p)) part

-- ---- one column

-- A polynomial with a column added, with its index.
pub record IsAdded (e : Extended) (s : Sides) (t0 t1 : Table) (k : ℕ) (p : Sum) (rest : IndexedSum) : Type 0 where
  pub of : IsOf t1 rest.sum
  pub indexed : IsIndexed t1 rest
  pub value : (r : Lit) → slice_get (new_outputs e) k ≡ Some r → (σ : Assignment) → value_in t1 rest.sum σ ≡ (value_in t0 p σ + column_value e s k r σ) % graphs.modulus e

-- ---- batches

-- so many times a polynomial's entries
abbrev pub times : ℕ → Sum → Sum
times w p = map (λ e. (e.0, w * e.1)) p

-- parts, each factor 2^k times as great
abbrev pub scaled_parts : Table → ℕ → List (ℕ × Sum) → List Part
scaled_parts t k parts = parts_in t (map (λ p. (p.0, times (2 ^ k) p.1)) parts)

-- Parts of the table's polynomials, over the axioms of gates.
pub record AreGateParts (e : Extended) (t : Table) (parts : List (ℕ × Sum)) : Type 0 where
  pub of : All (λ p. IsOver e.max t p.1) parts
  pub gates : All (λ p. has (map (λ x. x.v) e.gates) p.0 ≡ true) parts

-- A batch of parts that can be a line over the axioms, the polynomial that they add up to, and a weight that isn't 0.
pub record IsBatch (e : Extended) (t : Table) (g : Batch) : Type 0 where
  pub some : 0 < length g.parts.items
  pub parts : AreGateParts e t g.parts.items
  pub of : IsOver e.max t g.poly
  pub of_weight : IsOver e.max t g.weight
  pub spare : AreSpare (graphs.modulus e) (axioms e).live (parts_in t g.parts.items)
  pub states : (σ : Assignment) → value_in t g.poly σ ≡ combined (graphs.modulus e) (axioms e).live (parts_in t g.parts.items) σ % graphs.modulus e
  pub nonzero : IsNotZero (graphs.modulus e) (monomials_in t g.weight)

-- the sum of what batches state, each times its weight
abbrev pub batches_sum : Table → List Batch → Assignment → ℕ
batches_sum t [] σ = 0
batches_sum t (g ∷ gs) σ = value_in t g.poly σ * value_in t g.weight σ + batches_sum t gs σ

-- Parts over the axioms of replaced columns, none of them twice, that a line can be over.
pub record AreColumns (e : Extended) (t : Table) (columns : List (ℕ × Sum)) : Type 0 where
  pub over : All (λ p. IsOver e.max t p.1) columns
  pub nonzero : All (λ p. IsNotZero (graphs.modulus e) (monomials_in t p.1)) columns
  pub live : All (λ p. IsLive (axioms e).live p.0) columns
  pub once : AllPairs (λ p q. p.0 ≢ q.0) columns
  pub ids : All (λ p. (e.max < p.0) × (p.0 ≤ e.max + length e.graph.outputs)) columns

-- parts over the axioms of columns that were added
abbrev pub AreOfAdded : Extended → List ℕ → List (ℕ × Sum) → Type 0
AreOfAdded e added columns = All (λ p. (k : ℕ) × (has added k ≡ true) × (p.0 ≡ e.max + 1 + k)) columns

-- Batches and the parts of replaced columns, and the sum of what the batches state and of these parts.
pub record AreSumBatches (e : Extended) (t : Table) (gs : List Batch) (columns : List (ℕ × Sum)) (total : Sum) : Type 0 where
  pub batches : All (IsBatch e t) gs
  pub of_columns : AreColumns e t columns
  pub of : IsOf t total
  pub fixed : IsFixedAbove e.max (value_in t total)
  pub sum : (σ : Assignment) →
      (batches_sum t gs σ + combined (graphs.modulus e) (axioms e).live (parts_in t columns) σ) % graphs.modulus e ≡ value_in t total σ

-- The sum of the ended batches and the columns' parts, and 2^k times the open one's parts are the gap at the frontier with this function;
-- the open batch states the sum of the parts' axioms times their factors.
pub record IsGathered (e : Extended) (s : Sides) (t : Table) (f : Taken) (rest : Assignment → ℕ) (g : Gathered) : Type 0 where
  pub batches : AreSumBatches e t g.batches.items g.columns.items g.total
  pub added : AreOfAdded e f.added g.columns.items
  pub parts : AreGateParts e t g.parts.items
  pub fixed : IsFixedAbove e.max (combined (graphs.modulus e) (axioms e).live (parts_in t g.parts.items))
  pub low : g.power < t.exponent
  pub pending : IsPending e s (axioms e).live (value_in t g.total) f rest (scaled_parts t g.power g.parts.items)
  pub of : IsOf t g.stated
  pub sum : (σ : Assignment) → value_in t g.stated σ ≡ combined (graphs.modulus e) (axioms e).live (parts_in t g.parts.items) σ % graphs.modulus e

-- 1 for a list that has something, else 0
abbrev pub one_if_some : List (ℕ × Sum) → ℕ
one_if_some [] = 0
one_if_some (p ∷ parts) = 1

-- how many batches there are, the open one among them, once it has a part
abbrev pub batch_count : Gathered → ℕ
batch_count g = length g.batches.items + one_if_some g.parts.items

-- What was gathered is so still, and there are as many batches.
pub record KeepsGathered (t0 t1 : Table) (old new : Gathered) : Type 0 where
  pub gathered : (e : Extended) (s : Sides) (f : Taken) (rest : Assignment → ℕ) → modulus_in t0 ≡ graphs.modulus e →
      IsFixedAbove e.max (gap e s f.added rest) →
      IsGathered e s t0 f rest old → IsGathered e s t1 f rest new
  pub of : IsOf t0 old.stated → IsOf t1 new.stated
  pub count : batch_count new ≤ batch_count old

-- No batch is open any more.
pub record IsEndedBatch (t0 t1 : Table) (old new : Gathered) : Type 0 where
  pub settles : KeepsGathered t0 t1 old new
  pub none : new.parts.items ≡ []
  pub power : new.power ≡ old.power

-- Parts that are taken now are divided by this power of two.
pub record HasPower (t0 t1 : Table) (k : ℕ) (old new : Gathered) : Type 0 where
  pub settles : KeepsGathered t0 t1 old new
  pub power : new.power ≡ k

-- The open batch takes a part over the axiom of a gate.
pub record HasPart (t : Table) (x : Gate) (p : GatePart) (old new : Gathered) : Type 0 where
  pub batches : new.batches ≡ old.batches
  pub columns : new.columns ≡ old.columns
  pub total : new.total ≡ old.total
  pub power : new.power ≡ old.power
  pub parts : new.parts.items ≡ old.parts.items ++ (x.v, p.factor) ∷ []
  pub of : IsOf t new.stated
  pub stated : (σ : Assignment) → value_in t new.stated σ ≡
      ((value_in t old.stated σ + value_in t p.operands σ) % modulus_in t + value_in t p.variable σ) % modulus_in t

-- A gate that may be eliminated next.
pub record IsNext (e : Extended) (f : Taken) (x : Gate) : Type 0 where
  pub made : IsExtension e
  pub gate : Contains e.gates x
  pub new : has f.eliminated x.v ≡ false

-- The gate's part is taken, if its variable's quotient isn't 0.
pub record HasTakenGate (t0 t1 : Table) (x : Gate) (q : Option GatePart) (old new : Gathered) : Type 0 where
  pub gathered : (e : Extended) (s : Sides) (f : Taken) (rest next : Assignment → ℕ) → modulus_in t0 ≡ graphs.modulus e → IsNext e f x →
      IsFixedAbove e.max rest → IsFixedAbove e.max (gap e s f.added rest) →
      ((σ : Assignment) → next σ ≡ substituted (graphs.modulus e) x.v (gate_value x) rest σ) →
      IsLeft (graphs.modulus e) t0 x (quotient (graphs.modulus e) x.v rest) q →
      IsGathered e s t0 f rest old → IsGathered e s t1 (step f (Eliminate x.v)) next new
  pub count : batch_count new ≤ batch_count old + 1

-- The column's part is taken, where it is replaced.
pub record HasColumn (t0 t1 : Table) (e : Extended) (k : ℕ) (old new : Gathered) : Type 0 where
  pub gathered : (s : Sides) (f : Taken) (rest next : Assignment → ℕ) → modulus_in t0 ≡ graphs.modulus e →
      IsExtension e → k < length e.graph.outputs → has f.added k ≡ false →
      ((r : Lit) → slice_get (new_outputs e) k ≡ Some r → (σ : Assignment) → next σ ≡ (rest σ + column_value e s k r σ) % graphs.modulus e) →
      IsGathered e s t0 f rest old → IsGathered e s t1 (step f (Add k)) next new
  pub count : batch_count new ≡ batch_count old

-- ---- the walk over the steps

-- A polynomial has the function of the frontier that these steps leave, with its index.
pub record IsRest (e : Extended) (s : Sides) (t : Table) (f : Taken) (rest : IndexedSum) : Type 0 where
  pub same_modulus : modulus_in t ≡ graphs.modulus e
  pub of : IsOf t rest.sum
  pub indexed : IsIndexed t rest
  pub value : (σ : Assignment) → value_in t rest.sum σ ≡ value_of_taken e s f σ
  pub fixed : IsFixedAbove e.max (value_in t rest.sum)
  pub known : IsFixedAbove e.max (partial_specification e s f.added)

-- What there is after some steps: the frontier's function, and what is gathered.
pub record IsWalked (e : Extended) (s : Sides) (t : Table) (f : Taken) (w : Walk) : Type 0 where
  pub rest : IsRest e s t f w.rest
  pub gathered : IsGathered e s t f (value_in t w.rest.sum) w.gathered
  pub few : batch_count w.gathered ≤ length f.eliminated

-- The batches' lines and the columns' parts state the specification minus the last frontier's function.
pub record AreTotal (e : Extended) (s : Sides) (t : Table) (rest : Sum) (g : Gathered) : Type 0 where
  pub batches : AreSumBatches e t g.batches.items g.columns.items g.total
  pub few : length g.batches.items ≤ length e.gates + 1
  pub total : (σ : Assignment) → value_in t g.total σ ≡ difference (graphs.modulus e) (specification e s σ) (value_in t rest σ)

-- All steps were taken within the budget.
pub record IsEndedWalk (p : Planned) (s : Sides) (t : Table) (budget : ℕ) (w : Ended) : Type 0 where
  pub of : IsOf t w.rest
  pub last : (σ : Assignment) → value_in t w.rest σ ≡ value_after p s (length p.steps) σ
  pub within : KeepsBudget p s budget
  pub total : AreTotal p.extended s t w.rest w.gathered

-- what a walk answers
abbrev pub IsWalkOutcome : Planned → Sides → Table → ℕ → Outcome → Type 0
IsWalkOutcome p s t budget (outcome.Ended w) = IsEndedWalk p s t budget w
IsWalkOutcome p s t budget (outcome.Passed step size) = IsPassed p s budget step size

-- What a walk asks for: the operands are inputs, and the table has the graph's modulus.
pub record CanTake (p : Planned) (s : Sides) (t : Table) : Type 0 where
  pub inputs : ReadInputs p.extended.graph s
  pub same_modulus : modulus_in t ≡ graphs.modulus p.extended

-- No batch is open.
pub record HasEnded (e : Extended) (s : Sides) (t : Table) (f : Taken) (rest : Sum) (g : Gathered) : Type 0 where
  pub gathered : IsGathered e s t f (value_in t rest) g
  pub few : length g.batches.items ≤ length f.eliminated
  pub none : g.parts.items ≡ []

-- ---- the lines of the batches

-- Some batches' lines are written, and each is to be taken by the last line, times its weight; with the batches that are left they add up
-- to the total.
pub record AreBatchesWritten (e : Extended) (s : Sides) (t : Table) (total : Sum) (gs : List Batch) (weighted : List (ℕ × Sum)) (l : Made) : Type 0 where
  pub made : IsExtension e
  pub same_modulus : modulus_in t ≡ graphs.modulus e
  pub graph : AreLinesOver e s t l
  pub axioms : (id : ℕ) → id ≤ e.max → line_of (written_ledger l).live id ≡ line_of (axioms e).live id
  pub batches : All (IsBatch e t) gs
  pub sum : (σ : Assignment) →
      (batches_sum t gs σ + combined (graphs.modulus e) (written_ledger l).live (parts_in t weighted) σ) % graphs.modulus e ≡ value_in t total σ
  pub over : All (λ p. IsOver e.max t p.1) weighted
  pub nonzero : All (λ p. IsNotZero (graphs.modulus e) (monomials_in t p.1)) weighted
  pub live : All (λ p. IsLive (written_ledger l).live p.0) weighted
  pub once : AllPairs (λ p q. p.0 ≢ q.0) weighted
  pub ids : All (λ p. (e.max < p.0) × (p.0 ≤ l.last)) weighted
  pub low : e.max ≤ l.last
