-- When two ledgers say the same: the definitions of lawful lines look live lines up by their ids and use them by their values.
use Rattle.std.specs.Prelude.{◌≡◌, ℕ, List, [], ◌∷◌}
use Rattle.std.specs.declared.option.Option.{Option}
use Rattle.std.specs.declared.option.Option.TheVariants.{None, Some}
use Rattle.graph_core.specs.Graph.Assignments.{Assignment}
use Rattle.graph_core.specs.Graph.Operands.{Sides}
use Rattle.graph_core.specs.Graph.Extended.{Extended}
use Rattle.algebra_core.specs.AlgebraLines.{LiveLine, Line, Ledger, Premises, line_of, IsLawfulLine, after, Closes}
use Rattle.algebra_core.specs.Text.{IsLawfulAlgebraFile}
use Rattle.algebra_core.specs.Refusal.{AlgebraCause, IsAlgebraRefusal, IsRefusedLine, IsRefusedClose}
use Rattle.graph_core.specs.Text.JudgedLines.{Lengths}
use Rattle.algebra_core.specs.InRange.{IsRefusedInRange, IsRefusedCloseInRange}

-- both are there with the same value at every assignment, or neither is
abbrev pub AreSame : Option LiveLine → Option LiveLine → Type 0
AreSame None None = Unit {0}
AreSame None (Some y) = ⊥
AreSame (Some x) None = ⊥
AreSame (Some x) (Some y) = (σ : Assignment) → x.value σ ≡ y.value σ

-- Two lists of live lines have the same line under each id, in whatever order.
abbrev pub AreSameLines : List LiveLine → List LiveLine → Type 0
AreSameLines xs ys = (id : ℕ) → AreSame (line_of xs id) (line_of ys id)

-- the same values in the same order, at every assignment
abbrev pub AreSameImports : List (Assignment → ℕ) → List (Assignment → ℕ) → Type 0
AreSameImports [] [] = Unit {0}
AreSameImports [] (g ∷ gs) = ⊥
AreSameImports (f ∷ fs) [] = ⊥
AreSameImports (f ∷ fs) (g ∷ gs) = ((σ : Assignment) → f σ ≡ g σ) × AreSameImports fs gs

-- Two ledgers agree where they have the same last id, the same lines, and the same values to import.
pub record LedgersAgree (l k : Ledger) : Type 0 where
  pub last : l.last ≡ k.last
  pub lines : AreSameLines l.live k.live
  pub imports : AreSameImports l.imports k.imports

-- Agreeing is an equivalence.
pub record AgreementIsEquivalence : Type 0 where
  pub itself : (l : Ledger) → LedgersAgree l l
  pub back : (l k : Ledger) → LedgersAgree l k → LedgersAgree k l
  pub joins : (l k j : Ledger) → LedgersAgree l k → LedgersAgree k j → LedgersAgree l j

-- Ledgers that agree take the same lines, agree after them, refuse the same lines for the same causes, and close alike.
pub record AgreementIsKept : Type 0 where
  pub lawful : (m : ℕ) (l k : Ledger) → LedgersAgree l k → (x : Line) → IsLawfulLine m l x → IsLawfulLine m k x
  pub after : (m : ℕ) (l k : Ledger) → LedgersAgree l k → (x : Line) → LedgersAgree (after m l x) (after m k x)
  pub refused : (e : Extended) (l k : Ledger) → LedgersAgree l k → (x : Line) (cause : AlgebraCause) → IsRefusedLine e l x cause → IsRefusedLine e k x cause
  pub refused_in_range : (e : Extended) (l k : Ledger) → LedgersAgree l k → (x : Line) (cause : AlgebraCause) →
      IsRefusedInRange e l x cause → IsRefusedInRange e k x cause
  pub closes : (e : Extended) (sides : Sides) (l k : Ledger) → LedgersAgree l k → (id : ℕ) → Closes e sides l.live id → Closes e sides k.live id
  pub refused_close : (e : Extended) (sides : Sides) (l k : Ledger) → LedgersAgree l k → (id : ℕ) (cause : AlgebraCause) →
      IsRefusedClose e sides l id cause → IsRefusedClose e sides k id cause
  pub refused_close_in_range : (e : Extended) (sides : Sides) (l k : Ledger) → LedgersAgree l k →
      (id : ℕ) (cause : AlgebraCause) → IsRefusedCloseInRange e sides l id cause →
      IsRefusedCloseInRange e sides k id cause

-- Premises that say the same: of one version, over one extended graph, with the same values to import.
pub record AreSamePremises (p q : Premises) : Type 0 where
  pub version : p.version ≡ q.version
  pub extended : p.extended ≡ q.extended
  pub imports : AreSameImports p.imports q.imports

-- Over premises that say the same the same files are lawful, and refused for the same causes. What is lawful with nothing to import is
-- lawful whatever there is.
pub record PremisesAreKept : Type 0 where
  pub lawful : (p q : Premises) → AreSamePremises p q → (s : Sides) (bytes : List ℕ) → IsLawfulAlgebraFile p s bytes → IsLawfulAlgebraFile q s bytes
  pub refused : (p q : Premises) → AreSamePremises p q → (s : Sides) (lengths : Lengths) (bytes : List ℕ) (c : ℕ × AlgebraCause) →
      IsAlgebraRefusal p s lengths bytes c → IsAlgebraRefusal q s lengths bytes c
  pub without_imports : (version : ℕ) (e : Extended) (imports : List (Assignment → ℕ)) (s : Sides) (bytes : List ℕ) →
      IsLawfulAlgebraFile (record { version = version; extended = e; imports = [] }) s bytes →
      IsLawfulAlgebraFile (record { version = version; extended = e; imports = imports }) s bytes
