-- What the steps of reading a line of a clause certificate take.
use Rattle.std.specs.Prelude.{◌≡◌, ◌≢◌, ◌≤◌, ℕ, ℤ, Bool, List, pos, nat_abs}
use Rattle.std.specs.Global.{Global}
use Rattle.std.specs.List.{All}
use Rattle.std.specs.declared.option.Option.{Option}
use Rattle.std.specs.declared.option.Option.TheVariants.{Some}
use Rattle.std.specs.declared.vec.Vec.{Vec}
use Rattle.graph_core.specs.declared.literal.Lit.{Lit}
use Rattle.graph_core.specs.Graph.Extended.{Extended}
use Rattle.graph_core.specs.Text.Readers.{Reader}
use Rattle.ripple_graft.specs.Beside.{IsOutput}
use Rattle.clause_core.specs.Clause.{Clause, IsClauseInRange, SameSet}
use Rattle.clause_core.specs.ClauseLines.{ClauseLine}
use Rattle.mv_text.specs.Steps.{Takes}
use Rattle.drup_text.specs.ClauseReading.{block_line_at, carry_at, clause_literals_at, clause_read_at, cut_line_at, number_line_at, output_line_at, pair_line_at, two_at}
use Rattle.drup_text.specs.LineTexts.{IsClauseLineInRange, IsCountInRange, IsHeadOf, IsPairOf, IsSameClauseLine, IsSizeInRange}

-- a variable from 1 to the greatest one, or its negation
abbrev pub IsLiteralInRange : ℕ → ℤ → Type 0
IsLiteralInRange max l = (l ≢ pos 0) × (nat_abs l ≤ max)

-- both are at most so great
abbrev pub AreBothUpTo : ℕ → ℕ × ℕ → Type 0
AreBothUpTo most n = (n.0 ≤ most) × (n.1 ≤ most)

abbrev pub TakesLiteral : Reader ℤ → ℕ → List ℕ → List ℕ → Option ℤ → Type 0
TakesLiteral item max = Takes item (IsLiteralInRange max) (λ l k. l ≡ k)

abbrev pub HasItems : List ℤ → Vec ℤ Global → Type 0
HasItems ls all = all.items ≡ ls

abbrev pub TakesLiterals : ℕ → List ℕ → List ℕ → Option (Vec ℤ Global) → Type 0
TakesLiterals max = Takes clause_literals_at (All (IsLiteralInRange max)) HasItems

-- a clause, as a set
abbrev pub TakesClause : ℕ → List ℕ → List ℕ → Option Clause → Type 0
TakesClause max = Takes clause_read_at (IsClauseInRange max) SameSet

abbrev pub ReadsClauseLine : Reader ClauseLine → ℕ → List ℕ → List ℕ → Option ClauseLine → Type 0
ReadsClauseLine item max = Takes item (IsClauseLineInRange max) IsSameClauseLine

abbrev pub TakesTwo : ℕ → List ℕ → List ℕ → Option (ℕ × ℕ) → Type 0
TakesTwo most = Takes two_at (AreBothUpTo most) (λ n k. n ≡ k)

abbrev pub TakesSize : ℕ → List ℕ → List ℕ → Option (Option (ℕ × ℕ)) → Type 0
TakesSize outputs = Takes cut_line_at (IsSizeInRange outputs) (λ n k. n ≡ k)

abbrev pub TakesPair : Extended → List ℕ → List ℕ → Option (Lit × Lit) → Type 0
TakesPair e = Takes pair_line_at (IsPairOf e) (λ p q. p ≡ q)

abbrev pub TakesNumberLine : List ℕ → ℕ → List ℕ → List ℕ → Option ℕ → Type 0
TakesNumberLine word most = Takes (number_line_at word) (IsCountInRange most) (λ n k. n ≡ k)

-- a word, or nothing
abbrev pub TakesCarry : List ℕ → List ℕ → Bool → Type 0
TakesCarry old new carry = carry_at old ≡ Some (carry, new)

abbrev pub TakesHead : Extended → List ℕ → List ℕ → Option (ℕ × ℕ × Bool) → Type 0
TakesHead e = Takes block_line_at (IsHeadOf e) (λ h k. h ≡ k)

abbrev pub TakesOutput : Extended → List ℕ → List ℕ → Option (ℕ × Lit) → Type 0
TakesOutput e = Takes output_line_at (IsOutput e) (λ c d. c ≡ d)
