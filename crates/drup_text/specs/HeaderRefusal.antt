-- The first refusal in the header of a clause certificate, given what is refused after a header.
use Rattle.std.specs.Prelude.{◌≡◌, ◌≢◌, ◌⊎◌, ℕ, zero, suc, ◌+◌, Bool, List, ◌++◌, length}
use Rattle.std.specs.declared.option.Option.{Option}
use Rattle.std.specs.declared.option.Option.TheVariants.{None, Some}
use Rattle.graph_core.specs.declared.literal.Lit.{Lit}
use Rattle.graph_core.specs.Graph.Extended.{Extended, without_cut}
use Rattle.graph_core.specs.Graph.{Aig}
use Rattle.graph_core.specs.Text.JudgedLines.{BeginsWith, Behind, IsTooLong, Lengths, Never, Unless}
use Rattle.ripple_graft.specs.Blocks.{block, graft_block, with_cut}
use Rattle.drup_text.specs.ClauseTexts.{IsBlockLine, IsCountLine, IsCutLine, IsPairLine}
use Rattle.drup_text.specs.Headers.{second_line, third_line, version_line}
use Rattle.drup_text.specs.LineTexts.{IsCountInRange, IsCutSize, IsHeadOf, IsPairOf}
use Rattle.drup_text.specs.Listings.{Listing, gate_listing, output_listing}

-- why a line of a clause certificate is refused
pub data LineCause : Type 0 where
  TooLong : LineCause
  Text : LineCause
  Range : LineCause
  NotImplied : LineCause
  NoSuchClause : LineCause

-- What is refused after a header, over the extended graph: the number of the line that comes next, the bytes left, and the refusal,
-- which is a line's number and its cause.
abbrev pub Later : Type 1
Later = Extended → ℕ → List ℕ → ℕ × LineCause → Type 0

-- ---- pairs

-- where so many pairs are still to come, one comes
abbrev pub IsPairStep : Extended → ℕ → Lit × Lit → ℕ → Type 0
IsPairStep e left p next = IsPairOf e p × (left ≡ suc next)

-- what is wrong where a pair is to come
abbrev pub IsRefusedPairText : Extended → List ℕ → LineCause → Type 0
IsRefusedPairText e bytes cause =
    (((p : Lit × Lit) (rest : List ℕ) → BeginsWith IsPairLine bytes p rest → ⊥) × (cause ≡ Text)) ⊎
    ((p : Lit × Lit) × (rest : List ℕ) × BeginsWith IsPairLine bytes p rest × Unless (IsPairOf e p) (¬ (IsPairOf e p)) Range Never cause)

abbrev pub IsRefusedPair : Extended → (List ℕ → Type 0) → List ℕ → LineCause → Type 0
IsRefusedPair e IsLong bytes = Unless (¬ (IsLong bytes)) (IsLong bytes) TooLong (IsRefusedPairText e bytes)

-- After some pairs, the first of them in the line of this number: one of those to come is refused, or all are there and something after
-- them is refused, over the graph that they make.
abbrev pub IsRefusedBehindPairs : Later → (List (Lit × Lit) → Extended) → Extended → (List ℕ → Type 0) → ℕ →
    List (Lit × Lit) → ℕ → List ℕ → ℕ × LineCause → Type 0
IsRefusedBehindPairs later made e IsLong number pairs zero bytes p = later (made pairs) (number + length pairs) bytes p
IsRefusedBehindPairs later made e IsLong number pairs (suc left) bytes p =
    (cause : LineCause) × IsRefusedPair e IsLong bytes cause × (p ≡ (number + length pairs, cause))

-- so many pairs
abbrev pub IsRefusedPairs : Later → (List (Lit × Lit) → Extended) → Extended → (List ℕ → Type 0) → ℕ → ℕ → List ℕ → ℕ × LineCause → Type 0
IsRefusedPairs later made e IsLong number count bytes p =
    (pairs : List (Lit × Lit)) ×
    Behind IsPairLine (IsPairStep e) IsLong (λ left rest. IsRefusedBehindPairs later made e IsLong number pairs left rest p) pairs count bytes

-- ---- version 1: the line before them

-- the graph with a cut at this column
abbrev pub cut_at : Aig → ℕ → List (Lit × Lit) → Extended
cut_at g lo pairs = with_cut g (record { lo = lo; pairs = pairs })

abbrev pub IsRefusedBehindCut : Later → Aig → (List ℕ → Type 0) → Option (ℕ × ℕ) → List ℕ → ℕ × LineCause → Type 0
IsRefusedBehindCut later g IsLong None bytes = later (without_cut g) 3 bytes
IsRefusedBehindCut later g IsLong (Some n) bytes =
    Unless (IsCutSize (length g.outputs) n) (¬ (IsCutSize (length g.outputs) n)) (2, Range)
    (IsRefusedPairs later (cut_at g n.0) (without_cut g) IsLong 3 n.1 bytes)

-- after the first line
abbrev pub IsRefusedCut : Later → Aig → (List ℕ → Type 0) → List ℕ → ℕ × LineCause → Type 0
IsRefusedCut later g IsLong bytes = Unless (¬ (IsLong bytes)) (IsLong bytes) (2, TooLong)
    (λ p. (((c : Option (ℕ × ℕ)) (rest : List ℕ) → BeginsWith IsCutLine bytes c rest → ⊥) × (p ≡ (2, Text))) ⊎
    ((c : Option (ℕ × ℕ)) × (rest : List ℕ) × BeginsWith IsCutLine bytes c rest × IsRefusedBehindCut later g IsLong c rest p))

-- ---- version 2: a block's line and its pairs, for each block

-- the graph with the blocks so far and one more
abbrev pub block_at : Extended → ℕ × ℕ × Bool → List (Lit × Lit) → Extended
block_at e h pairs = graft_block e (block (record { lo = h.0; pairs = pairs }) h.2)

-- one block, from the line of this number on, and what comes after it
abbrev pub IsRefusedBlock : Later → (List ℕ → Type 0) → Later
IsRefusedBlock later IsLong e number bytes = Unless (¬ (IsLong bytes)) (IsLong bytes) (number, TooLong)
    (λ q. (((h : ℕ × ℕ × Bool) (rest : List ℕ) → BeginsWith IsBlockLine bytes h rest → ⊥) × (q ≡ (number, Text))) ⊎
    ((h : ℕ × ℕ × Bool) × (rest : List ℕ) × BeginsWith IsBlockLine bytes h rest ×
    Unless (IsHeadOf e h) (¬ (IsHeadOf e h)) (number, Range) (IsRefusedPairs later (block_at e h) e IsLong (number + 1) h.1 rest) q))

-- so many blocks
abbrev pub IsRefusedBlocks : Later → (List ℕ → Type 0) → ℕ → Later
IsRefusedBlocks later IsLong zero = later
IsRefusedBlocks later IsLong (suc n) = IsRefusedBlock (IsRefusedBlocks later IsLong n) IsLong

-- after the first line
abbrev pub IsRefusedCount : Later → Aig → (List ℕ → Type 0) → List ℕ → ℕ × LineCause → Type 0
IsRefusedCount later g IsLong bytes = Unless (¬ (IsLong bytes)) (IsLong bytes) (2, TooLong)
    (λ p. (((n : ℕ) (rest : List ℕ) → BeginsWith IsCountLine bytes n rest → ⊥) × (p ≡ (2, Text))) ⊎
    ((n : ℕ) × (rest : List ℕ) × BeginsWith IsCountLine bytes n rest ×
    Unless (IsCountInRange (length g.outputs) n) (¬ (IsCountInRange (length g.outputs) n)) (2, Range)
    (IsRefusedBlocks later IsLong n (without_cut g) 3 rest) p))

-- ---- version 3: a line with a number, and so many lines

-- one line, whose number this is, and what comes after it
abbrev pub IsRefusedListedLine : {X : Type 0} → Listing X → Later → (List ℕ → Type 0) → Later
IsRefusedListedLine {X} l later IsLong e number bytes = Unless (¬ (IsLong bytes)) (IsLong bytes) (number, TooLong)
    (λ q. (((x : X) (rest : List ℕ) → BeginsWith l.text bytes x rest → ⊥) × (q ≡ (number, Text))) ⊎
    ((x : X) × (rest : List ℕ) × BeginsWith l.text bytes x rest ×
    Unless (l.in_range e x) (¬ (l.in_range e x)) (number, Range) (later (l.more e x) (number + 1) rest) q))

-- so many lines
abbrev pub IsRefusedListedLines : {X : Type 0} → Listing X → Later → (List ℕ → Type 0) → ℕ → Later
IsRefusedListedLines l later IsLong zero = later
IsRefusedListedLines l later IsLong (suc n) = IsRefusedListedLine l (IsRefusedListedLines l later IsLong n) IsLong

-- the line with their number, and they
abbrev pub IsRefusedListing : {X : Type 0} → Listing X → Later → (List ℕ → Type 0) → Later
IsRefusedListing l later IsLong e number bytes = Unless (¬ (IsLong bytes)) (IsLong bytes) (number, TooLong)
    (λ q. (((n : ℕ) (rest : List ℕ) → BeginsWith l.number_text bytes n rest → ⊥) × (q ≡ (number, Text))) ⊎
    ((n : ℕ) × (rest : List ℕ) × BeginsWith l.number_text bytes n rest ×
    Unless (IsCountInRange (l.most e) n) (¬ (IsCountInRange (l.most e) n)) (number, Range) (IsRefusedListedLines l later IsLong n e (number + 1) rest) q))

-- after the first line: gates, and then outputs
abbrev pub IsRefusedBeside : Later → Aig → (List ℕ → Type 0) → List ℕ → ℕ × LineCause → Type 0
IsRefusedBeside later g IsLong = IsRefusedListing gate_listing (IsRefusedListing output_listing later IsLong) IsLong (without_cut g) 2

-- ---- the whole

-- the first line is one of no version
abbrev pub HasNoVersion : List ℕ → Type 0
HasNoVersion bytes =
    ((body : List ℕ) → bytes ≢ version_line ++ body) × ((body : List ℕ) → bytes ≢ second_line ++ body) × ((body : List ℕ) → bytes ≢ third_line ++ body)

-- The first refusal of a file: its line, from 1, and its cause.
abbrev pub IsFirstHeaderRefusal : Later → Aig → Lengths → List ℕ → ℕ × LineCause → Type 0
IsFirstHeaderRefusal later g lengths bytes =
    Unless (¬ (IsTooLong lengths (length bytes) bytes)) (IsTooLong lengths (length bytes) bytes) (1, TooLong)
    (λ p. (HasNoVersion bytes × (p ≡ (1, Text))) ⊎
    (((body : List ℕ) × (bytes ≡ version_line ++ body) × IsRefusedCut later g (IsTooLong lengths (length bytes)) body p) ⊎
    (((body : List ℕ) × (bytes ≡ second_line ++ body) × IsRefusedCount later g (IsTooLong lengths (length bytes)) body p) ⊎
    ((body : List ℕ) × (bytes ≡ third_line ++ body) × IsRefusedBeside later g (IsTooLong lengths (length bytes)) body p))))

-- nothing is refused after a header
abbrev pub nothing_later : Later
nothing_later e number bytes p = ⊥

-- The first refusal within the header.
abbrev pub IsClauseHeaderRefusal : Aig → Lengths → List ℕ → ℕ × LineCause → Type 0
IsClauseHeaderRefusal = IsFirstHeaderRefusal nothing_later
