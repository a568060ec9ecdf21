-- The header of a clause certificate that is read line by line: what passes, and why there is none.
use Rattle.std.specs.Prelude.{◌≡◌, ◌+◌, ◌⊎◌, ◌==◌, ℕ, List, [], ◌∷◌, ◌++◌, length, IfSome, if◌then◌else◌}
use Rattle.std.specs.declared.option.Option.{Option}
use Rattle.std.specs.declared.option.Option.TheVariants.{None, Some}
use Rattle.mv_desk.specs.View.{Rose}
use Rattle.mv_text.specs.declared.line_fail.LineFail.{LineFail}
use Rattle.mv_text.specs.declared.line_fail.LineFail.TheVariants as fail
use Rattle.graph_core.specs.Graph.{Aig}
use Rattle.graph_core.specs.Text.JudgedLines.{BeginsWith, Behind, IsTooLong, Lengths}
use Rattle.mv_text.specs.CertificateFiles.{FileState}
use Rattle.graph_core.specs.Graph.Extended.{Extended, without_cut}
use Rattle.ripple_graft.specs.declared.beside.Beside.{Beside}
use Rattle.ripple_graft.specs.declared.block.Block.{Block}
use Rattle.ripple_graft.specs.Beside.{nothing, with_gates}
use Rattle.ripple_graft.specs.Blocks.{graft_block}
use Rattle.ripple_graft.specs.declared.cut.Cut.{Cut}
use Rattle.drup_text.specs.declared.head.Header.{Header}
use Rattle.drup_text.specs.ClauseTexts.{IsBlockLine, IsCountLine, IsCutLine, IsPairLine}
use Rattle.drup_text.specs.HeaderRefusal.{LineCause, IsClauseHeaderRefusal, IsPairStep, Range, Text, TooLong}
use Rattle.drup_text.specs.Headers.{head_of, second_line, third_line, version_line}
use Rattle.drup_text.specs.Listings.{Listing, gate_listing, output_listing}
use Rattle.ripple_graft.specs.HeaderBlocks.{cut_blocks}
use Rattle.drup_text.specs.LineTexts.{IsCountInRange, IsCutSize, IsHeadOf}
use Rattle.drup_text.specs.declared.fault.StartFail.{StartFail}

-- Of lines none of which is long: the cut's line and its pairs, which the graph takes, and the bytes after them.
abbrev pub PassesCut : Aig → (List ℕ → Type 0) → List ℕ → Option Cut → List ℕ → Type 0
PassesCut g IsLong bytes None body = ¬ (IsLong bytes) × BeginsWith IsCutLine bytes None body
PassesCut g IsLong bytes (Some cut) body =
    (rest : List ℕ) × ¬ (IsLong bytes) × BeginsWith IsCutLine bytes (Some (cut.lo, length cut.pairs)) rest ×
    IsCutSize (length g.outputs) (cut.lo, length cut.pairs) ×
    Behind IsPairLine (IsPairStep (without_cut g)) IsLong (λ left after. (left ≡ 0) × (after ≡ body)) cut.pairs (length cut.pairs) rest

-- The same of a block's line and its pairs, which fit after the blocks so far; and of blocks one after the other.
abbrev pub PassesBlock : (List ℕ → Type 0) → Extended → List ℕ → Block → List ℕ → Type 0
PassesBlock IsLong e bytes b body =
    (rest : List ℕ) × ¬ (IsLong bytes) × BeginsWith IsBlockLine bytes (head_of b) rest × IsHeadOf e (head_of b) ×
    Behind IsPairLine (IsPairStep e) IsLong (λ left after. (left ≡ 0) × (after ≡ body)) b.cut.pairs (length b.cut.pairs) rest

abbrev pub PassBlocks : (List ℕ → Type 0) → Extended → List ℕ → List Block → List ℕ → Type 0
PassBlocks IsLong e bytes [] body = bytes ≡ body
PassBlocks IsLong e bytes (b ∷ blocks) body =
    (middle : List ℕ) × PassesBlock IsLong e bytes b middle × PassBlocks IsLong (graft_block e b) middle blocks body

-- the line with their number, and they
abbrev pub PassesCount : Aig → (List ℕ → Type 0) → List ℕ → List Block → List ℕ → Type 0
PassesCount g IsLong bytes blocks body =
    (rest : List ℕ) × ¬ (IsLong bytes) × BeginsWith IsCountLine bytes (length blocks) rest ×
    IsCountInRange (length g.outputs) (length blocks) × PassBlocks IsLong (without_cut g) rest blocks body

-- The same of listed lines, each in range over the graph with those before; and of the line with their number, and they.
abbrev pub PassListed : {X : Type 0} → Listing X → (List ℕ → Type 0) → Extended → List ℕ → List X → List ℕ → Type 0
PassListed l IsLong e bytes [] body = bytes ≡ body
PassListed l IsLong e bytes (x ∷ xs) body =
    (rest : List ℕ) × ¬ (IsLong bytes) × BeginsWith l.text bytes x rest × l.in_range e x × PassListed l IsLong (l.more e x) rest xs body

abbrev pub PassesListing : {X : Type 0} → Listing X → (List ℕ → Type 0) → Extended → List ℕ → List X → List ℕ → Type 0
PassesListing l IsLong e bytes xs body =
    (rest : List ℕ) × ¬ (IsLong bytes) × BeginsWith l.number_text bytes (length xs) rest × IsCountInRange (l.most e) (length xs) × PassListed l IsLong e rest xs body

-- gates, and then outputs of the graph with all of them
abbrev pub PassesParts : Aig → (List ℕ → Type 0) → List ℕ → Beside → List ℕ → Type 0
PassesParts g IsLong bytes b body =
    (middle : List ℕ) × PassesListing gate_listing IsLong (without_cut g) bytes b.gates middle ×
    PassesListing output_listing IsLong (with_gates (without_cut g) b.gates) middle b.outputs body

-- A file begins with the header of a cut, or of none, which the graph takes and no line of which is too long.
pub record PassesHeader (g : Aig) (lengths : Lengths) (bytes : List ℕ) (cut : Option Cut) (body : List ℕ) : Type 0 where
  pub rest : List ℕ
  pub short : ¬ (IsTooLong lengths (length bytes) bytes)
  pub version : bytes ≡ version_line ++ rest
  pub cut_passes : PassesCut g (IsTooLong lengths (length bytes)) rest cut body

-- A file begins with the header of some blocks, likewise.
pub record PassesBlocks (g : Aig) (lengths : Lengths) (bytes : List ℕ) (blocks : List Block) (body : List ℕ) : Type 0 where
  pub rest : List ℕ
  pub short : ¬ (IsTooLong lengths (length bytes) bytes)
  pub version : bytes ≡ second_line ++ rest
  pub blocks_pass : PassesCount g (IsTooLong lengths (length bytes)) rest blocks body

-- A file begins with the header of gates and outputs, likewise.
pub record PassesBeside (g : Aig) (lengths : Lengths) (bytes : List ℕ) (beside : Beside) (body : List ℕ) : Type 0 where
  pub rest : List ℕ
  pub short : ¬ (IsTooLong lengths (length bytes) bytes)
  pub version : bytes ≡ third_line ++ rest
  pub parts_pass : PassesParts g (IsTooLong lengths (length bytes)) rest beside body

-- a header of any version
abbrev pub PassesAnyHeader : Aig → Lengths → List ℕ → Header → List ℕ → Type 0
PassesAnyHeader g lengths bytes h body =
    ((h.version ≡ 1) × ((cut : Option Cut) × (h.blocks ≡ cut_blocks (length g.outputs) cut) × PassesHeader g lengths bytes cut body) × (h.beside ≡ nothing)) ⊎
    ((h.version ≡ 2) × PassesBlocks g lengths bytes h.blocks body × (h.beside ≡ nothing)) ⊎
    ((h.version ≡ 3) × PassesBeside g lengths bytes h.beside body × (h.blocks ≡ []))

-- So it does, and these bytes are left after it.
pub record HasClauseHeader (g : Aig) (new : FileState) (bytes : List ℕ) (after : Option (List ℕ)) (h : Header) : Type 0 where
  pub body : List ℕ
  pub passes : PassesAnyHeader g new.lines.lengths bytes h body
  pub left : after ≡ Some body
  pub taken : new.lines.taken + length body ≡ length bytes

-- how many lines some blocks have, where each has so many beside those of its pairs
abbrev pub block_lines : ℕ → List Block → ℕ
block_lines own [] = 0
block_lines own (b ∷ blocks) = own + length b.cut.pairs + block_lines own blocks

-- a block's own line: in version 1 that is the second one of the header
abbrev pub own_line : ℕ → ℕ
own_line version = if version == 2 then 1 else 0

-- how many lines gates and outputs have, with the one that has the number of outputs
abbrev pub beside_lines : ℕ → Beside → ℕ
beside_lines version b = if version == 3 then length b.gates + (1 + length b.outputs) else 0

-- how many lines a header of any version has
abbrev pub header_line_count : Header → ℕ
header_line_count h = 2 + block_lines (own_line h.version) h.blocks + beside_lines h.version h.beside

-- Why some of the lines of a header aren't had, where what is left has such first refusals: this one, a failed read, or out of memory.
abbrev pub IsCause : (List ℕ → ℕ × LineCause → Type 0) → Option (List ℕ) → ℕ → ℕ → ℕ → LineFail → Type 0
IsCause Refused left before now line fail.Text = IfSome left (λ bytes. Refused bytes (line, Text))
IsCause Refused left before now line fail.Range = IfSome left (λ bytes. Refused bytes (line, Range))
IsCause Refused left before now line fail.Fault = Rose before now
IsCause Refused left before now line fail.TooLong = IfSome left (λ bytes. Refused bytes (line, TooLong))
IsCause Refused left before now line fail.Memory = Unit {0}

-- Why a file has no header that the graph takes.
abbrev pub IsStartRefusal : Aig → Lengths → Option (List ℕ) → ℕ → ℕ → StartFail → Type 0
IsStartRefusal g lengths left before now f = IsCause (IsClauseHeaderRefusal g lengths) left before now f.line f.why
