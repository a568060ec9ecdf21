-- The parts of a header, as they are read over what is left of a file: a line, or lines one after the other.
use Rattle.std.specs.Prelude.{◌≡◌, ◌⊎◌, ◌+◌, ℕ, false, List, [], length, Result, IfErr, IfOk, IfSome, OnOk}
use Rattle.std.specs.Global.{Global}
use Rattle.std.specs.declared.option.Option.{Option}
use Rattle.std.specs.declared.option.Option.TheVariants.{None, Some}
use Rattle.std.specs.declared.vec.Vec.{Vec}
use Rattle.graph_core.specs.declared.literal.Lit.{Lit}
use Rattle.graph_core.specs.Graph.{Aig}
use Rattle.graph_core.specs.Graph.Extended.{Extended}
use Rattle.graph_core.specs.Text.JudgedLines.{BeginsWith, Behind, IsTooLong, Unless}
use Rattle.mv_desk.specs.View.{View}
use Rattle.mv_desk.specs.declared.slot.Slot.TheVariants.{Clauses}
use Rattle.mv_text.specs.CertificateFiles.{BeginsOutOfRange, BeginsWithNone, FileState, left_of_file}
use Rattle.mv_text.specs.LineReading.{Lines}
use Rattle.mv_text.specs.declared.line_fail.LineFail.{LineFail}
use Rattle.ripple_graft.specs.declared.beside.Beside.{Beside}
use Rattle.ripple_graft.specs.declared.block.Block.{Block}
use Rattle.ripple_graft.specs.Beside.{nothing}
use Rattle.ripple_graft.specs.declared.cut.Cut.{Cut}
use Rattle.ripple_graft.specs.HeaderBlocks.{cut_blocks}
use Rattle.drup_text.specs.declared.head.Header.{Header}
use Rattle.drup_text.specs.ClauseTexts.{IsPairLine}
use Rattle.drup_text.specs.Listings.{Listing}
use Rattle.drup_text.specs.PassingHeaders.{IsCause, PassBlocks, PassListed, PassesBlock, PassesCount, PassesCut, PassesListing, PassesParts, beside_lines, block_lines, own_line}
use Rattle.drup_text.specs.HeaderRefusal.{IsPairStep, IsRefusedBeside, IsRefusedBlock, IsRefusedBlocks, IsRefusedCount, IsRefusedCut, IsRefusedListedLines, IsRefusedListing, IsRefusedPairs, LineCause, Range, Text, TooLong, nothing_later}

-- of a file of which these bytes are left, those that some bytes begin a line that is too long
abbrev pub IsLongIn : Lines → List ℕ → List ℕ → Type 0
IsLongIn lines left = IsTooLong lines.lengths (lines.taken + length left)

-- A part of a header, given which lines are long: what passes, of these bytes, and the bytes after it; the first refusals in it, where its
-- first line has this number; and how many lines it has.
pub record HeaderPart (X : Type 0) : Type 1 where
  pub passes : (List ℕ → Type 0) → List ℕ → X → List ℕ → Type 0
  pub refused : (List ℕ → Type 0) → ℕ → List ℕ → ℕ × LineCause → Type 0
  pub lines : X → ℕ

-- What is left begins with a part that passes, and these bytes are after it.
pub record TakesHeaderPart {X : Type 0} (part : HeaderPart X) (old new : Lines) (left : List ℕ) (after : Option (List ℕ)) (x : X) : Type 0 where
  pub body : List ℕ
  pub passes : part.passes (IsLongIn old left) left x body
  pub left_is : after ≡ Some body
  pub taken : new.taken + length body ≡ old.taken + length left

-- A part is read, or its first refusal is in the last line that was counted.
pub record ReadsHeaderPart {X : Type 0} (part : HeaderPart X) (old new : FileState) (before now : View) (result : Result X LineFail) : Type 0 where
  pub value : IfOk result (λ x. IfSome (left_of_file Clauses old before)
      (λ left. TakesHeaderPart part old.lines new.lines left (left_of_file Clauses new now) x))
  pub refused : IfErr result (IsCause (λ bytes. part.refused (IsLongIn old.lines bytes) (old.number + 1) bytes)
      (left_of_file Clauses old before) before.read_faults now.read_faults new.number)
  pub number : IfOk result (λ x. new.number ≡ old.number + part.lines x)
  pub ended : OnOk result (new.ended ≡ false)

-- a line
abbrev pub line_part : {X : Type 0} → (List ℕ → X → Type 0) → (X → Type 0) → HeaderPart X
line_part IsText InRange = record {
  passes = λ IsLong bytes x rest. ¬ (IsLong bytes) × BeginsWith IsText bytes x rest × InRange x;
  refused = λ IsLong number bytes. Unless (¬ (IsLong bytes)) (IsLong bytes) (number, TooLong)
      (λ p. (BeginsWithNone IsText bytes × (p ≡ (number, Text))) ⊎ (BeginsOutOfRange IsText InRange bytes × (p ≡ (number, Range))));
  lines = λ x. 1;
}

-- so many pairs, whatever graph they make
abbrev pub pairs_part : Extended → ℕ → HeaderPart (Vec (Lit × Lit) Global)
pairs_part e count = record {
  passes = λ IsLong bytes pairs body. Behind IsPairLine (IsPairStep e) IsLong (λ n rest. (n ≡ 0) × (rest ≡ body)) pairs.items count bytes;
  refused = λ IsLong number bytes p. (made : List (Lit × Lit) → Extended) → IsRefusedPairs nothing_later made e IsLong number count bytes p;
  lines = λ pairs. length pairs.items;
}

-- ---- version 1

-- the cut's line, and one for each pair
abbrev pub cut_lines : Option Cut → ℕ
cut_lines None = 1
cut_lines (Some cut) = 1 + length cut.pairs

abbrev pub cut_part : Aig → HeaderPart (Option Cut)
cut_part g = record { passes = PassesCut g; refused = λ IsLong number. IsRefusedCut nothing_later g IsLong; lines = cut_lines }

-- ---- version 2

-- a block, blocks, and blocks after their number
abbrev pub block_part : Extended → HeaderPart Block
block_part e = record {
  passes = λ IsLong. PassesBlock IsLong e;
  refused = λ IsLong. IsRefusedBlock nothing_later IsLong e;
  lines = λ b. 1 + length b.cut.pairs;
}

abbrev pub blocks_part : Extended → ℕ → HeaderPart (Vec Block Global)
blocks_part e count = record {
  passes = λ IsLong bytes blocks. PassBlocks IsLong e bytes blocks.items;
  refused = λ IsLong. IsRefusedBlocks nothing_later IsLong count e;
  lines = λ blocks. block_lines 1 blocks.items;
}

abbrev pub count_part : Aig → HeaderPart (Vec Block Global)
count_part g = record {
  passes = λ IsLong bytes blocks. PassesCount g IsLong bytes blocks.items;
  refused = λ IsLong number. IsRefusedCount nothing_later g IsLong;
  lines = λ blocks. 1 + block_lines 1 blocks.items;
}

-- ---- version 3

-- listed lines, and the line with their number and they; with them comes the graph that they make
abbrev pub listed_part : {X : Type 0} → Listing X → Extended → ℕ → HeaderPart (Extended × Vec X Global)
listed_part l e count = record {
  passes = λ IsLong bytes made. PassListed l IsLong e bytes made.1.items;
  refused = λ IsLong. IsRefusedListedLines l nothing_later IsLong count e;
  lines = λ made. length made.1.items;
}

abbrev pub listing_part : {X : Type 0} → Listing X → Extended → HeaderPart (Extended × Vec X Global)
listing_part l e = record {
  passes = λ IsLong bytes made. PassesListing l IsLong e bytes made.1.items;
  refused = λ IsLong. IsRefusedListing l nothing_later IsLong e;
  lines = λ made. 1 + length made.1.items;
}

-- gates, and then outputs
abbrev pub beside_part : Aig → HeaderPart Beside
beside_part g = record {
  passes = PassesParts g;
  refused = λ IsLong number. IsRefusedBeside nothing_later g IsLong;
  lines = λ b. 1 + (length b.gates + (1 + length b.outputs));
}

-- ---- all of them

-- what stands after the line of a version, where nothing stands beside
abbrev pub blocks_version_part : Aig → ℕ → HeaderPart (Vec Block Global)
blocks_version_part g version = record {
  passes = λ IsLong bytes blocks body.
      ((version ≡ 1) × ((cut : Option Cut) × (blocks.items ≡ cut_blocks (length g.outputs) cut) × PassesCut g IsLong bytes cut body)) ⊎
      ((version ≡ 2) × PassesCount g IsLong bytes blocks.items body);
  refused = λ IsLong number bytes p.
      ((version ≡ 1) × IsRefusedCut nothing_later g IsLong bytes p) ⊎ ((version ≡ 2) × IsRefusedCount nothing_later g IsLong bytes p);
  lines = λ blocks. 1 + block_lines (own_line version) blocks.items;
}

-- and where something does
abbrev pub version_part : Aig → ℕ → HeaderPart Header
version_part g version = record {
  passes = λ IsLong bytes h body.
      ((version ≡ 1) × ((cut : Option Cut) × (h.blocks ≡ cut_blocks (length g.outputs) cut) × PassesCut g IsLong bytes cut body) × (h.beside ≡ nothing)) ⊎
      ((version ≡ 2) × PassesCount g IsLong bytes h.blocks body × (h.beside ≡ nothing)) ⊎
      ((version ≡ 3) × PassesParts g IsLong bytes h.beside body × (h.blocks ≡ []));
  refused = λ IsLong number bytes p.
      ((version ≡ 1) × IsRefusedCut nothing_later g IsLong bytes p) ⊎ ((version ≡ 2) × IsRefusedCount nothing_later g IsLong bytes p) ⊎
      ((version ≡ 3) × IsRefusedBeside nothing_later g IsLong bytes p);
  lines = λ h. 1 + block_lines (own_line version) h.blocks + beside_lines version h.beside;
}
