-- What is written is read as the same.
use Rattle.std.specs.Prelude.{◌≡◌, ◌==◌, ◌<◌, ◌^◌, ℕ, zero, suc, ℤ, pos, negsuc, cond, List, [], ◌∷◌, ◌++◌, codes, decimal, length, get_or}
use Rattle.std.specs.Fmt.{signed_decimal}
use Rattle.std.specs.List.{All}
use Rattle.std.specs.declared.option.Option.{Option}
use Rattle.std.specs.declared.option.Option.TheVariants.{None, Some}
use Rattle.std.proofs.Common.{refl, sym, ap, subst, ◌∙◌, arith, append_assoc, inl, inr, ⊎_elim}
use Rattle.std.proofs.lemmas.Fmt.{first_decimal, length-decimal-le_wide}
use Rattle.std.proofs.lemmas.List.Elements.{All-head, All-tail}
use Rattle.mv_nums.proofs.Decimal.{shown_is_numeral}
use Rattle.graph_core.specs.declared.literal.Lit.{Lit}
use Rattle.graph_core.specs.Text.{IsNumeral, newline}
use Rattle.graph_core.specs.Text.JudgedLines.{BeginsWith}
use Rattle.graph_core.specs.Graph.Extended.{Extended, without_cut}
use Rattle.graph_core.specs.Graph.{Aig, IsBuilt}
use Rattle.ripple_graft.specs.declared.block.Block.{Block}
use Rattle.ripple_graft.specs.declared.cut.Cut.{Cut}
use Rattle.ripple_graft.specs.Beside.{IsBeside, nothing}
use Rattle.ripple_graft.specs.declared.beside.Beside.{Beside}
use Rattle.ripple_graft.specs.Blocks.{AreBlocks, block_of, graft_block}
use Rattle.ripple_graft.specs.Grafts.{IsGrafted}
use Rattle.ripple_graft.specs.HeaderBlocks.{IsCutOf, cut_blocks}
use Rattle.ripple_graft.proofs.BlockLists.{cut_is_block}
use Rattle.ripple_graft.proofs.GraftedGraphs.{blocks_few, grafted_more, grafted_none}
use Rattle.clause_core.specs.Clause.{Clause, IsLiteral}
use Rattle.clause_core.specs.ClauseLines.{ClauseLine}
use Rattle.clause_core.specs.declared.line.Line.TheVariants.{Add, Delete}
use Rattle.drup_text.specs.ClauseTexts.{AreLinesOf, IsClauseLine, IsClauseText, IsLiteralText, IsNumberLine, IsOutputLine, IsPairLine, IsVariableText}
use Rattle.drup_text.specs.declared.head.Header.{Header}
use Rattle.drup_text.specs.Headers.{AreBlockTexts, IsAnyHeaderText, IsBesideText, IsBlocksText, IsCutText, IsHeaderOf, second_line, third_line, version_line}
use Rattle.drup_text.specs.Listings.{IsListed, gate_listing}
use Rattle.drup_text.specs.LineTexts.{IsSameClauseLine}
use Rattle.drup_text.specs.WrittenLaws.{IsWritableLine, WrittenClausesAreRead, WrittenFilesAreRead}
use Rattle.drup_text.specs.WrittenTexts.{beside_text, block_head_text, block_text, blocks_text, clause_line_text, clause_lines_text, clause_text, count_text, cut_text, first_cut, gates_text, header_text, output_lines_text, outputs_text, pairs_text, two_text}
use Rattle.drup_text.proofs.Writable.{IsOutputWord, IsWord, beside_is_writable, block_is_writable}

-- ---- numbers

numeral : (n : ℕ) → n < 2 ^ 32 → IsNumeral 10 (decimal n) n
numeral n small =
    let shown = shown_is_numeral n (decimal n) (omega arith) refl in
    record { some = shown.spells.some; few = length-decimal-le_wide 10 n (omega arith) (omega arith) (omega arith); digits = shown.spells.digits; number = shown.spells.spelled }

variable_written : (v : ℕ) → 0 < v → v < 2 ^ 32 → IsVariableText (decimal v) v
variable_written v some small = (numeral v small, λ e. let first : 48 < get_or (decimal v) 0 0 = first_decimal v some (omega arith) in let same : get_or (decimal v) 0 0 ≡ 48 = e in absurd (omega arith))

-- ---- clauses

literal_written : (l : ℤ) → IsLiteral l → IsLiteralText (signed_decimal l) l
literal_written (pos zero) h = absurd (h.0 refl)
literal_written (pos (suc v)) h = let low = h.1 in variable_written (suc v) (omega arith) (omega arith)
literal_written (negsuc v) h = let low = h.1 in (decimal (suc v), variable_written (suc v) (omega arith) (omega arith), refl)

clause_written : (c : Clause) → All IsLiteral c → IsClauseText (clause_text c) c
clause_written [] h = refl
clause_written (l ∷ ls) h = (signed_decimal l, clause_text ls, literal_written l (All-head IsLiteral l ls h), clause_written ls (All-tail IsLiteral l ls h), refl)

line_written : (x : ClauseLine) → IsWritableLine x → IsClauseLine (clause_line_text x) x
line_written (Add c) h = clause_written c h
line_written (Delete c) h = (clause_text c, clause_written c h, refl)

line_same : (x : ClauseLine) → IsSameClauseLine x x
line_same (Add c) = (λ l h. h, λ l h. h)
line_same (Delete c) = (λ l h. h, λ l h. h)

pub written_lines_are_read : WrittenClausesAreRead
written_lines_are_read max line writable range = (line, line_written line writable, range, line_same line)

pub lines_written : (lines : List ClauseLine) → All IsWritableLine lines → AreLinesOf IsClauseLine (clause_lines_text lines) lines []
lines_written [] h = refl
lines_written (x ∷ xs) h = (clause_lines_text xs, (clause_line_text x, line_written x (All-head IsWritableLine x xs h), refl), lines_written xs (All-tail IsWritableLine x xs h))

-- ---- headers

pairs_written : (pairs : List (Lit × Lit)) (after : List ℕ) → All IsWord pairs → AreLinesOf IsPairLine (pairs_text pairs ++ after) pairs after
pairs_written [] after h = refl
pairs_written (p ∷ pairs) after h =
    let here = All-head IsWord p pairs h in (
      pairs_text pairs ++ after,
      (two_text p.0.0 p.1.0, (decimal p.0.0, decimal p.1.0, numeral p.0.0 here.0, numeral p.1.0 here.1, refl), append_assoc (two_text p.0.0 p.1.0) (newline ∷ pairs_text pairs) after),
      pairs_written pairs after (All-tail IsWord p pairs h),
    )

cut_written : (g : Aig) (cut : Option Cut) (after : List ℕ) → IsBuilt g → IsCutOf g cut → IsCutText (cut_text cut ++ after) cut after
cut_written g None after built takes = (codes "none", refl, refl)
cut_written g (Some cut) after built takes =
    let w = block_is_writable g (without_cut g) (block_of (length g.outputs) cut) built (grafted_none g) (cut_is_block g cut takes) in (
      pairs_text cut.pairs ++ after,
      (
        codes "replace " ++ two_text cut.lo (length cut.pairs),
        (decimal cut.lo, decimal (length cut.pairs), numeral cut.lo w.lo, numeral (length cut.pairs) w.count, refl),
        append_assoc (codes "replace " ++ two_text cut.lo (length cut.pairs)) (newline ∷ pairs_text cut.pairs) after,
      ),
      pairs_written cut.pairs after w.pairs,
    )

blocks_written : (g : Aig) (e : Extended) (blocks : List Block) (after : List ℕ) → IsBuilt g → IsGrafted g e → AreBlocks e blocks → AreBlockTexts (blocks_text blocks ++ after) blocks after
blocks_written g e [] after built made fit = refl
blocks_written g e (b ∷ blocks) after built made fit =
    let w = block_is_writable g e b built made fit.0 in (
      pairs_text b.cut.pairs ++ (blocks_text blocks ++ after),
      blocks_text blocks ++ after,
      (
        block_head_text b,
        (decimal b.cut.lo, decimal (length b.cut.pairs), numeral b.cut.lo w.lo, numeral (length b.cut.pairs) w.count, refl),
        append_assoc (block_text b) (blocks_text blocks) after ∙ append_assoc (block_head_text b) (newline ∷ pairs_text b.cut.pairs) (blocks_text blocks ++ after),
      ),
      pairs_written b.cut.pairs (blocks_text blocks ++ after) w.pairs,
      blocks_written g (graft_block e b) blocks after built (grafted_more g e b made fit.0) fit.1,
    )

count_written : (g : Aig) (blocks : List Block) (after : List ℕ) → IsBuilt g → AreBlocks (without_cut g) blocks → IsBlocksText (count_text blocks ++ after) blocks after
count_written g blocks after built fit =
    let few = blocks_few g blocks built fit in (
      blocks_text blocks ++ after,
      (codes "cuts " ++ decimal (length blocks), (decimal (length blocks), numeral (length blocks) (omega arith), refl), append_assoc (codes "cuts " ++ decimal (length blocks)) (newline ∷ blocks_text blocks) after),
      blocks_written g (without_cut g) blocks after built (grafted_none g) fit,
    )

outputs_written : (outputs : List (ℕ × Lit)) (after : List ℕ) → All IsOutputWord outputs → AreLinesOf IsOutputLine (output_lines_text outputs ++ after) outputs after
outputs_written [] after h = refl
outputs_written (c ∷ outputs) after h =
    let here = All-head IsOutputWord c outputs h in (
      output_lines_text outputs ++ after,
      (two_text c.0 c.1.0, (decimal c.0, decimal c.1.0, numeral c.0 here.0, numeral c.1.0 here.1, refl), append_assoc (two_text c.0 c.1.0) (newline ∷ output_lines_text outputs) after),
      outputs_written outputs after (All-tail IsOutputWord c outputs h),
    )

number_written : (word : List ℕ) (n : ℕ) (lines after : List ℕ) → n < 2 ^ 32 → BeginsWith (IsNumberLine word) ((word ++ decimal n ++ newline ∷ lines) ++ after) n (lines ++ after)
number_written word n lines after small = (word ++ decimal n, (decimal n, numeral n small, refl), append_assoc (word ++ decimal n) (newline ∷ lines) after)

beside_written : (g : Aig) (b : Beside) (after : List ℕ) → IsBuilt g → IsBeside g b → IsBesideText (beside_text b ++ after) b after
beside_written g b after built fits =
    let w = beside_is_writable g built b fits in
    let rest = outputs_text b.outputs ++ after in (
      rest,
      subst (λ z. IsListed gate_listing z b.gates rest) (sym (append_assoc (gates_text b.gates) (outputs_text b.outputs) after))
          (pairs_text b.gates ++ rest, number_written (codes "gates ") (length b.gates) (pairs_text b.gates) rest w.gate_count, pairs_written b.gates rest w.gates),
      (output_lines_text b.outputs ++ after, number_written (codes "replace ") (length b.outputs) (output_lines_text b.outputs) after w.output_count, outputs_written b.outputs after w.outputs),
    )

first_of : (outputs : ℕ) (cut : Option Cut) → first_cut (cut_blocks outputs cut) ≡ cut
first_of outputs None = refl
first_of outputs (Some cut) = refl

pub header_written : (g : Aig) (h : Header) (after : List ℕ) → IsBuilt g → IsHeaderOf g h → IsAnyHeaderText (length g.outputs) (header_text h ++ after) h after
header_written g h after built takes = ⊎_elim (λ k. ⊎_elim (λ a. one a.0 a.1.0 a.1.1 a.1.2 k.1) (λ b. two b.0 b.2 k.1) k.0) (λ k. three k.0 k.1 k.2) takes
  where
    text : (version : ℕ) → h.version ≡ version →
        header_text h ≡ cond (version == 3) (third_line ++ beside_text h.beside) (cond (version == 2) (second_line ++ count_text h.blocks) (version_line ++ cut_text (first_cut h.blocks)))
    text version is = ap (λ v. cond (v == 3) (third_line ++ beside_text h.beside) (cond (v == 2) (second_line ++ count_text h.blocks) (version_line ++ cut_text (first_cut h.blocks)))) is

    one : h.version ≡ 1 → (cut : Option Cut) → h.blocks ≡ cut_blocks (length g.outputs) cut → IsCutOf g cut → h.beside ≡ nothing → IsAnyHeaderText (length g.outputs) (header_text h ++ after) h after
    one is cut blocks fits alone =
        let whole : header_text h ≡ version_line ++ cut_text cut =
        text 1 is ∙ ap (λ bs. version_line ++ cut_text (first_cut bs)) blocks ∙ ap (λ c. version_line ++ cut_text c) (first_of (length g.outputs) cut) in
        inl (is, (cut, blocks, (cut_text cut ++ after, cut_written g cut after built fits, ap (λ z. z ++ after) whole ∙ append_assoc version_line (cut_text cut) after)), alone)

    two : h.version ≡ 2 → AreBlocks (without_cut g) h.blocks → h.beside ≡ nothing → IsAnyHeaderText (length g.outputs) (header_text h ++ after) h after
    two is fit alone =
        inr (inl (is, (count_text h.blocks ++ after, count_written g h.blocks after built fit, ap (λ z. z ++ after) (text 2 is) ∙ append_assoc second_line (count_text h.blocks) after), alone))

    three : h.version ≡ 3 → h.blocks ≡ [] → IsBeside g h.beside → IsAnyHeaderText (length g.outputs) (header_text h ++ after) h after
    three is none fits =
        inr (inr (is, (beside_text h.beside ++ after, beside_written g h.beside after built fits, ap (λ z. z ++ after) (text 3 is) ∙ append_assoc third_line (beside_text h.beside) after), none))

pub written_files_are_read : WrittenFilesAreRead
written_files_are_read g h lines built takes all = (clause_lines_text lines, header_written g h (clause_lines_text lines) built takes, lines_written lines all)
