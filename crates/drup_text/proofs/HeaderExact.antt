-- A header within the lengths passes over a graph that takes it, and one that passes has no refusal.
use Rattle.std.specs.Prelude.{◌≡◌, ◌≤◌, ℕ, zero, suc, ◌+◌, Bool, List, [], ◌∷◌, ◌++◌, codes, length}
use Rattle.std.specs.List.{All}
use Rattle.std.specs.declared.option.Option.{Option}
use Rattle.std.specs.declared.option.Option.TheVariants.{None, Some}
use Rattle.std.proofs.Common.{refl, sym, ap, ap₂, subst, ◌∙◌, arith, inl, inr, ⊎_elim}
use Rattle.std.proofs.lemmas.List.Elements.{All-head, All-tail}
use Rattle.graph_core.specs.declared.literal.Lit.{Lit}
use Rattle.graph_core.specs.Graph.Extended.{Extended, without_cut}
use Rattle.graph_core.specs.Graph.{Aig}
use Rattle.graph_core.specs.Text.JudgedLines.{BeginsWith, Behind, IsTooLong, Lengths}
use Rattle.graph_core.proofs.OfTexts.CallerLemmas.{ShortFrom, short_rest, start_here, within_short}
use Rattle.ripple_graft.specs.declared.block.Block.{Block}
use Rattle.ripple_graft.specs.declared.cut.Cut.{Cut}
use Rattle.ripple_graft.specs.Beside.{AreGates, AreOutputs, IsBeside, with_gates, with_outputs}
use Rattle.ripple_graft.specs.declared.beside.Beside.{Beside}
use Rattle.ripple_graft.specs.Blocks.{AreBlocks, graft_all, graft_block, with_blocks}
use Rattle.ripple_graft.specs.HeaderBlocks.{IsCutOf, cut_blocks}
use Rattle.drup_text.specs.declared.head.Header.{Header}
use Rattle.drup_text.specs.ClauseTexts.{AreLinesOf, IsPairLine}
use Rattle.drup_text.specs.PassingHeaders.{PassBlocks, PassListed, PassesAnyHeader, PassesBeside, PassesBlock, PassesBlocks, PassesCount, PassesCut, PassesHeader, PassesListing, PassesParts}
use Rattle.drup_text.specs.HeaderRefusal.{Later, LineCause, IsClauseHeaderRefusal, IsPairStep, IsRefusedBehindCut, IsRefusedBehindPairs, IsRefusedBeside, IsRefusedBlock, IsRefusedBlocks, IsRefusedCount, IsRefusedCut, IsRefusedListedLines, IsRefusedListing, IsRefusedPair, IsRefusedPairs, cut_at, block_at, nothing_later}
use Rattle.drup_text.specs.Headers.{AreBlockTexts, IsAnyHeaderText, IsBesideText, IsBlocksText, IsClauseHeaderText, IsCutText, IsHeaderOf, head_of, second_line, third_line}
use Rattle.drup_text.specs.Listings.{IsListed, Listing, gate_listing, output_listing}
use Rattle.drup_text.specs.LineTexts.{IsCountInRange, IsCutSize, IsHeadOf, IsPairOf}
use Rattle.drup_text.specs.WrittenLaws.{PassingHeadersAreNotRefused, WrittenHeadersPass}
use Rattle.drup_text.specs.WrittenTexts.{any_file_text, clause_lines_text}
use Rattle.drup_text.proofs.OneFile.{AreLinesOne, first_or_third, gates_are_one, other_version, outputs_are_one, same_body, same_count, same_head, same_pair, same_size, second_body, second_or_third, third_body}
use Rattle.drup_text.proofs.ListedSteps.{with_all}
use Rattle.drup_text.proofs.OutputColumns.{outputs_few}
use Rattle.drup_text.proofs.WrittenAgain.{header_written}

-- ---- what passes

module _ (IsLong : List ℕ → Type 0) where
  pairs_pass : (e : Extended) (body : List ℕ) (pairs : List (Lit × Lit)) (bytes : List ℕ) → ShortFrom IsLong bytes → AreLinesOf IsPairLine bytes pairs body → All (IsPairOf e) pairs →
      Behind IsPairLine (IsPairStep e) IsLong (λ n left. (n ≡ 0) × (left ≡ body)) pairs (length pairs) bytes
  pairs_pass e body [] bytes short h known = (refl, h)
  pairs_pass e body (p ∷ pairs) bytes short h known = (
    h.0,
    length pairs,
    short bytes (start_here bytes),
    h.1,
    (All-head (IsPairOf e) p pairs known, refl),
    pairs_pass e body pairs h.0 (short_rest IsLong bytes h.1.0 h.0 h.1.2 short) h.2 (All-tail (IsPairOf e) p pairs known),
  )

  -- what is short is so after lines
  behind_short : (pairs : List (Lit × Lit)) (bytes after : List ℕ) → ShortFrom IsLong bytes → AreLinesOf IsPairLine bytes pairs after → ShortFrom IsLong after
  behind_short [] bytes after short h = subst (ShortFrom IsLong) h short
  behind_short (p ∷ pairs) bytes after short h = behind_short pairs h.0 after (short_rest IsLong bytes h.1.0 h.0 h.1.2 short) h.2

  cut_passes : (g : Aig) (cut : Option Cut) (bytes body : List ℕ) → ShortFrom IsLong bytes → IsCutText bytes cut body → IsCutOf g cut → PassesCut g IsLong bytes cut body
  cut_passes g None bytes body short h takes = (short bytes (start_here bytes), h)
  cut_passes g (Some cut) bytes body short h takes =
      (h.0, short bytes (start_here bytes), h.1, (takes.some, takes.columns), pairs_pass (without_cut g) body cut.pairs h.0 (short_rest IsLong bytes h.1.0 h.0 h.1.2 short) h.2 takes.known)

  blocks_pass : (e : Extended) (blocks : List Block) (bytes body : List ℕ) → ShortFrom IsLong bytes → AreBlockTexts bytes blocks body → AreBlocks e blocks → PassBlocks IsLong e bytes blocks body
  blocks_pass e [] bytes body short h fit = h
  blocks_pass e (b ∷ blocks) bytes body short h fit =
      let rest = short_rest IsLong bytes h.2.0 h.0 h.2.2 short in
      let room : IsHeadOf e (head_of b) = record { some = fit.0.some; within = fit.0.within; apart = fit.0.apart } in (
        h.1,
        (h.0, short bytes (start_here bytes), h.2, room, pairs_pass e h.1 b.cut.pairs h.0 rest h.3 fit.0.known),
        blocks_pass (graft_block e b) blocks h.1 body (behind_short b.cut.pairs h.0 h.1 rest h.3) h.4 fit.1,
      )

  count_passes : (g : Aig) (blocks : List Block) (bytes body : List ℕ) → ShortFrom IsLong bytes → IsBlocksText bytes blocks body → length blocks ≤ length g.outputs → AreBlocks (without_cut g) blocks → PassesCount g IsLong bytes blocks body
  count_passes g blocks bytes body short h few fit =
      (h.0, short bytes (start_here bytes), h.1, few, blocks_pass (without_cut g) blocks h.0 body (short_rest IsLong bytes h.1.0 h.0 h.1.2 short) h.2 fit)

  -- listed lines
  module _ {X : Type 0} (l : Listing X) (Fit : Extended → List X → Type 0) (first : (e : Extended) (x : X) (xs : List X) → Fit e (x ∷ xs) → l.in_range e x × Fit (l.more e x) xs) where
    listed_pass : (e : Extended) (xs : List X) (bytes body : List ℕ) → ShortFrom IsLong bytes → AreLinesOf l.text bytes xs body → Fit e xs → PassListed l IsLong e bytes xs body
    listed_pass e [] bytes body short h fit = h
    listed_pass e (x ∷ xs) bytes body short h fit =
        let k = first e x xs fit in
        (h.0, short bytes (start_here bytes), h.1, k.0, listed_pass (l.more e x) xs h.0 body (short_rest IsLong bytes h.1.0 h.0 h.1.2 short) h.2 k.1)

    listing_passes : (e : Extended) (xs : List X) (bytes body : List ℕ) → ShortFrom IsLong bytes → IsListed l bytes xs body → length xs ≤ l.most e → Fit e xs → PassesListing l IsLong e bytes xs body
    listing_passes e xs bytes body short h few fit =
        (h.0, short bytes (start_here bytes), h.1, few, listed_pass e xs h.0 body (short_rest IsLong bytes h.1.0 h.0 h.1.2 short) h.2 fit)

    -- what is short is so after them
    listed_short : (xs : List X) (bytes after : List ℕ) → ShortFrom IsLong bytes → AreLinesOf l.text bytes xs after → ShortFrom IsLong after
    listed_short [] bytes after short h = subst (ShortFrom IsLong) h short
    listed_short (x ∷ xs) bytes after short h = listed_short xs h.0 after (short_rest IsLong bytes h.1.0 h.0 h.1.2 short) h.2

    listing_short : (xs : List X) (bytes after : List ℕ) → ShortFrom IsLong bytes → IsListed l bytes xs after → ShortFrom IsLong after
    listing_short xs bytes after short h = listed_short xs h.0 after (short_rest IsLong bytes h.1.0 h.0 h.1.2 short) h.2

  parts_pass : (g : Aig) (b : Beside) (bytes body : List ℕ) → ShortFrom IsLong bytes → IsBesideText bytes b body → IsBeside g b → PassesParts g IsLong bytes b body
  parts_pass g b bytes body short h fits =
      let e = with_gates (without_cut g) b.gates in (
        h.0,
        listing_passes gate_listing AreGates (λ x p ps k. (k.0, k.1)) (without_cut g) b.gates bytes h.0 short h.1 fits.few fits.gates,
        listing_passes output_listing AreOutputs (λ x c cs k. (k.0, k.1)) e b.outputs h.0 body (listing_short gate_listing AreGates (λ x p ps k. (k.0, k.1)) b.gates bytes h.0 short h.1) h.2 (outputs_few e b.outputs fits.outputs) fits.outputs,
      )

-- no blocks are those of two cuts
one_cut : (outputs : ℕ) (c d : Option Cut) → cut_blocks outputs c ≡ cut_blocks outputs d → c ≡ d
one_cut outputs None None e = refl
one_cut outputs None (Some d) e = absurd (cc)
one_cut outputs (Some c) None e = absurd (cc)
one_cut outputs (Some c) (Some d) e = ap cut_in e
  where
    cut_in : List Block → Option Cut
    cut_in [] = None
    cut_in (b ∷ blocks) = Some b.cut

pub header_passes : (g : Aig) (lengths : Lengths) (bytes : List ℕ) (h : Header) (body : List ℕ) → IsHeaderOf g h → IsAnyHeaderText (length g.outputs) bytes h body → ShortFrom (IsTooLong lengths (length bytes)) bytes → PassesAnyHeader g lengths bytes h body
header_passes g lengths bytes h body takes text short =
    ⊎_elim (λ t. inl (t.0, (t.1.0, t.1.1, first t.1.0 t.1.2 (of_cut t.0 t.1.0 t.1.1)), t.2))
    (λ o. ⊎_elim (λ t. inr (inl (t.0, second t.1.0 t.1.1 t.1.2 (of_blocks t.0), t.2))) (λ t. inr (inr (t.0, third t.1.0 t.1.1 t.1.2 (of_beside t.0), t.2))) o) text
  where
    differ : (m n : ℕ) → h.version ≡ m → h.version ≡ n → ¬ (m ≡ n) → ⊥
    differ m n e f other = other (sym e ∙ f)

    of_cut : h.version ≡ 1 → (cut : Option Cut) → h.blocks ≡ cut_blocks (length g.outputs) cut → IsCutOf g cut
    of_cut one cut blocks =
        ⊎_elim (λ k. ⊎_elim (λ a. subst (IsCutOf g) (one_cut (length g.outputs) a.1.0 cut (sym a.1.1 ∙ blocks)) a.1.2) (λ b. absurd (differ 1 2 one b.0 (λ e. omega (arith, e)))) k.0)
        (λ k. absurd (differ 1 3 one k.0 (λ e. omega (arith, e)))) takes

    of_blocks : h.version ≡ 2 → (length h.blocks ≤ length g.outputs) × AreBlocks (without_cut g) h.blocks
    of_blocks two =
        ⊎_elim (λ k. ⊎_elim (λ a. absurd (differ 2 1 two a.0 (λ e. omega (arith, e)))) (λ b. (b.1, b.2)) k.0)
        (λ k. absurd (differ 2 3 two k.0 (λ e. omega (arith, e)))) takes

    of_beside : h.version ≡ 3 → IsBeside g h.beside
    of_beside three =
        ⊎_elim (λ k. ⊎_elim (λ a. absurd (differ 3 1 three a.0 (λ e. omega (arith, e)))) (λ b. absurd (differ 3 2 three b.0 (λ e. omega (arith, e)))) k.0) (λ k. k.2) takes

    first : (cut : Option Cut) → IsClauseHeaderText bytes cut body → IsCutOf g cut → PassesHeader g lengths bytes cut body
    first cut t fits = record {
      rest = t.0;
      short = short bytes (start_here bytes);
      version = t.2;
      cut_passes = cut_passes (IsTooLong lengths (length bytes)) g cut t.0 body (short_rest (IsTooLong lengths (length bytes)) bytes (codes "joined 1") t.0 t.2 short) t.1 fits;
    }

    second : (rest : List ℕ) → IsBlocksText rest h.blocks body → bytes ≡ second_line ++ rest → (length h.blocks ≤ length g.outputs) × AreBlocks (without_cut g) h.blocks → PassesBlocks g lengths bytes h.blocks body
    second rest t is fits = record {
      rest = rest;
      short = short bytes (start_here bytes);
      version = is;
      blocks_pass = count_passes (IsTooLong lengths (length bytes)) g h.blocks rest body (short_rest (IsTooLong lengths (length bytes)) bytes (codes "joined 2") rest is short) t fits.0 fits.1;
    }

    third : (rest : List ℕ) → IsBesideText rest h.beside body → bytes ≡ third_line ++ rest → IsBeside g h.beside → PassesBeside g lengths bytes h.beside body
    third rest t is fits = record {
      rest = rest;
      short = short bytes (start_here bytes);
      version = is;
      parts_pass = parts_pass (IsTooLong lengths (length bytes)) g h.beside rest body (short_rest (IsTooLong lengths (length bytes)) bytes (codes "joined 3") rest is short) t fits;
    }

pub written_headers_pass : WrittenHeadersPass
written_headers_pass g lengths h lines built takes within =
    header_passes g lengths (any_file_text h lines) h (clause_lines_text lines) takes (header_written g h (clause_lines_text lines) built takes) (within_short lengths (any_file_text h lines) within)

-- ---- what passes isn't refused

-- something is refused later
abbrev IsLater : Later → Extended → List ℕ → ℕ × LineCause → Type 0
IsLater later e body p = (n : ℕ) × later e n body p

module _ (IsLong : List ℕ → Type 0) (p : ℕ × LineCause) where
  pair_not_refused : (e : Extended) (bytes rest : List ℕ) (x : Lit × Lit) (c : LineCause) → ¬ (IsLong bytes) → BeginsWith IsPairLine bytes x rest → IsPairOf e x → IsRefusedPair e IsLong bytes c → ⊥
  pair_not_refused e bytes rest x c short begins known refused =
      ⊎_elim (λ l. short l.0)
      (λ t. ⊎_elim (λ none. none.0 x rest begins)
      (λ q. ⊎_elim (λ out. out.0 (subst (IsPairOf e) (same_pair bytes x q.0 rest q.1 begins q.2).0 known)) (λ never. never.1) q.3) t.1) refused

  module _ (later : Later) (made : List (Lit × Lit) → Extended) (e : Extended) (number : ℕ) (body : List ℕ) where
    abbrev Ends : ℕ → List ℕ → Type 0
    Ends n left = (n ≡ 0) × (left ≡ body)

    abbrev Refused : List (Lit × Lit) → ℕ → List ℕ → Type 0
    Refused all left rest = IsRefusedBehindPairs later made e IsLong number all left rest p

    here_refused : (all : List (Lit × Lit)) (n left : ℕ) (bytes rest : List ℕ) (x : Lit × Lit) → left ≡ suc n → ¬ (IsLong bytes) → BeginsWith IsPairLine bytes x rest → IsPairOf e x → Refused all left bytes → ⊥
    here_refused all n zero bytes rest x is short begins known refused = absurd (omega (arith, is))
    here_refused all n (suc left) bytes rest x is short begins known refused = pair_not_refused e bytes rest x refused.0 short begins known refused.1

    end_refused : (all : List (Lit × Lit)) (left : ℕ) (bytes : List ℕ) → left ≡ 0 → bytes ≡ body → Refused all left bytes → IsLater later (made all) body p
    end_refused all zero bytes is same refused = (number + length all, subst (λ z. later (made all) (number + length all) z p) same refused)
    end_refused all (suc left) bytes is same refused = absurd (omega (arith, is))

    pairs_passed : (all xs ys : List (Lit × Lit)) (count : ℕ) (bytes : List ℕ) → Behind IsPairLine (IsPairStep e) IsLong Ends xs count bytes → Behind IsPairLine (IsPairStep e) IsLong (Refused all) ys count bytes →
        (ys ≡ xs) × IsLater later (made all) body p
    pairs_passed all [] [] count bytes h i = (refl, end_refused all count bytes h.0 h.1 i)
    pairs_passed all [] (y ∷ ys) count bytes h i = let none = h.0 in let some = i.4.1 in absurd (omega arith)
    pairs_passed all (x ∷ xs) [] count bytes h i = absurd (here_refused all h.1 count bytes h.0 x h.4.1 h.2 h.3 h.4.0 i)
    pairs_passed all (x ∷ xs) (y ∷ ys) count bytes h i =
        let same = same_pair bytes x y h.0 i.0 h.3 i.3 in
        let one = h.4.1 in
        let two = i.4.1 in
        let next : h.1 ≡ i.1 = omega arith in
        let more = pairs_passed all xs ys i.1 i.0 (subst (λ z. Behind IsPairLine (IsPairStep e) IsLong Ends xs i.1 z) same.1 (subst (λ n. Behind IsPairLine (IsPairStep e) IsLong Ends xs n h.0) next h.5)) i.5 in
        (ap₂ ◌∷◌ (sym same.0) more.0, more.1)

    -- so many pairs pass, and what is refused is so after them
    pub behind_pairs : (pairs : List (Lit × Lit)) (count : ℕ) (bytes rest : List ℕ) → bytes ≡ rest → Behind IsPairLine (IsPairStep e) IsLong Ends pairs count bytes → IsRefusedPairs later made e IsLong number count rest p → IsLater later (made pairs) body p
    behind_pairs pairs count bytes rest same h refused =
        let t = pairs_passed refused.0 pairs refused.0 count rest (subst (λ z. Behind IsPairLine (IsPairStep e) IsLong Ends pairs count z) same h) refused.1 in
        subst (λ ps. IsLater later (made ps) body p) t.0 t.1

  -- ---- a cut, and blocks

  module _ (later : Later) (g : Aig) (body : List ℕ) where
    behind_none : (c : Option (ℕ × ℕ)) (rest : List ℕ) → None ≡ c → body ≡ rest → IsRefusedBehindCut later g IsLong c rest p → IsLater later (without_cut g) body p
    behind_none None rest is same refused = (3, subst (λ z. later (without_cut g) 3 z p) (sym same) refused)
    behind_none (Some n) rest is same refused = absurd (cc)

    behind_some : (n : ℕ × ℕ) (c : Option (ℕ × ℕ)) (rest : List ℕ) → Some n ≡ c → IsCutSize (length g.outputs) n → IsRefusedBehindCut later g IsLong c rest p → IsRefusedPairs later (cut_at g n.0) (without_cut g) IsLong 3 n.1 rest p
    behind_some n c rest is size refused = ⊎_elim (λ out. absurd (out.0 size)) (λ r. r.1) (subst (λ o. IsRefusedBehindCut later g IsLong o rest p) (sym is) refused)

    pub behind_cut : (cut : Option Cut) (bytes : List ℕ) → PassesCut g IsLong bytes cut body → IsRefusedCut later g IsLong bytes p → IsLater later (with_blocks g (cut_blocks (length g.outputs) cut)) body p
    behind_cut None bytes h refused =
        ⊎_elim (λ l. absurd (h.0 l.0)) (λ t. ⊎_elim (λ none. absurd (none.0 None body h.1)) (λ c. let same = same_size bytes None c.0 body c.1 h.1 c.2 in behind_none c.0 c.1 same.0 same.1 c.3) t.1) refused
    behind_cut (Some cut) bytes h refused =
        let n : ℕ × ℕ = (cut.lo, length cut.pairs) in
        ⊎_elim (λ l. absurd (h.1 l.0))
        (λ t. ⊎_elim (λ none. absurd (none.0 (Some n) h.0 h.2))
        (λ c.
        let same = same_size bytes (Some n) c.0 h.0 c.1 h.2 c.2 in
        behind_pairs later (cut_at g cut.lo) (without_cut g) 3 body cut.pairs (length cut.pairs) h.0 c.1 same.1 h.4 (behind_some n c.0 c.1 same.0 h.3 c.3))
        t.1)
        refused

  module _ (later : Later) (e : Extended) (number : ℕ) (b : Block) (bytes body : List ℕ) (h : PassesBlock IsLong e bytes b body) where
    behind_head : (d : ℕ × ℕ × Bool) (rest : List ℕ) → head_of b ≡ d → h.0 ≡ rest → IsRefusedPairs later (block_at e d) e IsLong (number + 1) d.1 rest p → IsLater later (graft_block e b) body p
    behind_head d rest is same refused =
        behind_pairs later (block_at e (head_of b)) e (number + 1) body b.cut.pairs (length b.cut.pairs) h.0 rest same h.4
        (subst (λ (k : ℕ × ℕ × Bool). IsRefusedPairs later (block_at e k) e IsLong (number + 1) k.1 rest p) (sym is) refused)

    pub behind_block : IsRefusedBlock later IsLong e number bytes p → IsLater later (graft_block e b) body p
    behind_block refused =
        ⊎_elim (λ l. absurd (h.1 l.0))
        (λ t. ⊎_elim (λ none. absurd (none.0 (head_of b) h.0 h.2))
        (λ c.
        let same = same_head bytes (head_of b) c.0 h.0 c.1 h.2 c.2 in
        ⊎_elim (λ out. absurd (out.0 (subst (IsHeadOf e) same.0 h.3))) (λ r. behind_head c.0 c.1 same.0 same.1 r.1) c.3)
        t.1)
        refused

  pub behind_blocks : (later : Later) (e : Extended) (number : ℕ) (blocks : List Block) (bytes body : List ℕ) → PassBlocks IsLong e bytes blocks body → IsRefusedBlocks later IsLong (length blocks) e number bytes p → IsLater later (graft_all e blocks) body p
  behind_blocks later e number [] bytes body h refused = (number, subst (λ z. later e number z p) h refused)
  behind_blocks later e number (b ∷ blocks) bytes body h refused =
      let more = behind_block (IsRefusedBlocks later IsLong (length blocks)) e number b bytes h.0 h.1 refused in
      behind_blocks later (graft_block e b) more.0 blocks h.0 body h.2 more.1

  pub behind_count : (later : Later) (g : Aig) (blocks : List Block) (bytes body : List ℕ) → PassesCount g IsLong bytes blocks body → IsRefusedCount later g IsLong bytes p → IsLater later (with_blocks g blocks) body p
  behind_count later g blocks bytes body h refused =
      ⊎_elim (λ l. absurd (h.1 l.0))
      (λ t. ⊎_elim (λ none. absurd (none.0 (length blocks) h.0 h.2))
      (λ c.
      let same = same_count bytes (length blocks) c.0 h.0 c.1 h.2 c.2 in
      ⊎_elim (λ out. absurd (out.0 (subst (IsCountInRange (length g.outputs)) same.0 h.3)))
      (λ r. behind_blocks later (without_cut g) 3 blocks h.0 body h.4
      (subst (λ z. IsRefusedBlocks later IsLong (length blocks) (without_cut g) 3 z p) (sym same.1) (subst (λ n. IsRefusedBlocks later IsLong n (without_cut g) 3 c.1 p) (sym same.0) r.1))) c.3)
      t.1)
      refused

  -- ---- listed lines

  module _ {X : Type 0} (l : Listing X) (one : AreLinesOne l) where
    behind_listed : (later : Later) (e : Extended) (number : ℕ) (xs : List X) (bytes body : List ℕ) → PassListed l IsLong e bytes xs body → IsRefusedListedLines l later IsLong (length xs) e number bytes p → IsLater later (with_all l e xs) body p
    behind_listed later e number [] bytes body h refused = (number, subst (λ z. later e number z p) h refused)
    behind_listed later e number (x ∷ xs) bytes body h refused =
        ⊎_elim (λ long. absurd (h.1 long.0))
        (λ t. ⊎_elim (λ none. absurd (none.0 x h.0 h.2))
        (λ c.
        let same = one.line bytes x c.0 h.0 c.1 h.2 c.2 in
        ⊎_elim (λ out. absurd (out.0 (subst (l.in_range e) same.0 h.3)))
        (λ r. behind_listed later (l.more e x) (number + 1) xs h.0 body h.4
        (subst (λ z. IsRefusedListedLines l later IsLong (length xs) (l.more e x) (number + 1) z p) (sym same.1)
        (subst (λ y. IsRefusedListedLines l later IsLong (length xs) (l.more e y) (number + 1) c.1 p) (sym same.0) r.1))) c.3)
        t.1)
        refused

    behind_listing : (later : Later) (e : Extended) (number : ℕ) (xs : List X) (bytes body : List ℕ) → PassesListing l IsLong e bytes xs body → IsRefusedListing l later IsLong e number bytes p → IsLater later (with_all l e xs) body p
    behind_listing later e number xs bytes body h refused =
        ⊎_elim (λ long. absurd (h.1 long.0))
        (λ t. ⊎_elim (λ none. absurd (none.0 (length xs) h.0 h.2))
        (λ c.
        let same = one.number bytes (length xs) c.0 h.0 c.1 h.2 c.2 in
        ⊎_elim (λ out. absurd (out.0 (subst (IsCountInRange (l.most e)) same.0 h.3)))
        (λ r. behind_listed later e (number + 1) xs h.0 body h.4
        (subst (λ z. IsRefusedListedLines l later IsLong (length xs) e (number + 1) z p) (sym same.1)
        (subst (λ n. IsRefusedListedLines l later IsLong n e (number + 1) c.1 p) (sym same.0) r.1))) c.3)
        t.1)
        refused

  pub behind_beside : (later : Later) (g : Aig) (b : Beside) (bytes body : List ℕ) → PassesParts g IsLong bytes b body → IsRefusedBeside later g IsLong bytes p → IsLater later (with_outputs (with_gates (without_cut g) b.gates) b.outputs) body p
  behind_beside later g b bytes body h refused =
      let more = behind_listing gate_listing gates_are_one (IsRefusedListing output_listing later IsLong) (without_cut g) 2 b.gates bytes h.0 h.1 refused in
      behind_listing output_listing outputs_are_one later (with_gates (without_cut g) b.gates) more.0 b.outputs h.0 body h.2 more.1

-- ---- the whole header

module _ (g : Aig) (lengths : Lengths) (bytes : List ℕ) (p : ℕ × LineCause) where
  abbrev IsLong : List ℕ → Type 0
  IsLong = IsTooLong lengths (length bytes)

  first_not_refused : (cut : Option Cut) (body : List ℕ) → PassesHeader g lengths bytes cut body → IsClauseHeaderRefusal g lengths bytes p → ⊥
  first_not_refused cut body h refused =
      ⊎_elim (λ l. h.short l.0)
      (λ t. ⊎_elim (λ none. none.0.0 h.rest h.version)
      (λ v. ⊎_elim
      (λ c. (behind_cut IsLong p nothing_later g body cut h.rest h.cut_passes (subst (λ z. IsRefusedCut nothing_later g IsLong z p) (same_body c.0 h.rest (sym c.1 ∙ h.version)) c.2)).1)
      (λ o. ⊎_elim (λ c. other_version h.rest c.0 (sym h.version ∙ c.1)) (λ c. first_or_third h.rest c.0 (sym h.version ∙ c.1)) o) v) t.1)
      refused

  second_not_refused : (blocks : List Block) (body : List ℕ) → PassesBlocks g lengths bytes blocks body → IsClauseHeaderRefusal g lengths bytes p → ⊥
  second_not_refused blocks body h refused =
      ⊎_elim (λ l. h.short l.0)
      (λ t. ⊎_elim (λ none. none.0.1 h.rest h.version)
      (λ v. ⊎_elim
      (λ c. other_version c.0 h.rest (sym c.1 ∙ h.version))
      (λ o. ⊎_elim
      (λ c. (behind_count IsLong p nothing_later g blocks h.rest body h.blocks_pass (subst (λ z. IsRefusedCount nothing_later g IsLong z p) (second_body c.0 h.rest (sym c.1 ∙ h.version)) c.2)).1)
      (λ c. second_or_third h.rest c.0 (sym h.version ∙ c.1)) o) v) t.1)
      refused

  third_not_refused : (beside : Beside) (body : List ℕ) → PassesBeside g lengths bytes beside body → IsClauseHeaderRefusal g lengths bytes p → ⊥
  third_not_refused beside body h refused =
      ⊎_elim (λ l. h.short l.0)
      (λ t. ⊎_elim (λ none. none.0.2 h.rest h.version)
      (λ v. ⊎_elim
      (λ c. first_or_third c.0 h.rest (sym c.1 ∙ h.version))
      (λ o. ⊎_elim
      (λ c. second_or_third c.0 h.rest (sym c.1 ∙ h.version))
      (λ c. (behind_beside IsLong p nothing_later g beside h.rest body h.parts_pass (subst (λ z. IsRefusedBeside nothing_later g IsLong z p) (third_body c.0 h.rest (sym c.1 ∙ h.version)) c.2)).1) o) v) t.1)
      refused

pub passing_headers_are_not_refused : PassingHeadersAreNotRefused
passing_headers_are_not_refused g lengths bytes h body p passes refused =
    ⊎_elim (λ a. first_not_refused g lengths bytes p a.1.0 body a.1.2 refused)
    (λ o. ⊎_elim (λ b. second_not_refused g lengths bytes p h.blocks body b.1 refused) (λ c. third_not_refused g lengths bytes p h.beside body c.1 refused) o) passes
