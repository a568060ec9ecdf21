-- What a caller that judges a clause file may cite: its header, and refusals of the whole file.
pub use Rattle.mv_text.proofs.CallerLemmas.{long_of, short_of}
pub use Rattle.drup_text.proofs.ClauseReading.{block_item, clause_item, count_item, cut_item, gates_item, none_block, none_clause_line, none_count, none_cut, none_gates, none_output, none_pair, none_replace, output_item, pair_item, replace_item}
pub use Rattle.drup_text.proofs.OneFile.{first_or_third, gates_are_one, other_version, outputs_are_one, second_or_third}
use Rattle.std.specs.Prelude.{◌≡◌, ℕ, ◌+◌, List, [], ◌∷◌, length}
use Rattle.std.specs.declared.option.Option.{Option}
use Rattle.std.specs.declared.option.Option.TheVariants.{None, Some}
use Rattle.std.proofs.Common.{refl, sym, subst, arith, ⊎_elim, inl, inr}
use Rattle.graph_core.specs.declared.literal.Lit.{Lit}
use Rattle.graph_core.specs.Graph.Extended.{Extended, without_cut}
use Rattle.graph_core.specs.Graph.{Aig}
use Rattle.graph_core.specs.Text.JudgedLines.{Behind, IsTooLong, Lengths}
use Rattle.ripple_graft.specs.declared.block.Block.{Block}
use Rattle.ripple_graft.specs.declared.cut.Cut.{Cut}
use Rattle.ripple_graft.specs.Beside.{nothing, with_beside, with_gates, with_outputs}
use Rattle.ripple_graft.specs.declared.beside.Beside.{Beside}
use Rattle.ripple_graft.specs.Blocks.{graft_all, graft_block, with_blocks}
use Rattle.ripple_graft.specs.HeaderBlocks.{cut_blocks}
use Rattle.drup_text.specs.declared.head.Header.{Header}
use Rattle.drup_text.specs.ClauseTexts.{AreLinesOf, IsPairLine}
use Rattle.drup_text.specs.PassingHeaders.{PassBlocks, PassesAnyHeader, PassesCount, PassesCut, PassesParts, beside_lines, block_lines, header_line_count, own_line}
use Rattle.drup_text.specs.HeaderRefusal.{LineCause, IsFirstHeaderRefusal, IsClauseHeaderRefusal, IsPairStep, IsRefusedBehindCut, IsRefusedBeside, IsRefusedBlocks, IsRefusedCount, IsRefusedCut, Later, cut_at, nothing_later}
use Rattle.drup_text.specs.Headers.{AreBlockTexts, IsAnyHeaderText, IsBesideText, IsBlocksText, IsCutText, extended_with}
use Rattle.drup_text.specs.Listings.{gate_listing, output_listing}
use Rattle.drup_text.proofs.BesideSteps.{beside_more, parts_behind}
use Rattle.drup_text.proofs.BlockSteps.{block_passes_on, blocks_whatever, pairs_pass_on, pairs_whatever}
use Rattle.drup_text.proofs.ListedSteps.{listing_said}

-- ---- what a header says

module _ (IsLong : List ℕ → Type 0) where
  pairs_said : (e : Extended) (body : List ℕ) (pairs : List (Lit × Lit)) (count : ℕ) (bytes : List ℕ) → Behind IsPairLine (IsPairStep e) IsLong (λ n left. (n ≡ 0) × (left ≡ body)) pairs count bytes → AreLinesOf IsPairLine bytes pairs body
  pairs_said e body [] count bytes h = h.1
  pairs_said e body (p ∷ pairs) count bytes h = (h.0, h.3, pairs_said e body pairs h.1 h.0 h.5)

  cut_said : (g : Aig) (bytes : List ℕ) (cut : Option Cut) (body : List ℕ) → PassesCut g IsLong bytes cut body → IsCutText bytes cut body
  cut_said g bytes None body h = h.1
  cut_said g bytes (Some cut) body h = (h.0, h.2, pairs_said (without_cut g) body cut.pairs (length cut.pairs) h.0 h.4)

  blocks_said : (e : Extended) (bytes : List ℕ) (blocks : List Block) (body : List ℕ) → PassBlocks IsLong e bytes blocks body → AreBlockTexts bytes blocks body
  blocks_said e bytes [] body h = h
  blocks_said e bytes (b ∷ blocks) body h = (h.1.0, h.0, h.1.2, pairs_said e h.0 b.cut.pairs (length b.cut.pairs) h.1.0 h.1.4, blocks_said (graft_block e b) h.0 blocks body h.2)

  count_said : (g : Aig) (bytes : List ℕ) (blocks : List Block) (body : List ℕ) → PassesCount g IsLong bytes blocks body → IsBlocksText bytes blocks body
  count_said g bytes blocks body h = (h.0, h.2, blocks_said (without_cut g) h.0 blocks body h.4)

  beside_said : (g : Aig) (bytes : List ℕ) (b : Beside) (body : List ℕ) → PassesParts g IsLong bytes b body → IsBesideText bytes b body
  beside_said g bytes b body h =
      (h.0, listing_said gate_listing IsLong (without_cut g) bytes b.gates h.0 h.1, listing_said output_listing IsLong (with_gates (without_cut g) b.gates) h.0 b.outputs body h.2)

-- the text of a header that passes is that of what it names
pub header_said : (g : Aig) (lengths : Lengths) (bytes : List ℕ) (h : Header) (body : List ℕ) → PassesAnyHeader g lengths bytes h body → IsAnyHeaderText (length g.outputs) bytes h body
header_said g lengths bytes h body passes =
    let IsLong = IsTooLong lengths (length bytes) in
    ⊎_elim (λ a. let t = a.1.2 in inl (a.0, (a.1.0, a.1.1, (t.rest, cut_said IsLong g t.rest a.1.0 body t.cut_passes, t.version)), a.2))
    (λ o. ⊎_elim (λ b. let t = b.1 in inr (inl (b.0, (t.rest, count_said IsLong g t.rest h.blocks body t.blocks_pass, t.version), b.2)))
    (λ c. let t = c.1 in inr (inr (c.0, (t.rest, beside_said IsLong g t.rest h.beside body t.parts_pass, t.version), c.2))) o) passes

-- ---- what is refused within a header is so whatever is after it

module _ (later : Later) (g : Aig) where
  behind_anyhow : (IsLong : List ℕ → Type 0) (c : Option (ℕ × ℕ)) (bytes : List ℕ) (p : ℕ × LineCause) → IsRefusedBehindCut nothing_later g IsLong c bytes p → IsRefusedBehindCut later g IsLong c bytes p
  behind_anyhow IsLong None bytes p h = absurd h
  behind_anyhow IsLong (Some n) bytes p h = ⊎_elim (λ f. inl f) (λ l. inr (l.0, pairs_whatever later (cut_at g n.0) (without_cut g) IsLong 3 n.1 bytes p l.1)) h

  cut_anyhow : (IsLong : List ℕ → Type 0) (bytes : List ℕ) (p : ℕ × LineCause) → IsRefusedCut nothing_later g IsLong bytes p → IsRefusedCut later g IsLong bytes p
  cut_anyhow IsLong bytes p h =
      ⊎_elim (λ f. inl f) (λ l. inr (l.0, ⊎_elim (λ none. inl none) (λ c. inr (c.0, c.1, c.2, behind_anyhow IsLong c.0 c.1 p c.3)) l.1)) h

  count_anyhow : (IsLong : List ℕ → Type 0) (bytes : List ℕ) (p : ℕ × LineCause) → IsRefusedCount nothing_later g IsLong bytes p → IsRefusedCount later g IsLong bytes p
  count_anyhow IsLong bytes p h =
      ⊎_elim (λ f. inl f)
      (λ l. inr (
        l.0,
        ⊎_elim (λ none. inl none)
            (λ c. inr (c.0, c.1, c.2, ⊎_elim (λ f. inl f) (λ r. inr (r.0, blocks_whatever later IsLong c.0 (without_cut g) 3 c.1 p r.1)) c.3)) l.1,
      )) h

  beside_anyhow : (IsLong : List ℕ → Type 0) (bytes : List ℕ) (p : ℕ × LineCause) → IsRefusedBeside nothing_later g IsLong bytes p → IsRefusedBeside later g IsLong bytes p
  beside_anyhow IsLong bytes p h = beside_more g nothing_later later (λ e n rest q k. absurd k) IsLong bytes p h

  pub header_anyhow : (lengths : Lengths) (bytes : List ℕ) (p : ℕ × LineCause) → IsClauseHeaderRefusal g lengths bytes p → IsFirstHeaderRefusal later g lengths bytes p
  header_anyhow lengths bytes p h =
      let IsLong = IsTooLong lengths (length bytes) in
      ⊎_elim (λ f. inl f)
      (λ l. inr (
        l.0,
        ⊎_elim (λ none. inl none)
            (λ v. inr (⊎_elim (λ c. inl (c.0, c.1, cut_anyhow IsLong c.0 p c.2))
            (λ o. inr (⊎_elim (λ c. inl (c.0, c.1, count_anyhow IsLong c.0 p c.2)) (λ c. inr (c.0, c.1, beside_anyhow IsLong c.0 p c.2)) o)) v)) l.1,
      )) h

  -- ---- what is refused after a header that passes

  cut_behind : (IsLong : List ℕ → Type 0) (bytes : List ℕ) (cut : Option Cut) (body : List ℕ) (p : ℕ × LineCause) → PassesCut g IsLong bytes cut body →
      later (with_blocks g (cut_blocks (length g.outputs) cut)) (2 + block_lines 0 (cut_blocks (length g.outputs) cut) + 1) body p → IsRefusedCut later g IsLong bytes p
  cut_behind IsLong bytes None body p h refused = inr (h.0, inr (None, body, h.1, refused))
  cut_behind IsLong bytes (Some cut) body p h refused =
      let next = subst (λ n. later (cut_at g cut.lo cut.pairs) n body p) (number (length cut.pairs)) refused in
      inr (h.1, inr (Some (cut.lo, length cut.pairs), h.0, h.2, inr (h.3, pairs_pass_on later (cut_at g cut.lo) (without_cut g) IsLong 3 cut.pairs h.0 body p h.4 next)))
    where
      number : (n : ℕ) → 2 + (0 + n + 0) + 1 ≡ 3 + n
      number n = omega arith

  blocks_behind : (IsLong : List ℕ → Type 0) (e : Extended) (number : ℕ) (blocks : List Block) (bytes body : List ℕ) (p : ℕ × LineCause) → PassBlocks IsLong e bytes blocks body →
      later (graft_all e blocks) (number + block_lines 1 blocks) body p → IsRefusedBlocks later IsLong (length blocks) e number bytes p
  blocks_behind IsLong e number [] bytes body p h refused = subst (λ z. later e number z p) (sym h) (subst (λ n. later e n body p) (plus number) refused)
    where
      plus : (n : ℕ) → n + 0 ≡ n
      plus n = omega arith
  blocks_behind IsLong e number (b ∷ blocks) bytes body p h refused =
      block_passes_on (IsRefusedBlocks later IsLong (length blocks)) IsLong e number bytes b h.0 p h.1
      (blocks_behind IsLong (graft_block e b) (number + 1 + length b.cut.pairs) blocks h.0 body p h.2
      (subst (λ n. later (graft_all (graft_block e b) blocks) n body p) (further (length b.cut.pairs) (block_lines 1 blocks)) refused))
    where
      further : (n k : ℕ) → number + (1 + n + k) ≡ number + 1 + n + k
      further n k = omega arith

  count_behind : (IsLong : List ℕ → Type 0) (bytes : List ℕ) (blocks : List Block) (body : List ℕ) (p : ℕ × LineCause) → PassesCount g IsLong bytes blocks body →
      later (with_blocks g blocks) (2 + block_lines 1 blocks + 1) body p → IsRefusedCount later g IsLong bytes p
  count_behind IsLong bytes blocks body p h refused =
      inr (h.1, inr (length blocks, h.0, h.2, inr (h.3, blocks_behind IsLong (without_cut g) 3 blocks h.0 body p h.4 (subst (λ n. later (with_blocks g blocks) n body p) (number (block_lines 1 blocks)) refused))))
    where
      number : (n : ℕ) → 2 + n + 1 ≡ 3 + n
      number n = omega arith

  pub behind_header : (lengths : Lengths) (bytes : List ℕ) (h : Header) (body : List ℕ) (p : ℕ × LineCause) → PassesAnyHeader g lengths bytes h body → later (extended_with g h) (header_line_count h + 1) body p → IsFirstHeaderRefusal later g lengths bytes p
  behind_header lengths bytes h body p passes refused =
      let IsLong = IsTooLong lengths (length bytes) in
      ⊎_elim
      (λ a. let t = a.1.2 in inr (t.short, inr (inl (t.rest, t.version, cut_behind IsLong t.rest a.1.0 body p t.cut_passes (subst (λ bs. later (with_blocks g bs) (2 + block_lines 0 bs + 1) body p) a.1.1 (plain 1 refl a.0 a.2))))))
      (λ o. ⊎_elim
      (λ b. let t = b.1 in inr (t.short, inr (inr (inl (t.rest, t.version, count_behind IsLong t.rest h.blocks body p t.blocks_pass (plain 2 refl b.0 b.2))))))
      (λ c. let t = c.1 in inr (t.short, inr (inr (inr (t.rest, t.version, parts_behind g later IsLong t.rest h.beside body p t.parts_pass (third c.0 c.2)))))) o) passes
    where
      at : (version : ℕ) → h.version ≡ version → later (extended_with g h) (2 + block_lines (own_line version) h.blocks + beside_lines version h.beside + 1) body p
      at version is = subst (λ v. later (extended_with g h) (2 + block_lines (own_line v) h.blocks + beside_lines v h.beside + 1) body p) is refused

      -- of a version with nothing beside
      plain : (version : ℕ) → beside_lines version h.beside ≡ 0 → h.version ≡ version → h.beside ≡ nothing → later (with_blocks g h.blocks) (2 + block_lines (own_line version) h.blocks + 1) body p
      plain version none is alone =
          subst (λ n. later (with_blocks g h.blocks) n body p) (omega (arith, none))
          (subst (λ (b : Beside). later (with_beside (with_blocks g h.blocks) b) (2 + block_lines (own_line version) h.blocks + beside_lines version h.beside + 1) body p) alone (at version is))

      third : h.version ≡ 3 → h.blocks ≡ [] → later (with_outputs (with_gates (without_cut g) h.beside.gates) h.beside.outputs) (2 + 1 + length h.beside.gates + 1 + length h.beside.outputs) body p
      third is none =
          let all : later (with_beside (without_cut g) h.beside) (2 + 0 + (length h.beside.gates + (1 + length h.beside.outputs)) + 1) body p =
          subst (λ bs. later (with_beside (with_blocks g bs) h.beside) (2 + block_lines 0 bs + beside_lines 3 h.beside + 1) body p) none (at 3 is) in
          subst (λ n. later (with_beside (without_cut g) h.beside) n body p) (omega arith) all
