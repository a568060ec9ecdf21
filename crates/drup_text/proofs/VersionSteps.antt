-- What stands after the first line of a header, in any version, and the whole header: what passes, and the first refusal.
use Rattle.std.specs.Prelude.{◌≡◌, ◌⊎◌, ◌+◌, ◌≤◌, ℕ, List, [], ◌∷◌, ◌++◌, codes, length, IfErr, IfOk, IfSome, Result, Ok, Err}
use Rattle.std.specs.Global.{Global}
use Rattle.std.specs.Result.{result_err}
use Rattle.std.specs.declared.option.Option.{Option}
use Rattle.std.specs.declared.option.Option.TheVariants.{None, Some}
use Rattle.std.specs.declared.vec.Vec.{Vec}
use Rattle.std.proofs.Common.{refl, sym, ap, subst, ◌∙◌, arith, inl, inr, ⊎_elim}
use Rattle.graph_core.specs.Graph.{Aig}
use Rattle.graph_core.specs.Graph.Extended.{without_cut}
use Rattle.graph_core.specs.Text.{newline}
use Rattle.graph_core.specs.Text.JudgedLines.{IsTooLong, Lengths}
use Rattle.mv_desk.specs.View.{View}
use Rattle.mv_desk.specs.declared.slot.Slot.TheVariants.{Clauses}
use Rattle.mv_text.specs.declared.line_fail.LineFail.{LineFail}
use Rattle.mv_text.specs.declared.line_fail.LineFail.TheVariants as fail
use Rattle.mv_text.specs.CertificateFiles.{FileState, HasAnyFirst, HasFirstLine, IsAnyRefusal, left_of_file, settled}
use Rattle.mv_text.specs.LineReading.{Lines}
use Rattle.mv_text.proofs.CallerLemmas.{told_from}
use Rattle.ripple_graft.specs.declared.block.Block.{Block}
use Rattle.ripple_graft.specs.declared.cut.Cut.{Cut}
use Rattle.ripple_graft.specs.Beside.{IsBeside, nothing}
use Rattle.ripple_graft.specs.declared.beside.Beside.{Beside}
use Rattle.ripple_graft.specs.Blocks.{AreBlocks}
use Rattle.ripple_graft.specs.HeaderBlocks.{AreHeaderBlocks, IsCutOf, cut_blocks}
use Rattle.drup_text.specs.declared.head.Header.{Header}
use Rattle.drup_text.specs.PassingHeaders.{HasClauseHeader, IsCause, PassesAnyHeader, PassesCount, PassesCut, PassesParts, beside_lines, block_lines, header_line_count, own_line}
use Rattle.drup_text.specs.HeaderRefusal.{LineCause, IsClauseHeaderRefusal, IsRefusedBeside, IsRefusedCount, IsRefusedCut, nothing_later}
use Rattle.drup_text.specs.HeaderRefusal as cause
use Rattle.drup_text.specs.HeaderSteps.{IsLongIn, ReadsHeaderPart, TakesHeaderPart, beside_part, blocks_version_part, count_part, cut_part, version_part}
use Rattle.drup_text.specs.Headers.{IsHeaderOf, second_line, third_line, version_line}
use Rattle.drup_text.proofs.HeaderSteps.{cause_behind, memory_short, part_settled, refused_front, same_part}

-- ---- after the first line

module _ (g : Aig) (version : ℕ) {old mid : FileState} {before now : View} where
  pub version_two : (r : Result (Vec Block Global) LineFail) → version ≡ 2 → ReadsHeaderPart (count_part g) old mid before now r → ReadsHeaderPart (blocks_version_part g version) old mid before now r
  version_two (Ok blocks) two h =
      same_part (count_part g) (blocks_version_part g version) blocks blocks (ap (λ v. 1 + block_lines (own_line v) blocks.items) two) (λ IsLong bytes body p. inr (two, p)) h
  version_two (Err f) two h = refused_front (count_part g) (blocks_version_part g version) f (λ IsLong bytes p r. inr (two, r)) h

  pub version_cut : (cut : Option Cut) (blocks : Vec Block Global) → version ≡ 1 → blocks.items ≡ cut_blocks (length g.outputs) cut → ReadsHeaderPart (cut_part g) old mid before now (Ok cut) → ReadsHeaderPart (blocks_version_part g version) old mid before now (Ok blocks)
  version_cut cut blocks one is h = same_part (cut_part g) (blocks_version_part g version) cut blocks (lines cut is) (λ IsLong bytes body p. inl (one, (cut, is, p))) h
    where
      of_one : block_lines (own_line version) blocks.items ≡ block_lines 0 blocks.items
      of_one = ap (λ v. block_lines (own_line v) blocks.items) one

      lines : (cut : Option Cut) → blocks.items ≡ cut_blocks (length g.outputs) cut → 1 + block_lines (own_line version) blocks.items ≡ (cut_part g).lines cut
      lines None is = let e = of_one ∙ ap (block_lines 0) is in ap (λ n. 1 + n) e
      lines (Some c) is = let e : block_lines (own_line version) blocks.items ≡ 0 + length c.pairs + 0 = of_one ∙ ap (block_lines 0) is in omega (arith, e)

  -- the block of a cut that was read, or out of memory
  pub version_block : (cut : Cut) (r : Result (Vec Block Global) LineFail) → version ≡ 1 → IfOk r (λ bs. bs.items ≡ cut_blocks (length g.outputs) (Some cut)) → IfErr r (λ f. f ≡ fail.Memory) → ReadsHeaderPart (cut_part g) old mid before now (Ok (Some cut)) →
      ReadsHeaderPart (blocks_version_part g version) old (settled mid (result_err r)) before now r
  version_block cut (Ok blocks) one is short h = part_settled (blocks_version_part g version) None blocks (version_cut (Some cut) blocks one is h)
  version_block cut (Err f) one is short h = memory_short (blocks_version_part g version) f short

  pub refused_cut : (f : LineFail) → version ≡ 1 → ReadsHeaderPart (cut_part g) old mid before now (Err f) → ReadsHeaderPart (blocks_version_part g version) old mid before now (Err f)
  refused_cut f one h = refused_front (cut_part g) (blocks_version_part g version) f (λ IsLong bytes p r. inl (one, r)) h

-- the blocks fit
pub fit_two : (g : Aig) (version : ℕ) (r : Result (Vec Block Global) LineFail) → version ≡ 2 → IfOk r (λ bs. (length bs.items ≤ length g.outputs) × AreBlocks (without_cut g) bs.items) → IfOk r (λ bs. AreHeaderBlocks g version bs.items)
fit_two g version (Ok bs) two h = inr (two, h.0, h.1)
fit_two g version (Err f) two h = h

pub fit_cut : (g : Aig) (version : ℕ) (r : Result (Vec Block Global) LineFail) (cut : Cut) → version ≡ 1 → IsCutOf g (Some cut) → IfOk r (λ bs. bs.items ≡ cut_blocks (length g.outputs) (Some cut)) → IfOk r (λ bs. AreHeaderBlocks g version bs.items)
fit_cut g version (Ok bs) cut one fits is = inl (one, (Some cut, is, fits))
fit_cut g version (Err f) cut one fits is = is

-- ---- with what stands beside, or with nothing

pub no_three : (version : ℕ) → (version ≡ 1) ⊎ ((version ≡ 2) ⊎ (version ≡ 3)) → ¬ (version ≡ 3) → (version ≡ 1) ⊎ (version ≡ 2)
no_three version some other = ⊎_elim (λ a. inl a) (λ b. ⊎_elim (λ a. inr a) (λ c. absurd (other c)) b) some

module _ (g : Aig) (version : ℕ) {old new : FileState} {before now : View} where
  -- a header of blocks alone
  pub blocks_header : (h : Header) (blocks : Vec Block Global) → (version ≡ 1) ⊎ (version ≡ 2) → h.blocks ≡ blocks.items → h.beside ≡ nothing → ReadsHeaderPart (blocks_version_part g version) old new before now (Ok blocks) →
      ReadsHeaderPart (version_part g version) old new before now (Ok h)
  blocks_header h blocks few blocks_are none read = same_part (blocks_version_part g version) (version_part g version) blocks h (lines few) passes read
    where
      none_beside : (version ≡ 1) ⊎ (version ≡ 2) → beside_lines version h.beside ≡ 0
      none_beside k = ⊎_elim (λ one. ap (λ v. beside_lines v h.beside) one) (λ two. ap (λ v. beside_lines v h.beside) two) k

      lines : (version ≡ 1) ⊎ (version ≡ 2) → (version_part g version).lines h ≡ (blocks_version_part g version).lines blocks
      lines k = let beside = none_beside k in let same : block_lines (own_line version) h.blocks ≡ block_lines (own_line version) blocks.items = ap (block_lines (own_line version)) blocks_are in omega (arith, beside, same)

      passes : (IsLong : List ℕ → Type 0) (bytes body : List ℕ) → (blocks_version_part g version).passes IsLong bytes blocks body → (version_part g version).passes IsLong bytes h body
      passes IsLong bytes body k = ⊎_elim (λ a. inl (a.0, (a.1.0, blocks_are ∙ a.1.1, a.1.2), none)) (λ b. inr (inl (b.0, subst (λ bs. PassesCount g IsLong bytes bs body) (sym blocks_are) b.1, none))) k

  pub blocks_header_refused : (f : LineFail) → ReadsHeaderPart (blocks_version_part g version) old new before now (Err f) → ReadsHeaderPart (version_part g version) old new before now (Err f)
  blocks_header_refused f read = refused_front (blocks_version_part g version) (version_part g version) f (λ IsLong bytes p r. ⊎_elim (λ a. inl a) (λ b. inr (inl b)) r) read

  -- a header of gates and outputs alone
  pub beside_header : (h : Header) (beside : Beside) → version ≡ 3 → h.blocks ≡ [] → h.beside ≡ beside → ReadsHeaderPart (beside_part g) old new before now (Ok beside) → ReadsHeaderPart (version_part g version) old new before now (Ok h)
  beside_header h beside three none is read =
      same_part (beside_part g) (version_part g version) beside h lines (λ IsLong bytes body k. inr (inr (three, subst (λ (b : Beside). PassesParts g IsLong bytes b body) (sym is) k, none))) read
    where
      lines : (version_part g version).lines h ≡ (beside_part g).lines beside
      lines =
          let blocks : block_lines (own_line version) h.blocks ≡ 0 = ap (block_lines (own_line version)) none in
          let all : beside_lines version h.beside ≡ length beside.gates + (1 + length beside.outputs) = ap (λ v. beside_lines v h.beside) three ∙ ap (beside_lines 3) is in
          omega (arith, blocks, all)

  pub beside_header_refused : (f : LineFail) → version ≡ 3 → ReadsHeaderPart (beside_part g) old new before now (Err f) → ReadsHeaderPart (version_part g version) old new before now (Err f)
  beside_header_refused f three read = refused_front (beside_part g) (version_part g version) f (λ IsLong bytes p r. inr (inr (three, r))) read

-- the graph takes it
pub blocks_header_fits : (g : Aig) (version : ℕ) (h : Header) (blocks : List Block) → h.version ≡ version → h.blocks ≡ blocks → h.beside ≡ nothing → AreHeaderBlocks g version blocks → IsHeaderOf g h
blocks_header_fits g version h blocks is blocks_are none fits = inl (subst (λ v. AreHeaderBlocks g v h.blocks) (sym is) (subst (AreHeaderBlocks g version) (sym blocks_are) fits), none)

pub beside_header_fits : (g : Aig) (version : ℕ) (h : Header) (beside : Beside) → h.version ≡ version → version ≡ 3 → h.blocks ≡ [] → h.beside ≡ beside → IsBeside g beside → IsHeaderOf g h
beside_header_fits g version h beside is three none beside_is fits = inr (is ∙ three, none, subst (λ (b : Beside). IsBeside g b) (sym beside_is) fits)

-- ---- the whole header

-- what holds of the lengths of a whole file
over_file : (P : (List ℕ → Type 0) → Type 0) (lengths : Lengths) (now : Lines) (bytes rest : List ℕ) → now.lengths ≡ lengths → now.taken + length rest ≡ length bytes → P (IsLongIn now rest) → P (IsTooLong lengths (length bytes))
over_file P lengths now bytes rest same total h = subst (λ k. P (IsTooLong k (length bytes))) same (subst (λ n. P (IsTooLong now.lengths n)) total h)

short : (lengths : Lengths) (now : Lines) (line bytes : List ℕ) (left : Option (List ℕ)) → now.lengths ≡ lengths → HasFirstLine line now bytes left → ¬ (IsTooLong lengths (length bytes) bytes)
short lengths now line bytes left same t long = t.short (subst (λ k. IsTooLong k (length bytes) bytes) (sym same) long)

-- no version is another one
not_12 : (version : ℕ) → version ≡ 1 → version ≡ 2 → ⊥
not_12 version one two = omega (arith, one, two)

not_13 : (version : ℕ) → version ≡ 1 → version ≡ 3 → ⊥
not_13 version one three = omega (arith, one, three)

not_23 : (version : ℕ) → version ≡ 2 → version ≡ 3 → ⊥
not_23 version two three = omega (arith, two, three)

-- a file begins with this line
abbrev Begun : FileState → View → List ℕ → List ℕ → Type 0
Begun file now line bytes = HasFirstLine line file.lines bytes (left_of_file Clauses file now)

module _ (g : Aig) (lengths : Lengths) {old new : FileState} {between now : View} (before : Option (List ℕ)) (same : old.lines.lengths ≡ lengths)
    (first : IfSome before (λ bytes. HasAnyFirst version_line second_line third_line old bytes (left_of_file Clauses old between))) where
  pub header_there : (h : Header) → h.version ≡ old.version → new.lines.lengths ≡ old.lines.lengths → ReadsHeaderPart (version_part g old.version) old new between now (Ok h) →
      IfSome before (λ bytes. HasClauseHeader g new bytes (left_of_file Clauses new now) h)
  header_there h version_is kept behind =
      told_from before (λ bytes. HasAnyFirst version_line second_line third_line old bytes (left_of_file Clauses old between)) (λ bytes. HasClauseHeader g new bytes (left_of_file Clauses new now) h)
      (λ bytes e t. ⊎_elim (λ a. has version_line bytes a.1 (one bytes a.0 a.1)) (λ o. ⊎_elim (λ b. has second_line bytes b.1 (two bytes b.0 b.1)) (λ c. has third_line bytes c.1 (three bytes c.0 c.1)) o) t) first
    where
      part : (line bytes : List ℕ) (t : Begun old between line bytes) → TakesHeaderPart (version_part g old.version) old.lines new.lines t.body (left_of_file Clauses new now) h
      part line bytes t = subst (λ o. IfSome o (λ z. TakesHeaderPart (version_part g old.version) old.lines new.lines z (left_of_file Clauses new now) h)) t.left behind.value

      over : (line bytes : List ℕ) (t : Begun old between line bytes) (P : (List ℕ → Type 0) → Type 0) → P (IsLongIn old.lines t.body) → P (IsTooLong lengths (length bytes))
      over line bytes t P k = over_file P lengths old.lines bytes t.body same t.taken k

      has : (line bytes : List ℕ) (t : Begun old between line bytes) → PassesAnyHeader g lengths bytes h (part line bytes t).body → HasClauseHeader g new bytes (left_of_file Clauses new now) h
      has line bytes t passes =
          let k = part line bytes t in
          record {
            body = k.body;
            passes = subst (λ (q : Lengths). PassesAnyHeader g q bytes h k.body) (sym (kept ∙ same)) passes;
            left = k.left_is;
            taken = k.taken ∙ t.taken;
          }

      one : (bytes : List ℕ) → old.version ≡ 1 → (t : Begun old between version_line bytes) → PassesAnyHeader g lengths bytes h (part version_line bytes t).body
      one bytes is t =
          let k = part version_line bytes t in
          ⊎_elim
          (λ p. inl (
            version_is ∙ is,
            (
              p.1.0,
              p.1.1,
              record {
                rest = t.body;
                short = short lengths old.lines version_line bytes (left_of_file Clauses old between) same t;
                version = t.begins;
                cut_passes = over version_line bytes t (λ IsLong. PassesCut g IsLong t.body p.1.0 k.body) p.1.2;
              },
            ),
            p.2,
          ))
          (λ o. ⊎_elim (λ p. absurd (not_12 old.version is p.0)) (λ p. absurd (not_13 old.version is p.0)) o) k.passes

      two : (bytes : List ℕ) → old.version ≡ 2 → (t : Begun old between second_line bytes) → PassesAnyHeader g lengths bytes h (part second_line bytes t).body
      two bytes is t =
          let k = part second_line bytes t in
          ⊎_elim (λ p. absurd (not_12 old.version p.0 is))
          (λ o. ⊎_elim
          (λ p. inr (inl (
            version_is ∙ is,
            record {
              rest = t.body;
              short = short lengths old.lines second_line bytes (left_of_file Clauses old between) same t;
              version = t.begins;
              blocks_pass = over second_line bytes t (λ IsLong. PassesCount g IsLong t.body h.blocks k.body) p.1;
            },
            p.2,
          )))
          (λ p. absurd (not_23 old.version is p.0)) o) k.passes

      three : (bytes : List ℕ) → old.version ≡ 3 → (t : Begun old between third_line bytes) → PassesAnyHeader g lengths bytes h (part third_line bytes t).body
      three bytes is t =
          let k = part third_line bytes t in
          ⊎_elim (λ p. absurd (not_13 old.version p.0 is))
          (λ o. ⊎_elim (λ p. absurd (not_23 old.version p.0 is))
          (λ p. inr (inr (
            version_is ∙ is,
            record {
              rest = t.body;
              short = short lengths old.lines third_line bytes (left_of_file Clauses old between) same t;
              version = t.begins;
              parts_pass = over third_line bytes t (λ IsLong. PassesParts g IsLong t.body h.beside k.body) p.1;
            },
            p.2,
          ))) o) k.passes

  pub header_refused : (f : LineFail) (first_faults : ℕ) → between.read_faults ≡ first_faults → ReadsHeaderPart (version_part g old.version) old new between now (Err f) →
      IsCause (IsClauseHeaderRefusal g lengths) before first_faults now.read_faults new.number f
  header_refused f first_faults stands behind =
      cause_behind (IsClauseHeaderRefusal g lengths) (λ bytes. (version_part g old.version).refused (IsLongIn old.lines bytes) (old.number + 1) bytes) before (left_of_file Clauses old between)
      first_faults between.read_faults now.read_faults new.number f stands
      (told_from before (λ bytes. HasAnyFirst version_line second_line third_line old bytes (left_of_file Clauses old between))
      (λ bytes. (rest : List ℕ) × (left_of_file Clauses old between ≡ Some rest) × ((p : ℕ × LineCause) → (version_part g old.version).refused (IsLongIn old.lines rest) (old.number + 1) rest p → IsClauseHeaderRefusal g lengths bytes p))
      (λ bytes e t. ⊎_elim (λ a. (a.1.body, a.1.left, one bytes a.0 a.1)) (λ o. ⊎_elim (λ b. (b.1.body, b.1.left, two bytes b.0 b.1)) (λ c. (c.1.body, c.1.left, three bytes c.0 c.1)) o) t) first)
      behind.refused
    where
      over : (line bytes : List ℕ) (t : Begun old between line bytes) (P : (List ℕ → Type 0) → Type 0) → P (IsLongIn old.lines t.body) → P (IsTooLong lengths (length bytes))
      over line bytes t P k = over_file P lengths old.lines bytes t.body same t.taken k

      one : (bytes : List ℕ) → old.version ≡ 1 → (t : Begun old between version_line bytes) (p : ℕ × LineCause) → (version_part g old.version).refused (IsLongIn old.lines t.body) (old.number + 1) t.body p → IsClauseHeaderRefusal g lengths bytes p
      one bytes is t p r = inr (
        short lengths old.lines version_line bytes (left_of_file Clauses old between) same t,
        inr (⊎_elim (λ c. inl (t.body, t.begins, over version_line bytes t (λ IsLong. IsRefusedCut nothing_later g IsLong t.body p) c.1))
            (λ o. ⊎_elim (λ c. absurd (not_12 old.version is c.0)) (λ c. absurd (not_13 old.version is c.0)) o) r),
      )

      two : (bytes : List ℕ) → old.version ≡ 2 → (t : Begun old between second_line bytes) (p : ℕ × LineCause) → (version_part g old.version).refused (IsLongIn old.lines t.body) (old.number + 1) t.body p → IsClauseHeaderRefusal g lengths bytes p
      two bytes is t p r = inr (
        short lengths old.lines second_line bytes (left_of_file Clauses old between) same t,
        inr (⊎_elim (λ c. absurd (not_12 old.version c.0 is))
            (λ o. ⊎_elim (λ c. inr (inl (t.body, t.begins, over second_line bytes t (λ IsLong. IsRefusedCount nothing_later g IsLong t.body p) c.1))) (λ c. absurd (not_23 old.version is c.0)) o) r),
      )

      three : (bytes : List ℕ) → old.version ≡ 3 → (t : Begun old between third_line bytes) (p : ℕ × LineCause) → (version_part g old.version).refused (IsLongIn old.lines t.body) (old.number + 1) t.body p → IsClauseHeaderRefusal g lengths bytes p
      three bytes is t p r = inr (
        short lengths old.lines third_line bytes (left_of_file Clauses old between) same t,
        inr (⊎_elim (λ c. absurd (not_13 old.version c.0 is))
            (λ o. ⊎_elim (λ c. absurd (not_23 old.version c.0 is)) (λ c. inr (inr (t.body, t.begins, over third_line bytes t (λ IsLong. IsRefusedBeside nothing_later g IsLong t.body p) c.1))) o) r),
      )

-- the first line is refused
pub version_refused : (g : Aig) (lengths : Lengths) (left : Option (List ℕ)) (first last : ℕ) (f : LineFail) → IsAnyRefusal version_line second_line third_line lengths left first last f → IsCause (IsClauseHeaderRefusal g lengths) left first last 1 f
version_refused g lengths None first last fail.Text h = tt
version_refused g lengths (Some bytes) first last fail.Text h = inr (h.0.0, inl ((h.0.1, h.1.1, h.2.1), refl))
version_refused g lengths left first last fail.Range h = absurd h.0
version_refused g lengths left first last fail.Fault h = h.0
version_refused g lengths left first last fail.TooLong h = told_from left (λ bytes. IsTooLong lengths (length bytes) bytes) (λ bytes. IsClauseHeaderRefusal g lengths bytes (1, cause.TooLong)) (λ bytes e long. inl (long, refl)) h.0
version_refused g lengths left first last fail.Memory h = tt

-- how many lines it has
pub header_counted : (old new version : ℕ) (h : Header) → old ≡ 1 → new ≡ old + (1 + block_lines (own_line version) h.blocks + beside_lines version h.beside) → h.version ≡ version → new ≡ header_line_count h
header_counted old new version h first count is = subst (λ v. new ≡ 2 + block_lines (own_line v) h.blocks + beside_lines v h.beside) (sym is) (omega (arith, first, count))

-- the first lines, as code has them
pub told_first : (left : Option (List ℕ)) (file : FileState) (now : View) (one two three : List ℕ) → one ≡ codes "joined 1" → two ≡ codes "joined 2" → three ≡ codes "joined 3" →
    IfSome left (λ bytes. HasAnyFirst (one ++ newline ∷ []) (two ++ newline ∷ []) (three ++ newline ∷ []) file bytes (left_of_file Clauses file now)) →
    IfSome left (λ bytes. HasAnyFirst version_line second_line third_line file bytes (left_of_file Clauses file now))
told_first left file now one two three is_one is_two is_three h =
    subst (λ z. IfSome left (λ bytes. HasAnyFirst (z ++ newline ∷ []) second_line third_line file bytes (left_of_file Clauses file now))) is_one
    (subst (λ z. IfSome left (λ bytes. HasAnyFirst (one ++ newline ∷ []) (z ++ newline ∷ []) third_line file bytes (left_of_file Clauses file now))) is_two
    (subst (λ z. IfSome left (λ bytes. HasAnyFirst (one ++ newline ∷ []) (two ++ newline ∷ []) (z ++ newline ∷ []) file bytes (left_of_file Clauses file now))) is_three h))
