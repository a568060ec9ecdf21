-- The lines of a cut, of a block and of blocks, one after the other: what passes, and the first refusal.
use Rattle.std.specs.Prelude.{◌≡◌, ◌⊎◌, ◌+◌, ◌<◌, ℕ, zero, suc, Bool, List, [], ◌∷◌, ◌++◌, ◌≤◌, length, IfOk, Result, Ok, Err}
use Rattle.std.specs.Global.{Global}
use Rattle.std.specs.declared.option.Option.{Option}
use Rattle.std.specs.declared.option.Option.TheVariants.{None, Some}
use Rattle.std.specs.declared.vec.Vec.{Vec}
use Rattle.std.specs.List.{All}
use Rattle.std.proofs.Common.{refl, sym, ap, subst, ◌∙◌, arith, append_assoc, inl, inr, length-append, ⊎_elim}
use Rattle.graph_core.specs.declared.literal.Lit.{Lit}
use Rattle.graph_core.specs.Graph.{Aig}
use Rattle.graph_core.specs.Graph.Extended.{Extended, without_cut}
use Rattle.graph_core.specs.Text.JudgedLines.{BeginsWith, Behind, Unless}
use Rattle.graph_core.proofs.OfTexts.CallerLemmas.{behind_map}
use Rattle.mv_desk.specs.View.{View}
use Rattle.mv_text.specs.CertificateFiles.{BeginsWithNone, FileState}
use Rattle.mv_text.specs.declared.line_fail.LineFail.{LineFail}
use Rattle.ripple_graft.specs.declared.block.Block.{Block}
use Rattle.ripple_graft.specs.declared.cut.Cut.{Cut}
use Rattle.ripple_graft.specs.Blocks.{AreBlocks, IsBlock, graft_all, graft_block}
use Rattle.drup_text.specs.ClauseTexts.{IsBlockLine, IsCountLine, IsCutLine, IsPairLine}
use Rattle.drup_text.specs.PassingHeaders.{PassBlocks, PassesBlock, PassesCount, PassesCut, block_lines}
use Rattle.drup_text.specs.HeaderRefusal.{Later, LineCause, IsPairStep, IsRefusedBehindCut, IsRefusedBehindPairs, IsRefusedBlock, IsRefusedBlocks, IsRefusedCount, IsRefusedCut, IsRefusedPairs, Range, Text, TooLong, block_at, cut_at, nothing_later}
use Rattle.drup_text.specs.HeaderSteps.{HeaderPart, ReadsHeaderPart, blocks_part, count_part, line_part, pairs_part}
use Rattle.drup_text.specs.Headers.{head_of}
use Rattle.drup_text.specs.LineTexts.{IsCountInRange, IsHeadOf, IsPairOf, IsSizeInRange}
use Rattle.drup_text.proofs.HeaderSteps.{part_behind, refused_behind}

-- ---- more is refused after a block where more is refused later

module _ (one two : Later) (more : (e : Extended) (n : ℕ) (bytes : List ℕ) (p : ℕ × LineCause) → one e n bytes p → two e n bytes p) where
  pub pairs_more : (made : List (Lit × Lit) → Extended) (x : Extended) (IsLong : List ℕ → Type 0) (number count : ℕ) (bytes : List ℕ) (p : ℕ × LineCause) →
      IsRefusedPairs one made x IsLong number count bytes p → IsRefusedPairs two made x IsLong number count bytes p
  pairs_more made x IsLong number count bytes p h = (
    h.0,
    behind_map IsPairLine (IsPairStep x) IsLong (λ left rest. IsRefusedBehindPairs one made x IsLong number h.0 left rest p) (λ left rest. IsRefusedBehindPairs two made x IsLong number h.0 left rest p) (λ left rest. step left rest) h.0 count bytes h.1,
  )
    where
      step : (left : ℕ) (rest : List ℕ) → IsRefusedBehindPairs one made x IsLong number h.0 left rest p → IsRefusedBehindPairs two made x IsLong number h.0 left rest p
      step zero rest k = more (made h.0) (number + length h.0) rest p k
      step (suc left) rest k = k

  pub block_more : (IsLong : List ℕ → Type 0) (x : Extended) (number : ℕ) (bytes : List ℕ) (p : ℕ × LineCause) → IsRefusedBlock one IsLong x number bytes p → IsRefusedBlock two IsLong x number bytes p
  block_more IsLong x number bytes p h =
      ⊎_elim (λ f. inl f)
      (λ l. inr (
        l.0,
        ⊎_elim (λ none. inl none)
            (λ b. inr (b.0, b.1, b.2, ⊎_elim (λ f. inl f) (λ r. inr (r.0, pairs_more (block_at x b.0) x IsLong (number + 1) b.0.1 b.1 p r.1)) b.3)) l.1,
      )) h

-- what is refused within a block is so whatever is after it
nothing_more : (later : Later) (e : Extended) (n : ℕ) (bytes : List ℕ) (p : ℕ × LineCause) → nothing_later e n bytes p → later e n bytes p
nothing_more later e n bytes p h = absurd h

pub pairs_whatever : (later : Later) (made : List (Lit × Lit) → Extended) (x : Extended) (IsLong : List ℕ → Type 0) (number count : ℕ) (bytes : List ℕ) (p : ℕ × LineCause) →
    IsRefusedPairs nothing_later made x IsLong number count bytes p → IsRefusedPairs later made x IsLong number count bytes p
pairs_whatever later = pairs_more nothing_later later (nothing_more later)

pub block_whatever : (later : Later) (IsLong : List ℕ → Type 0) (x : Extended) (number : ℕ) (bytes : List ℕ) (p : ℕ × LineCause) → IsRefusedBlock nothing_later IsLong x number bytes p → IsRefusedBlock later IsLong x number bytes p
block_whatever later = block_more nothing_later later (nothing_more later)

pub blocks_whatever : (later : Later) (IsLong : List ℕ → Type 0) (count : ℕ) (x : Extended) (number : ℕ) (bytes : List ℕ) (p : ℕ × LineCause) → IsRefusedBlocks nothing_later IsLong count x number bytes p → IsRefusedBlocks later IsLong count x number bytes p
blocks_whatever later IsLong zero x number bytes p h = absurd h
blocks_whatever later IsLong (suc n) x number bytes p h =
    block_more (IsRefusedBlocks nothing_later IsLong n) (IsRefusedBlocks later IsLong n) (blocks_whatever later IsLong n) IsLong x number bytes p h

-- ---- what is refused after a block that passes

pub pairs_pass_on : (later : Later) (made : List (Lit × Lit) → Extended) (x : Extended) (IsLong : List ℕ → Type 0) (number : ℕ) (pairs : List (Lit × Lit)) (bytes body : List ℕ) (p : ℕ × LineCause) →
    Behind IsPairLine (IsPairStep x) IsLong (λ n left. (n ≡ 0) × (left ≡ body)) pairs (length pairs) bytes → later (made pairs) (number + length pairs) body p → IsRefusedPairs later made x IsLong number (length pairs) bytes p
pairs_pass_on later made x IsLong number pairs bytes body p h refused = (
  pairs,
  behind_map IsPairLine (IsPairStep x) IsLong (λ n left. (n ≡ 0) × (left ≡ body)) (λ left rest. IsRefusedBehindPairs later made x IsLong number pairs left rest p) (λ n left f. step n left f.0 f.1) pairs (length pairs) bytes h,
)
  where
    step : (n : ℕ) (left : List ℕ) → n ≡ 0 → left ≡ body → IsRefusedBehindPairs later made x IsLong number pairs n left p
    step zero left e same = subst (λ z. later (made pairs) (number + length pairs) z p) (sym same) refused
    step (suc n) left e same = absurd (cc)

pub block_passes_on : (later : Later) (IsLong : List ℕ → Type 0) (x : Extended) (number : ℕ) (bytes : List ℕ) (b : Block) (body : List ℕ) (p : ℕ × LineCause) →
    PassesBlock IsLong x bytes b body → later (graft_block x b) (number + 1 + length b.cut.pairs) body p → IsRefusedBlock later IsLong x number bytes p
block_passes_on later IsLong x number bytes b body p h refused =
    inr (h.1, inr (head_of b, h.0, h.2, inr (h.3, pairs_pass_on later (block_at x (head_of b)) x IsLong (number + 1) b.cut.pairs h.0 body p h.4 refused)))

-- the pairs that were read, as a cut has them
pairs_of : (x : Extended) (IsLong : List ℕ → Type 0) (mine : List (Lit × Lit)) (count : ℕ) (pairs : Vec (Lit × Lit) Global) → mine ≡ pairs.items → length pairs.items ≡ count → (bytes body : List ℕ) → (pairs_part x count).passes IsLong bytes pairs body →
    Behind IsPairLine (IsPairStep x) IsLong (λ n rest. (n ≡ 0) × (rest ≡ body)) mine (length mine) bytes
pairs_of x IsLong mine count pairs same many bytes body h =
    subst (λ ps. Behind IsPairLine (IsPairStep x) IsLong (λ n rest. (n ≡ 0) × (rest ≡ body)) ps (length ps) bytes) (sym same)
    (subst (λ n. Behind IsPairLine (IsPairStep x) IsLong (λ n rest. (n ≡ 0) × (rest ≡ body)) pairs.items n bytes) (sym many) h)

-- ---- a line, and what is after it

-- it is refused, whatever is after it
pub front_refused : {X : Type 0} (IsText : List ℕ → X → Type 0) (InRange : X → Type 0) (Then : X → List ℕ → ℕ × LineCause → Type 0) (IsLong : List ℕ → Type 0) (n : ℕ) (bytes : List ℕ) (p : ℕ × LineCause) →
    (line_part IsText InRange).refused IsLong n bytes p → Unless (¬ (IsLong bytes)) (IsLong bytes) (n, TooLong)
    (λ q. (BeginsWithNone IsText bytes × (q ≡ (n, Text))) ⊎ ((x : X) × (rest : List ℕ) × BeginsWith IsText bytes x rest × Unless (InRange x) (¬ (InRange x)) (n, Range) (Then x rest) q)) p
front_refused IsText InRange Then IsLong n bytes p h =
    ⊎_elim (λ f. inl f) (λ s. inr (s.0, ⊎_elim (λ none. inl none) (λ o. inr (o.0.0, o.0.1, o.0.2, inl (o.0.3, o.1))) s.1)) h

-- ---- the cut's line and its pairs

module _ (g : Aig) (IsLong : List ℕ → Type 0) where
  abbrev cut_line : HeaderPart (Option (ℕ × ℕ))
  cut_line = line_part IsCutLine (IsSizeInRange (length g.outputs))

  pub no_cut : (bytes body : List ℕ) → cut_line.passes IsLong bytes None body → PassesCut g IsLong bytes None body
  no_cut bytes body l = (l.0, l.1)

  pub cut_joined : (cut : Cut) (count : ℕ) (pairs : Vec (Lit × Lit) Global) → cut.pairs ≡ pairs.items → length pairs.items ≡ count → (bytes rest body : List ℕ) → cut_line.passes IsLong bytes (Some (cut.lo, count)) rest →
      (pairs_part (without_cut g) count).passes IsLong rest pairs body → PassesCut g IsLong bytes (Some cut) body
  cut_joined cut count pairs same many bytes rest body l h =
      let n = ap length same ∙ many in
      let k = subst (λ m. cut_line.passes IsLong bytes (Some (cut.lo, m)) rest) (sym n) l in
      (rest, k.0, k.1, k.2, pairs_of (without_cut g) IsLong cut.pairs count pairs same many rest body h)

  pub cut_refused : (number lo count : ℕ) → number ≡ 1 → (bytes rest : List ℕ) (p : ℕ × LineCause) → cut_line.passes IsLong bytes (Some (lo, count)) rest → (pairs_part (without_cut g) count).refused IsLong (number + 1 + 1) rest p →
      IsRefusedCut nothing_later g IsLong bytes p
  cut_refused number lo count first bytes rest p l r =
      inr (l.0, inr (Some (lo, count), rest, l.1, inr (l.2, subst (λ n. IsRefusedPairs nothing_later (cut_at g lo) (without_cut g) IsLong n count rest p) (omega (arith, first)) (r (cut_at g lo)))))

  pub size_refused : (number : ℕ) → number ≡ 1 → (bytes : List ℕ) (p : ℕ × LineCause) → cut_line.refused IsLong (number + 1) bytes p → IsRefusedCut nothing_later g IsLong bytes p
  size_refused number first bytes p h =
      ⊎_elim (λ f. inl f) (λ s. inr (s.0, ⊎_elim (λ none. inl none) (λ o. inr (o.0.0, o.0.1, o.0.2, out o.0.0 o.0.1 o.0.3 o.1)) s.1))
      (subst (λ n. cut_line.refused IsLong n bytes p) (ap (λ n. n + 1) first) h)
    where
      out : (size : Option (ℕ × ℕ)) (rest : List ℕ) → ¬ (IsSizeInRange (length g.outputs) size) → p ≡ (2, Range) → IsRefusedBehindCut nothing_later g IsLong size rest p
      out None rest none is = absurd (none tt)
      out (Some n) rest none is = inl (none, is)

-- ---- a block's line and its pairs

module _ (x : Extended) (IsLong : List ℕ → Type 0) where
  abbrev head_line : HeaderPart (ℕ × ℕ × Bool)
  head_line = line_part IsBlockLine (IsHeadOf x)

  pub block_joined : (b : Block) (count : ℕ) (pairs : Vec (Lit × Lit) Global) → b.cut.pairs ≡ pairs.items → length pairs.items ≡ count → (bytes rest body : List ℕ) → head_line.passes IsLong bytes (b.cut.lo, count, b.carry) rest →
      (pairs_part x count).passes IsLong rest pairs body → PassesBlock IsLong x bytes b body
  block_joined b count pairs same many bytes rest body l h =
      let n = ap length same ∙ many in
      let k = subst (λ m. head_line.passes IsLong bytes (b.cut.lo, m, b.carry) rest) (sym n) l in
      (rest, k.0, k.1, k.2, pairs_of x IsLong b.cut.pairs count pairs same many rest body h)

  pub block_refused : (number : ℕ) (h : ℕ × ℕ × Bool) (bytes rest : List ℕ) (p : ℕ × LineCause) → head_line.passes IsLong bytes h rest → (pairs_part x h.1).refused IsLong (number + 1 + 1) rest p → IsRefusedBlock nothing_later IsLong x (number + 1) bytes p
  block_refused number h bytes rest p l r = inr (l.0, inr (h, rest, l.1, inr (l.2, r (block_at x h))))

  pub head_refused : (number : ℕ) (bytes : List ℕ) (p : ℕ × LineCause) → head_line.refused IsLong number bytes p → IsRefusedBlock nothing_later IsLong x number bytes p
  head_refused number bytes p h = front_refused IsBlockLine (IsHeadOf x) (λ k rest. IsRefusedPairs nothing_later (block_at x k) x IsLong (number + 1) k.1 rest) IsLong number bytes p h

-- a block of a line and its pairs fits
pub block_fits : (x : Extended) (b : Block) (count : ℕ) → length b.cut.pairs ≡ count → IsHeadOf x (b.cut.lo, count, b.carry) → All (IsPairOf x) b.cut.pairs → IsBlock x b
block_fits x b count many h known =
    let k : IsHeadOf x (b.cut.lo, length b.cut.pairs, b.carry) = subst (λ n. IsHeadOf x (b.cut.lo, n, b.carry)) (sym many) h in
    record { some = k.some; within = k.within; apart = k.apart; known = known }

pub blocks_more_fit : (start x : Extended) (blocks : List Block) (b : Block) → AreBlocks start blocks → x ≡ graft_all start blocks → IsBlock x b → AreBlocks start (blocks ++ b ∷ [])
blocks_more_fit start x [] b fit is one = (subst (λ (y : Extended). IsBlock y b) is one, tt)
blocks_more_fit start x (c ∷ blocks) b fit is one = (fit.0, blocks_more_fit (graft_block start c) x blocks b fit.1 is one)

pub blocks_more_made : (start x next : Extended) (blocks : List Block) (b : Block) → x ≡ graft_all start blocks → next ≡ graft_block x b → next ≡ graft_all start (blocks ++ b ∷ [])
blocks_more_made start x next [] b is next_is = next_is ∙ ap (λ (y : Extended). graft_block y b) is
blocks_more_made start x next (c ∷ blocks) b is next_is = blocks_more_made (graft_block start c) x next blocks b is next_is

pub lines_more : (own : ℕ) (blocks : List Block) (b : Block) → block_lines own (blocks ++ b ∷ []) ≡ block_lines own blocks + (own + length b.cut.pairs)
lines_more own [] b = omega arith
lines_more own (c ∷ blocks) b = let more = lines_more own blocks b in omega arith

pub some_left : (i count : ℕ) → i < count → (n : ℕ) × (suc n + i ≡ count)
some_left i zero h = absurd (omega arith)
some_left zero (suc count) h = (count, omega arith)
some_left (suc i) (suc count) h = let more = some_left i count (omega arith) in let same = more.1 in (more.0, omega arith)

-- ---- the loop over blocks

-- Where so many of the blocks that are to come passed: what passes or is refused from here on does so from the first one on.
abbrev pub blocks_so_far : Extended → ℕ → HeaderPart (Vec Block Global)
blocks_so_far start count = record {
  passes = λ IsLong bytes blocks rest.
      ((more : List Block) (body : List ℕ) → PassBlocks IsLong (graft_all start blocks.items) rest more body → PassBlocks IsLong start bytes (blocks.items ++ more) body) ×
      ((number left : ℕ) (p : ℕ × LineCause) → left + length blocks.items ≡ count → IsRefusedBlocks nothing_later IsLong left (graft_all start blocks.items) (number + block_lines 1 blocks.items) rest p →
      IsRefusedBlocks nothing_later IsLong count start number bytes p);
  refused = λ IsLong number bytes p. ⊥;
  lines = λ blocks. block_lines 1 blocks.items;
}

pub no_blocks : (start : Extended) (count : ℕ) (none : Vec Block Global) → none.items ≡ [] → (IsLong : List ℕ → Type 0) (bytes : List ℕ) → (blocks_so_far start count).passes IsLong bytes none bytes
no_blocks start count none is IsLong bytes =
    subst (λ bs. ((more : List Block) (body : List ℕ) → PassBlocks IsLong (graft_all start bs) bytes more body → PassBlocks IsLong start bytes (bs ++ more) body) ×
    ((number left : ℕ) (p : ℕ × LineCause) → left + length bs ≡ count → IsRefusedBlocks nothing_later IsLong left (graft_all start bs) (number + block_lines 1 bs) bytes p → IsRefusedBlocks nothing_later IsLong count start number bytes p)) (sym is) (
      λ more body h. h,
      λ number left p n h. subst (λ k. IsRefusedBlocks nothing_later IsLong count start k bytes p) (omega arith) (subst (λ k. IsRefusedBlocks nothing_later IsLong k start (number + 0) bytes p) (omega (arith, n)) h),
    )

module _ (start x : Extended) (count : ℕ) (blocks : Vec Block Global) (early : length blocks.items < count) (is : x ≡ graft_all start blocks.items) (IsLong : List ℕ → Type 0) (bytes rest : List ℕ)
    (so_far : (blocks_so_far start count).passes IsLong bytes blocks rest) where
  -- one more passes
  pub block_on : (longer : Vec Block Global) (b : Block) (body : List ℕ) → longer.items ≡ blocks.items ++ b ∷ [] → PassesBlock IsLong x rest b body → (blocks_so_far start count).passes IsLong bytes longer body
  block_on longer b body made here =
      let all : PassesBlock IsLong (graft_all start blocks.items) rest b body = subst (λ (y : Extended). PassesBlock IsLong y rest b body) is here in
      let grafted : graft_all start longer.items ≡ graft_block (graft_all start blocks.items) b = ap (graft_all start) made ∙ sym (blocks_more_made start (graft_all start blocks.items) (graft_block (graft_all start blocks.items) b) blocks.items b refl refl) in
      let many : length longer.items ≡ length blocks.items + 1 = ap length made ∙ length-append blocks.items (b ∷ []) in
      let lines : block_lines 1 longer.items ≡ block_lines 1 blocks.items + (1 + length b.cut.pairs) = ap (block_lines 1) made ∙ lines_more 1 blocks.items b in (
        λ more end h. subst (λ bs. PassBlocks IsLong start bytes bs end) (sym (ap (λ bs. bs ++ more) made ∙ append_assoc blocks.items (b ∷ []) more))
            (so_far.0 (b ∷ more) end (body, all, subst (λ (y : Extended). PassBlocks IsLong y body more end) grafted h)),
        λ number left p n h. so_far.1 number (suc left) p (omega (arith, n, many))
            (block_passes_on (IsRefusedBlocks nothing_later IsLong left) IsLong (graft_all start blocks.items) (number + block_lines 1 blocks.items) rest b body p all
            (subst (λ k. IsRefusedBlocks nothing_later IsLong left (graft_block (graft_all start blocks.items) b) k body p) (omega (arith, lines))
            (subst (λ (y : Extended). IsRefusedBlocks nothing_later IsLong left y (number + block_lines 1 longer.items) body p) grafted h))),
      )

  -- one more is refused
  pub blocks_refused : (first : ℕ) (p : ℕ × LineCause) → IsRefusedBlock nothing_later IsLong x (first + block_lines 1 blocks.items + 1) rest p → IsRefusedBlocks nothing_later IsLong count start (first + 1) bytes p
  blocks_refused first p r =
      let n = some_left (length blocks.items) count early in
      let number : first + block_lines 1 blocks.items + 1 ≡ first + 1 + block_lines 1 blocks.items = omega arith in
      so_far.1 (first + 1) (suc n.0) p n.1
      (block_whatever (IsRefusedBlocks nothing_later IsLong n.0) IsLong (graft_all start blocks.items) (first + 1 + block_lines 1 blocks.items) rest p
      (subst (λ k. IsRefusedBlock nothing_later IsLong (graft_all start blocks.items) k rest p) number (subst (λ (y : Extended). IsRefusedBlock nothing_later IsLong y (first + block_lines 1 blocks.items + 1) rest p) is r)))

pub append_none : {X : Type 0} (xs : List X) → xs ++ [] ≡ xs
append_none [] = refl
append_none (x ∷ xs) = ap (λ ys. x ∷ ys) (append_none xs)

-- all passed
pub blocks_all : (start : Extended) (count : ℕ) (blocks : Vec Block Global) (IsLong : List ℕ → Type 0) (bytes body : List ℕ) → (blocks_so_far start count).passes IsLong bytes blocks body → PassBlocks IsLong start bytes blocks.items body
blocks_all start count blocks IsLong bytes body h = subst (λ bs. PassBlocks IsLong start bytes bs body) (append_none blocks.items) (h.0 [] body refl)

-- ---- the number of blocks, and they

module _ (g : Aig) (IsLong : List ℕ → Type 0) where
  abbrev count_line : HeaderPart ℕ
  count_line = line_part IsCountLine (IsCountInRange (length g.outputs))

  pub counted_joined : (count : ℕ) (blocks : List Block) → length blocks ≡ count → (bytes rest body : List ℕ) → count_line.passes IsLong bytes count rest → PassBlocks IsLong (without_cut g) rest blocks body → PassesCount g IsLong bytes blocks body
  counted_joined count blocks many bytes rest body l h = let k = subst (λ n. count_line.passes IsLong bytes n rest) (sym many) l in (rest, k.0, k.1, k.2, h)

  pub counted_refused : (number count : ℕ) → number ≡ 1 → (bytes rest : List ℕ) (p : ℕ × LineCause) → count_line.passes IsLong bytes count rest → IsRefusedBlocks nothing_later IsLong count (without_cut g) (number + 1 + 1) rest p →
      IsRefusedCount nothing_later g IsLong bytes p
  counted_refused number count first bytes rest p l r = inr (l.0, inr (count, rest, l.1, inr (l.2, subst (λ n. IsRefusedBlocks nothing_later IsLong count (without_cut g) n rest p) (omega (arith, first)) r)))

  pub count_refused : (number : ℕ) → number ≡ 1 → (bytes : List ℕ) (p : ℕ × LineCause) → count_line.refused IsLong (number + 1) bytes p → IsRefusedCount nothing_later g IsLong bytes p
  count_refused number first bytes p h =
      front_refused IsCountLine (IsCountInRange (length g.outputs)) (λ n rest. IsRefusedBlocks nothing_later IsLong n (without_cut g) 3 rest) IsLong 2 bytes p (subst (λ n. count_line.refused IsLong n bytes p) (ap (λ n. n + 1) first) h)

-- they, where their number was read
pub counted_read : (g : Aig) (count : ℕ) {old mid new : FileState} {before between now : View} (r : Result (Vec Block Global) LineFail) → old.number ≡ 1 → mid.lines.lengths ≡ old.lines.lengths → between.read_faults ≡ before.read_faults →
    ReadsHeaderPart (line_part IsCountLine (IsCountInRange (length g.outputs))) old mid before between (Ok count) → IfOk r (λ bs. length bs.items ≡ count) → ReadsHeaderPart (blocks_part (without_cut g) count) mid new between now r → ReadsHeaderPart (count_part g) old new before now r
counted_read g count (Ok blocks) first lengths stands line many h =
    part_behind (line_part IsCountLine (IsCountInRange (length g.outputs))) (blocks_part (without_cut g) count) (count_part g) count lengths line blocks blocks refl (λ IsLong. counted_joined g IsLong count blocks.items many) h
counted_read g count {old} (Err f) first lengths stands line many h =
    refused_behind (line_part IsCountLine (IsCountInRange (length g.outputs))) (blocks_part (without_cut g) count) (count_part g) count lengths line f stands (λ IsLong. counted_refused g IsLong old.number count first) h

pub counted_fit : (g : Aig) (count : ℕ) (r : Result (Vec Block Global) LineFail) → count ≤ length g.outputs → IfOk r (λ bs. length bs.items ≡ count) → IfOk r (λ bs. AreBlocks (without_cut g) bs.items) →
    IfOk r (λ bs. (length bs.items ≤ length g.outputs) × AreBlocks (without_cut g) bs.items)
counted_fit g count (Ok bs) few many fit = (omega (arith, many, few), fit)
counted_fit g count (Err f) few many fit = fit
