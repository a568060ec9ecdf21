-- No text is two clause certificates.
use Rattle.std.specs.Prelude.{◌≡◌, ℕ, Bool, List, [], ◌∷◌, ◌++◌, length}
use Rattle.std.specs.declared.option.Option.{Option}
use Rattle.std.specs.declared.option.Option.TheVariants.{None, Some}
use Rattle.std.proofs.Common.{refl, sym, ap, ap₂, subst, ◌∙◌, arith, get_or, ⊎_elim}
use Rattle.std.proofs.lemmas.Option.{same_Some}
use Rattle.graph_core.specs.declared.literal.Lit.{Lit}
use Rattle.graph_core.specs.Text.{newline}
use Rattle.graph_core.specs.Text.JudgedLines.{BeginsWith}
use Rattle.graph_core.proofs.OfTexts.CallerLemmas.{Anything, IsReaderOf, Ended, one_line}
use Rattle.graph_core.specs.Text.Readers.{Reader, ended_at}
use Rattle.ripple_graft.specs.declared.beside.Beside.{Beside}
use Rattle.ripple_graft.specs.declared.block.Block.{Block}
use Rattle.ripple_graft.specs.declared.cut.Cut.{Cut}
use Rattle.ripple_graft.specs.HeaderBlocks.{cut_blocks}
use Rattle.clause_core.specs.ClauseLines.{ClauseLine}
use Rattle.drup_text.specs.ClauseReading.{block_line_at, clause_line_at, count_line_at, cut_line_at, gates_line_at, output_line_at, pair_line_at, replace_line_at}
use Rattle.drup_text.specs.ClauseTexts.{AreLinesOf, IsBlockLine, IsClauseLine, IsCountLine, IsCutLine, IsGatesLine, IsOutputLine, IsPairLine, IsReplaceLine}
use Rattle.drup_text.specs.Listings.{IsListed, Listing, gate_listing, output_listing}
use Rattle.drup_text.specs.declared.head.Header.{Header}
use Rattle.drup_text.specs.Headers.{AreBlockTexts, IsAnyHeaderText, IsBesideText, IsBlocksText, IsClauseHeaderText, IsCutText, head_of, second_line, third_line, version_line}
use Rattle.drup_text.specs.WrittenLaws.{OneTextIsOneFile}
use Rattle.drup_text.proofs.ClauseReading.{block_item, clause_item, count_item, cut_item, gates_item, output_item, pair_item, replace_item}
use Rattle.mv_text.proofs.CallerLemmas.{some_left}

abbrev NoStep : {Line : Type 0} → ℕ → Line → ℕ → Type 0
NoStep s x t = ⊥

same_line : {Line : Type 0} (IsText : List ℕ → Line → Type 0) (item : Reader Line) → IsReaderOf item (Ended IsText (newline ∷ [])) Anything → (bytes : List ℕ) (x y : Line) (rest more : List ℕ) → BeginsWith IsText bytes x rest → BeginsWith IsText bytes y more → (x ≡ y) × (rest ≡ more)
same_line IsText item r bytes x y rest more h i = one_line IsText NoStep (λ z. ⊥) item r bytes x y rest more h i

pub same_size : (bytes : List ℕ) (x y : Option (ℕ × ℕ)) (rest more : List ℕ) → BeginsWith IsCutLine bytes x rest → BeginsWith IsCutLine bytes y more → (x ≡ y) × (rest ≡ more)
same_size = same_line IsCutLine (ended_at cut_line_at (newline ∷ [])) cut_item

pub same_count : (bytes : List ℕ) (x y : ℕ) (rest more : List ℕ) → BeginsWith IsCountLine bytes x rest → BeginsWith IsCountLine bytes y more → (x ≡ y) × (rest ≡ more)
same_count = same_line IsCountLine (ended_at count_line_at (newline ∷ [])) count_item

pub same_head : (bytes : List ℕ) (x y : ℕ × ℕ × Bool) (rest more : List ℕ) → BeginsWith IsBlockLine bytes x rest → BeginsWith IsBlockLine bytes y more → (x ≡ y) × (rest ≡ more)
same_head = same_line IsBlockLine (ended_at block_line_at (newline ∷ [])) block_item

pub same_pair : (bytes : List ℕ) (x y : Lit × Lit) (rest more : List ℕ) → BeginsWith IsPairLine bytes x rest → BeginsWith IsPairLine bytes y more → (x ≡ y) × (rest ≡ more)
same_pair = same_line IsPairLine (ended_at pair_line_at (newline ∷ [])) pair_item

not_at_end : {Line : Type 0} (IsText : List ℕ → Line → Type 0) (x : Line) (rest : List ℕ) → BeginsWith IsText [] x rest → ⊥
not_at_end IsText x rest b = some_left b.0 rest (sym b.2)

pub lines_one : (bytes : List ℕ) (xs ys : List ClauseLine) → AreLinesOf IsClauseLine bytes xs [] → AreLinesOf IsClauseLine bytes ys [] → xs ≡ ys
lines_one bytes [] [] h i = refl
lines_one bytes [] (y ∷ ys) h i = absurd (not_at_end IsClauseLine y i.0 (subst (λ z. BeginsWith IsClauseLine z y i.0) h i.1))
lines_one bytes (x ∷ xs) [] h i = absurd (not_at_end IsClauseLine x h.0 (subst (λ z. BeginsWith IsClauseLine z x h.0) i h.1))
lines_one bytes (x ∷ xs) (y ∷ ys) h i =
    let same = same_line IsClauseLine (ended_at clause_line_at (newline ∷ [])) clause_item bytes x y h.0 i.0 h.1 i.1 in
    ap₂ ◌∷◌ same.0 (lines_one i.0 xs ys (subst (λ z. AreLinesOf IsClauseLine z xs []) same.1 h.2) i.2)

pairs_one : (bytes : List ℕ) (ps qs : List (Lit × Lit)) (a b : List ℕ) → length ps ≡ length qs → AreLinesOf IsPairLine bytes ps a → AreLinesOf IsPairLine bytes qs b → (ps ≡ qs) × (a ≡ b)
pairs_one bytes [] [] a b e h i = (refl, sym h ∙ i)
pairs_one bytes [] (q ∷ qs) a b e h i = absurd (omega arith)
pairs_one bytes (p ∷ ps) [] a b e h i = absurd (omega arith)
pairs_one bytes (p ∷ ps) (q ∷ qs) a b e h i =
    let same = same_pair bytes p q h.0 i.0 h.1 i.1 in
    let more = pairs_one i.0 ps qs a b (omega arith) (subst (λ z. AreLinesOf IsPairLine z ps a) same.1 h.2) i.2 in
    (ap₂ ◌∷◌ same.0 more.0, more.1)

cut_one : (bytes : List ℕ) (c d : Option Cut) (a b : List ℕ) → IsCutText bytes c a → IsCutText bytes d b → (c ≡ d) × (a ≡ b)
cut_one bytes None None a b h i = (refl, (same_size bytes None None a b h i).1)
cut_one bytes None (Some d) a b h i = absurd (clash (same_size bytes None (Some (d.lo, length d.pairs)) a i.0 h i.1).0)
  where
    clash : ◌≡◌ {A = Option (ℕ × ℕ)} None (Some (d.lo, length d.pairs)) → ⊥
    clash e = absurd (cc)
cut_one bytes (Some c) None a b h i = absurd (clash (same_size bytes None (Some (c.lo, length c.pairs)) b h.0 i h.1).0)
  where
    clash : ◌≡◌ {A = Option (ℕ × ℕ)} None (Some (c.lo, length c.pairs)) → ⊥
    clash e = absurd (cc)
cut_one bytes (Some c) (Some d) a b h i =
    let same = same_size bytes (Some (c.lo, length c.pairs)) (Some (d.lo, length d.pairs)) h.0 i.0 h.1 i.1 in
    let numbers = same_Some (c.lo, length c.pairs) (d.lo, length d.pairs) same.0 in
    let pairs = pairs_one i.0 c.pairs d.pairs a b (ap (λ p. p.1) numbers) (subst (λ z. AreLinesOf IsPairLine z c.pairs a) same.1 h.2) i.2 in
    (ap₂ (λ n ps. Some (made n ps)) (ap (λ p. p.0) numbers) pairs.0, pairs.1)
  where
    made : ℕ → List (Lit × Lit) → Cut
    made n ps = record { lo = n; pairs = ps }

-- ---- blocks

same_block : (x y : Block) → x.cut.lo ≡ y.cut.lo → x.cut.pairs ≡ y.cut.pairs → x.carry ≡ y.carry → x ≡ y
same_block x y lo pairs carry = ap (λ n. made n x.cut.pairs x.carry) lo ∙ ap (λ ps. made y.cut.lo ps x.carry) pairs ∙ ap (made y.cut.lo y.cut.pairs) carry
  where
    made : ℕ → List (Lit × Lit) → Bool → Block
    made n ps c = record { cut = record { lo = n; pairs = ps }; carry = c }

blocks_one : (bytes : List ℕ) (xs ys : List Block) (a b : List ℕ) → length xs ≡ length ys → AreBlockTexts bytes xs a → AreBlockTexts bytes ys b → (xs ≡ ys) × (a ≡ b)
blocks_one bytes [] [] a b e h i = (refl, sym h ∙ i)
blocks_one bytes [] (y ∷ ys) a b e h i = absurd (omega arith)
blocks_one bytes (x ∷ xs) [] a b e h i = absurd (omega arith)
blocks_one bytes (x ∷ xs) (y ∷ ys) a b e h i =
    let head = same_head bytes (head_of x) (head_of y) h.0 i.0 h.2 i.2 in
    let pairs = pairs_one i.0 x.cut.pairs y.cut.pairs h.1 i.1 (ap (λ z. z.1) head.0) (subst (λ z. AreLinesOf IsPairLine z x.cut.pairs h.1) head.1 h.3) i.3 in
    let more = blocks_one i.1 xs ys a b (omega arith) (subst (λ z. AreBlockTexts z xs a) pairs.1 h.4) i.4 in
    (ap₂ ◌∷◌ (same_block x y (ap (λ z. z.0) head.0) pairs.0 (ap (λ z. z.2) head.0)) more.0, more.1)

count_one : (bytes : List ℕ) (xs ys : List Block) (a b : List ℕ) → IsBlocksText bytes xs a → IsBlocksText bytes ys b → (xs ≡ ys) × (a ≡ b)
count_one bytes xs ys a b h i =
    let count = same_count bytes (length xs) (length ys) h.0 i.0 h.1 i.1 in
    blocks_one i.0 xs ys a b count.0 (subst (λ z. AreBlockTexts z xs a) count.1 h.2) i.2

-- ---- listed lines

-- no bytes begin with two of its lines, nor with two numbers
pub record AreLinesOne {X : Type 0} (l : Listing X) : Type 0 where
  pub number : (bytes : List ℕ) (x y : ℕ) (rest more : List ℕ) → BeginsWith l.number_text bytes x rest → BeginsWith l.number_text bytes y more → (x ≡ y) × (rest ≡ more)
  pub line : (bytes : List ℕ) (x y : X) (rest more : List ℕ) → BeginsWith l.text bytes x rest → BeginsWith l.text bytes y more → (x ≡ y) × (rest ≡ more)

pub gates_are_one : AreLinesOne gate_listing
gates_are_one = record { number = same_line IsGatesLine (ended_at gates_line_at (newline ∷ [])) gates_item; line = same_pair }

pub outputs_are_one : AreLinesOne output_listing
outputs_are_one = record { number = same_line IsReplaceLine (ended_at replace_line_at (newline ∷ [])) replace_item; line = same_line IsOutputLine (ended_at output_line_at (newline ∷ [])) output_item }

module _ {X : Type 0} (l : Listing X) (is : AreLinesOne l) where
  listed_one : (bytes : List ℕ) (xs ys : List X) (a b : List ℕ) → length xs ≡ length ys → AreLinesOf l.text bytes xs a → AreLinesOf l.text bytes ys b → (xs ≡ ys) × (a ≡ b)
  listed_one bytes [] [] a b e h i = (refl, sym h ∙ i)
  listed_one bytes [] (y ∷ ys) a b e h i = absurd (omega arith)
  listed_one bytes (x ∷ xs) [] a b e h i = absurd (omega arith)
  listed_one bytes (x ∷ xs) (y ∷ ys) a b e h i =
      let same = is.line bytes x y h.0 i.0 h.1 i.1 in
      let more = listed_one i.0 xs ys a b (omega arith) (subst (λ z. AreLinesOf l.text z xs a) same.1 h.2) i.2 in
      (ap₂ ◌∷◌ same.0 more.0, more.1)

  listing_one : (bytes : List ℕ) (xs ys : List X) (a b : List ℕ) → IsListed l bytes xs a → IsListed l bytes ys b → (xs ≡ ys) × (a ≡ b)
  listing_one bytes xs ys a b h i =
      let count = is.number bytes (length xs) (length ys) h.0 i.0 h.1 i.1 in
      listed_one i.0 xs ys a b count.0 (subst (λ z. AreLinesOf l.text z xs a) count.1 h.2) i.2

beside_one : (bytes : List ℕ) (x y : Beside) (a b : List ℕ) → IsBesideText bytes x a → IsBesideText bytes y b → (x ≡ y) × (a ≡ b)
beside_one bytes x y a b h i =
    let gates = listing_one gate_listing gates_are_one bytes x.gates y.gates h.0 i.0 h.1 i.1 in
    let outputs = listing_one output_listing outputs_are_one i.0 x.outputs y.outputs a b (subst (λ z. IsListed output_listing z x.outputs a) gates.1 h.2) i.2 in
    (ap₂ made gates.0 outputs.0, outputs.1)
  where
    made : List (Lit × Lit) → List (ℕ × Lit) → Beside
    made gates outputs = record { gates = gates; outputs = outputs }

-- ---- whole files

pub same_body : (x y : List ℕ) → version_line ++ x ≡ version_line ++ y → x ≡ y
same_body x y e = cc

pub second_body : (x y : List ℕ) → second_line ++ x ≡ second_line ++ y → x ≡ y
second_body x y e = cc

pub third_body : (x y : List ℕ) → third_line ++ x ≡ third_line ++ y → x ≡ y
third_body x y e = cc

pub other_version : (x y : List ℕ) → version_line ++ x ≡ second_line ++ y → ⊥
other_version x y e = let other : ◌≡◌ {A = ℕ} 49 50 = ap (λ (z : List ℕ). get_or z 7 0) e in absurd (omega arith)

pub first_or_third : (x y : List ℕ) → version_line ++ x ≡ third_line ++ y → ⊥
first_or_third x y e = let other : ◌≡◌ {A = ℕ} 49 51 = ap (λ (z : List ℕ). get_or z 7 0) e in absurd (omega arith)

pub second_or_third : (x y : List ℕ) → second_line ++ x ≡ third_line ++ y → ⊥
second_or_third x y e = let other : ◌≡◌ {A = ℕ} 50 51 = ap (λ (z : List ℕ). get_or z 7 0) e in absurd (omega arith)

same_header : (h k : Header) → h.version ≡ k.version → h.blocks ≡ k.blocks → h.beside ≡ k.beside → h ≡ k
same_header h k version blocks beside = ap (λ v. made v h.blocks h.beside) version ∙ ap (λ bs. made k.version bs h.beside) blocks ∙ ap (made k.version k.blocks) beside
  where
    made : ℕ → List Block → Beside → Header
    made version blocks beside = record { version = version; blocks = blocks; beside = beside }

module _ (outputs : ℕ) (bytes : List ℕ) (h k : Header) (a b : List ℕ) where
  header_one : IsAnyHeaderText outputs bytes h a → IsAnyHeaderText outputs bytes k b → (h ≡ k) × (a ≡ b)
  header_one i j =
      ⊎_elim
      (λ p. ⊎_elim (λ q. firsts p.0 q.0 p.1.0 q.1.0 p.1.1 q.1.1 p.1.2 q.1.2 (p.2 ∙ sym q.2))
      (λ o. ⊎_elim (λ q. absurd (other_version p.1.2.0 q.1.0 (sym p.1.2.2 ∙ q.1.2))) (λ q. absurd (first_or_third p.1.2.0 q.1.0 (sym p.1.2.2 ∙ q.1.2))) o) j)
      (λ l. ⊎_elim
      (λ p. ⊎_elim (λ q. absurd (other_version q.1.2.0 p.1.0 (sym q.1.2.2 ∙ p.1.2)))
      (λ o. ⊎_elim (λ q. seconds p.0 q.0 p.1.0 q.1.0 p.1.1 q.1.1 p.1.2 q.1.2 (p.2 ∙ sym q.2)) (λ q. absurd (second_or_third p.1.0 q.1.0 (sym p.1.2 ∙ q.1.2))) o) j)
      (λ p. ⊎_elim (λ q. absurd (first_or_third q.1.2.0 p.1.0 (sym q.1.2.2 ∙ p.1.2)))
      (λ o. ⊎_elim (λ q. absurd (second_or_third q.1.0 p.1.0 (sym q.1.2 ∙ p.1.2))) (λ q. thirds p.0 q.0 p.1.0 q.1.0 p.1.1 q.1.1 p.1.2 q.1.2 (p.2 ∙ sym q.2)) o) j) l) i
    where
      firsts : h.version ≡ 1 → k.version ≡ 1 → (c d : Option Cut) → h.blocks ≡ cut_blocks outputs c → k.blocks ≡ cut_blocks outputs d → IsClauseHeaderText bytes c a → IsClauseHeaderText bytes d b → h.beside ≡ k.beside → (h ≡ k) × (a ≡ b)
      firsts one first c d cs ds p q beside =
          let same = cut_one q.0 c d a b (subst (λ z. IsCutText z c a) (same_body p.0 q.0 (sym p.2 ∙ q.2)) p.1) q.1 in
          (same_header h k (one ∙ sym first) (cs ∙ ap (cut_blocks outputs) same.0 ∙ sym ds) beside, same.1)

      seconds : h.version ≡ 2 → k.version ≡ 2 → (x y : List ℕ) → IsBlocksText x h.blocks a → IsBlocksText y k.blocks b → bytes ≡ second_line ++ x → bytes ≡ second_line ++ y → h.beside ≡ k.beside → (h ≡ k) × (a ≡ b)
      seconds two second x y p q e f beside =
          let same = count_one y h.blocks k.blocks a b (subst (λ z. IsBlocksText z h.blocks a) (second_body x y (sym e ∙ f)) p) q in
          (same_header h k (two ∙ sym second) same.0 beside, same.1)

      thirds : h.version ≡ 3 → k.version ≡ 3 → (x y : List ℕ) → IsBesideText x h.beside a → IsBesideText y k.beside b → bytes ≡ third_line ++ x → bytes ≡ third_line ++ y → h.blocks ≡ k.blocks → (h ≡ k) × (a ≡ b)
      thirds three third x y p q e f blocks =
          let same = beside_one y h.beside k.beside a b (subst (λ z. IsBesideText z h.beside a) (third_body x y (sym e ∙ f)) p) q in
          (same_header h k (three ∙ sym third) blocks same.0, same.1)

pub one_text_is_one_file : OneTextIsOneFile
one_text_is_one_file outputs bytes h k xs ys i j =
    let same = header_one outputs bytes h k i.0 j.0 i.1 j.1 in
    (same.0, lines_one j.0 xs ys (subst (λ z. AreLinesOf IsClauseLine z xs []) same.1 i.2) j.2)
