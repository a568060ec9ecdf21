-- Lists that are written item by item.
use Rattle.std.specs.Prelude.{◌≡◌, ◌<◌, ◌+◌, ℕ, ℤ, suc, List, [], ◌∷◌, ◌++◌, length, codes, drop, get_or}
use Rattle.std.specs.Fmt.{signed_decimal}
use Rattle.std.proofs.Common.{refl, sym, ap, ◌∙◌, arith, drop-cons, append_assoc}
use Rattle.graph_core.specs.declared.literal.Lit.{Lit}
use Rattle.graph_core.specs.Text.{newline, space}
use Rattle.std.specs.declared.option.Option.TheVariants.{None, Some}
use Rattle.ripple_graft.specs.declared.block.Block.{Block}
use Rattle.clause_core.specs.ClauseLines.{ClauseLine}
use Rattle.drup_text.specs.Headers.{second_line, third_line}
use Rattle.drup_text.specs.WrittenTexts.{block_text, blocks_text, clause_line_text, clause_lines_text, clause_text, first_cut, literals_text, output_lines_text, pairs_text, two_text}

pub next_item : {A : Type 0} (xs : List A) (i : ℕ) (d : A) → i < length xs → drop i xs ≡ get_or xs i d ∷ drop (i + 1) xs
next_item xs i d early = let one : suc i ≡ i + 1 = omega arith in drop-cons xs i d early ∙ ap (λ n. get_or xs i d ∷ drop n xs) one

pub next_pair : (pairs : List (Lit × Lit)) (i : ℕ) (d : Lit × Lit) → i < length pairs →
    pairs_text (drop i pairs) ≡ (two_text (get_or pairs i d).0.0 (get_or pairs i d).1.0 ++ newline ∷ []) ++ pairs_text (drop (i + 1) pairs)
next_pair pairs i d early =
    let p = get_or pairs i d in
    ap pairs_text (next_item pairs i d early) ∙ sym (append_assoc (two_text p.0.0 p.1.0) (newline ∷ []) (pairs_text (drop (i + 1) pairs)))

pub next_line : (lines : List ClauseLine) (i : ℕ) (d : ClauseLine) → i < length lines → clause_lines_text (drop i lines) ≡ (clause_line_text (get_or lines i d) ++ newline ∷ []) ++ clause_lines_text (drop (i + 1) lines)
next_line lines i d early =
    ap clause_lines_text (next_item lines i d early) ∙ sym (append_assoc (clause_line_text (get_or lines i d)) (newline ∷ []) (clause_lines_text (drop (i + 1) lines)))

pub next_block : (blocks : List Block) (i : ℕ) (d : Block) → i < length blocks → blocks_text (drop i blocks) ≡ block_text (get_or blocks i d) ++ blocks_text (drop (i + 1) blocks)
next_block blocks i d early = ap blocks_text (next_item blocks i d early)

pub head_end : (lo count carry : List ℕ) →
    ((((codes "replace " ++ lo) ++ codes " ") ++ count) ++ carry) ++ newline ∷ [] ≡ (codes "replace " ++ lo ++ space ∷ (count ++ carry)) ++ newline ∷ []
head_end lo count carry = simp append_assoc

pub block_end : (head pairs : List ℕ) → (head ++ newline ∷ []) ++ pairs ≡ head ++ newline ∷ pairs
block_end head pairs = append_assoc head (newline ∷ []) pairs

pub count_end : (count blocks : List ℕ) → (((codes "joined 2\ncuts ") ++ count) ++ newline ∷ []) ++ blocks ≡ second_line ++ (codes "cuts " ++ count ++ newline ∷ blocks)
count_end count blocks = ap (λ z. codes "joined 2\ncuts " ++ z) (append_assoc count (newline ∷ []) blocks)

pub next_output : (outputs : List (ℕ × Lit)) (i : ℕ) (d : ℕ × Lit) → i < length outputs →
    output_lines_text (drop i outputs) ≡ (two_text (get_or outputs i d).0 (get_or outputs i d).1.0 ++ newline ∷ []) ++ output_lines_text (drop (i + 1) outputs)
next_output outputs i d early =
    let c = get_or outputs i d in
    ap output_lines_text (next_item outputs i d early) ∙ sym (append_assoc (two_text c.0 c.1.0) (newline ∷ []) (output_lines_text (drop (i + 1) outputs)))

abbrev pub no_output : ℕ × Lit
no_output = (0, record { 0 = 0 })

pub outputs_end : (count outputs : List ℕ) → ((codes "replace " ++ count) ++ newline ∷ []) ++ outputs ≡ codes "replace " ++ count ++ newline ∷ outputs
outputs_end count outputs = ap (λ z. codes "replace " ++ z) (append_assoc count (newline ∷ []) outputs)

pub beside_end : (count gates outputs : List ℕ) →
    ((((codes "joined 3\ngates ") ++ count) ++ newline ∷ []) ++ gates) ++ outputs ≡ third_line ++ ((codes "gates " ++ count ++ newline ∷ gates) ++ outputs)
beside_end count gates outputs = ap (λ z. codes "joined 3\ngates " ++ z) (ap (λ z. z ++ outputs) (append_assoc count (newline ∷ []) gates))

-- the cut of the first block
pub first_there : (blocks : List Block) (d : Block) → 0 < length blocks → first_cut blocks ≡ Some (get_or blocks 0 d).cut
first_there [] d some = absurd (omega arith)
first_there (c ∷ blocks) d some = refl

pub first_missing : (blocks : List Block) → length blocks ≡ 0 → first_cut blocks ≡ None
first_missing [] none = refl
first_missing (c ∷ blocks) none = absurd (omega arith)

pub next_literal : (ls : List ℤ) (i : ℕ) (d : ℤ) → i < length ls → literals_text (drop i ls) [] ≡ (signed_decimal (get_or ls i d) ++ space ∷ []) ++ literals_text (drop (i + 1) ls) []
next_literal ls i d early =
    ap (λ xs. literals_text xs []) (next_item ls i d early) ∙ sym (append_assoc (signed_decimal (get_or ls i d)) (space ∷ []) (literals_text (drop (i + 1) ls) []))

-- what stands after literals
pub literals_end : (ls : List ℤ) (end : List ℕ) → literals_text ls end ≡ literals_text ls [] ++ end
literals_end [] end = refl
literals_end (l ∷ ls) end = ap (λ z. signed_decimal l ++ space ∷ z) (literals_end ls end) ∙ sym (append_assoc (signed_decimal l) (space ∷ literals_text ls []) end)

pub clause_end : (c : List ℤ) → literals_text c [] ++ codes "0\n" ≡ clause_text c ++ newline ∷ []
clause_end c = sym (append_assoc (literals_text c []) (codes "0") (newline ∷ [])) ∙ ap (λ z. z ++ newline ∷ []) (sym (literals_end c (codes "0")))

abbrev pub no_pair : Lit × Lit
no_pair = (record { 0 = 0 }, record { 0 = 0 })

pub cut_end : (one rest two : List ℕ) → (one ++ (two ++ newline ∷ [])) ++ rest ≡ (one ++ two) ++ newline ∷ rest
cut_end one rest two = ap (λ z. z ++ rest) (sym (append_assoc one two (newline ∷ []))) ∙ append_assoc (one ++ two) (newline ∷ []) rest
