-- The header of a clause certificate passes, or there is one first refusal, given as much of what stands after it.
use Rattle.std.specs.Prelude.{◌≡◌, ◌≢◌, ℕ, zero, suc, ◌+◌, ◌⊎◌, Bool, List, [], ◌∷◌, ◌++◌, length}
use Rattle.std.specs.declared.option.Option.{Option}
use Rattle.std.specs.declared.option.Option.TheVariants.{None, Some}
use Rattle.std.specs.List.{All}
use Rattle.std.proofs.Common.{refl, sym, ap, subst, ◌∙◌, arith, inl, inr, ⊎_elim}
use Rattle.std.proofs.lemmas.List.Elements.{All-cons, All-nil}
use Rattle.graph_core.specs.declared.literal.Lit.{Lit}
use Rattle.graph_core.specs.Graph.Literals.{variable_of}
use Rattle.graph_core.specs.Graph.Extended.{Column, Extended, without_cut}
use Rattle.graph_core.specs.Graph.{Aig, defined}
use Rattle.graph_core.specs.Text.{newline}
use Rattle.graph_core.specs.Text.Readers.{Reader, ended_at}
use Rattle.graph_core.proofs.OfTexts.CallerLemmas.{Ended, IsReaderOf, Anything, behind_map, behind_either, behind_some, decided_long, StepsOn, walk, one_line, line_or_none, meet, unless_exact, last_exact, exact_as, front_exact}
use Rattle.graph_core.specs.Text.JudgedLines.{BeginsWith, Behind, IsTooLong, Lengths, Unless, Never, IsExact}
use Rattle.graph_core.proofs.OfGraphs.CallerLemmas.{Decided, decided_all, decided_and, decided_or, decided_eq, decided_le, decided_lt}
use Rattle.ripple_graft.specs.declared.beside.Beside.{Beside}
use Rattle.ripple_graft.specs.Beside.{AreGates, AreOutputs, IsBeside, IsOutput, nothing, with_beside, with_gates}
use Rattle.ripple_graft.specs.Blocks.{AreBlocks, block, graft_all, graft_block, reach, with_blocks}
use Rattle.ripple_graft.specs.Extension.{IsKnown, IsReplaced, whole}
use Rattle.ripple_graft.specs.HeaderBlocks.{IsCutOf, cut_blocks}
use Rattle.ripple_graft.specs.declared.block.Block.{Block}
use Rattle.ripple_graft.specs.declared.cut.Cut.{Cut}
use Rattle.clause_core.proofs.Decided.{decided_any, decided_contains, decided_not}
use Rattle.drup_text.specs.declared.head.Header.{Header}
use Rattle.drup_text.specs.ClauseTexts.{IsBlockLine, IsCountLine, IsCutLine, IsPairLine}
use Rattle.drup_text.specs.ClauseReading.{block_line_at, count_line_at, cut_line_at, gates_line_at, output_line_at, pair_line_at, replace_line_at}
use Rattle.drup_text.specs.Listings.{Listing, gate_listing, output_listing}
use Rattle.drup_text.specs.PassingHeaders.{PassBlocks, PassListed, PassesAnyHeader, PassesCount, PassesCut, PassesListing, PassesParts}
use Rattle.drup_text.specs.HeaderRefusal.{HasNoVersion, IsFirstHeaderRefusal, IsPairStep, IsRefusedBehindCut, IsRefusedBehindPairs, IsRefusedBeside, IsRefusedBlocks, IsRefusedCount, IsRefusedCut, IsRefusedListedLines, IsRefusedListing, IsRefusedPair, IsRefusedPairs, Later, LineCause, Range, Text, TooLong, block_at, cut_at}
use Rattle.drup_text.specs.Headers.{IsHeaderOf, extended_with, head_of, second_line, third_line, version_line}
use Rattle.drup_text.specs.LineTexts.{IsCountInRange, IsCutSize, IsHeadOf, IsPairOf}
use Rattle.drup_text.proofs.BlockSteps.{block_fits}
use Rattle.drup_text.proofs.CallerLemmas.{block_item, count_item, cut_item, first_or_third, gates_item, other_version, output_item, pair_item, replace_item, second_or_third}
use Rattle.drup_text.proofs.ListedSteps.{with_all}

abbrev NoStep : {Line : Type 0} → ℕ → Line → ℕ → Type 0
NoStep s x t = ⊥

-- a line of the text that is good or refused by what it says, or a cause
line_case : {C Line : Type 0} {Good : Line → List ℕ → Type 0} {Refused : Line → List ℕ → C → Type 0} (IsText : List ℕ → Line → Type 0) (item : Reader Line) → IsReaderOf item (Ended IsText (newline ∷ [])) Anything → (cause : C) (bytes : List ℕ) →
    ((x : Line) (rest : List ℕ) → IsExact (Good x rest) (Refused x rest)) →
    IsExact ((x : Line) × (rest : List ℕ) × BeginsWith IsText bytes x rest × Good x rest)
    (λ c. (((x : Line) (rest : List ℕ) → BeginsWith IsText bytes x rest → ⊥) × (c ≡ cause)) ⊎ ((x : Line) × (rest : List ℕ) × BeginsWith IsText bytes x rest × Refused x rest c))
line_case {C} {Line} {Good} {Refused} IsText item r cause bytes exact = ⊎_elim (λ h. there h.0 h.1 h.2) none (line_or_none IsText NoStep (λ z. ⊥) item r bytes)
  where
    there : (x : Line) (rest : List ℕ) → BeginsWith IsText bytes x rest → IsExact ((y : Line) × (more : List ℕ) × BeginsWith IsText bytes y more × Good y more)
        (λ c. (((y : Line) (more : List ℕ) → BeginsWith IsText bytes y more → ⊥) × (c ≡ cause)) ⊎ ((y : Line) × (more : List ℕ) × BeginsWith IsText bytes y more × Refused y more c))
    there x rest h =
        exact_as (λ g. (x, rest, h, g))
        (λ g. let same = one_line IsText NoStep (λ z. ⊥) item r bytes g.0 x g.1 rest g.2 h in subst (λ z. Good z rest) same.0 (subst (Good g.0) same.1 g.3))
        (λ c q. inr (x, rest, h, q))
        (λ c q. ⊎_elim (λ n. absurd (n.0 x rest h)) (λ o. let same = one_line IsText NoStep (λ z. ⊥) item r bytes o.0 x o.1 rest o.2 h in subst (λ z. Refused z rest c) same.0 (subst (λ z. Refused o.0 z c) same.1 o.3)) q)
        (exact x rest)

    none : ((x : Line) (rest : List ℕ) → BeginsWith IsText bytes x rest → ⊥) → IsExact ((y : Line) × (more : List ℕ) × BeginsWith IsText bytes y more × Good y more)
        (λ c. (((y : Line) (more : List ℕ) → BeginsWith IsText bytes y more → ⊥) × (c ≡ cause)) ⊎ ((y : Line) × (more : List ℕ) × BeginsWith IsText bytes y more × Refused y more c))
    none n = record {
      decided = inr (cause, inl (n, refl));
      not_both = λ c g q. n g.0 g.1 g.2;
      one = λ a b q s. ⊎_elim (λ t. ⊎_elim (λ u. t.1 ∙ sym u.1) (λ u. absurd (n u.0 u.1 u.2)) s) (λ t. absurd (n t.0 t.1 t.2)) q;
    }

-- a text at the front, or what else there may be, or a cause
front_before : {C : Type 0} {Good : List ℕ → Type 0} {Refused : List ℕ → C → Type 0} {Rest None : Type 0} {Worse : C → Type 0} (one : List ℕ) (cause : C) (bytes : List ℕ) →
    ((x : List ℕ) → bytes ≡ one ++ x → Rest → ⊥) → ((x : List ℕ) → bytes ≡ one ++ x → (c : C) → Worse c → ⊥) →
    ((body : List ℕ) → IsExact (Good body) (Refused body)) → IsExact Rest (λ c. (None × (c ≡ cause)) ⊎ Worse c) →
    IsExact (((body : List ℕ) × (bytes ≡ one ++ body) × Good body) ⊎ Rest)
    (λ c. ((((body : List ℕ) → bytes ≢ one ++ body) × None) × (c ≡ cause)) ⊎ (((body : List ℕ) × (bytes ≡ one ++ body) × Refused body c) ⊎ Worse c))
front_before one cause bytes apart away first s =
    let f = front_exact one cause bytes first in
    record {
      decided = ⊎_elim (λ g. inl (inl g))
          (λ r. ⊎_elim (λ none. ⊎_elim (λ g. inl (inr g)) (λ q. ⊎_elim (λ neither. inr (cause, inl ((none.0, neither.0), refl))) (λ w. inr (q.0, inr (inr w))) q.1) s.decided) (λ w. inr (r.0, inr (inl w))) r.1) f.decided;
      not_both = λ c g r. ⊎_elim (λ none. ⊎_elim (λ x. none.0.0 x.0 x.1) (λ x. s.not_both c x (inl (none.0.1, none.1))) g)
          (λ q. ⊎_elim
          (λ x. ⊎_elim (λ w. f.not_both c x (inr w)) (λ w. away x.0 x.1 c w) q)
          (λ x. ⊎_elim (λ w. apart w.0 w.1 x) (λ w. s.not_both c x (inr w)) q) g) r;
      one = λ a b r q. ⊎_elim
          (λ none. ⊎_elim (λ other. none.1 ∙ sym other.1) (λ w. ⊎_elim (λ x. absurd (none.0.0 x.0 x.1)) (λ x. s.one a b (inl (none.0.1, none.1)) (inr x)) w) q)
          (λ v. ⊎_elim (λ none. ⊎_elim (λ x. absurd (none.0.0 x.0 x.1)) (λ x. s.one a b (inr x) (inl (none.0.1, none.1))) v)
          (λ w. ⊎_elim
          (λ x. ⊎_elim (λ y. f.one a b (inr x) (inr y)) (λ y. absurd (away x.0 x.1 b y)) w)
          (λ x. ⊎_elim (λ y. absurd (away y.0 y.1 a x)) (λ y. s.one a b (inr x) (inr y)) w) v) q) r;
    }

decided_known : (e : Extended) (l : Lit) → Decided (IsKnown e l)
decided_known e l = decided_or (decided_eq (variable_of l) 0) (decided_contains decided_eq (defined (whole e)) (variable_of l))

decided_pair : (e : Extended) (p : Lit × Lit) → Decided (IsPairOf e p)
decided_pair e p = decided_and (decided_known e p.0) (decided_known e p.1)

decided_size : (m : ℕ) (n : ℕ × ℕ) → Decided (IsCutSize m n)
decided_size m n = decided_and (decided_lt 0 n.1) (decided_or (decided_eq (n.0 + n.1 + 1) m) (decided_eq (n.0 + n.1) m))

decided_head : (e : Extended) (h : ℕ × ℕ × Bool) → Decided (IsHeadOf e h)
decided_head e h =
    ⊎_elim (λ k. inl (record { some = k.0; within = k.1.0; apart = k.1.1 })) (λ n. inr (λ k. n (k.some, (k.within, k.apart))))
    (decided_and (decided_lt 0 h.1) (decided_and (decided_le (h.0 + reach h.1 h.2) (length e.graph.outputs))
    (decided_all _ (λ (c : Column). decided_or (decided_lt c.number h.0) (decided_le (h.0 + reach h.1 h.2) c.number)) e.replaced)))

decided_replaced : (e : Extended) (k : ℕ) → Decided (IsReplaced e k)
decided_replaced e k = decided_any (λ (c : Column). c.number ≡ k) (λ c. decided_eq c.number k) e.replaced

decided_output : (e : Extended) (c : ℕ × Lit) → Decided (IsOutput e c)
decided_output e c =
    ⊎_elim (λ k. inl (record { within = k.0; once = k.1.0; known = k.1.1 })) (λ n. inr (λ k. n (k.within, (k.once, k.known))))
    (decided_and (decided_lt c.0 (length e.graph.outputs)) (decided_and (decided_not (decided_replaced e c.0)) (decided_known e c.1)))

-- how the lines of a listing are read
record ReadsListing {X : Type 0} (l : Listing X) : Type 1 where
  number_at : Reader ℕ
  line_at : Reader X
  number_item : IsReaderOf number_at (Ended l.number_text (newline ∷ [])) Anything
  line_item : IsReaderOf line_at (Ended l.text (newline ∷ [])) Anything
  decided : (e : Extended) (x : X) → Decided (l.in_range e x)

reads_gates : ReadsListing gate_listing
reads_gates = record { number_at = ended_at gates_line_at (newline ∷ []); line_at = ended_at pair_line_at (newline ∷ []); number_item = gates_item; line_item = pair_item; decided = decided_pair }

reads_outputs : ReadsListing output_listing
reads_outputs = record { number_at = ended_at replace_line_at (newline ∷ []); line_at = ended_at output_line_at (newline ∷ []); number_item = replace_item; line_item = output_item; decided = decided_output }

-- ---- what passes, and what is wanted after it

-- all pairs are there, and so is what is wanted after them
abbrev Ends : (Extended → List ℕ → Type 0) → Extended → ℕ → List ℕ → Type 0
Ends Good made left bytes = (left ≡ 0) × Good made bytes

abbrev GoodPairs : (List ℕ → Type 0) → (Extended → List ℕ → Type 0) → (List (Lit × Lit) → Extended) → Extended → ℕ → List ℕ → Type 0
GoodPairs IsLong Good made e count bytes = (pairs : List (Lit × Lit)) × Behind IsPairLine (IsPairStep e) IsLong (Ends Good (made pairs)) pairs count bytes

abbrev GoodBehind : (List ℕ → Type 0) → (Extended → List ℕ → Type 0) → Aig → Option (ℕ × ℕ) → List ℕ → Type 0
GoodBehind IsLong Good g None bytes = Good (without_cut g) bytes
GoodBehind IsLong Good g (Some n) bytes = IsCutSize (length g.outputs) n × GoodPairs IsLong Good (cut_at g n.0) (without_cut g) n.1 bytes

abbrev GoodCut : (List ℕ → Type 0) → (Extended → List ℕ → Type 0) → Aig → List ℕ → Type 0
GoodCut IsLong Good g bytes = ¬ (IsLong bytes) × ((c : Option (ℕ × ℕ)) × (rest : List ℕ) × BeginsWith IsCutLine bytes c rest × GoodBehind IsLong Good g c rest)

abbrev GoodHead : (List ℕ → Type 0) → (Extended → List ℕ → Type 0) → Extended → ℕ × ℕ × Bool → List ℕ → Type 0
GoodHead IsLong Good e h bytes = IsHeadOf e h × GoodPairs IsLong Good (block_at e h) e h.1 bytes

abbrev GoodBlocks : (List ℕ → Type 0) → (Extended → List ℕ → Type 0) → ℕ → Extended → List ℕ → Type 0
GoodBlocks IsLong Good zero e bytes = Good e bytes
GoodBlocks IsLong Good (suc n) e bytes =
    ¬ (IsLong bytes) × ((h : ℕ × ℕ × Bool) × (rest : List ℕ) × BeginsWith IsBlockLine bytes h rest × GoodHead IsLong (GoodBlocks IsLong Good n) e h rest)

abbrev GoodNumber : (List ℕ → Type 0) → (Extended → List ℕ → Type 0) → Aig → ℕ → List ℕ → Type 0
GoodNumber IsLong Good g n bytes = IsCountInRange (length g.outputs) n × GoodBlocks IsLong Good n (without_cut g) bytes

abbrev GoodCount : (List ℕ → Type 0) → (Extended → List ℕ → Type 0) → Aig → List ℕ → Type 0
GoodCount IsLong Good g bytes = ¬ (IsLong bytes) × ((n : ℕ) × (rest : List ℕ) × BeginsWith IsCountLine bytes n rest × GoodNumber IsLong Good g n rest)

abbrev GoodListed : {X : Type 0} → Listing X → (List ℕ → Type 0) → (Extended → List ℕ → Type 0) → ℕ → Extended → List ℕ → Type 0
GoodListed l IsLong Good zero e bytes = Good e bytes
GoodListed {X} l IsLong Good (suc n) e bytes =
    ¬ (IsLong bytes) × ((x : X) × (rest : List ℕ) × BeginsWith l.text bytes x rest × (l.in_range e x × GoodListed l IsLong Good n (l.more e x) rest))

abbrev GoodListing : {X : Type 0} → Listing X → (List ℕ → Type 0) → (Extended → List ℕ → Type 0) → Extended → List ℕ → Type 0
GoodListing l IsLong Good e bytes =
    ¬ (IsLong bytes) × ((n : ℕ) × (rest : List ℕ) × BeginsWith l.number_text bytes n rest × (IsCountInRange (l.most e) n × GoodListed l IsLong Good n e rest))

abbrev GoodBeside : (List ℕ → Type 0) → (Extended → List ℕ → Type 0) → Aig → List ℕ → Type 0
GoodBeside IsLong Good g = GoodListing gate_listing IsLong (GoodListing output_listing IsLong Good) (without_cut g)

abbrev GoodFirst : (List ℕ → Type 0) → (Extended → List ℕ → Type 0) → Aig → List ℕ → Type 0
GoodFirst IsLong Good g bytes = ((body : List ℕ) × (bytes ≡ version_line ++ body) × GoodCut IsLong Good g body) ⊎
    (((body : List ℕ) × (bytes ≡ second_line ++ body) × GoodCount IsLong Good g body) ⊎
    ((body : List ℕ) × (bytes ≡ third_line ++ body) × GoodBeside IsLong Good g body))

module _ (IsLong : List ℕ → Type 0) (d : (bytes : List ℕ) → Decided (IsLong bytes)) where
  -- ---- pairs

  abbrev GoodPair : Extended → List ℕ → Type 0
  GoodPair e bytes = (p : Lit × Lit) × (rest : List ℕ) × BeginsWith IsPairLine bytes p rest × IsPairOf e p

  pair_exact : (e : Extended) (bytes : List ℕ) → IsExact (¬ (IsLong bytes) × GoodPair e bytes) (IsRefusedPair e IsLong bytes)
  pair_exact e bytes =
      unless_exact TooLong (⊎_elim inr inl (d bytes)) (λ h n. n h)
      (λ h. line_case {Good = λ p rest. IsPairOf e p} {Refused = λ p rest. Unless (IsPairOf e p) (¬ (IsPairOf e p)) Range Never} IsPairLine (ended_at pair_line_at (newline ∷ [])) pair_item Text bytes
      (λ p rest. last_exact Range (decided_pair e p) (λ n k. n k)))

  module _ (later : Later) (Good : Extended → List ℕ → Type 0) (exact : (e : Extended) (number : ℕ) (bytes : List ℕ) → IsExact (Good e bytes) (later e number bytes)) (made : List (Lit × Lit) → Extended) (e : Extended) (number : ℕ) where
    abbrev Refused : List (Lit × Lit) → ℕ × LineCause → ℕ → List ℕ → Type 0
    Refused pairs p left bytes = IsRefusedBehindPairs later made e IsLong number pairs left bytes p

    abbrev On : ℕ → List ℕ → Type 0
    On left bytes = StepsOn IsPairLine (IsPairStep e) IsLong left bytes

    abbrev AtEnd : ℕ → List ℕ → Type 0
    AtEnd left bytes = (left ≡ 0) ⊎ ((k : ℕ) × (left ≡ suc k) × ((c : LineCause) × IsRefusedPair e IsLong bytes c))

    judge_pair : (left : ℕ) (bytes : List ℕ) → Unit {0} → AtEnd left bytes ⊎ On left bytes
    judge_pair zero bytes u = inl (inl refl)
    judge_pair (suc k) bytes u = ⊎_elim (λ h. inr (h.1.0, h.1.1, k, h.0, h.1.2, (h.1.3, refl))) (λ r. inl (inr (k, refl, r))) (pair_exact e bytes).decided

    behind : (pairs : List (Lit × Lit)) (bytes : List ℕ) → IsExact (Good (made pairs) bytes) (later (made pairs) (number + length pairs) bytes)
    behind pairs bytes = exact (made pairs) (number + length pairs) bytes

    refused_stops : (pairs : List (Lit × Lit)) (p : ℕ × LineCause) (s t : ℕ) (bytes : List ℕ) → s ≡ t → Refused pairs p s bytes → On t bytes → ⊥
    refused_stops pairs p zero t bytes same r on = let f : t ≡ suc on.2 = on.5.1 in absurd (omega (arith, same, f))
    refused_stops pairs p (suc s) t bytes same r on = (pair_exact e bytes).not_both r.0 (on.3, (on.0, on.1, on.4, on.5.0)) r.1

    ends_stops : (pairs : List (Lit × Lit)) (s t : ℕ) (bytes : List ℕ) → s ≡ t → Ends Good (made pairs) s bytes → On t bytes → ⊥
    ends_stops pairs s t bytes same k on = let f : t ≡ suc on.2 = on.5.1 in let z = k.0 in absurd (omega (arith, same, f, z))

    same_left : (s t : ℕ) (x : Lit × Lit) (u v : ℕ) → s ≡ t → IsPairStep e s x u → IsPairStep e t x v → u ≡ v
    same_left s t x u v same k i = let a = k.1 in let b = i.1 in omega (arith, a, b, same)

    one_cause : (pairs : List (Lit × Lit)) (p q : ℕ × LineCause) (left : ℕ) (bytes : List ℕ) → Refused pairs p left bytes → Refused pairs q left bytes → p ≡ q
    one_cause pairs p q zero bytes r s = (behind pairs bytes).one p q r s
    one_cause pairs p q (suc left) bytes r s = r.2 ∙ ap (λ c. (number + length pairs, c)) ((pair_exact e bytes).one r.0 s.0 r.1 s.1) ∙ sym s.2

    not_ends_refused : (pairs : List (Lit × Lit)) (p : ℕ × LineCause) (left : ℕ) (bytes : List ℕ) → Ends Good (made pairs) left bytes → Refused pairs p left bytes → ⊥
    not_ends_refused pairs p left bytes k r = (behind pairs bytes).not_both p k.1 (subst (λ z. Refused pairs p z bytes) k.0 r)

    judged_end : (pairs : List (Lit × Lit)) (left : ℕ) (bytes : List ℕ) → AtEnd left bytes → Ends Good (made pairs) left bytes ⊎ ((p : ℕ × LineCause) × Refused pairs p left bytes)
    judged_end pairs left bytes k = ⊎_elim at_zero further k
      where
        at_zero : left ≡ 0 → Ends Good (made pairs) left bytes ⊎ ((p : ℕ × LineCause) × Refused pairs p left bytes)
        at_zero same = ⊎_elim (λ g. inl (same, g)) (λ r. inr (r.0, subst (λ z. Refused pairs r.0 z bytes) (sym same) r.1)) (behind pairs bytes).decided

        further : ((k : ℕ) × (left ≡ suc k) × ((c : LineCause) × IsRefusedPair e IsLong bytes c)) → Ends Good (made pairs) left bytes ⊎ ((p : ℕ × LineCause) × Refused pairs p left bytes)
        further r = let p : ℕ × LineCause = (number + length pairs, r.2.0) in inr (p, subst (λ z. Refused pairs p z bytes) (sym r.1) (r.2.0, r.2.1, refl))

    pairs_exact : (count : ℕ) (bytes : List ℕ) → IsExact (GoodPairs IsLong Good made e count bytes) (IsRefusedPairs later made e IsLong number count bytes)
    pairs_exact count bytes = record {
      decided =
          let w = walk IsPairLine (IsPairStep e) IsLong (λ left. Unit {0}) AtEnd judge_pair (λ s x t k i. tt) (length bytes) count bytes (omega arith) tt in
          let both = behind_map IsPairLine (IsPairStep e) IsLong AtEnd (λ left rest. Ends Good (made w.0) left rest ⊎ ((p : ℕ × LineCause) × Refused w.0 p left rest)) (judged_end w.0) w.0 count bytes w.1 in
          ⊎_elim (λ k. inl (w.0, k)) (λ r. let q = behind_some IsPairLine (IsPairStep e) IsLong (Refused w.0) w.0 count bytes r in inr (q.0, (w.0, q.1)))
          (behind_either IsPairLine (IsPairStep e) IsLong (Ends Good (made w.0)) (λ left rest. (p : ℕ × LineCause) × Refused w.0 p left rest) w.0 count bytes both);
      not_both = λ p k r.
          let m = meet IsPairLine (IsPairStep e) IsLong (ended_at pair_line_at (newline ∷ [])) pair_item ◌≡◌ same_left (Ends Good (made k.0)) (Refused r.0 p)
          (λ s t left a i on. ends_stops k.0 s t left a i on) (λ s t left a i on. refused_stops r.0 p t s left (sym a) i on) k.0 r.0 count count bytes refl k.1 r.1 in
          not_ends_refused r.0 p m.1.1 m.1.2 (subst (λ z. Ends Good (made z) m.1.1 m.1.2) m.0 (subst (λ z. Ends Good (made k.0) z m.1.2) m.1.3 m.1.4)) m.1.5;
      one = λ p q r k.
          let m = meet IsPairLine (IsPairStep e) IsLong (ended_at pair_line_at (newline ∷ [])) pair_item ◌≡◌ same_left (Refused r.0 p) (Refused k.0 q)
          (λ s t left a i on. refused_stops r.0 p s t left a i on) (λ s t left a i on. refused_stops k.0 q t s left (sym a) i on) r.0 k.0 count count bytes refl r.1 k.1 in
          one_cause k.0 p q m.1.1 m.1.2 (subst (λ z. Refused z p m.1.1 m.1.2) m.0 (subst (λ z. Refused r.0 p z m.1.2) m.1.3 m.1.4)) m.1.5;
    }

  -- ---- version 3

  module _ {X : Type 0} (l : Listing X) (reads : ReadsListing l) (later : Later) (Good : Extended → List ℕ → Type 0) (exact : (e : Extended) (number : ℕ) (bytes : List ℕ) → IsExact (Good e bytes) (later e number bytes)) where
    listed_exact : (n : ℕ) (e : Extended) (number : ℕ) (bytes : List ℕ) → IsExact (GoodListed l IsLong Good n e bytes) (IsRefusedListedLines l later IsLong n e number bytes)
    listed_exact zero e number bytes = exact e number bytes
    listed_exact (suc n) e number bytes =
        unless_exact (number, TooLong) (⊎_elim inr inl (d bytes)) (λ h m. m h)
        (λ h. line_case {Good = λ x rest. l.in_range e x × GoodListed l IsLong Good n (l.more e x) rest}
        {Refused = λ x rest. Unless (l.in_range e x) (¬ (l.in_range e x)) (number, Range) (IsRefusedListedLines l later IsLong n (l.more e x) (number + 1) rest)}
        l.text reads.line_at reads.line_item (number, Text) bytes
        (λ x rest. unless_exact (number, Range) (reads.decided e x) (λ m i. m i) (λ i. listed_exact n (l.more e x) (number + 1) rest)))

    listing_exact : (e : Extended) (number : ℕ) (bytes : List ℕ) → IsExact (GoodListing l IsLong Good e bytes) (IsRefusedListing l later IsLong e number bytes)
    listing_exact e number bytes =
        unless_exact (number, TooLong) (⊎_elim inr inl (d bytes)) (λ h m. m h)
        (λ h. line_case {Good = λ n rest. IsCountInRange (l.most e) n × GoodListed l IsLong Good n e rest}
        {Refused = λ n rest. Unless (IsCountInRange (l.most e) n) (¬ (IsCountInRange (l.most e) n)) (number, Range) (IsRefusedListedLines l later IsLong n e (number + 1) rest)}
        l.number_text reads.number_at reads.number_item (number, Text) bytes
        (λ n rest. unless_exact (number, Range) (decided_le n (l.most e)) (λ m i. m i) (λ i. listed_exact n e (number + 1) rest)))

  beside_exact : (later : Later) (Good : Extended → List ℕ → Type 0) → ((e : Extended) (number : ℕ) (bytes : List ℕ) → IsExact (Good e bytes) (later e number bytes)) → (g : Aig) (bytes : List ℕ) →
      IsExact (GoodBeside IsLong Good g bytes) (IsRefusedBeside later g IsLong bytes)
  beside_exact later Good exact g bytes =
      listing_exact gate_listing reads_gates (IsRefusedListing output_listing later IsLong) (GoodListing output_listing IsLong Good)
      (listing_exact output_listing reads_outputs later Good exact) (without_cut g) 2 bytes

  module _ (later : Later) (Good : Extended → List ℕ → Type 0) (exact : (e : Extended) (number : ℕ) (bytes : List ℕ) → IsExact (Good e bytes) (later e number bytes)) where
    -- ---- version 1

    behind_exact : (g : Aig) (c : Option (ℕ × ℕ)) (bytes : List ℕ) → IsExact (GoodBehind IsLong Good g c bytes) (IsRefusedBehindCut later g IsLong c bytes)
    behind_exact g None bytes = exact (without_cut g) 3 bytes
    behind_exact g (Some n) bytes =
        unless_exact (2, Range) (decided_size (length g.outputs) n) (λ m h. m h) (λ h. pairs_exact later Good exact (cut_at g n.0) (without_cut g) 3 n.1 bytes)

    cut_exact : (g : Aig) (bytes : List ℕ) → IsExact (GoodCut IsLong Good g bytes) (IsRefusedCut later g IsLong bytes)
    cut_exact g bytes =
        unless_exact (2, TooLong) (⊎_elim inr inl (d bytes)) (λ h n. n h)
        (λ h. line_case {Good = GoodBehind IsLong Good g} {Refused = IsRefusedBehindCut later g IsLong} IsCutLine (ended_at cut_line_at (newline ∷ [])) cut_item (2, Text) bytes (behind_exact g))

    -- ---- version 2

    blocks_exact : (n : ℕ) (e : Extended) (number : ℕ) (bytes : List ℕ) → IsExact (GoodBlocks IsLong Good n e bytes) (IsRefusedBlocks later IsLong n e number bytes)
    blocks_exact zero e number bytes = exact e number bytes
    blocks_exact (suc n) e number bytes =
        unless_exact (number, TooLong) (⊎_elim inr inl (d bytes)) (λ h m. m h)
        (λ h. line_case {Good = GoodHead IsLong (GoodBlocks IsLong Good n) e}
        {Refused = λ k rest. Unless (IsHeadOf e k) (¬ (IsHeadOf e k)) (number, Range) (IsRefusedPairs (IsRefusedBlocks later IsLong n) (block_at e k) e IsLong (number + 1) k.1 rest)}
        IsBlockLine (ended_at block_line_at (newline ∷ [])) block_item (number, Text) bytes
        (λ k rest. unless_exact (number, Range) (decided_head e k) (λ m i. m i)
        (λ i. pairs_exact (IsRefusedBlocks later IsLong n) (GoodBlocks IsLong Good n) (blocks_exact n) (block_at e k) e (number + 1) k.1 rest)))

    count_exact : (g : Aig) (bytes : List ℕ) → IsExact (GoodCount IsLong Good g bytes) (IsRefusedCount later g IsLong bytes)
    count_exact g bytes =
        unless_exact (2, TooLong) (⊎_elim inr inl (d bytes)) (λ h n. n h)
        (λ h. line_case {Good = GoodNumber IsLong Good g}
        {Refused = λ n rest. Unless (IsCountInRange (length g.outputs) n) (¬ (IsCountInRange (length g.outputs) n)) (2, Range) (IsRefusedBlocks later IsLong n (without_cut g) 3 rest)}
        IsCountLine (ended_at count_line_at (newline ∷ [])) count_item (2, Text) bytes
        (λ n rest. unless_exact (2, Range) (decided_le n (length g.outputs)) (λ m i. m i) (λ i. blocks_exact n (without_cut g) 3 rest)))

    -- ---- all of them

    abbrev Second : Aig → List ℕ → Type 0
    Second g bytes = (body : List ℕ) × (bytes ≡ second_line ++ body) × GoodCount IsLong Good g body

    abbrev Third : Aig → List ℕ → Type 0
    Third g bytes = (body : List ℕ) × (bytes ≡ third_line ++ body) × GoodBeside IsLong Good g body

    abbrev SecondRefused : Aig → List ℕ → ℕ × LineCause → Type 0
    SecondRefused g bytes p = (body : List ℕ) × (bytes ≡ second_line ++ body) × IsRefusedCount later g IsLong body p

    abbrev ThirdRefused : Aig → List ℕ → ℕ × LineCause → Type 0
    ThirdRefused g bytes p = (body : List ℕ) × (bytes ≡ third_line ++ body) × IsRefusedBeside later g IsLong body p

    first_exact : (g : Aig) (bytes : List ℕ) →
        IsExact (GoodFirst IsLong Good g bytes) (λ p. (HasNoVersion bytes × (p ≡ (1, Text))) ⊎
        (((body : List ℕ) × (bytes ≡ version_line ++ body) × IsRefusedCut later g IsLong body p) ⊎
        (((body : List ℕ) × (bytes ≡ second_line ++ body) × IsRefusedCount later g IsLong body p) ⊎
        ((body : List ℕ) × (bytes ≡ third_line ++ body) × IsRefusedBeside later g IsLong body p))))
    first_exact g bytes =
        exact_as (λ k. k) (λ k. k)
        (λ p r. ⊎_elim (λ none. inl ((none.0.0, none.0.1.0, none.0.1.1), none.1)) inr r)
        (λ p r. ⊎_elim (λ none. inl ((none.0.0, (none.0.1, none.0.2)), none.1)) inr r)
        (front_before {Rest = Second g bytes ⊎ Third g bytes} {None = ((body : List ℕ) → bytes ≢ second_line ++ body) × ((body : List ℕ) → bytes ≢ third_line ++ body)} {Worse = λ p. SecondRefused g bytes p ⊎ ThirdRefused g bytes p} version_line (1, Text) bytes
        (λ x e r. ⊎_elim (λ (t : Second g bytes). other_version x t.0 (sym e ∙ t.1)) (λ (t : Third g bytes). first_or_third x t.0 (sym e ∙ t.1)) r)
        (λ x e c r. ⊎_elim (λ (t : SecondRefused g bytes c). other_version x t.0 (sym e ∙ t.1)) (λ (t : ThirdRefused g bytes c). first_or_third x t.0 (sym e ∙ t.1)) r)
        (λ body. cut_exact g body)
        (front_before {Rest = Third g bytes} {None = (body : List ℕ) → bytes ≢ third_line ++ body} {Worse = ThirdRefused g bytes} second_line (1, Text) bytes
        (λ x e t. second_or_third x t.0 (sym e ∙ t.1)) (λ x e c t. second_or_third x t.0 (sym e ∙ t.1)) (λ body. count_exact g body)
        (front_exact third_line (1, Text) bytes (λ body. beside_exact later Good exact g body))))

-- ---- the same by a header that passes

module _ (IsLong : List ℕ → Type 0) where
  abbrev pub Reaches : List ℕ → ℕ → List ℕ → Type 0
  Reaches body left bytes = (left ≡ 0) × (bytes ≡ body)

  module _ (Good : Extended → List ℕ → Type 0) (e made : Extended) where
    -- so many pairs, and something after them
    abbrev Reached : List (Lit × Lit) → ℕ → List ℕ → Type 0
    Reached pairs count bytes = (body : List ℕ) × (length pairs ≡ count) × Behind IsPairLine (IsPairStep e) IsLong (Reaches body) pairs count bytes × Good made body

    pairs_pass : (pairs : List (Lit × Lit)) (count : ℕ) (bytes : List ℕ) → Behind IsPairLine (IsPairStep e) IsLong (Ends Good made) pairs count bytes → Reached pairs count bytes
    pairs_pass [] count bytes h = (bytes, sym h.0, (h.0, refl), h.1)
    pairs_pass (p ∷ pairs) count bytes h =
        let more = pairs_pass pairs h.1 h.0 h.5 in
        (more.0, ap suc more.1 ∙ sym h.4.1, (h.0, h.1, h.2, h.3, h.4, more.2), more.3)

    pairs_good : (pairs : List (Lit × Lit)) (bytes body : List ℕ) → Behind IsPairLine (IsPairStep e) IsLong (Reaches body) pairs (length pairs) bytes → Good made body →
        Behind IsPairLine (IsPairStep e) IsLong (Ends Good made) pairs (length pairs) bytes
    pairs_good pairs bytes body h good =
        behind_map IsPairLine (IsPairStep e) IsLong (Reaches body) (Ends Good made) (λ left rest k. (k.0, subst (Good made) (sym k.1) good)) pairs (length pairs) bytes h

  module _ (Good : Extended → List ℕ → Type 0) (g : Aig) (bytes : List ℕ) where
    abbrev PassedCut : Type 0
    PassedCut = (cut : Option Cut) × (body : List ℕ) × PassesCut g IsLong bytes cut body × Good (with_blocks g (cut_blocks (length g.outputs) cut)) body

    cut_passes : GoodCut IsLong Good g bytes → PassedCut
    cut_passes (short, (None, rest, begins, good)) = (None, rest, (short, begins), good)
    cut_passes (short, (Some n, rest, begins, (size, (pairs, behind)))) =
        let t = pairs_pass Good (without_cut g) (cut_at g n.0 pairs) pairs n.1 rest behind in (
          Some (record { lo = n.0; pairs = pairs }),
          t.0,
          (
            rest,
            short,
            subst (λ k. BeginsWith IsCutLine bytes (Some (n.0, k)) rest) (sym t.1) begins,
            subst (λ k. IsCutSize (length g.outputs) (n.0, k)) (sym t.1) size,
            subst (λ k. Behind IsPairLine (IsPairStep (without_cut g)) IsLong (Reaches t.0) pairs k rest) (sym t.1) t.2,
          ),
          t.3,
        )

    cut_good : (cut : Option Cut) (body : List ℕ) → PassesCut g IsLong bytes cut body → Good (with_blocks g (cut_blocks (length g.outputs) cut)) body → GoodCut IsLong Good g bytes
    cut_good None body h good = (h.0, (None, body, h.1, good))
    cut_good (Some cut) body h good = (
      h.1,
      (Some (cut.lo, length cut.pairs), h.0, h.2, (h.3, (cut.pairs, pairs_good Good (without_cut g) (cut_at g cut.lo cut.pairs) cut.pairs h.0 body h.4 good))),
    )

  module _ (Good : Extended → List ℕ → Type 0) where
    abbrev PassedBlocks : ℕ → Extended → List ℕ → Type 0
    PassedBlocks n e bytes = (blocks : List Block) × (body : List ℕ) × (length blocks ≡ n) × PassBlocks IsLong e bytes blocks body × Good (graft_all e blocks) body

    blocks_pass : (n : ℕ) (e : Extended) (bytes : List ℕ) → GoodBlocks IsLong Good n e bytes → PassedBlocks n e bytes
    blocks_pass zero e bytes h = ([], bytes, refl, refl, h)
    blocks_pass (suc n) e bytes (short, (k, rest, begins, (fits, (pairs, behind)))) =
        let b = block (record { lo = k.0; pairs = pairs }) k.2 in
        let t = pairs_pass (GoodBlocks IsLong Good n) e (graft_block e b) pairs k.1 rest behind in
        let more = blocks_pass n (graft_block e b) t.0 t.3 in (
          b ∷ more.0,
          more.1,
          ap suc more.2,
          (
            t.0,
            (
              rest,
              short,
              subst (λ z. BeginsWith IsBlockLine bytes (k.0, z, k.2) rest) (sym t.1) begins,
              subst (λ z. IsHeadOf e (k.0, z, k.2)) (sym t.1) fits,
              subst (λ z. Behind IsPairLine (IsPairStep e) IsLong (Reaches t.0) pairs z rest) (sym t.1) t.2,
            ),
            more.3,
          ),
          more.4,
        )

    blocks_good : (e : Extended) (bytes : List ℕ) (blocks : List Block) (body : List ℕ) → PassBlocks IsLong e bytes blocks body → Good (graft_all e blocks) body → GoodBlocks IsLong Good (length blocks) e bytes
    blocks_good e bytes [] body h good = subst (Good e) (sym h) good
    blocks_good e bytes (b ∷ blocks) body h good =
        let more = blocks_good (graft_block e b) h.0 blocks body h.2 good in
        (h.1.1, (head_of b, h.1.0, h.1.2, (h.1.3, (b.cut.pairs, pairs_good (GoodBlocks IsLong Good (length blocks)) e (graft_block e b) b.cut.pairs h.1.0 h.0 h.1.4 more))))

  module _ (Good : Extended → List ℕ → Type 0) (g : Aig) (bytes : List ℕ) where
    count_passes : GoodCount IsLong Good g bytes → (blocks : List Block) × (body : List ℕ) × PassesCount g IsLong bytes blocks body × Good (with_blocks g blocks) body
    count_passes (short, (n, rest, begins, (few, good))) =
        let t = blocks_pass Good n (without_cut g) rest good in (
          t.0,
          t.1,
          (rest, short, subst (λ k. BeginsWith IsCountLine bytes k rest) (sym t.2) begins, subst (IsCountInRange (length g.outputs)) (sym t.2) few, t.3),
          t.4,
        )

    count_good : (blocks : List Block) (body : List ℕ) → PassesCount g IsLong bytes blocks body → Good (with_blocks g blocks) body → GoodCount IsLong Good g bytes
    count_good blocks body h good = (h.1, (length blocks, h.0, h.2, (h.3, blocks_good Good (without_cut g) h.0 blocks body h.4 good)))

  -- ---- listed lines

  module _ {X : Type 0} (l : Listing X) (Good : Extended → List ℕ → Type 0) where
    abbrev PassedListed : ℕ → Extended → List ℕ → Type 0
    PassedListed n e bytes = (xs : List X) × (body : List ℕ) × (length xs ≡ n) × PassListed l IsLong e bytes xs body × Good (with_all l e xs) body

    listed_pass : (n : ℕ) (e : Extended) (bytes : List ℕ) → GoodListed l IsLong Good n e bytes → PassedListed n e bytes
    listed_pass zero e bytes h = ([], bytes, refl, refl, h)
    listed_pass (suc n) e bytes (short, (x, rest, begins, (in_range, good))) =
        let more = listed_pass n (l.more e x) rest good in
        (x ∷ more.0, more.1, ap suc more.2, (rest, short, begins, in_range, more.3), more.4)

    listed_good : (e : Extended) (bytes : List ℕ) (xs : List X) (body : List ℕ) → PassListed l IsLong e bytes xs body → Good (with_all l e xs) body → GoodListed l IsLong Good (length xs) e bytes
    listed_good e bytes [] body h good = subst (Good e) (sym h) good
    listed_good e bytes (x ∷ xs) body h good = (h.1, (x, h.0, h.2, (h.3, listed_good (l.more e x) h.0 xs body h.4 good)))

    listing_passes : (e : Extended) (bytes : List ℕ) → GoodListing l IsLong Good e bytes → (xs : List X) × (body : List ℕ) × PassesListing l IsLong e bytes xs body × Good (with_all l e xs) body
    listing_passes e bytes (short, (n, rest, begins, (few, good))) =
        let t = listed_pass n e rest good in (
          t.0,
          t.1,
          (rest, short, subst (λ k. BeginsWith l.number_text bytes k rest) (sym t.2) begins, subst (IsCountInRange (l.most e)) (sym t.2) few, t.3),
          t.4,
        )

    listing_good : (e : Extended) (bytes : List ℕ) (xs : List X) (body : List ℕ) → PassesListing l IsLong e bytes xs body → Good (with_all l e xs) body → GoodListing l IsLong Good e bytes
    listing_good e bytes xs body h good = (h.1, (length xs, h.0, h.2, (h.3, listed_good e h.0 xs body h.4 good)))

  module _ (Good : Extended → List ℕ → Type 0) (g : Aig) (bytes : List ℕ) where
    beside_passes : GoodBeside IsLong Good g bytes → (b : Beside) × (body : List ℕ) × PassesParts g IsLong bytes b body × Good (with_beside (without_cut g) b) body
    beside_passes h =
        let gates = listing_passes gate_listing (GoodListing output_listing IsLong Good) (without_cut g) bytes h in
        let outputs = listing_passes output_listing Good (with_gates (without_cut g) gates.0) gates.1 gates.3 in
        (record { gates = gates.0; outputs = outputs.0 }, outputs.1, (gates.1, gates.2, outputs.2), outputs.3)

    beside_good : (b : Beside) (body : List ℕ) → PassesParts g IsLong bytes b body → Good (with_beside (without_cut g) b) body → GoodBeside IsLong Good g bytes
    beside_good b body h good =
        listing_good gate_listing (GoodListing output_listing IsLong Good) (without_cut g) bytes b.gates h.0 h.1
        (listing_good output_listing Good (with_gates (without_cut g) b.gates) h.0 b.outputs body h.2 good)

  -- ---- the graph takes what passes

  gates_fit : (e : Extended) (bytes : List ℕ) (pairs : List (Lit × Lit)) (body : List ℕ) → PassListed gate_listing IsLong e bytes pairs body → AreGates e pairs
  gates_fit e bytes [] body h = tt
  gates_fit e bytes (p ∷ pairs) body h = (h.3, gates_fit (gate_listing.more e p) h.0 pairs body h.4)

  outputs_fit : (e : Extended) (bytes : List ℕ) (outputs : List (ℕ × Lit)) (body : List ℕ) → PassListed output_listing IsLong e bytes outputs body → AreOutputs e outputs
  outputs_fit e bytes [] body h = tt
  outputs_fit e bytes (c ∷ outputs) body h = (h.3, outputs_fit (output_listing.more e c) h.0 outputs body h.4)

  beside_fits : (g : Aig) (bytes : List ℕ) (b : Beside) (body : List ℕ) → PassesParts g IsLong bytes b body → IsBeside g b
  beside_fits g bytes b body h = record {
    few = h.1.3;
    gates = gates_fit (without_cut g) h.1.0 b.gates h.0 h.1.4;
    outputs = outputs_fit (with_gates (without_cut g) b.gates) h.2.0 b.outputs body h.2.4;
  }

  pairs_known : (e : Extended) (F : ℕ → List ℕ → Type 0) (pairs : List (Lit × Lit)) (count : ℕ) (bytes : List ℕ) → Behind IsPairLine (IsPairStep e) IsLong F pairs count bytes → All (IsPairOf e) pairs
  pairs_known e F [] count bytes h = All-nil (IsPairOf e)
  pairs_known e F (p ∷ pairs) count bytes h = All-cons (IsPairOf e) p pairs h.4.0 (pairs_known e F pairs h.1 h.0 h.5)

  cut_fits : (g : Aig) (bytes : List ℕ) (cut : Option Cut) (body : List ℕ) → PassesCut g IsLong bytes cut body → IsCutOf g cut
  cut_fits g bytes None body h = tt
  cut_fits g bytes (Some cut) body h = record { some = h.3.0; columns = h.3.1; known = pairs_known (without_cut g) (Reaches body) cut.pairs (length cut.pairs) h.0 h.4 }

  blocks_fit : (e : Extended) (bytes : List ℕ) (blocks : List Block) (body : List ℕ) → PassBlocks IsLong e bytes blocks body → AreBlocks e blocks
  blocks_fit e bytes [] body h = tt
  blocks_fit e bytes (b ∷ blocks) body h = (
    block_fits e b (length b.cut.pairs) refl h.1.3 (pairs_known e (Reaches h.0) b.cut.pairs (length b.cut.pairs) h.1.0 h.1.4),
    blocks_fit (graft_block e b) h.0 blocks body h.2,
  )

module _ (g : Aig) (lengths : Lengths) (bytes : List ℕ) where
  abbrev IsLong : List ℕ → Type 0
  IsLong = IsTooLong lengths (length bytes)

  pub header_takes : (h : Header) (body : List ℕ) → PassesAnyHeader g lengths bytes h body → IsHeaderOf g h
  header_takes h body passes =
      ⊎_elim (λ a. inl (inl (a.0, (a.1.0, a.1.1, cut_fits IsLong g a.1.2.rest a.1.0 body a.1.2.cut_passes)), a.2))
      (λ o. ⊎_elim
      (λ b. let t = b.1.blocks_pass in inl (inr (b.0, t.3, blocks_fit IsLong (without_cut g) t.0 h.blocks body t.4), b.2))
      (λ c. inr (c.0, c.2, beside_fits IsLong g c.1.rest h.beside body c.1.parts_pass)) o) passes

  -- a header passes, and after it is what is wanted
  abbrev pub HasPassed : (Extended → List ℕ → Type 0) → Type 0
  HasPassed Good = (h : Header) × (body : List ℕ) × PassesAnyHeader g lengths bytes h body × Good (extended_with g h) body

  -- so it is, or there is one first refusal
  pub header_exact : (later : Later) (Good : Extended → List ℕ → Type 0) → ((e : Extended) (number : ℕ) (left : List ℕ) → IsExact (Good e left) (later e number left)) → IsExact (HasPassed Good) (IsFirstHeaderRefusal later g lengths bytes)
  header_exact later Good exact =
      exact_as there back (λ c r. r) (λ c r. r) (unless_exact (1, TooLong) (⊎_elim inr inl (decided bytes)) (λ h n. n h) (λ h. first_exact IsLong decided later Good exact g bytes))
    where
      decided : (left : List ℕ) → Decided (IsLong left)
      decided left = decided_long lengths (length bytes) left

      there : ¬ (IsLong bytes) × GoodFirst IsLong Good g bytes → HasPassed Good
      there (short, inl (rest, is, good)) =
          let t = cut_passes IsLong Good g rest good in (
            record { version = 1; blocks = cut_blocks (length g.outputs) t.0; beside = nothing },
            t.1,
            inl (refl, (t.0, refl, record { rest = rest; short = short; version = is; cut_passes = t.2 }), refl),
            t.3,
          )
      there (short, inr (inl (rest, is, good))) =
          let t = count_passes IsLong Good g rest good in
          (record { version = 2; blocks = t.0; beside = nothing }, t.1, inr (inl (refl, record { rest = rest; short = short; version = is; blocks_pass = t.2 }, refl)), t.3)
      there (short, inr (inr (rest, is, good))) =
          let t = beside_passes IsLong Good g rest good in
          (record { version = 3; blocks = []; beside = t.0 }, t.1, inr (inr (refl, record { rest = rest; short = short; version = is; parts_pass = t.2 }, refl)), t.3)

      back : HasPassed Good → ¬ (IsLong bytes) × GoodFirst IsLong Good g bytes
      back (h, body, inl (one, (cut, of, t), alone), good) =
          (t.short, inl (t.rest, t.version, cut_good IsLong Good g t.rest cut body t.cut_passes (subst (λ bs. Good (with_blocks g bs) body) of (subst (λ b. Good (with_beside (with_blocks g h.blocks) b) body) alone good))))
      back (h, body, inr (inl (two, t, alone)), good) =
          (t.short, inr (inl (t.rest, t.version, count_good IsLong Good g t.rest h.blocks body t.blocks_pass (subst (λ b. Good (with_beside (with_blocks g h.blocks) b) body) alone good))))
      back (h, body, inr (inr (three, t, none)), good) =
          (t.short, inr (inr (t.rest, t.version, beside_good IsLong Good g t.rest h.beside body t.parts_pass (subst (λ bs. Good (with_beside (with_blocks g bs) h.beside) body) none good))))
