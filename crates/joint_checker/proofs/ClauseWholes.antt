-- A clause file gives premises, or it has one first refusal.
use Rattle.std.specs.Prelude.{◌≡◌, ℕ, ◌⊎◌, List, [], ◌∷◌, ◌++◌, length, codes}
use Rattle.std.specs.declared.option.Option.{Option}
use Rattle.std.specs.declared.option.Option.TheVariants.{None, Some}
use Rattle.std.proofs.Common.{refl, sym, ap, subst, ◌∙◌, inl, inr, ⊎_elim}
use Rattle.std.proofs.lemmas.List.Elements.{All-from_recursion, recursion_from_All}
use Rattle.graph_core.specs.declared.literal.Lit.{Lit}
use Rattle.algebra_core.specs.AlgebraLines.{Premises}
use Rattle.algebra_core.specs.Agreement.{AreSamePremises}
use Rattle.graph_core.specs.Graph.Extended.{Extended, without_cut}
use Rattle.graph_core.specs.Graph.{Aig}
use Rattle.graph_core.specs.Text.JudgedLines.{BeginsWith, Behind, IsExact, IsLineStart, IsTooLong, Lengths}
use Rattle.graph_core.specs.Text.{newline}
use Rattle.graph_core.proofs.OfGraphs.CallerLemmas.{Decided}
use Rattle.graph_core.proofs.OfTexts.CallerLemmas.{HasNoNewline, ShortFrom, decided_long, exact_as, none_in, short_next, short_within, start_later, within_short}
use Rattle.ripple_graft.specs.declared.beside.Beside.{Beside}
use Rattle.ripple_graft.specs.Beside.{with_gates}
use Rattle.ripple_graft.specs.Blocks.{graft_block}
use Rattle.ripple_graft.specs.declared.block.Block.{Block}
use Rattle.ripple_graft.specs.declared.cut.Cut.{Cut}
use Rattle.clause_core.specs.Clause.{IsClauseInRange}
use Rattle.clause_core.specs.ClauseLines.{ClauseLine, IsGoalRefusal, added, clause_in}
use Rattle.clause_core.specs.GateClauses.{gate_clauses}
use Rattle.clause_core.proofs.Goals.{goals_are_exact}
use Rattle.drup_text.specs.declared.head.Header.{Header}
use Rattle.drup_text.specs.ClauseTexts.{IsBlockLine, IsCountLine, IsCutLine, IsPairLine}
use Rattle.drup_text.specs.PassingHeaders.{PassBlocks, PassListed, PassesAnyHeader, PassesBeside, PassesBlocks, PassesCount, PassesCut, PassesHeader, PassesListing, PassesParts}
use Rattle.drup_text.specs.HeaderRefusal.{IsPairStep}
use Rattle.drup_text.specs.Headers.{extended_with}
use Rattle.drup_text.specs.Listings.{Listing, gate_listing, output_listing}
use Rattle.drup_text.proofs.CallerLemmas.{header_said, none_block, none_count, none_cut, none_gates, none_output, none_pair, none_replace}
use Rattle.drup_text.proofs.HeaderExact.{header_passes}
use Rattle.drup_text.proofs.OneFile.{one_text_is_one_file}
use Rattle.pair_core.specs.ClauseFiles.{GivesPremises, HasLawfulLines, importable, premises}
use Rattle.clause_judge.specs.Faults.{ClauseFault, Goals, Line}
use Rattle.joint_checker.specs.ClauseRefusals.{ClausesAreExact, IsClauseRefusal, IsFileRefusal}
use Rattle.clause_judge.specs.LineRefusals.{IsRefusedLines}
use Rattle.joint_checker.proofs.ClauseHeaders.{HasPassed, Reaches, header_exact, header_takes}
use Rattle.pair_core.proofs.CallerLemmas.{same_back, same_joined, same_self}
use Rattle.clause_judge.proofs.ClauseRests.{Passes, lawful_passes, lines_exact, passes_lawful, passes_short}

-- ---- line starts

-- bytes after lines none of which is long
module _ (IsLong : List ℕ → Type 0) where
  abbrev Leads : List ℕ → List ℕ → Type 0
  Leads bytes rest = IsLineStart bytes rest × (ShortFrom IsLong rest → ShortFrom IsLong bytes)

  further : (bytes rest body : List ℕ) → Leads bytes rest → Leads rest body → Leads bytes body
  further bytes rest body h i = (start_later bytes rest body h.0 i.0, λ short. h.1 (i.1 short))

  one_leads : (bytes line rest : List ℕ) → ¬ (IsLong bytes) → HasNoNewline line → bytes ≡ line ++ newline ∷ rest → Leads bytes rest
  one_leads bytes line rest short none is =
      (inr (line, is), λ later. subst (ShortFrom IsLong) (sym is) (short_next IsLong line rest none (subst (λ z. ¬ (IsLong z)) is short) later))

  line_leads : {Line : Type 0} (IsText : List ℕ → Line → Type 0) → ((line : List ℕ) (x : Line) → IsText line x → HasNoNewline line) → (bytes : List ℕ) (x : Line) (rest : List ℕ) → ¬ (IsLong bytes) → BeginsWith IsText bytes x rest → Leads bytes rest
  line_leads IsText none bytes x rest short begins = one_leads bytes begins.0 rest short (none begins.0 x begins.1) begins.2

  pairs_lead : (e : Extended) (pairs : List (Lit × Lit)) (count : ℕ) (bytes body : List ℕ) → Behind IsPairLine (IsPairStep e) IsLong (Reaches IsLong body) pairs count bytes → Leads bytes body
  pairs_lead e [] count bytes body h = (inl h.1, λ short. subst (ShortFrom IsLong) (sym h.1) short)
  pairs_lead e (p ∷ pairs) count bytes body h = further bytes h.0 body (line_leads IsPairLine none_pair bytes p h.0 h.2 h.3) (pairs_lead e pairs h.1 h.0 body h.5)

  cut_leads : (g : Aig) (bytes : List ℕ) (cut : Option Cut) (body : List ℕ) → PassesCut g IsLong bytes cut body → Leads bytes body
  cut_leads g bytes None body h = line_leads IsCutLine none_cut bytes None body h.0 h.1
  cut_leads g bytes (Some cut) body h =
      further bytes h.0 body (line_leads IsCutLine none_cut bytes (Some (cut.lo, length cut.pairs)) h.0 h.1 h.2) (pairs_lead (without_cut g) cut.pairs (length cut.pairs) h.0 body h.4)

  blocks_lead : (e : Extended) (bytes : List ℕ) (blocks : List Block) (body : List ℕ) → PassBlocks IsLong e bytes blocks body → Leads bytes body
  blocks_lead e bytes [] body h = (inl h, λ short. subst (ShortFrom IsLong) (sym h) short)
  blocks_lead e bytes (b ∷ blocks) body h =
      further bytes h.1.0 body (line_leads IsBlockLine none_block bytes (b.cut.lo, length b.cut.pairs, b.carry) h.1.0 h.1.1 h.1.2)
      (further h.1.0 h.0 body (pairs_lead e b.cut.pairs (length b.cut.pairs) h.1.0 h.0 h.1.4) (blocks_lead (graft_block e b) h.0 blocks body h.2))

  count_leads : (g : Aig) (bytes : List ℕ) (blocks : List Block) (body : List ℕ) → PassesCount g IsLong bytes blocks body → Leads bytes body
  count_leads g bytes blocks body h = further bytes h.0 body (line_leads IsCountLine none_count bytes (length blocks) h.0 h.1 h.2) (blocks_lead (without_cut g) h.0 blocks body h.4)

  module _ {X : Type 0} (l : Listing X) (no_number : (line : List ℕ) (n : ℕ) → l.number_text line n → HasNoNewline line) (none : (line : List ℕ) (x : X) → l.text line x → HasNoNewline line) where
    listed_lead : (e : Extended) (bytes : List ℕ) (xs : List X) (body : List ℕ) → PassListed l IsLong e bytes xs body → Leads bytes body
    listed_lead e bytes [] body h = (inl h, λ short. subst (ShortFrom IsLong) (sym h) short)
    listed_lead e bytes (x ∷ xs) body h = further bytes h.0 body (line_leads l.text none bytes x h.0 h.1 h.2) (listed_lead (l.more e x) h.0 xs body h.4)

    listing_leads : (e : Extended) (bytes : List ℕ) (xs : List X) (body : List ℕ) → PassesListing l IsLong e bytes xs body → Leads bytes body
    listing_leads e bytes xs body h = further bytes h.0 body (line_leads l.number_text no_number bytes (length xs) h.0 h.1 h.2) (listed_lead e h.0 xs body h.4)

  beside_leads : (g : Aig) (bytes : List ℕ) (b : Beside) (body : List ℕ) → PassesParts g IsLong bytes b body → Leads bytes body
  beside_leads g bytes b body h =
      further bytes h.0 body (listing_leads gate_listing none_gates none_pair (without_cut g) bytes b.gates h.0 h.1)
      (listing_leads output_listing none_replace none_output (with_gates (without_cut g) b.gates) h.0 b.outputs body h.2)

-- ---- lines over an extended graph

abbrev pub Long : Lengths → List ℕ → List ℕ → Type 0
Long lengths bytes left = IsTooLong lengths (length bytes) left

pub long_or : (lengths : Lengths) (bytes left : List ℕ) → Decided (Long lengths bytes left)
long_or lengths bytes left = decided_long lengths (length bytes) left

module _ (g : Aig) (lengths : Lengths) (bytes : List ℕ) where
  abbrev IsLong : List ℕ → Type 0
  IsLong = Long lengths bytes

  header_leads : (h : Header) (body : List ℕ) → PassesAnyHeader g lengths bytes h body → Leads IsLong bytes body
  header_leads h body passes = ⊎_elim (λ a. first a.1.0 a.1.2) (λ o. ⊎_elim (λ b. second b.1) (λ c. third c.1) o) passes
    where
      first : (cut : Option Cut) → PassesHeader g lengths bytes cut body → Leads IsLong bytes body
      first cut t = further IsLong bytes t.rest body (one_leads IsLong bytes (codes "joined 1") t.rest t.short (none_in (codes "joined 1") refl) t.version) (cut_leads IsLong g t.rest cut body t.cut_passes)

      second : PassesBlocks g lengths bytes h.blocks body → Leads IsLong bytes body
      second t = further IsLong bytes t.rest body (one_leads IsLong bytes (codes "joined 2") t.rest t.short (none_in (codes "joined 2") refl) t.version) (count_leads IsLong g t.rest h.blocks body t.blocks_pass)

      third : PassesBeside g lengths bytes h.beside body → Leads IsLong bytes body
      third t = further IsLong bytes t.rest body (one_leads IsLong bytes (codes "joined 3") t.rest t.short (none_in (codes "joined 3") refl) t.version) (beside_leads IsLong g t.rest h.beside body t.parts_pass)

  abbrev pub GoodLines : Extended → List ℕ → Type 0
  GoodLines e left = (lines : List ClauseLine) × Passes e IsLong (long_or lengths bytes) lines (gate_clauses e.gates) left

  good_exact : (e : Extended) (number : ℕ) (left : List ℕ) → IsExact (GoodLines e left) (IsRefusedLines IsLong e number left)
  good_exact e number left = lines_exact e IsLong (long_or lengths bytes) number left

  -- ---- whole texts

  -- lines that pass after a header are lawful
  pub lawful_lines : (h : Header) (body : List ℕ) → PassesAnyHeader g lengths bytes h body → (good : GoodLines (extended_with g h) body) → HasLawfulLines lengths g bytes h good.0
  lawful_lines h body passes good =
      let e = extended_with g h in
      let lawful = passes_lawful e IsLong (long_or lengths bytes) good.0 (gate_clauses e.gates) body good.1 in
      let short = passes_short e IsLong (long_or lengths bytes) good.0 (gate_clauses e.gates) body good.1 in
      let leads = header_leads h body passes in
      record {
        text = (body, header_said g lengths bytes h body passes, lawful.0);
        takes = header_takes g lengths bytes h body passes;
        in_range = All-from_recursion (λ x. IsClauseInRange e.max (clause_in x)) good.0 lawful.1;
        lawful = lawful.2;
        within = short_within lengths bytes (leads.1 short.0) (start_later bytes body [] leads.0 short.1);
      }

  abbrev HasLines : Type 0
  HasLines = (h : Header) × (lines : List ClauseLine) × HasLawfulLines lengths g bytes h lines

  there : HasPassed g lengths bytes GoodLines → HasLines
  there w = (w.0, w.3.0, lawful_lines w.0 w.1 w.2 w.3)

  back : HasLines → HasPassed g lengths bytes GoodLines
  back (h, lines, l) =
      let e = extended_with g h in
      let body = l.text.0 in
      let short = within_short lengths bytes l.within in
      let passes = header_passes g lengths bytes h body l.takes l.text.1 short in
      let leads = header_leads h body passes in
      let in_range = recursion_from_All (λ x. IsClauseInRange e.max (clause_in x)) lines l.in_range in (
        h,
        body,
        passes,
        (lines, lawful_passes e IsLong (long_or lengths bytes) lines (gate_clauses e.gates) body (l.text.2, in_range, l.lawful) (λ left start. short left (start_later bytes body left leads.0 start))),
      )

  -- the lines are lawful, or there is one first refusal
  lines_are_exact : IsExact HasLines (IsClauseRefusal lengths g bytes)
  lines_are_exact = exact_as there back (λ p r. r) (λ p r. r) (header_exact g lengths bytes (IsRefusedLines IsLong) GoodLines good_exact)

  -- ---- and their goals

  -- the header and the lines are those of the text
  one_file : (h k : Header) (xs ys : List ClauseLine) → HasLawfulLines lengths g bytes h xs → HasLawfulLines lengths g bytes k ys → (h ≡ k) × (xs ≡ ys)
  one_file h k xs ys i j = one_text_is_one_file (length g.outputs) bytes h k xs ys i.text j.text

  abbrev Gives : Type 0
  Gives = (p : Premises) × GivesPremises lengths g bytes p

  abbrev given : Header → List ClauseLine → Premises
  given h lines = premises h.version (extended_with g h) (importable h.version (added lines))

  decide : Gives ⊎ ((f : ClauseFault) × IsFileRefusal lengths g bytes f)
  decide = ⊎_elim (λ l. goals l.0 l.1 l.2) (λ r. inr (Line r.0, r.1)) lines_are_exact.decided
    where
      goals : (h : Header) (lines : List ClauseLine) → HasLawfulLines lengths g bytes h lines → Gives ⊎ ((f : ClauseFault) × IsFileRefusal lengths g bytes f)
      goals h lines l =
          ⊎_elim (λ shown. inl (given h lines, record { header = h; lines = lines; lawful = l; shown = shown; same = same_self (given h lines) })) (λ r. inr (Goals r.0, (h, lines, l, r.1)))
          (goals_are_exact (extended_with g h) lines).decided

  goals_moved : (h k : Header) (xs ys : List ClauseLine) (column : ℕ) → h ≡ k → xs ≡ ys → IsGoalRefusal (extended_with g h) xs column → IsGoalRefusal (extended_with g k) ys column
  goals_moved h k xs ys column headers lines r = subst (λ z. IsGoalRefusal (extended_with g k) z column) lines (subst (λ z. IsGoalRefusal (extended_with g z) xs column) headers r)

  not_both : (f : ClauseFault) → Gives → IsFileRefusal lengths g bytes f → ⊥
  not_both (Line p) (e, s) r = lines_are_exact.not_both p (s.header, s.lines, s.lawful) r
  not_both (Goals column) (e, s) r =
      let same = one_file r.0 s.header r.1 s.lines r.2 s.lawful in
      (goals_are_exact (extended_with g s.header) s.lines).not_both column s.shown (goals_moved r.0 s.header r.1 s.lines column same.0 same.1 r.3)

  one_refusal : (a b : ClauseFault) → IsFileRefusal lengths g bytes a → IsFileRefusal lengths g bytes b → a ≡ b
  one_refusal (Line p) (Line q) h k = ap Line (lines_are_exact.one p q h k)
  one_refusal (Line p) (Goals c) h k = absurd (lines_are_exact.not_both p (k.0, k.1, k.2) h)
  one_refusal (Goals c) (Line q) h k = absurd (lines_are_exact.not_both q (h.0, h.1, h.2) k)
  one_refusal (Goals c) (Goals d) h k =
      let same = one_file h.0 k.0 h.1 k.1 h.2 k.2 in
      ap Goals ((goals_are_exact (extended_with g k.0) k.1).one c d (goals_moved h.0 k.0 h.1 k.1 c same.0 same.1 h.3) k.3)

  one_given : (p q : Premises) → GivesPremises lengths g bytes p → GivesPremises lengths g bytes q → AreSamePremises p q
  one_given p q s t =
      let same = one_file s.header t.header s.lines t.lines s.lawful t.lawful in
      let is : given s.header s.lines ≡ given t.header t.lines = ap (λ h. given h s.lines) same.0 ∙ ap (given t.header) same.1 in
      same_joined p (given t.header t.lines) q (subst (AreSamePremises p) is s.same) (same_back q (given t.header t.lines) t.same)

pub clauses_are_exact : ClausesAreExact
clauses_are_exact = record {
  exact = λ lengths g bytes. record { decided = decide g lengths bytes; not_both = not_both g lengths bytes; one = one_refusal g lengths bytes };
  one = λ lengths g bytes p q s t. one_given g lengths bytes p q s t;
}
