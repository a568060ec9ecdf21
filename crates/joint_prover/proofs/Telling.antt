-- What is decided of a graph, from what is shown, the lines of a plan, and what was tried.
use Rattle.std.proofs.Common.{◌≡◌, ℕ, ◌+◌, ◌*◌, ◌≤◌, List, [], length, refl, sym, subst, arith, inl, inr, ⊎_elim, ◌∷◌, true, false, ap, ap₂, ◌∙◌}
use Rattle.std.specs.List.{All}
use Rattle.std.specs.declared.option.Option.{Option}
use Rattle.std.specs.declared.option.Option.TheVariants.{None, Some}
use Rattle.std.proofs.lemmas.List.Elements.{All-nil}
use Rattle.clause_core.specs.Clause.{IsClause, IsClauseInRange}
use Rattle.clause_core.specs.ClauseLines as goals
use Rattle.clause_core.specs.ClauseLines.{AreLawfulClauseLines, ClauseLine, clause_in}
use Rattle.clause_core.specs.GateClauses.{goals_of}
use Rattle.drup_text.specs.declared.head.Header.{Header}
use Rattle.drup_text.specs.Headers.{IsHeaderOf}
use Rattle.drup_text.specs.WrittenTexts.{any_file_text}
use Rattle.drup_text.proofs.Writable.{lines_are_writable}
use Rattle.drup_text.proofs.WrittenAgain.{written_files_are_read}
use Rattle.graph_core.specs.Aiger.Sizes.{IsSizedAs}
use Rattle.graph_core.specs.declared.widths.Widths.{Widths}
use Rattle.graph_core.specs.Graph.{Aig, IsBuilt, IsWellFormed}
use Rattle.frontier_core.specs.LastFrontier.{AgreeEverywhere}
use Rattle.graph_core.specs.Graph.Extended.{without_cut, modulus}
use Rattle.graph_core.specs.Graph.Operands.{profile_of, sides_for}
use Rattle.ripple_graft.specs.Blocks.{AreBlocks}
use Rattle.ripple_graft.specs.Grafts.{IsGrafted}
use Rattle.ripple_graft.specs.HeaderBlocks.{AreHeaderBlocks, IsCutOf, cut_blocks}
use Rattle.ripple_graft.proofs.BlockLists.{cut_is_block}
use Rattle.ripple_graft.proofs.CallerLemmas.{header_grafted}
use Rattle.ripple_graft.proofs.GraftedGraphs.{grafted_small}
use Rattle.ripple_graft.specs.declared.cut.Cut.{Cut}
use Rattle.pair_core.proofs.CallerLemmas.{same_self}
use Rattle.stage_rewriter.specs.Placing.{IsShownBeside}
use Rattle.stage_rewriter.specs.Rewriting.{IsShownRewriting}
use Rattle.stage_rewriter.specs.declared.placing.Placed.{Placed}
use Rattle.joint_prover.specs.declared.shown.Shown.{Shown}
use Rattle.command_core.specs.declared.task.Task.{Task}
use Rattle.joint_prover.specs.Pairs.{AreClausesOver, IsPairOver, IsSpareFile}
use Rattle.joint_prover.specs.Endings.{IsShown, lent, replacement_named, Decides, IsEnd, IsProof}
use Rattle.joint_prover.specs.Replacements.{IsAllowed, IsVersion, Takes, blocks_of, extended_by, header_of, plain_version, version_for}
use Rattle.joint_prover.specs.declared.replacement.Replacement.{Replacement}
use Rattle.joint_prover.specs.declared.replacement.Replacement.TheVariants.{Adder, Beside}
use Rattle.joint_prover.specs.Tries.{AreTried, EndsOver, EndsWithinBy, HasPassedBudget, IsProvedOver, IsTried, IsWithinBudget}
use Rattle.joint_prover.proofs.Sizes.{few_inputs, few_outputs, few_variables, some_outputs}
use Rattle.std.specs.Prelude.{◌⊎◌, ◌==◌, Bool, if◌then◌else◌, IfSome, is_some, option_map}
use Rattle.std.proofs.lemmas.Option.{none-some}
use Rattle.algebra_core.specs.Text.{IsLawfulAlgebraFile}
use Rattle.algebra_core.proofs.SamePremises.{premises_are_kept}
use Rattle.graph_core.specs.declared.claim.Claim.{Claim}
use Rattle.pac_writer.specs.Certificates.{ArePartsOf, written_certificate}
use Rattle.pac_writer.specs.Writing.{Made}
use Rattle.poly_text.specs.Recorded.{lines_in}
use Rattle.pair_core.specs.Certificates.{IsPair}
use Rattle.pair_core.specs.ClauseFiles.{premises}
use Rattle.pair_core.specs.Texts.{algebra_text, clauses_text}
use Rattle.pair_core.specs.declared.pair.Pair.{Pair}
use Rattle.joint_prover.specs.declared.decision.Decision.{Decision}
use Rattle.joint_prover.specs.declared.decision.Decision.TheVariants as decision
use Rattle.joint_prover.specs.declared.verdict.Tried.{Tried}
use Rattle.joint_prover.specs.Decisions.{IsDecision}

-- ---- graphs that are shown

module _ (g : Aig) (task : Task) (s : Shown) where
  -- with this, or with nothing
  shown_by : (r : Option Replacement) → replacement_named s ≡ r → s.extended.now ≡ extended_by g r → Takes g r → IsAllowed task.version r → AgreeEverywhere (extended_by g r) →
      AreLawfulClauseLines (extended_by g r) s.log.now → length s.log.now ≤ 2 * (task.conflicts + 2 * length g.outputs) → (r ≡ None → s.log.now ≡ []) → IsShown g task s
  shown_by r named extended takes allowed agree lawful few none =
      let is = sym named in
      record {
        extended = subst (λ c. s.extended.now ≡ extended_by g c) is extended;
        takes = subst (Takes g) is takes;
        allowed = subst (IsAllowed task.version) is allowed;
        agree = subst (λ c. AgreeEverywhere (extended_by g c)) is agree;
        lawful = subst (λ c. AreLawfulClauseLines (extended_by g c) s.log.now) is lawful;
        few = few;
        none = subst (λ c. c ≡ None → s.log.now ≡ []) is none;
      }

  pub shown_alone : replacement_named s ≡ None → s.extended.now ≡ without_cut g → s.log.now ≡ [] → IsShown g task s
  shown_alone named extended empty = shown_by None named extended tt tt (λ σ evaluates k d h. absurd (omega arith))
      (subst (AreLawfulClauseLines (without_cut g)) (sym empty)
      (record { in_range = All-nil (λ x. IsClauseInRange g.max (clause_in x)); lawful = tt; goals = All-nil (λ x. All (goals.IsShown []) (goals_of x)) }))
      (subst (λ (ls : List ClauseLine). length ls ≤ 2 * (task.conflicts + 2 * length g.outputs)) (sym empty) (omega arith)) (λ same. empty)

  pub shown_with : (cut : Cut) → replacement_named s ≡ Some (Adder cut) → IsShownRewriting g task.conflicts cut s.extended.now s.log.now → AgreeEverywhere s.extended.now → IsShown g task s
  shown_with cut named shown agree =
      let is = shown.extended_is in
      shown_by (Some (Adder cut)) named is shown.fits tt (subst AgreeEverywhere is agree) (subst (λ x. AreLawfulClauseLines x s.log.now) is shown.lawful) shown.few (λ same. absurd (cc))

  pub shown_beside : (placed : Placed) → replacement_named s ≡ Some (Beside placed.beside) → s.extended.now ≡ placed.extended → s.log.now ≡ placed.log.lines → IsShownBeside g task.conflicts placed →
      AgreeEverywhere placed.extended → task.version ≡ 3 → IsShown g task s
  shown_beside placed named same log shown agree allowed =
      let is = shown.extended_is in
      shown_by (Some (Beside placed.beside)) named (same ∙ is) shown.fits allowed (subst AgreeEverywhere is agree)
      (subst (λ ls. AreLawfulClauseLines (extended_by g (Some (Beside placed.beside))) ls) (sym log) (subst (λ x. AreLawfulClauseLines x placed.log.lines) is shown.lawful))
      (subst (λ (ls : List ClauseLine). length ls ≤ 2 * (task.conflicts + 2 * length g.outputs)) (sym log) shown.few) (λ same. absurd (cc))

-- a header has one block at most
one_block : (outputs : ℕ) (r : Option Replacement) → length (blocks_of outputs r) ≤ 1
one_block outputs None = omega arith
one_block outputs (Some (Adder cut)) = omega arith
one_block outputs (Some (Beside b)) = omega arith

pub has_one : (g : Aig) (most : ℕ) (r : Option Replacement) (h : Header) → h ≡ header_of g most r → (h.version ≡ 2) ⊎ (length h.blocks ≤ 1)
has_one g most r h is = inr (subst (λ (k : Header). length k.blocks ≤ 1) (sym is) (one_block (length g.outputs) r))

-- the version of what names no gates beside is 1 or 2
plain_is : (most : ℕ) → (plain_version most ≡ 1) ⊎ (plain_version most ≡ 2)
plain_is most = go (most == 2)
  where
    one : ℕ
    one = 1

    two : ℕ
    two = 2

    go : (second : Bool) → ((if second then two else one) ≡ one) ⊎ ((if second then two else one) ≡ two)
    go true = inr refl
    go false = inl refl

-- and no greater than what may be written
plain_allowed : (most : ℕ) → IsVersion most → plain_version most ≤ most
plain_allowed most (inl one) = subst (λ n. plain_version n ≤ n) (sym one) (omega arith)
plain_allowed most (inr (inl two)) = subst (λ n. plain_version n ≤ n) (sym two) (omega arith)
plain_allowed most (inr (inr three)) = subst (λ n. plain_version n ≤ n) (sym three) (omega arith)

allowed_version : (most : ℕ) (r : Option Replacement) → IsVersion most → IsAllowed most r → version_for most r ≤ most
allowed_version most None known allowed = plain_allowed most known
allowed_version most (Some (Adder cut)) known allowed = plain_allowed most known
allowed_version most (Some (Beside b)) known allowed = omega arith

-- the graph takes the header
blocks_taken : (g : Aig) (most : ℕ) (cut : Option Cut) → IsCutOf g cut → 1 ≤ length g.outputs → AreBlocks (without_cut g) (cut_blocks (length g.outputs) cut) → length (cut_blocks (length g.outputs) cut) ≤ 1 →
    AreHeaderBlocks g (plain_version most) (cut_blocks (length g.outputs) cut)
blocks_taken g most cut fits some fit one =
    ⊎_elim (λ first. inl (first, (cut, refl, fits))) (λ second. inr (second, omega arith, fit)) (plain_is most)

header_taken : (g : Aig) (most : ℕ) (r : Option Replacement) → 1 ≤ length g.outputs → Takes g r → IsHeaderOf g (header_of g most r)
header_taken g most None some takes = inl (blocks_taken g most None tt some tt (omega arith), refl)
header_taken g most (Some (Adder cut)) some takes = inl (blocks_taken g most (Some cut) takes some (cut_is_block g cut takes, tt) (omega arith), refl)
header_taken g most (Some (Beside b)) some takes = inr (refl, refl, takes)

-- ---- what is written

module _ (g : Aig) (widths : Widths) (sized : IsSizedAs (profile_of widths) g) (well : IsWellFormed g) where
  built : IsBuilt g
  built = record {
    well_formed = well;
    small = few_variables widths g sized;
    few_inputs = few_inputs widths g sized;
    few_outputs = let few = few_outputs widths g sized in omega arith;
  }

  module _ (task : Task) (known : IsVersion task.version) (r : Option Replacement) (taken : Takes g r) (allowed : IsAllowed task.version r) where
    abbrev header : Header
    header = header_of g task.version r

    takes : IsHeaderOf g header
    takes = header_taken g task.version r (some_outputs widths g sized) taken

    grafted : IsGrafted g (extended_by g r)
    grafted = header_grafted g header.version header.blocks header.beside takes

    clauses_over : (lines : List ClauseLine) → length lines ≤ 2 * (task.conflicts + 2 * length g.outputs) → All (λ line. IsClause (clause_in line)) lines → (r ≡ None → lines ≡ []) → AreLawfulClauseLines (extended_by g r) lines →
        AreClausesOver g task r (any_file_text header lines)
    clauses_over lines few once none lawful = record {
      names = record { lines = lines; allowed = allowed_version task.version r known allowed; few = few; once = once; none = none; text_is = refl };
      gives = λ lengths within. (
        _,
        record {
          header = header;
          lines = lines;
          lawful = record {
            text = written_files_are_read g header lines built takes
                (lines_are_writable (extended_by g r).max lines (grafted_small g (extended_by g r) built grafted) lawful.in_range);
            takes = takes;
            in_range = lawful.in_range;
            lawful = lawful.lawful;
            within = within;
          };
          shown = lawful.goals;
          same = same_self _;
        },
        record { version_is = refl; extended = refl },
      );
    }

-- The certificate of what is shown gives premises over that graph, where each line has a literal once.
pub shown_clauses : (g : Aig) (task : Task) (s : Shown) → IsSizedAs (profile_of task.claim.widths) g → IsWellFormed g → IsVersion task.version → IsShown g task s → All (λ line. IsClause (clause_in line)) s.log.now →
    AreClausesOver g task (replacement_named s) (any_file_text (header_of g task.version (replacement_named s)) s.log.now)
shown_clauses g task s sized well known is once = clauses_over g task.claim.widths sized well task known (replacement_named s) is.takes is.allowed s.log.now is.few once is.none is.lawful

-- a pair over a graph is lawful: what imports nothing is lawful whatever the added clauses are
pub pair_is_lawful : (g : Aig) (task : Task) (r : Option Replacement) (clauses algebra : List ℕ) → IsPairOver g task r clauses algebra → IsPair g task.claim clauses algebra
pair_is_lawful g task r clauses algebra h lengths clauses_within algebra_within =
    let given = h.clause_file.gives lengths clauses_within in
    let p = given.0 in
    let s = sides_for task.claim g in
    let over = premises_are_kept.without_imports (version_for task.version r) (extended_by g r) p.imports s algebra h.algebra_file in
    record {
      premises = p;
      gives = given.1;
      lawful = (
        subst (λ x. IsLawfulAlgebraFile (record { version = p.version; extended = x; imports = p.imports }) s algebra) (sym given.2.extended)
            (subst (λ v. IsLawfulAlgebraFile (record { version = v; extended = extended_by g r; imports = p.imports }) s algebra) (sym given.2.version_is) over),
        algebra_within,
      );
    }

-- ---- the pair of lines that are closed

module _ (g : Aig) (task : Task) (r : Option Replacement) (p : Pair) (l : Made) where
  pub pair_over : IsProof g task.claim r l → AreClausesOver g task r (clauses_text p) → p.header.version ≡ version_for task.version r → ArePartsOf l p.terms p.algebra.items p.closing →
      IsPairOver g task r (clauses_text p) (algebra_text p)
  pair_over proof clauses version parts =
      let text = algebra_text p in
      record {
        clause_file = clauses;
        algebra_file = subst (λ s. IsLawfulAlgebraFile (premises (version_for task.version r) (extended_by g r) []) s text) proof.sides
            (subst (λ e. IsLawfulAlgebraFile (premises (version_for task.version r) e []) l.sides text) proof.extended
            (subst (λ v. IsLawfulAlgebraFile (premises v l.extended []) l.sides text) version (parts.lawful p.header.version)));
        spare = subst (λ e. IsSpareFile (version_for task.version r) e text) proof.extended (record {
          lines = l.lines;
          closing = p.closing;
          few = proof.few;
          spare = parts.spare;
          text_is = ap₂ (λ v m. written_certificate v m (lines_in p.terms p.algebra.items) p.closing) version parts.modulus_is ∙
              ap (λ xs. written_certificate (version_for task.version r) (modulus l.extended) xs p.closing) parts.lines_are;
        });
      }

-- ---- what was tried

module _ (g : Aig) (claim : Claim) (budget : ℕ) (used : Option Replacement) (first : Tried) (over : IsTried g claim budget used first) where
  has_passed : HasPassedBudget g claim budget used
  has_passed = λ r same. (first, subst (λ c. IsTried g claim budget c first) same over)

-- over the graph alone; or with something in use, and then over the graph alone
pub one_tried : (g : Aig) (claim : Claim) (budget : ℕ) (used : Option Replacement) (first : Tried) (tried : List Tried) → is_some used ≡ false → tried ≡ first ∷ [] → IsTried g claim budget used first →
    AreTried g claim budget used tried
one_tried g claim budget None first tried none is over = (first, is, over)
one_tried g claim budget (Some r) first tried none is over = absurd (cc)

pub both_tried : (g : Aig) (claim : Claim) (budget : ℕ) (used : Option Replacement) (first last : Tried) (tried : List Tried) → is_some used ≡ true → tried ≡ first ∷ last ∷ [] → IsTried g claim budget used first →
    IsTried g claim budget None last → AreTried g claim budget used tried
both_tried g claim budget None first last tried some is over alone = absurd (cc)
both_tried g claim budget (Some r) first last tried some is over alone = (first, last, is, over, alone)

some_map : {A B : Type 0} (o : Option A) (f : A → B) → is_some o ≡ is_some (option_map f o)
some_map None f = refl
some_map (Some x) f = refl

-- where something is named, it is there
pub names_some : (s : Shown) → is_some s.by ≡ is_some (replacement_named s)
names_some s = some_map s.by lent

-- ---- what is decided

module _ (g : Aig) (task : Task) where
  abbrev claim : Claim
  claim = task.claim

  abbrev budget : ℕ
  budget = task.budget

  over_used : (used : Option Replacement) → EndsWithinBy g claim budget used → EndsOver g claim budget used used
  over_used None h = inl ((λ r same. absurd (none-some r same)), h)
  over_used (Some r) h = (refl, h)

  over_alone : (used r : Option Replacement) → r ≡ None → EndsOver g claim budget used None → EndsOver g claim budget used r
  over_alone used r none = subst (EndsOver g claim budget used) (sym none)

  -- over a graph that is one to end with
  decided : (used r : Option Replacement) (d : Decision) → IsProvedOver g claim budget used r → Decides g task r d → IsDecision g task used d
  decided used r (decision.Proved p) over h = (h.0, h.1, (r, over, h.2))
  decided used r (decision.Wrong d) over h = h
  decided used r (decision.Undecided tried step size seen) over h = absurd h

  -- that with what is in use, or alone where nothing is
  pub end_decides : (used : Option Replacement) (d : Decision) → IsEnd g task used d → IsDecision g task used d
  end_decides used d h = decided used used d (inl (over_used used h.0)) h.1

  -- by a plan or by drafts
  pub over_decides : (used : Option Replacement) (d : Decision) → Decides g task used d → IsDecision g task used d
  over_decides used d h = decided used used d (inr refl) h

  -- the graph alone, where the plan over that with something in use has passed the budget
  pub later_decides : (used r : Option Replacement) (first : Tried) (d : Decision) → r ≡ None → IsTried g claim budget used first → IsEnd g task r d → IsDecision g task used d
  later_decides used r first d none tried h = decided used r d
      (inl (over_alone used r none (inl (has_passed g claim budget used first tried, subst (EndsWithinBy g claim budget) none h.0)))) h.1

  pub some_later_decides : (used r : Option Replacement) (first : Tried) (d : Option Decision) → r ≡ None → IsTried g claim budget used first → IfSome d (IsEnd g task r) → IfSome d (IsDecision g task used)
  some_later_decides used r first None none tried h = tt
  some_later_decides used r first (Some d) none tried h = later_decides used r first d none tried h

  -- at last by the plain plan
  pub plain_decides : (used : Option Replacement) (tried : List Tried) (d : Decision) → AreTried g claim budget used tried → IsWithinBudget g claim budget → Decides g task None d → IsDecision g task used d
  plain_decides used tried d are within h = decided used None d (inl (inr ((tried, are), within))) h
