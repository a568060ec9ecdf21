-- The join, and what it means for a graph: goals shown make replaced columns agree, and so a specification that vanishes makes the graph
-- multiply.
use Rattle.std.specs.Prelude.{◌≡◌, ℕ, ◌+◌, ◌*◌, ◌%◌, ◌≤◌, ◌==◌, Bool, true, false, cond, List, [], ◌∷◌, ◌++◌, map, codes}
use Rattle.std.specs.declared.option.Option.TheVariants.{None}
use Rattle.std.specs.List.{All, AllByRecursion, Contains, flat_map}
use Rattle.std.proofs.Common.{refl, sym, ap, ap₂, subst, ◌∙◌, arith, inl}
use Rattle.std.proofs.lemmas.List.Elements.{All-nil, All-contains, All-from_recursion, All-weaker, recursion_from_All}
use Rattle.algebra_core.specs.AlgebraLines.{AreMet, Premises, specification}
use Rattle.graph_core.specs.Graph.Extended.{AgreeOnColumns, Extended, without_cut}
use Rattle.graph_core.specs.Graph.Assignments.{Assignment, HasBound, bit, literal, word}
use Rattle.graph_core.specs.Graph.Literals.{variable_of}
use Rattle.graph_core.specs.declared.claim.Claim.{Claim}
use Rattle.graph_core.specs.Graph.Operands.{profile_of, Does, HasShapeFor, MeetsClaimOnEvaluations, ReadInputs, Sides, claimed, operand_literals, output_modulus, sides_for}
use Rattle.graph_core.specs.Graph.{Aig, IsEvaluation, IsWellFormed, read_literals}
use Rattle.graph_core.specs.declared.literal.Lit.{Lit}
use Rattle.graph_core.proofs.OfAiger.CallerLemmas.{shape_for, spelled_shape, well_formed}
use Rattle.algebra_core.proofs.CallerLemmas.{axioms-vanish, specification-zero, vanishing_means_claim}
use Rattle.graph_core.proofs.OfGraphs.CallerLemmas.{all_split, all_weaker, claim_is_done, claim_same, evaluations_suffice, literal_same, sides_read_inputs}
use Rattle.mv_fact.specs.Always.{Always}
use Rattle.ripple_graft.specs.Beside.{nothing}
use Rattle.ripple_graft.specs.Blocks.{SameUpTo}
use Rattle.ripple_graft.specs.Grafts.{IsGrafted}
use Rattle.ripple_graft.proofs.CallerLemmas.{header_goes_on, header_grafted}
use Rattle.ripple_graft.proofs.GraftedGraphs.{grafted_graph}
use Rattle.clause_core.specs.Clause.{Clause, IsClauseInRange, holds}
use Rattle.clause_core.specs.ClauseLines.{IsShown, added, clause_in}
use Rattle.clause_core.specs.GateClauses.{goals_of}
use Rattle.clause_core.proofs.AddedClauses.{added_are_facts, columns_agree}
use Rattle.drup_text.specs.declared.head.Header.{Header}
use Rattle.drup_text.specs.Headers.{IsHeaderOf, extended_with}
use Rattle.gate_axioms.specs.ClauseValues.{clause_value}
use Rattle.gate_axioms.proofs.CallerLemmas.{imports_bounded, imports_vanish}
use Rattle.algebra_core.specs.Certificates.{no_cut}
use Rattle.graph_core.specs.Text.JudgedLines.{IsWithin, Lengths}
use Rattle.graph_core.specs.Text.{newline}
use Rattle.pair_core.specs.Certificates.{LawfulPairsAreSound}
use Rattle.pair_core.specs.ClauseFiles.{ArePremisesOf, GivesPremises, importable, premises}
use Rattle.joint_checker.specs.Shown.{IsShownOf, premises_of}
use Rattle.joint_checker.specs.declared.clause_file.Shown.{Shown}
use Rattle.pair_core.proofs.CallerLemmas.{same_all, same_self}

-- ---- the graph below an extended one

-- the graph with its header's blocks, and with what stands beside, is made of it
pub header_made : (g : Aig) (h : Header) → IsHeaderOf g h → IsGrafted g (extended_with g h)
header_made g h takes = header_grafted g h.version h.blocks h.beside takes

pub graph_is : (g : Aig) (p : Premises) → ArePremisesOf g p → p.extended.graph ≡ g
graph_is g p of = grafted_graph g p.extended (subst (IsGrafted g) (sym of.extended) (header_made g of.header of.takes))

-- words of low literals are as they were
word_same : (σ τ : Assignment) (low : ℕ) (ls : List Lit) → SameUpTo low σ τ → AllByRecursion (λ l. variable_of l ≤ low) ls → word σ ls ≡ word τ ls
word_same σ τ low [] same h = refl
word_same σ τ low (l ∷ ls) same h = ap₂ (λ b n. bit b + 2 * n) (literal_same σ τ l (same (variable_of l) h.0)) (word_same σ τ low ls same h.1)

module _ (g : Aig) (well : IsWellFormed g) where
  abbrev IsLow : Lit → Type 0
  IsLow l = variable_of l ≤ g.max

  low_lits : AllByRecursion IsLow g.inputs × AllByRecursion IsLow (read_literals g)
  low_lits =
      all_split IsLow g.inputs (read_literals g)
      (all_weaker (λ l. l.0 ≤ 2 * g.max + 1) IsLow (g.inputs ++ read_literals g) (λ l h. omega arith) (recursion_from_All (λ l. l.0 ≤ 2 * g.max + 1) (g.inputs ++ read_literals g) well.in_range))

  outputs_low : AllByRecursion IsLow g.outputs
  outputs_low = (all_split IsLow g.outputs (flat_map (λ x. x.left ∷ x.right ∷ []) g.gates) low_lits.1).0

  module _ (s : Sides) (reads : ReadInputs g s) where
    operands_low : AllByRecursion IsLow s.a × AllByRecursion IsLow (s.b ++ s.c)
    operands_low =
        all_split IsLow s.a (s.b ++ s.c)
        (recursion_from_All IsLow (operand_literals s)
        (All-weaker (Contains g.inputs) IsLow (λ l c. All-contains IsLow g.inputs l (All-from_recursion IsLow g.inputs low_lits.0) c) (operand_literals s) reads))

    sides_low : AllByRecursion IsLow s.b × AllByRecursion IsLow s.c
    sides_low = all_split IsLow s.b s.c operands_low.1

    -- what the outputs' word is, with a cut and without one
    abbrev IsClaimed : Assignment → Type 0
    IsClaimed σ = word σ g.outputs ≡ claimed (output_modulus g) s σ % output_modulus g

    claim_back : (σ τ : Assignment) → SameUpTo g.max σ τ → IsClaimed σ → IsClaimed τ
    claim_back σ τ same on =
        sym (word_same σ τ g.max g.outputs same outputs_low) ∙ on ∙
        ap (λ n. n % output_modulus g) (claim_same (output_modulus g) s τ σ (lits s.a operands_low.0) (lits s.b sides_low.0) (lits s.c sides_low.1))
      where
        lits : (ls : List Lit) → AllByRecursion IsLow ls → AllByRecursion (λ l. literal σ l ≡ literal τ l) ls
        lits ls h = all_weaker IsLow (λ l. literal σ l ≡ literal τ l) ls (λ l low. literal_same σ τ l (same (variable_of l) low)) h

    -- Where the outputs' word is what is claimed on the evaluations of an extended graph, it is on those of the graph.
    claimed_below : (p : Premises) → ArePremisesOf g p → ((σ : Assignment) → IsEvaluation p.extended.gates σ → IsClaimed σ) → MeetsClaimOnEvaluations g s
    claimed_below p of on τ evaluates =
        let longer = header_goes_on g of.header.version of.header.blocks of.header.beside of.takes τ well evaluates in
        let gates : IsEvaluation p.extended.gates longer.0 = subst (λ (x : Extended). IsEvaluation x.gates longer.0) (sym of.extended) longer.1 in
        claim_back longer.0 τ longer.2 (on longer.0 gates)

-- Where the specification vanishes on every evaluation of an extended graph, a graph without faults does what is claimed.
pub vanishing_does : (g : Aig) (claim : Claim) (p : Premises) → IsWellFormed g → HasShapeFor claim.widths g → ArePremisesOf g p → Always p.extended.gates (λ σ. specification p.extended (sides_for claim g) σ ≡ 0) → Does claim g
vanishing_does g claim p well shape of vanishes =
    let sides = sides_for claim g in
    (claim_is_done g claim shape well.defined_once).0
    (evaluations_suffice g sides well.defined_once well.acyclic
    (claimed_below g well sides (sides_read_inputs g claim) p of
    (λ σ evaluates. subst (λ (h : Aig). word σ h.outputs ≡ claimed (output_modulus h) sides σ % output_modulus h) (graph_is g p of) (vanishing_means_claim p.extended sides σ (vanishes σ evaluates)))))

-- ---- what a clause file that was read gives

pub shown_fits : (g : Aig) (s : Shown) → IsShownOf g s → ArePremisesOf g (premises_of s)
shown_fits g s of = record { header = s.header; takes = of.takes; version = refl; extended = of.extended }

-- ---- lawful pairs

pub all_imported : (P : Clause → Type 0) (version : ℕ) (cs : List Clause) → All P cs → All P (importable version cs)
all_imported P version cs h = go (version == 1)
  where
    go : (t : Bool) → All P (cond t [] cs)
    go true = All-nil P
    go false = h

module _ (lengths : Lengths) (g : Aig) (bytes : List ℕ) (p : Premises) (gives : GivesPremises lengths g bytes p) where
  abbrev e : Extended
  e = extended_with g gives.header

  pub gives_of : ArePremisesOf g p
  gives_of = record { header = gives.header; takes = gives.lawful.takes; version = gives.same.version; extended = gives.same.extended }

  -- the clauses that are added hold on every evaluation, and the replaced columns agree
  met_there : (σ : Assignment) → IsEvaluation e.gates σ → AgreeOnColumns e σ × All (λ f. f σ ≡ 0) p.imports
  met_there σ evaluates =
      let h = gives.lawful in
      let cs = importable gives.header.version (added gives.lines) in
      let facts = All-weaker (λ c. Always e.gates (λ τ. holds τ c ≡ true)) (λ c. holds σ c ≡ true) (λ c always. always σ evaluates) (added gives.lines) (added_are_facts e gives.lines h.in_range h.lawful) in (
        columns_agree e gives.lines (record { in_range = h.in_range; lawful = h.lawful; goals = gives.shown }) σ evaluates,
        same_all (λ (f : Assignment → ℕ). f σ ≡ 0) (λ f k same zero_there. same σ ∙ zero_there) p.imports (map clause_value cs) gives.same.imports
            (imports_vanish cs σ (all_imported (λ c. holds σ c ≡ true) gives.header.version (added gives.lines) facts)),
      )

  -- what may be imported depends on finitely many variables
  pub gives_bounds : All HasBound p.imports
  gives_bounds =
      let cs = importable gives.header.version (added gives.lines) in
      same_all HasBound (λ f k same b. (b.0, λ σ τ agree. same σ ∙ b.1 σ τ agree ∙ sym (same τ))) p.imports (map clause_value cs) gives.same.imports (imports_bounded cs)

  pub gives_met : Always p.extended.gates (AreMet p)
  gives_met σ evaluates =
      let t = met_there σ (subst (λ (x : Extended). IsEvaluation x.gates σ) gives.same.extended evaluates) in
      record { columns = subst (λ (x : Extended). AgreeOnColumns x σ) (sym gives.same.extended) t.0; imports = t.1 }

pub lawful_pairs_are_sound : LawfulPairsAreSound
lawful_pairs_are_sound file lengths g claim clauses algebra spells pair =
    let p = pair.premises in
    let sides = sides_for claim g in
    let lawful = pair.lawful.0 in
    vanishing_does g claim p (well_formed (profile_of claim.widths) file g spells) (shape_for claim.widths g (spelled_shape (profile_of claim.widths) file g spells)) (gives_of lengths g clauses p pair.gives)
    (λ σ evaluates.
    let met = gives_met lengths g clauses p pair.gives σ evaluates in
    specification-zero p sides σ lawful.lines lawful.closing lawful.lawful (recursion_from_All (λ (f : Assignment → ℕ). f σ ≡ 0) p.imports met.imports) (axioms-vanish p.extended σ evaluates met.columns))

-- the certificate that replaces nothing gives the graph itself
pub no_cut_gives : (lengths : Lengths) (g : Aig) → IsWithin lengths no_cut → GivesPremises lengths g no_cut (premises 1 (without_cut g) [])
no_cut_gives lengths g within = record {
  header = record { version = 1; blocks = []; beside = nothing };
  lines = [];
  lawful = record {
    text = ([], inl (refl, (None, refl, (codes "none" ++ newline ∷ [], (codes "none", refl, refl), refl)), refl), refl);
    takes = inl (inl (refl, (None, refl, tt)), refl);
    in_range = All-nil (λ x. IsClauseInRange g.max (clause_in x));
    lawful = tt;
    within = within;
  };
  shown = All-nil (λ c. All (IsShown []) (goals_of c));
  same = same_self (premises 1 (without_cut g) []);
}
