-- The answers of `check`, as files are opened and read one after the other.
use Rattle.std.proofs.Common.{◌≡◌, ◌≢◌, ℕ, List, Option, IfSome, refl, sym, subst, arith, inl, inr}
use Rattle.aiger_reader.specs.Refusals.{SpellsWithin}
use Rattle.algebra_core.specs.AlgebraLines.{Premises, specification}
use Rattle.algebra_core.specs.Certificates.{IsLawfulAlgebra}
use Rattle.algebra_core.specs.Refusal as cause
use Rattle.algebra_core.specs.Refusal.{AlgebraCause, IsAlgebraRefusal}
use Rattle.algebra_judge.specs.Fails.{cause_of}
use Rattle.algebra_judge.specs.Faults as algebraic
use Rattle.algebra_judge.specs.declared.fail.AlgebraFail.{AlgebraFail}
use Rattle.algebra_judge.specs.declared.fail.AlgebraFail.TheVariants as algebra
use Rattle.algebra_judge.proofs.Fails.{line_is as algebra_line_is}
use Rattle.clause_judge.specs.Faults as clausal
use Rattle.clause_judge.specs.Faults.{ClauseFault}
use Rattle.clause_judge.specs.LineRefusals.{line_cause}
use Rattle.clause_judge.specs.declared.fail.ClauseFail.{ClauseFail}
use Rattle.clause_judge.specs.declared.fail.ClauseFail.TheVariants as clauses
use Rattle.clause_judge.proofs.Fails.{line_is as clause_line_is}
use Rattle.command_core.specs.Files.{Files, texts_of}
use Rattle.command_core.specs.Stopping.{IsGraphStop, IsLong, IsStop}
use Rattle.command_core.specs.declared.stop.Stop.{Stop}
use Rattle.command_core.proofs.CallerLemmas.{IsLong-due, IsStop-weaker, some_number}
use Rattle.drup_text.specs.HeaderRefusal.{TooLong}
use Rattle.graph_core.specs.Graph.{Aig, IsWellFormed}
use Rattle.graph_core.specs.Graph.Operands.{profile_of, Does, HasShapeFor, sides_for}
use Rattle.graph_core.specs.declared.claim.Claim.{Claim}
use Rattle.mv_desk.specs.Calls.{Inspects}
use Rattle.mv_desk.specs.View.{View, bytes_under}
use Rattle.mv_desk.specs.declared.limits.Limits.{Limits}
use Rattle.mv_desk.specs.declared.slot.Slot.TheVariants as slot
use Rattle.mv_desk.proofs.CallerLemmas.{Inspects-trans, bytes_under-held}
use Rattle.mv_fact.specs.Always.{Always}
use Rattle.mv_text.specs.LineReading.{lengths_of}
use Rattle.pair_core.specs.ClauseFiles.{GivesPremises, ArePremisesOf}
use Rattle.joint_checker.specs.Answers.{answer_of_algebra, answer_of_clauses}
use Rattle.joint_checker.specs.ClauseRefusals.{IsClauseRefusal, IsFileRefusal}
use Rattle.joint_checker.specs.Fails.{IsAlgebraFail, IsClauseFail}
use Rattle.joint_checker.specs.LawfulFiles.{HasPremises}
use Rattle.joint_checker.specs.Outcome.{IsDue, IsOutcome}
use Rattle.joint_checker.specs.declared.checked.Checked.TheVariants as checked
use Rattle.joint_checker.proofs.Joined.{graph_is, vanishing_does}

-- ---- no refusal accepts

pub clauses_refuse : (given : ClauseFail) → answer_of_clauses given ≢ checked.Accepted
clauses_refuse (clauses.Line line why) e = cc
clauses_refuse (clauses.Goals column) e = cc
clauses_refuse (clauses.Stopped why) e = cc

pub algebra_refuses : (given : AlgebraFail) → answer_of_algebra given ≢ checked.Accepted
algebra_refuses (algebra.Line line why) e = cc
algebra_refuses (algebra.Stopped why) e = cc

module _ (limits : Limits) (claim : Claim) (files : Files) where
  -- no graph was read
  pub graph_answers : (a b : View) (why : Stop) → IsStop (IsGraphStop slot.Graph (profile_of claim.widths) limits.graph (bytes_under a files.graph)) a b why → IsOutcome limits claim files a b (checked.Stopped why)
  graph_answers a b why h =
      IsStop-weaker (IsGraphStop slot.Graph (profile_of claim.widths) limits.graph (bytes_under a files.graph)) a b
      (λ stop. IsDue limits claim (texts_of a files) (checked.Stopped stop)) a (λ w k. inl (w, k, refl)) (omega arith) why h

  -- a fact of the bytes under a name, where nothing held was changed in between
  pub earlier : (a b : View) (name : List ℕ) (P : List ℕ → Type 0) → Inspects a b → IfSome (bytes_under b name) P → IfSome (bytes_under a name) P
  earlier a b name P inspects h = subst (λ (o : Option (List ℕ)). IfSome o P) (bytes_under-held a b name (inspects.held name)) h

  module _ (a b c : View) (first : Inspects a b) (g : Aig) (spelled : IfSome (bytes_under a files.graph) (λ bytes. SpellsWithin (profile_of claim.widths) limits.graph bytes g)) where
    clauses_refused : (f : ClauseFault) → IfSome (bytes_under b files.clauses) (λ bytes. IsFileRefusal (lengths_of limits) g bytes f) → IsDue limits claim (texts_of a files) (answer_of_clauses (clausal.fail_of f))
    clauses_refused f h = inr (g, spelled, inl (f, earlier a b files.clauses (λ bytes. IsFileRefusal (lengths_of limits) g bytes f) first h, refl))

    -- the clause file gives no premises
    pub clauses_answer : (given : ClauseFail) → IsClauseFail (lengths_of limits) g (bytes_under b files.clauses) b c given → IsOutcome limits claim files a c (answer_of_clauses given)
    clauses_answer (clauses.Line line why) h =
        subst (λ (x : ClauseFail). IsDue limits claim (texts_of a files) (answer_of_clauses x)) (sym (clause_line_is line why)) (clauses_refused (clausal.Line (line, line_cause why)) h)
    clauses_answer (clauses.Goals column) h = clauses_refused (clausal.Goals column) h
    clauses_answer (clauses.Stopped why) h =
        let Long : List ℕ → ℕ → Type 0 = λ bytes line. IsClauseRefusal (lengths_of limits) g bytes (line, TooLong) in
        let text = bytes_under b files.clauses in
        let Due : Stop → Type 0 = λ stop. IsDue limits claim (texts_of a files) (checked.Stopped stop) in
        IsStop-weaker (IsLong slot.Clauses (IfSome text (λ bytes. (line : ℕ) × Long bytes line))) b c Due a
        (IsLong-due slot.Clauses (IfSome text (λ bytes. (line : ℕ) × Long bytes line)) Due (λ long. let n = some_number text Long long in clauses_refused (clausal.Line (n.0, TooLong)) n.1)) first.later why h

  -- premises, of which something holds
  pub premises_there : (a b : View) (g : Aig) (p : Premises) (P : Aig → Premises → Type 0) → Inspects a b → ArePremisesOf g p → IfSome (bytes_under a files.graph) (λ bytes. SpellsWithin (profile_of claim.widths) limits.graph bytes g) →
      IfSome (bytes_under b files.clauses) (λ bytes. GivesPremises (lengths_of limits) g bytes p) → P g p → HasPremises (profile_of claim.widths) limits (texts_of a files) P
  premises_there a b g p P inspects of spelled gives holds =
      (g, spelled, (p, of, earlier a b files.clauses (λ bytes. GivesPremises (lengths_of limits) g bytes p) inspects gives, holds))

  module _ (a b c d : View) (first : Inspects a b) (second : Inspects b c) (g : Aig) (p : Premises) (of : ArePremisesOf g p)
      (spelled : IfSome (bytes_under a files.graph) (λ bytes. SpellsWithin (profile_of claim.widths) limits.graph bytes g))
      (gives : IfSome (bytes_under b files.clauses) (λ bytes. GivesPremises (lengths_of limits) g bytes p)) where
    there : (P : List ℕ → Type 0) → IfSome (bytes_under c files.algebra) P → IfSome (bytes_under a files.algebra) P
    there P h = earlier a c files.algebra P (Inspects-trans a b c first second) h

    algebra_refused : (f : ℕ × AlgebraCause) → IfSome (bytes_under c files.algebra) (λ bytes. IsAlgebraRefusal p (sides_for claim g) (lengths_of limits) bytes f) →
        IsDue limits claim (texts_of a files) (answer_of_algebra (algebraic.fail_of f))
    algebra_refused f h =
        let given = earlier a b files.clauses (λ bytes. GivesPremises (lengths_of limits) g bytes p) first gives in
        inr (g, spelled, inr (p, (of, given), inl (f, there (λ bytes. IsAlgebraRefusal p (sides_for claim g) (lengths_of limits) bytes f) h, refl)))

    answers : (given : AlgebraFail) → IsAlgebraFail (lengths_of limits) p (sides_for claim g) (bytes_under c files.algebra) c d given → IsOutcome limits claim files a d (answer_of_algebra given)
    answers (algebra.Line line why) h = subst (λ (x : AlgebraFail). IsDue limits claim (texts_of a files) (answer_of_algebra x)) (sym (algebra_line_is line why)) (algebra_refused (line, cause_of why) h)
    answers (algebra.Stopped why) h =
        let Long : List ℕ → ℕ → Type 0 = λ bytes line. IsAlgebraRefusal p (sides_for claim g) (lengths_of limits) bytes (line, cause.TooLong) in
        let text = bytes_under c files.algebra in
        let Due : Stop → Type 0 = λ stop. IsDue limits claim (texts_of a files) (checked.Stopped stop) in
        IsStop-weaker (IsLong slot.Algebra (IfSome text (λ bytes. (line : ℕ) × Long bytes line))) c d Due a
        (IsLong-due slot.Algebra (IfSome text (λ bytes. (line : ℕ) × Long bytes line)) Due (λ long. let n = some_number text Long long in algebra_refused (n.0, cause.TooLong) n.1))
        (Inspects-trans a b c first second).later why h

    -- the algebra file isn't lawful
    pub algebra_answers : (given : AlgebraFail) → IsAlgebraFail (lengths_of limits) p (sides_for claim p.extended.graph) (bytes_under c files.algebra) c d given → IsOutcome limits claim files a d (answer_of_algebra given)
    algebra_answers given h = answers given (subst (λ (x : Aig). IsAlgebraFail (lengths_of limits) p (sides_for claim x) (bytes_under c files.algebra) c d given) (graph_is g p of) h)

    -- It is lawful, and the specification vanishes on every evaluation.
    pub accepts : IsWellFormed g → HasShapeFor claim.widths g → IfSome (bytes_under c files.algebra) (IsLawfulAlgebra (lengths_of limits) p (sides_for claim p.extended.graph)) →
        Always p.extended.gates (λ σ. specification p.extended (sides_for claim p.extended.graph) σ ≡ 0) → IsOutcome limits claim files a d checked.Accepted
    accepts well shape lawful vanishes =
        premises_there a b g p (λ x f. IfSome (bytes_under a files.algebra) (IsLawfulAlgebra (lengths_of limits) f (sides_for claim x)) × Does claim x) first of spelled gives (
          there (IsLawfulAlgebra (lengths_of limits) p (sides_for claim g))
              (subst (λ (x : Aig). IfSome (bytes_under c files.algebra) (IsLawfulAlgebra (lengths_of limits) p (sides_for claim x))) (graph_is g p of) lawful),
          vanishing_does g claim p well shape of (subst (λ (x : Aig). Always p.extended.gates (λ σ. specification p.extended (sides_for claim x) σ ≡ 0)) (graph_is g p of) vanishes),
        )
