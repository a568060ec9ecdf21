-- What `trim` answers, of an accepted pair and of what is chosen of it.
use Rattle.std.proofs.Common.{◌≢◌, List, ℕ, None, Some, refl, sym, subst, ◌∙◌, inl, inr, ⊎_elim}
use Rattle.command_core.specs.declared.stop.Stop.TheVariants as stop
use Rattle.graph_core.specs.declared.profile.Profile.{Profile}
use Rattle.mv_desk.specs.View.{View}
use Rattle.std.specs.Prelude.{IfSome, true}
use Rattle.std.specs.declared.option.Option.{Option}
use Rattle.graph_core.specs.Graph.Extended.{modulus}
use Rattle.graph_core.specs.declared.claim.Claim.{Claim}
use Rattle.drup_text.specs.Headers.{extended_with}
use Rattle.drup_text.specs.declared.head.Header.{Header}
use Rattle.mv_desk.specs.declared.limits.Limits.{Limits}
use Rattle.mv_text.specs.LineReading.{lengths_of}
use Rattle.poly_terms.specs.Tables.{Table}
use Rattle.poly_text.specs.Recorded.{lines_in}
use Rattle.pair_core.specs.ClauseFiles.{AddsClauses, HasLawfulLines}
use Rattle.command_core.specs.Files.{Texts}
use Rattle.joint_checker.specs.Outcome.{OpensNeeded}
use Rattle.joint_checker.specs.declared.checked.Checked.TheVariants as checked
use Rattle.joint_checker.specs.Judged.{IsJudgedPair, IsToldPair, extended_of}
use Rattle.algebra_judge.specs.Records.{IsRecordOf}
use Rattle.joint_checker.specs.declared.checking.Judged.{Judged}
use Rattle.pair_trim.specs.Choosing.{HasChosen, IsChosen}
use Rattle.pair_core.specs.Texts.{algebra_text, clauses_text}
use Rattle.pair_trim.specs.NewPairs.{IsTrimOf}
use Rattle.pair_trim.specs.Trimming.{IsNotAccepted, IsTrimAnswer, TrimmedFiles, checked_of}
use Rattle.pair_trim.specs.declared.answer.TrimAnswer.{TrimAnswer}
use Rattle.pair_trim.specs.declared.answer.TrimAnswer.TheVariants as trim
use Rattle.pair_trim.specs.declared.answer.Trimmed.{Trimmed}
use Rattle.pair_trim.proofs.NewPair.{clauses_kept, lines_trimmed, pair}

module _ (limits : Limits) (claim : Claim) (j : Judged) (t : Trimmed) (judged : IsJudgedPair claim j) (chosen : IsChosen j t) where
  trim_is : (clauses algebra : List ℕ) → AddsClauses (lengths_of limits) j.graph clauses j.header j.recorded.added j.of_clauses →
      IsRecordOf true j.header.version (modulus (extended_of j)) algebra (lines_in j.closed.record.terms j.closed.record.lines.items) j.closed.id j.closed.lines →
      IsTrimOf (lengths_of limits) j.graph claim clauses algebra t (clauses_text t.pair) (algebra_text t.pair)
  trim_is clauses algebra adds recorded = record {
    clause_lines = adds.lines;
    clause_file = subst (λ (h : Header). HasLawfulLines (lengths_of limits) j.graph clauses h adds.lines) (sym chosen.header) adds.lawful;
    of_clauses = chosen.of_clauses ∙ adds.count_is;
    recorded = j.closed.record.lines.items;
    algebra_file = record_is;
    old = j.recorded.added;
    same = adds.same;
    clauses_kept = clauses_kept claim j t judged chosen;
    lines_kept = lines_trimmed claim j t judged chosen;
    to_clauses_is = refl;
    to_algebra_is = refl;
    pair = pair claim j t judged chosen;
  }
    where
      record_is : IsRecordOf true t.pair.header.version (modulus (extended_with j.graph t.pair.header)) algebra (lines_in t.pair.terms j.closed.record.lines.items) t.pair.closing t.of_algebra
      record_is =
          subst (λ (h : Header). IsRecordOf true h.version (modulus (extended_with j.graph h)) algebra (lines_in t.pair.terms j.closed.record.lines.items) t.pair.closing t.of_algebra) (sym chosen.header)
          (subst (λ (s : Table). IsRecordOf true j.header.version (modulus (extended_of j)) algebra (lines_in s j.closed.record.lines.items) t.pair.closing t.of_algebra) (sym chosen.terms)
          (subst (λ (n : ℕ). IsRecordOf true j.header.version (modulus (extended_of j)) algebra (lines_in j.closed.record.terms j.closed.record.lines.items) n t.of_algebra) (sym chosen.closing)
          (subst (IsRecordOf true j.header.version (modulus (extended_of j)) algebra (lines_in j.closed.record.terms j.closed.record.lines.items) j.closed.id) (sym chosen.of_algebra) recorded)))

  -- both files where they are told
  both_told : (one other : Option (List ℕ)) (P Q : List ℕ → Type 0) (R : List ℕ → List ℕ → Type 0) → ((x y : List ℕ) → P x → Q y → R x y) → IfSome one P → IfSome other Q → IfSome one (λ x. IfSome other (R x))
  both_told None other P Q R f p q = tt
  both_told (Some x) None P Q R f p q = tt
  both_told (Some x) (Some y) P Q R f p q = f x y p q

  pub has_chosen : (texts : Texts) → IsToldPair limits claim texts j → HasChosen limits claim texts t
  has_chosen texts told = (
    j.graph,
    told.graph,
    (judged.does, pair claim j t judged chosen, both_told texts.clauses texts.algebra _ _ (λ clauses algebra. IsTrimOf (lengths_of limits) j.graph claim clauses algebra t (clauses_text t.pair) (algebra_text t.pair)) trim_is told.clauses told.algebra),
  )

-- ---- a pair that isn't accepted

-- no memory for what is kept of one that is
pub needed_without_memory : (profile : Profile) (limits : Limits) (texts : Texts) (a b : View) → OpensNeeded profile limits texts a b checked.Accepted → OpensNeeded profile limits texts a b (checked.Stopped stop.Memory)
needed_without_memory profile limits texts a b o = record {
  clauses = ⊎_elim inl (λ n. inr (n.0, λ k. k)) o.clauses;
  algebra = ⊎_elim inl (λ n. inr ((n.0.0, λ k. k), n.1, λ k. k)) o.algebra;
  other = o.other;
}

pub not_accepted_answers : (limits : Limits) (claim : Claim) (files : TrimmedFiles) (a b : View) (answer : TrimAnswer) → checked_of answer ≢ checked.Accepted → IsNotAccepted limits claim files a b (checked_of answer) →
    IsTrimAnswer limits claim files a b answer
not_accepted_answers limits claim files a b (trim.Trimmed t) other h = absurd (other refl)
not_accepted_answers limits claim files a b (trim.Refused why) other h = h
not_accepted_answers limits claim files a b (trim.Stopped (stop.Graph at why)) other h = h
not_accepted_answers limits claim files a b (trim.Stopped (stop.TooLong at)) other h = h
not_accepted_answers limits claim files a b (trim.Stopped stop.ReadFault) other h = h
not_accepted_answers limits claim files a b (trim.Stopped stop.WriteFault) other h = absurd h.outcome_is
not_accepted_answers limits claim files a b (trim.Stopped stop.Memory) other h = h
