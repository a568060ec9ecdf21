-- What writing a pair of certificates does to the files and to the report.
use Rattle.std.specs.Prelude.{◌≡◌, ◌≢◌, ℕ, List, [], IsSome, option_map, unwrap_or}
use Rattle.std.specs.declared.option.Option.{Option}
use Rattle.std.specs.declared.option.Option.TheVariants.{None, Some}
use Rattle.std.proofs.Common.{refl, sym, ap, subst, ◌∙◌, inl, inr}
use Rattle.mv_desk.specs.View.{View, IsSame, bytes_under}
use Rattle.mv_desk.specs.declared.slot.Slot.{Slot}
use Rattle.mv_desk.specs.declared.slot.Slot.TheVariants as slot
use Rattle.mv_desk.proofs.CallerLemmas.{ModeStays-refl, ModeStays-trans}
use Rattle.command_core.specs.Files.{Files}
use Rattle.command_core.specs.Written.{ReportStays, StopsAt, StopsWriting, WritesFile, WritesFront, WritesPair}
use Rattle.command_core.proofs.CallerLemmas.{file_is_held, other_names, others_are_held, same_told}

-- ---- what is held once a pair was written

algebra_no_clauses : slot.Algebra ≢ slot.Clauses
algebra_no_clauses e = cc

abbrev bytes : Option (Option (List ℕ)) → Option (List ℕ)
bytes held = option_map (λ b. unwrap_or b []) held

module _ (files : Files) (clauses text : List ℕ) (a b : View) (w : WritesPair files clauses text a b) (apart : files.clauses ≢ files.algebra) (first : IsSome (a.name slot.Clauses)) (second : IsSome (a.name slot.Algebra)) (told : (name : List ℕ) → IsSome (a.held name)) where
  algebra_slot : IsSome (w.between.name slot.Algebra)
  algebra_slot = same_told (a.name slot.Algebra) (w.between.name slot.Algebra) (other_names slot.Clauses files.clauses clauses a w.between w.clause_file first slot.Algebra algebra_no_clauses) second

  between_held : (name : List ℕ) → files.clauses ≢ name → w.between.held name ≡ a.held name
  between_held = others_are_held slot.Clauses files.clauses clauses a w.between w.clause_file first

  end_held : (name : List ℕ) → files.algebra ≢ name → b.held name ≡ w.between.held name
  end_held = others_are_held slot.Algebra files.algebra text w.between b w.algebra_file algebra_slot

  pub others_stay_held : (name : List ℕ) → files.clauses ≢ name → files.algebra ≢ name → bytes_under b name ≡ bytes_under a name
  others_stay_held name one two = ap bytes (end_held name two ∙ between_held name one)

  pub clauses_are_held : bytes_under b files.clauses ≡ Some clauses
  clauses_are_held = ap bytes (end_held files.clauses (λ same. apart (sym same)) ∙ file_is_held slot.Clauses files.clauses clauses a w.between w.clause_file first (told files.clauses))

  pub algebra_is_held : bytes_under b files.algebra ≡ Some text
  algebra_is_held = ap bytes (file_is_held slot.Algebra files.algebra text w.between b w.algebra_file algebra_slot
      (same_told (a.held files.algebra) (w.between.held files.algebra) (between_held files.algebra apart) (told files.algebra)))

-- ---- the report

pub report_stays : (a : View) → ReportStays a a
report_stays a = record { mode = ModeStays-refl slot.Report a; written = refl }

pub report_stays_on : (a b c : View) → ReportStays a b → ReportStays b c → ReportStays a c
report_stays_on a b c h k = record { mode = ModeStays-trans slot.Report a b c h.mode k.mode; written = k.written ∙ h.written }

file_leaves : (at : Slot) (name text : List ℕ) (a b : View) → slot.Report ≢ at → WritesFile at name text a b → ReportStays a b
file_leaves at name text a b other w =
    let first = w.creates.others slot.Report other in
    let then = w.writes.others slot.Report other in
    record { mode = ModeStays-trans slot.Report a w.created b first.mode then.mode; written = then.written ∙ first.written }

front_leaves : (at : Slot) (name text : List ℕ) (a b : View) → slot.Report ≢ at → WritesFront at name text a b → ReportStays a b
front_leaves at name text a b other w =
    let first = w.creates.others slot.Report other in
    let then = w.writes.writes.others slot.Report other in
    record { mode = ModeStays-trans slot.Report a w.created b first.mode then.mode; written = then.written ∙ first.written }

no_clauses : slot.Report ≢ slot.Clauses
no_clauses e = cc

no_algebra : slot.Report ≢ slot.Algebra
no_algebra e = cc

stop_leaves : (at : Slot) (name : List ℕ) (P : List ℕ → Type 0) (a b : View) → slot.Report ≢ at → StopsAt at name P a b → ReportStays a b
stop_leaves at name P a b other (inl same) = let s = same.slots slot.Report in record { mode = s.mode; written = s.written }
stop_leaves at name P a b other (inr w) = front_leaves at name w.0 a b other w.2

pub pair_leaves_report : (files : Files) (clauses text : List ℕ) (a b : View) → WritesPair files clauses text a b → ReportStays a b
pair_leaves_report files clauses text a b w = report_stays_on a w.between b (file_leaves slot.Clauses files.clauses clauses a w.between no_clauses w.clause_file)
    (file_leaves slot.Algebra files.algebra text w.between b no_algebra w.algebra_file)

pub stopping_leaves_report : (files : Files) (P : List ℕ → Type 0) (Q : List ℕ → List ℕ → Type 0) (a b : View) → StopsWriting files P Q a b → ReportStays a b
stopping_leaves_report files P Q a b (inl h) = stop_leaves slot.Clauses files.clauses P a b no_clauses h
stopping_leaves_report files P Q a b (inr h) = report_stays_on a h.1 b (file_leaves slot.Clauses files.clauses h.0 a h.1 no_clauses h.3)
    (stop_leaves slot.Algebra files.algebra (Q h.0) h.1 b no_algebra h.4)

-- ---- what stops, of which more is known

stops_at : (at : Slot) (name : List ℕ) (P Q : List ℕ → Type 0) (a b : View) → ((text : List ℕ) → P text → Q text) → StopsAt at name P a b → StopsAt at name Q a b
stops_at at name P Q a b more (inl same) = inl same
stops_at at name P Q a b more (inr w) = inr (w.0, more w.0 w.1, w.2)

-- of the texts of a pair that holds which is to hold of both
pub stops_with : (files : Files) (c t : List ℕ) (P : List ℕ → Type 0) (Q : List ℕ → List ℕ → Type 0) (a b : View) → P c → Q c t → StopsWriting files (λ text. text ≡ c) (λ beside text. text ≡ t) a b → StopsWriting files P Q a b
stops_with files c t P Q a b one both (inl h) = inl (stops_at slot.Clauses files.clauses (λ text. text ≡ c) P a b (λ text is. subst P (sym is) one) h)
stops_with files c t P Q a b one both (inr h) = inr (
  h.0,
  h.1,
  subst P (sym h.2) one,
  h.3,
  stops_at slot.Algebra files.algebra (λ text. text ≡ t) (Q h.0) h.1 b (λ text is. subst (Q h.0) (sym is) (subst (λ beside. Q beside t) (sym h.2) both)) h.4,
)
