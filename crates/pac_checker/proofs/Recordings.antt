-- What a checker keeps beside its judge, call by call.
use Rattle.std.specs.Prelude.{◌≡◌, ◌<◌, ℕ, Bool, true, false, List, [], ◌++◌, IfSome, IsSome}
use Rattle.std.specs.declared.option.Option.{Option}
use Rattle.std.specs.declared.option.Option.TheVariants.{None, Some}
use Rattle.std.proofs.Common.{refl, sym, ap, ap₂, subst, ◌∙◌, Result, Ok, Err, OnErr, OnOk, ⊎_elim, true≢false}
use Rattle.std.proofs.lemmas.Bool.{cases_lt}
use Rattle.clause_core.specs.Clause.{Clause}
use Rattle.algebra_core.specs.AlgebraLines.{Line, AreLawful, axioms, line_of}
use Rattle.gate_axioms.specs.LeftAxioms.{LeftAxioms, left_lines}
use Rattle.gate_axioms.proofs.CallerLemmas.{none_left}
use Rattle.graph_core.specs.Graph.Extended.{modulus, Extended}
use Rattle.graph_core.specs.Graph.Operands.{Sides}
use Rattle.mv_fact.specs.Facts.{Facts, fact_at}
use Rattle.poly_terms.specs.Tables.{Table}
use Rattle.poly_terms.specs.Tables as table
use Rattle.poly_text.specs.declared.line.PacLine.{PacLine}
use Rattle.poly_text.specs.Lines.{AreOf, line_in}
use Rattle.poly_text.specs.Recorded.{lines_in}
use Rattle.pac_checker.specs.Checking.{AlgebraChecking, GrowsCheckedTable, IsClosedBy, IsRecordable, KeepsLedger, TakesAlgebraLine, TakesPacLine, checker_premises, checking_of, ledger_of, recorded_of, recording}
use Rattle.pac_checker.specs.Recording.{AreIdsWithin, HasRecorded, kept_of}
use Rattle.pac_checker.proofs.Covering.{closes_covered, within_after, within_agreeing}
use Rattle.pac_checker.proofs.Entries.{gone}
use Rattle.pac_checker.proofs.Lawful.{grows_itself}
use Rattle.pac_checker.proofs.Recorded.{has_grown, has_none, has_taken}
use Rattle.pac_checker.proofs.Telling.{lines_stay}

-- what is said of a judge, and of the lines that were recorded
abbrev pub Keeps : AlgebraChecking → Bool → List PacLine → Type 0
Keeps c records xs = HasRecorded c.extended c.added c.table (ledger_of c) records xs

abbrev pub seen : AlgebraChecking → Bool → List PacLine → AlgebraChecking
seen c records xs = recording c records (lines_in c.table xs)

-- no live id is above the last one, where none above it has an axiom or an entry
pub within_fresh : (added : List Clause) (left : LeftAxioms) (sides : Sides) (facts : Facts table.Sum Table) (last : ℕ) → ((id : ℕ) → last < id → line_of (axioms left.extended).live id ≡ None) →
    ((id : ℕ) → last < id → fact_at facts.entries id ≡ None) → AreIdsWithin (ledger_of (checking_of added left sides facts last))
within_fresh added left sides facts last none fresh id live =
    ⊎_elim (λ above. absurd (true≢false (sym live ∙ gone (left_lines left) facts.table facts.entries id (none_left left.extended left.deleted id (none id above)) (fresh id above)))) (λ low. low) (cases_lt last id)

-- ---- the same graph and clauses

moved : (e f : Extended) (added clauses : List Clause) (t : Table) (c : AlgebraChecking) (records : Bool) (xs : List PacLine) → f ≡ e → clauses ≡ added → HasRecorded e added t (ledger_of c) records xs → HasRecorded f clauses t (ledger_of c) records xs
moved e f added clauses t c records xs same_graph same_clauses h =
    subst (λ (g : Extended). HasRecorded g clauses t (ledger_of c) records xs) (sym same_graph) (subst (λ (cs : List Clause). HasRecorded e cs t (ledger_of c) records xs) (sym same_clauses) h)

-- ---- the table has grown

pub keeps_grown : (old new : AlgebraChecking) (records : Bool) (xs : List PacLine) → GrowsCheckedTable old new → Keeps old records xs → Keeps new records xs
keeps_grown old new records xs g h =
    moved old.extended new.extended old.added new.added new.table new records xs g.extended g.added (has_grown old.extended old.added old.table new.table (ledger_of old) (ledger_of new) records xs g.table g.ledger h)

pub seen_grows : (old new : AlgebraChecking) (records : Bool) (xs : List PacLine) → GrowsCheckedTable old new → Keeps old records xs → GrowsCheckedTable (seen old records xs) (seen new records xs)
seen_grows old new records xs g h = record {
  added = g.added;
  extended = g.extended;
  deleted = g.deleted;
  sides = g.sides;
  table = g.table;
  entries = g.entries;
  last = g.last;
  records = refl;
  recorded = lines_stay old.table new.table xs g.table h.lines_are.of_table;
  ledger = g.ledger;
}

-- the same lines
pub seen_same : (c : AlgebraChecking) (records : Bool) (xs ys : List PacLine) → ys ≡ xs → GrowsCheckedTable (seen c records xs) (seen c records ys)
seen_same c records xs ys same = subst (λ (zs : List PacLine). GrowsCheckedTable (seen c records xs) (seen c records zs)) (sym same) (grows_itself (seen c records xs))

-- ---- the table was made anew, where nothing is recorded

pub keeps_compacted : (old new : AlgebraChecking) (records : Bool) (xs : List PacLine) → records ≡ false → KeepsLedger old new → Keeps old records xs → Keeps new records xs
keeps_compacted old new records xs off k h =
    subst (λ b. Keeps new b xs) (sym off) (has_none new.extended new.added new.table (ledger_of new) xs (h.none off) (within_agreeing (ledger_of old) (ledger_of new) k.ledger h.within))

-- nothing is said of no lines
seen_nothing : (t u : Table) (xs : List PacLine) → xs ≡ [] → lines_in t xs ≡ lines_in u xs
seen_nothing t u xs none = ap (lines_in t) none ∙ sym (ap (lines_in u) none)

pub seen_compacted : (old new : AlgebraChecking) (records : Bool) (xs : List PacLine) → records ≡ false → KeepsLedger old new → Keeps old records xs → KeepsLedger (seen old records xs) (seen new records xs)
seen_compacted old new records xs off k h = record { added = k.added; extended = k.extended; sides = k.sides; records = refl; recorded = seen_nothing new.table old.table xs (h.none off); ledger = k.ledger }

-- ---- a line was taken

some_line : (o : Option Line) → IsSome o → (x : Line) × (o ≡ Some x)
some_line None h = absurd (cc)
some_line (Some x) h = (x, refl)

module _ (old new : AlgebraChecking) (xs : List PacLine) (line : PacLine) (goes_on : IsSome (line_in old.table line)) (takes : TakesPacLine line old new) where
  the_line : (x : Line) × (line_in old.table line ≡ Some x)
  the_line = some_line (line_in old.table line) goes_on

  taken : TakesAlgebraLine the_line.0 old new
  taken = subst (λ (o : Option Line). IfSome o (λ x. TakesAlgebraLine x old new)) the_line.1 takes

  -- nothing is recorded
  pub keeps_passed : (records : Bool) → records ≡ false → Keeps old records xs → Keeps new records xs
  keeps_passed records off h =
      subst (λ b. Keeps new b xs) (sym off)
      (has_none new.extended new.added new.table (ledger_of new) xs (h.none off)
      (within_agreeing _ (ledger_of new) taken.ledger (within_after (modulus old.extended) (ledger_of old) h.within the_line.0 taken.lawful.new_id)))

  pub seen_passes : (records : Bool) → records ≡ false → Keeps old records xs → TakesPacLine line (seen old records xs) (seen new records xs)
  seen_passes records off h = subst (λ (o : Option Line). IfSome o (λ x. TakesAlgebraLine x (seen old records xs) (seen new records xs))) (sym the_line.1) (record {
    added = taken.added;
    extended = taken.extended;
    sides = taken.sides;
    table = taken.table;
    records = refl;
    recorded = ap (lines_in new.table) (h.none off) ∙ sym (ap₂ (λ ys b. lines_in old.table ys ++ recorded_of b the_line.0) (h.none off) off);
    lawful = taken.lawful;
    ledger = taken.ledger;
  })

  -- it is recorded
  module _ (has : AreOf old.table line) (ok : IsRecordable old.extended.max old.table line) where
    both : Keeps old true xs → HasRecorded old.extended old.added new.table (ledger_of new) true (xs ++ kept_of line) × (lines_in new.table (xs ++ kept_of line) ≡ lines_in old.table xs ++ recorded_of true the_line.0)
    both h = has_taken old.extended old.added old.table new.table (ledger_of old) (ledger_of new) xs line the_line.0 taken.table the_line.1 has ok taken.lawful taken.ledger h

    pub keeps_taken : (records : Bool) → records ≡ true → Keeps old records xs → Keeps new records (xs ++ kept_of line)
    keeps_taken records on h =
        subst (λ b. Keeps new b (xs ++ kept_of line)) (sym on) (moved old.extended new.extended old.added new.added new.table new true (xs ++ kept_of line) taken.extended taken.added (both (subst (λ b. Keeps old b xs) on h)).0)

    pub seen_takes : (records : Bool) → records ≡ true → Keeps old records xs → TakesPacLine line (seen old records xs) (seen new records (xs ++ kept_of line))
    seen_takes records on h = subst (λ (o : Option Line). IfSome o (λ x. TakesAlgebraLine x (seen old records xs) (seen new records (xs ++ kept_of line)))) (sym the_line.1) (record {
      added = taken.added;
      extended = taken.extended;
      sides = taken.sides;
      table = taken.table;
      records = refl;
      recorded = (both (subst (λ b. Keeps old b xs) on h)).1 ∙ ap (λ b. lines_in old.table xs ++ recorded_of b the_line.0) (sym on);
      lawful = taken.lawful;
      ledger = taken.ledger;
    })

-- ---- a line closed

pub record_closes : (c : AlgebraChecking) (records : Bool) (xs : List PacLine) (id : ℕ) → records ≡ true → Keeps c records xs → IsClosedBy c id → (version : ℕ) → AreLawful (checker_premises version c) c.sides (lines_in c.table xs) id
record_closes c records xs id on h closes version = (h.lawful, closes_covered (modulus c.extended) _ (ledger_of c) (h.covers on) c.extended c.sides id closes)

-- ---- whether or not a call failed

pub either_way : {T E : Type 0} (r : Result T E) (A B P : Type 0) → (A → P) → (B → P) → OnOk r A → OnErr r B → P
either_way (Ok t) A B P ok err a b = ok a
either_way (Err e) A B P ok err a b = err b
