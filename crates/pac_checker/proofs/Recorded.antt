-- What is recorded stays lawful, line by line.
use Rattle.std.specs.Prelude.{◌≡◌, ◌<◌, ◌≤◌, ℕ, Bool, true, false, List, [], ◌∷◌, ◌++◌, length, slice_index}
use Rattle.std.specs.declared.option.Option.TheVariants.{Some}
use Rattle.std.specs.List.{All, cons_option}
use Rattle.std.proofs.Common.{refl, sym, ap, subst, ◌∙◌, arith, ⊎_elim, true≢false}
use Rattle.std.proofs.lemmas.Bool.{cases_lt}
use Rattle.std.proofs.lemmas.List.{append-nil, get_or_append_left, get_or_push, length_push, map_push}
use Rattle.std.proofs.lemmas.List.Elements.{All-map, All-nil, All-push, filter_map-append}
use Rattle.clause_core.specs.Clause.{Clause}
use Rattle.algebra_core.specs.AlgebraLines.{Line, Ledger, Delete, IsLawfulLine, AreLawfulLines, after, after_all}
use Rattle.graph_core.specs.Graph.Extended.{modulus, Extended}
use Rattle.algebra_core.specs.Agreement.{LedgersAgree}
use Rattle.poly_terms.specs.Tables.{Table, Extends}
use Rattle.poly_text.specs.declared.line.PacLine.{PacLine}
use Rattle.poly_text.specs.declared.line.PacLine.TheVariants as pac
use Rattle.poly_text.specs.Lines.{AreOf, line_in}
use Rattle.poly_text.specs.Recorded.{AreRisingIds, HasNewId, id_in, ids_in, lines_in, operands_in}
use Rattle.pac_checker.specs.Checking.{IsRecordable, recorded_of}
use Rattle.pac_checker.specs.Recording.{AreIdsWithin, AreRecordedLines, Covers, HasRecorded, first_ledger, kept_of}
use Rattle.pac_checker.proofs.Covering.{covers_agreeing, covers_fewer, lawful_covered, lines_more, within_after, within_agreeing}
use Rattle.pac_checker.proofs.Telling.{IsTold, lines_stay, of_stays, recordable_stays, some_same, told}

-- ---- ids that rise

pub rising_more : (ids : List ℕ) (id : ℕ) → AreRisingIds ids → All (λ x. x < id) ids → AreRisingIds (ids ++ id ∷ [])
rising_more ids id up low i j before inside = ⊎_elim (old j before) (new j before inside) (cases_lt j (length ids))
  where
    at : (k : ℕ) → k < length ids → slice_index (ids ++ id ∷ []) k ≡ slice_index ids k
    at k below = get_or_append_left ids (id ∷ []) 0 k below

    old : (j : ℕ) → i < j → j < length ids → slice_index (ids ++ id ∷ []) i < slice_index (ids ++ id ∷ []) j
    old j before below = let less = up i j before below in let a = at i (omega arith) in let b = at j below in omega arith

    new : (j : ℕ) → i < j → j < length (ids ++ id ∷ []) → length ids ≤ j → slice_index (ids ++ id ∷ []) i < slice_index (ids ++ id ∷ []) j
    new j before inside high =
        let long = length_push ids id in
        let last : slice_index (ids ++ id ∷ []) j ≡ id = get_or_push ids id 0 j (omega arith) in
        let a = at i (omega arith) in
        let less = low i 0 (omega arith) in
        omega arith

-- ---- such lines

pub no_lines : (max : ℕ) (t : Table) (last : ℕ) → AreRecordedLines max t last []
no_lines max t last = record {
  of_table = All-nil (AreOf t);
  recordable = All-nil (IsRecordable max t);
  new_ids = All-nil HasNewId;
  rising = λ i j before inside. absurd (omega arith);
  bounded = All-nil (λ x. id_in x ≤ last);
  earlier = All-nil (λ x. All (λ o. o < id_in x) (operands_in x));
}

lines_grown : (max : ℕ) (old new : Table) (last : ℕ) (xs : List PacLine) → Extends old new → AreRecordedLines max old last xs → AreRecordedLines max new last xs
lines_grown max old new last xs e h = record {
  of_table = λ k d low. of_stays old new _ e (h.of_table k d low);
  recordable = λ k d low. recordable_stays max old new _ e (h.of_table k d low) (h.recordable k d low);
  new_ids = h.new_ids;
  rising = h.rising;
  bounded = h.bounded;
  earlier = h.earlier;
}

line_added : (max : ℕ) (t : Table) (last : ℕ) (xs : List PacLine) (line : PacLine) → AreRecordedLines max t last xs → last < id_in line → AreOf t line → IsRecordable max t line → HasNewId line → All (λ o. o < id_in line) (operands_in line) →
    AreRecordedLines max t (id_in line) (xs ++ line ∷ [])
line_added max t last xs line h above has ok new made =
    let lesser : All (λ x. x < id_in line) (ids_in xs) = All-map (λ x. x < id_in line) id_in xs (λ k d low. let less = h.bounded k d low in omega arith) in
    record {
      of_table = All-push (AreOf t) xs line h.of_table has;
      recordable = All-push (IsRecordable max t) xs line h.recordable ok;
      new_ids = All-push HasNewId xs line h.new_ids new;
      rising = subst AreRisingIds (sym (map_push id_in xs line)) (rising_more (ids_in xs) (id_in line) h.rising lesser);
      bounded = All-push (λ x. id_in x ≤ id_in line) xs line (λ k d low. let less = h.bounded k d low in omega arith) (omega arith);
      earlier = All-push (λ x. All (λ o. o < id_in x) (operands_in x)) xs line h.earlier made;
    }

-- ---- what the type keeps

module _ (e : Extended) (added : List Clause) where
  abbrev behind : List Line → Ledger
  behind xs = after_all (modulus e) (first_ledger e added) xs

  pub has_none : (t : Table) (l : Ledger) (xs : List PacLine) → xs ≡ [] → AreIdsWithin l → HasRecorded e added t l false xs
  has_none t l xs none within = subst (HasRecorded e added t l false) (sym none)
      (record { within = within; lines_are = no_lines e.max t l.last; lawful = tt; covers = λ on. absurd (true≢false (sym on)); none = λ off. refl })

  -- the table has grown
  pub has_grown : (old new : Table) (l k : Ledger) (records : Bool) (xs : List PacLine) → Extends old new → LedgersAgree k l → HasRecorded e added old l records xs → HasRecorded e added new k records xs
  has_grown old new l k records xs grown a h =
      let same : lines_in new xs ≡ lines_in old xs = lines_stay old new xs grown h.lines_are.of_table in
      record {
        within = within_agreeing l k a h.within;
        lines_are = subst (λ n. AreRecordedLines e.max new n xs) (sym a.last) (lines_grown e.max old new l.last xs grown h.lines_are);
        lawful = subst (AreLawfulLines (modulus e) (first_ledger e added)) (sym same) h.lawful;
        covers = λ on. subst (λ ys. Covers (behind ys) k) (sym same) (covers_agreeing (behind (lines_in old xs)) l k (h.covers on) a);
        none = h.none;
      }

  -- What is said of a line that is recorded, and of the ledger after it.
  module _ (old new : Table) (l k : Ledger) (xs : List PacLine) (line : PacLine) (x : Line) (grown : Extends old new) (is : line_in old line ≡ Some x) (has : AreOf old line) (ok : IsRecordable e.max old line)
      (w : IsLawfulLine (modulus e) l x) (a : LedgersAgree k (after (modulus e) l x)) (h : HasRecorded e added old l true xs) where
    abbrev Recorded : List PacLine → List Line → Type 0
    Recorded kept said = HasRecorded e added new k true (xs ++ kept) × (lines_in new (xs ++ kept) ≡ lines_in old xs ++ said)

    same : lines_in new xs ≡ lines_in old xs
    same = lines_stay old new xs grown h.lines_are.of_table

    within : AreIdsWithin k
    within = within_agreeing (after (modulus e) l x) k a (within_after (modulus e) l h.within x w.new_id)

    line_taken : IsTold old line x → Recorded (line ∷ []) (x ∷ [])
    line_taken t =
        let more = lines_more (modulus e) (first_ledger e added) (lines_in old xs) x h.lawful (lawful_covered (modulus e) (behind (lines_in old xs)) l (h.covers refl) x w) in
        let all : lines_in new (xs ++ line ∷ []) ≡ lines_in old xs ++ x ∷ [] =
        lines_stay old new (xs ++ line ∷ []) grown (All-push (AreOf old) xs line h.lines_are.of_table has) ∙ filter_map-append (line_in old) xs (line ∷ []) ∙ ap (λ o. lines_in old xs ++ cons_option o []) is in
        let lesser : All (λ o. o < id_in line) (operands_in line) =
        subst (All (λ o. o < id_in line)) t.made_of (λ i d low. let within = h.within _ (w.live_operands i d low) in let above = t.above l.last w.new_id in omega arith) in
        let last : k.last ≡ id_in line = a.last ∙ t.last (modulus e) l in (
          record {
            within = within;
            lines_are = subst (λ n. AreRecordedLines e.max new n (xs ++ line ∷ [])) (sym last)
                (lines_grown e.max old new (id_in line) (xs ++ line ∷ []) grown (line_added e.max old l.last xs line h.lines_are (t.above l.last w.new_id) has ok t.new_id lesser));
            lawful = subst (AreLawfulLines (modulus e) (first_ledger e added)) (sym all) more.0;
            covers = λ on. subst (λ ys. Covers (behind ys) k) (sym all)
                (subst (λ b. Covers b k) (sym more.1) (covers_agreeing (after (modulus e) (behind (lines_in old xs)) x) (after (modulus e) l x) k (t.covers (modulus e) (behind (lines_in old xs)) l (h.covers refl)) a));
            none = λ off. absurd (true≢false off);
          },
          all,
        )

    deletion_taken : (id : ℕ) → x ≡ Delete id → Recorded [] []
    deletion_taken id gone =
        let b : LedgersAgree k (after (modulus e) l (Delete id)) = subst (λ y. LedgersAgree k (after (modulus e) l y)) gone a in
        let front : xs ++ [] ≡ xs = append-nil xs in
        let all : lines_in new (xs ++ []) ≡ lines_in old xs = ap (lines_in new) front ∙ same in (
          subst (HasRecorded e added new k true) (sym front) (record {
            within = within;
            lines_are = subst (λ n. AreRecordedLines e.max new n xs) (sym b.last) (lines_grown e.max old new l.last xs grown h.lines_are);
            lawful = subst (AreLawfulLines (modulus e) (first_ledger e added)) (sym same) h.lawful;
            covers = λ on. subst (λ ys. Covers (behind ys) k) (sym same) (covers_agreeing (behind (lines_in old xs)) (after (modulus e) l (Delete id)) k (covers_fewer (modulus e) (behind (lines_in old xs)) l (h.covers refl) id) b);
            none = λ off. absurd (true≢false off);
          }),
          all ∙ sym (append-nil (lines_in old xs)),
        )

  by_told : (old new : Table) (l k : Ledger) (xs : List PacLine) (line : PacLine) (x : Line) → Extends old new → line_in old line ≡ Some x → AreOf old line → IsRecordable e.max old line → IsLawfulLine (modulus e) l x →
      LedgersAgree k (after (modulus e) l x) → HasRecorded e added old l true xs → HasNewId line → HasRecorded e added new k true (xs ++ kept_of line) × (lines_in new (xs ++ kept_of line) ≡ lines_in old xs ++ recorded_of true x)
  by_told old new l k xs line x grown is has ok w a h new_id =
      let t = told old line x new_id is in
      let r = line_taken old new l k xs line x grown is has ok w a h t in
      subst (λ kept. HasRecorded e added new k true (xs ++ kept) × (lines_in new (xs ++ kept) ≡ lines_in old xs ++ recorded_of true x)) (sym t.kept)
      (subst (λ said. HasRecorded e added new k true (xs ++ line ∷ []) × (lines_in new (xs ++ line ∷ []) ≡ lines_in old xs ++ said)) (sym t.recorded) r)

  -- a line of code that was taken
  pub has_taken : (old new : Table) (l k : Ledger) (xs : List PacLine) (line : PacLine) (x : Line) → Extends old new → line_in old line ≡ Some x → AreOf old line → IsRecordable e.max old line → IsLawfulLine (modulus e) l x →
      LedgersAgree k (after (modulus e) l x) → HasRecorded e added old l true xs → HasRecorded e added new k true (xs ++ kept_of line) × (lines_in new (xs ++ kept_of line) ≡ lines_in old xs ++ recorded_of true x)
  has_taken old new l k xs (pac.Sum id i j poly) x grown is has ok w a h = by_told old new l k xs (pac.Sum id i j poly) x grown is has ok w a h tt
  has_taken old new l k xs (pac.Product id i factor poly) x grown is has ok w a h = by_told old new l k xs (pac.Product id i factor poly) x grown is has ok w a h tt
  has_taken old new l k xs (pac.Combination id parts poly) x grown is has ok w a h = by_told old new l k xs (pac.Combination id parts poly) x grown is has ok w a h tt
  has_taken old new l k xs (pac.Import id number poly) x grown is has ok w a h = by_told old new l k xs (pac.Import id number poly) x grown is has ok w a h tt
  has_taken old new l k xs (pac.Drop id) x grown is has ok w a h =
      let gone : x ≡ Delete id = some_same _ _ (sym is) in
      let r = deletion_taken old new l k xs (pac.Drop id) x grown is has ok w a h id gone in
      (r.0, r.1 ∙ ap (λ y. lines_in old xs ++ recorded_of true y) (sym gone))
  has_taken old new l k xs (pac.Close id) x grown is has ok w a h = absurd (cc)
