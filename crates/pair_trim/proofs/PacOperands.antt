-- What lines are made of, by numbers.
use Rattle.std.specs.Prelude.{◌≡◌, ◌≢◌, ℕ, zero, suc, ◌+◌, ◌-◌, ◌<◌, ◌≤◌, ◌⊎◌, Bool, false, List, [], ◌∷◌, ◌++◌, length, map, slice_index, slice_index_or}
use Rattle.std.specs.List.{All, Contains}
use Rattle.std.proofs.Common.{sym, ap, subst, ◌∙◌, add-one, arith, inl, inr, ⊎_elim, replicate, true≢false}
use Rattle.std.proofs.lemmas.Bool.{cases_eq, cases_lt}
use Rattle.std.proofs.lemmas.List.{get_or_append_left, get_or-map, get_or_push, length_push, length-map}
use Rattle.std.proofs.lemmas.List.Elements.{All-contains, All-get_or, All-push, Contains-append_left, Contains-push, Contains-push_cases}
use Rattle.poly_text.specs.declared.line.PacLine.{PacLine}
use Rattle.poly_text.specs.declared.line.PacLine.TheVariants as pac
use Rattle.poly_text.specs.Recorded.{AreMadeOfEarlier, AreRisingIds, id_in, ids_in, operands_in}
use Rattle.clause_core.specs.KeptClauses.{AreEarlier, IsMarked, chosen}
use Rattle.pair_trim.specs.Lines.{AreAllUses, AreLinesKept, AreUsesOf, MarksClosing, id_at, operands_at}
use Rattle.pair_trim.specs.Marking.{IsSet}
use Rattle.pair_trim.proofs.Marking.{set_at}

-- ---- the numbers of operands

module _ (ids operands numbers : List ℕ) (o : ℕ) (h : AreUsesOf ids operands numbers) where
  abbrev Own : ℕ → Type 0
  Own n = (0 < n) × (n ≤ length ids) × Contains (operands ++ o ∷ []) (slice_index ids (n - 1))

  own_still : All Own numbers
  own_still k d low = let w = h.own k d low in (w.0, w.1, Contains-append_left operands (o ∷ []) _ w.2)

  -- an operand that is no line's id
  pub uses_other : ((p : ℕ) → p < length ids → slice_index ids p ≢ o) → AreUsesOf ids (operands ++ o ∷ []) numbers
  uses_other other = record {
    own = own_still;
    all = λ p low has. ⊎_elim (h.all p low) (λ e. absurd (other p low (sym e))) (Contains-push_cases operands o (slice_index ids p) has);
  }

  -- one that is
  pub uses_more : (q : ℕ) → q < length ids → slice_index ids q ≡ o → ((i j : ℕ) → i < length ids → j < length ids → slice_index ids i ≡ slice_index ids j → i ≡ j) → AreUsesOf ids (operands ++ o ∷ []) (numbers ++ (q + 1) ∷ [])
  uses_more q low is once = record {
    own = All-push Own numbers (q + 1) own_still (omega arith, omega arith, subst (λ (n : ℕ). Contains (operands ++ o ∷ []) (slice_index ids n)) (back q) (subst (Contains (operands ++ o ∷ [])) (sym is) (Contains-push operands o)));
    all = λ p inside has. ⊎_elim (λ old. Contains-append_left numbers ((q + 1) ∷ []) (p + 1) (h.all p inside old))
        (λ e. let same : q ≡ p = once q p low inside (is ∙ e) in subst (λ (n : ℕ). Contains (numbers ++ (q + 1) ∷ []) (n + 1)) same (Contains-push numbers (q + 1))) (Contains-push_cases operands o (slice_index ids p) has);
  }
    where
      back : (n : ℕ) → n ≡ n + 1 - 1
      back n = omega arith

pub rising_once : (ids : List ℕ) → AreRisingIds ids → (i j : ℕ) → i < length ids → j < length ids → slice_index ids i ≡ slice_index ids j → i ≡ j
rising_once ids up i j a b e =
    ⊎_elim (λ low. let less = up i j low b in absurd (omega arith)) (λ high. ⊎_elim (λ same. same) (λ other. let low : j < i = omega arith in let less = up j i low a in absurd (omega arith)) (cases_eq i j)) (cases_lt i j)

pub rising_weak : (ids : List ℕ) → AreRisingIds ids → (i j : ℕ) → i ≤ j → j < length ids → slice_index ids i ≤ slice_index ids j
rising_weak ids up i j low inside = ⊎_elim (λ e. let same = ap (slice_index ids) e in omega arith) (λ other. let before : i < j = omega arith in let less = up i j before inside in omega arith) (cases_eq i j)

-- ---- of all lines

pub all_more : (ids : List ℕ) (operands uses : List (List ℕ)) (o u : List ℕ) → AreAllUses ids operands uses → AreUsesOf ids o u → AreAllUses ids (operands ++ o ∷ []) (uses ++ u ∷ [])
all_more ids operands uses o u h new = record {
  many = length_push uses u ∙ (ap (λ (n : ℕ). n + 1) h.many ∙ sym (length_push operands o));
  each = λ p low. ⊎_elim (old p) (last p) (below p low);
}
  where
    below : (p : ℕ) → p < length (operands ++ o ∷ []) → (p < length operands) ⊎ (p ≡ length operands)
    below p low = let many = length_push operands o in ⊎_elim inl (λ high. inr (omega arith)) (cases_lt p (length operands))

    old : (p : ℕ) → p < length operands → AreUsesOf ids (slice_index_or (operands ++ o ∷ []) p []) (slice_index_or (uses ++ u ∷ []) p [])
    old p low =
        subst (λ (us : List ℕ). AreUsesOf ids (slice_index_or (operands ++ o ∷ []) p []) us) (sym (get_or_append_left uses (u ∷ []) [] p (let m = h.many in omega arith)))
        (subst (λ (os : List ℕ). AreUsesOf ids os (slice_index_or uses p [])) (sym (get_or_append_left operands (o ∷ []) [] p low)) (h.each p low))

    last : (p : ℕ) → p ≡ length operands → AreUsesOf ids (slice_index_or (operands ++ o ∷ []) p []) (slice_index_or (uses ++ u ∷ []) p [])
    last p e =
        subst (λ (us : List ℕ). AreUsesOf ids (slice_index_or (operands ++ o ∷ []) p []) us) (sym (get_or_push uses u [] p (h.many ∙ sym e)))
        (subst (λ (os : List ℕ). AreUsesOf ids os u) (sym (get_or_push operands o [] p (sym e))) new)

-- ---- all together

module _ (lines : List PacLine) (closing : ℕ) (ids : List ℕ) (ids_are : ids ≡ ids_in lines) (up : AreRisingIds (ids_in lines)) (earlier : AreMadeOfEarlier lines) (uses : List (List ℕ)) (all : AreAllUses ids (map operands_in lines) uses) where
  of_ids : AreAllUses (ids_in lines) (map operands_in lines) uses
  of_ids = subst (λ (xs : List ℕ). AreAllUses xs (map operands_in lines) uses) ids_are all

  many_ids : length (ids_in lines) ≡ length lines
  many_ids = length-map lines id_in

  many_operands : length (map operands_in lines) ≡ length lines
  many_operands = length-map lines operands_in

  pub many_uses : length uses ≡ length lines
  many_uses = all.many ∙ many_operands

  at : (p : ℕ) → p < length lines → AreUsesOf (ids_in lines) (operands_at lines p) (slice_index_or uses p [])
  at p low = of_ids.each p (omega (arith, many_operands))

  -- an operand's id is less
  lesser : (p : ℕ) → p < length lines → (o : ℕ) → Contains (operands_at lines p) o → o < id_at lines p
  lesser p low o has =
      let d : PacLine = slice_index_or lines p (pac.Drop 0) in
      let mine : All (λ x. x < id_in d) (operands_in d) = All-get_or (λ x. All (λ y. y < id_in x) (operands_in x)) lines p (pac.Drop 0) low earlier in
      let ops : operands_at lines p ≡ operands_in d = get_or-map operands_in lines p (pac.Drop 0) [] low in
      let id : id_at lines p ≡ id_in d = get_or-map id_in lines p (pac.Drop 0) 0 low in
      let less = All-contains (λ x. x < id_in d) (operands_in d) o mine (subst (λ (xs : List ℕ). Contains xs o) ops has) in
      omega arith

  pub uses_earlier : AreEarlier uses
  uses_earlier i low k d inside =
      let below : i < length lines = omega (arith, many_uses) in
      let n = slice_index_or (slice_index_or uses i []) k d in
      let w = (at i below).own k d inside in
      let some = w.0 in
      let most = w.1 in
      let less = lesser i below (slice_index (ids_in lines) (n - 1)) w.2 in
      (some, ⊎_elim (λ ok. omega arith) (λ high. let weak = rising_weak (ids_in lines) up i (n - 1) high (omega (arith, many_ids)) in absurd (omega arith)) (cases_lt (n - 1) i))

  module _ (size : ℕ) (none marks : List Bool) (nothing : none ≡ replicate size false) (many : length none ≡ length lines) (needed : MarksClosing ids closing uses none marks) where
    unset : (n i : ℕ) → IsSet (replicate n false) i → ⊥
    unset zero i s = true≢false (sym s)
    unset (suc n) zero s = true≢false (sym s)
    unset (suc n) (suc i) s = unset n i s

    pub lines_kept : (kept : List PacLine) → kept ≡ chosen marks lines → AreLinesKept lines closing kept
    lines_kept kept is = record {
      marks = marks;
      long = needed.2.places ∙ (needed.1.places ∙ many);
      operands = λ p q low inside set has.
          let number = (at p low).all q (omega (arith, many_ids)) has in
          let marked = All-contains (IsMarked marks) (slice_index_or uses p []) (q + 1) (needed.2.closed p (omega arith) (omega (arith, many_uses)) set) number in
          set_at marks q (subst (IsMarked marks) (add-one q) marked);
      closes = λ q low e. needed.2.still q (needed.1.set q (let same = ap length ids_are in omega (arith, many_ids)) (ap (λ (xs : List ℕ). slice_index xs q) ids_are ∙ e));
      used = λ q low set. ⊎_elim
          (λ r. ⊎_elim (λ o. absurd (unset size q (subst (λ (ms : List Bool). IsSet ms q) nothing o))) (λ e. inl (sym (ap (λ (xs : List ℕ). slice_index xs q) ids_are) ∙ e)) (needed.1.only q r))
          (λ b. inr (behind q b)) (needed.2.used q set);
      lines_are = is;
    }
      where
        behind : (q : ℕ) → (p : ℕ) × (q < p) × (p < length uses) × IsSet marks p × Contains (slice_index_or uses p []) (q + 1) → (p : ℕ) × (q < p) × (p < length lines) × IsSet marks p × Contains (operands_at lines p) (id_at lines q)
        behind q (p, before, low, set, has) =
            let inside : p < length lines = omega (arith, many_uses) in
            let w = All-contains (λ n. (0 < n) × (n ≤ length (ids_in lines)) × Contains (operands_at lines p) (slice_index (ids_in lines) (n - 1))) (slice_index_or uses p []) (q + 1) (at p inside).own has in
            let number : q + 1 - 1 ≡ q = omega arith in
            (p, before, inside, set, subst (λ (n : ℕ). Contains (operands_at lines p) (slice_index (ids_in lines) n)) number w.2)
